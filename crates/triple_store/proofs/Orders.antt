-- The three orders by their numbers.
use Rattle.std.proofs.Common.{◌≡◌, ℕ, zero, suc, refl}
use Rattle.term_core.specs.Index.{by_object}
use Rattle.store_image.specs.Keys.{index_numbered}

-- each number but 0 and 1 stands for the third order
pub third : (order : ℕ) → (order ≡ 0 → ⊥) → (order ≡ 1 → ⊥) → index_numbered order ≡ by_object
third zero first second = absurd (first refl)
third (suc zero) first second = absurd (second refl)
third (suc (suc n)) first second = refl
