-- Digits that are written.
use Rattle.std.proofs.Common.{◌≡◌, ℕ, zero, suc, ◌+◌, ◌-◌, ◌/◌, ◌%◌, ◌<◌, ap, ◌∙◌, arith, List, [], ◌∷◌, ◌++◌, append_assoc}
use Rattle.term_core.specs.Numbers.{last_digits}

-- one digit more
pub last_more : (s n : ℕ) → 0 < s → last_digits (s - 1) (n / 10) ++ (48 + n % 10) ∷ [] ≡ last_digits s n
unfolding last_digits
last_more zero n p = absurd (omega arith)
last_more (suc s) n p = let less : suc s - 1 ≡ s = omega arith in ap (λ k. last_digits k (n / 10) ++ (48 + n % 10) ∷ []) less

-- the same behind what is there
pub pushed : (out xs ys : List ℕ) (s n : ℕ) → 0 < s → xs ≡ out ++ last_digits (s - 1) (n / 10) → ys ≡ xs ++ (48 + n % 10) ∷ [] → ys ≡ out ++ last_digits s n
pushed out xs ys s n p e f =
    f ∙ ap (λ zs. zs ++ (48 + n % 10) ∷ []) e ∙ append_assoc out (last_digits (s - 1) (n / 10)) ((48 + n % 10) ∷ []) ∙ ap (λ zs. out ++ zs) (last_more s n p)
