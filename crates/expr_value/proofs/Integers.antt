-- Integers are in the order of the numbers that they are.
use Rattle.std.proofs.Common.{◌≡◌, sym, ap, ◌∙◌, ◌≤◌, ◌^◌, ℤ, pos, ◌*ℤ◌, lit≤}
use Rattle.std.proofs.Math.IntN.{*ℤ-one}
use Rattle.std.specs.Ordering.{int_cmp}
use Rattle.term_core.specs.Numbers.{Number, Whole, numerator, scale, compared}

-- the order by value, of two integers
pub integers_by_value : ((a b : Number) → scale a ≤ 18 → scale b ≤ 18
    → compared a b ≡ int_cmp (numerator a *ℤ pos (10 ^ scale b)) (numerator b *ℤ pos (10 ^ scale a)))
    → (m n : ℤ) → int_cmp m n ≡ compared (Whole m) (Whole n)
unfolding Rattle.std.proofs.Math.IntN.one
integers_by_value by_value m n =
    sym (by_value (Whole m) (Whole n) (lit≤ tt) (lit≤ tt) ∙ (ap (λ x. int_cmp x (n *ℤ pos 1)) (*ℤ-one m) ∙ ap (int_cmp m) (*ℤ-one n)))
