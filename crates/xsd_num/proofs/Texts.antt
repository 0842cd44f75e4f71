-- What a text reads as, from its parts.
use Rattle.std.proofs.Common.{◌≡◌, ℕ, Bool, true, cond, List, ◌++◌, length}
use Rattle.std.specs.Prelude.{Option, None, ◌&&◌, not}
use Rattle.term_core.specs.Numbers.{are_digits, value_after, is_minus, behind_sign, before_point, behind_point, is_empty, least_decimal, read_decimal}
use Rattle.xsd_num.specs.Values.{found}
use Rattle.xsd_num.specs.declared.num.Num.{Num}
use Rattle.xsd_num.proofs.Digits.{value_join, both_true, digits_apart}

-- digits in front of a point and behind it are no other digits than both together
decimal_at : (minus : Bool) (w f : List ℕ) (r : Option Num)
    → (are_digits (w ++ f) && not (is_empty (w ++ f))) ≡ true
    → found r ≡ least_decimal minus (value_after (value_after 0 w) f) (length f)
    → found r ≡ cond (are_digits (w ++ f) && not (is_empty (w ++ f))) (least_decimal minus (value_after 0 (w ++ f)) (length f)) None
decimal_at minus w f r d e = rw (d, value_join 0 w f) e

-- the decimal of a text's parts is that of the text
pub decimal_read : (text body w f : List ℕ) (minus : Bool) (r : Option Num)
    → minus ≡ is_minus text → body ≡ behind_sign text → w ≡ before_point body → f ≡ behind_point body
    → (are_digits (w ++ f) && not (is_empty (w ++ f))) ≡ true
    → found r ≡ least_decimal minus (value_after (value_after 0 w) f) (length f)
    → found r ≡ read_decimal text
decimal_read text body w f minus r m b p q d e = rw (← m, ← b, ← p, ← q) (decimal_at minus w f r d e)

-- both parts of such a text are digits
pub decimal_digits : (w f : List ℕ) → (are_digits (w ++ f) && not (is_empty (w ++ f))) ≡ true → (are_digits w ≡ true) × (are_digits f ≡ true)
decimal_digits w f e = digits_apart w f (both_true (are_digits (w ++ f)) (not (is_empty (w ++ f))) e).0
