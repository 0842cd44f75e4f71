-- The test of UTF-8 in `text_at`.
use Rattle.std.proofs.Common.{◌≡◌, ℕ, List, Bool, true, false, Some, None, cond, refl, ap}
use Rattle.std.specs.Str.{IsUtf8, is_utf8}
use Rattle.std.proofs.lemmas.Str.{IsUtf8-from_is_utf8, is_utf8-from_IsUtf8}
use Rattle.term_dict.specs.Records.{text_in}

pub text_utf8 : (bs : List ℕ) → IsUtf8 bs → text_in bs ≡ Some bs
unfolding text_in
text_utf8 bs h = ap (λ b. cond b (Some bs) None) (is_utf8-from_IsUtf8 bs h)

pub false_of : (b : Bool) → (b ≡ true → ⊥) → b ≡ false
false_of true h = absurd (h refl)
false_of false h = refl

pub text_other : (bs : List ℕ) → (IsUtf8 bs → ⊥) → text_in bs ≡ None
unfolding text_in
text_other bs h = ap (λ b. cond b (Some bs) None) (false_of (is_utf8 bs) (λ e. h (IsUtf8-from_is_utf8 bs e)))
