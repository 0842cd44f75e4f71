-- Literals that are no numbers of 128 bits.
use Rattle.std.proofs.Common.{◌≡◌, ℕ, zero, suc, ◌^◌, refl, sym, ap, ◌∙◌, arith, Bool, true, false, cond, ℤ, pos, negsuc, List}
use Rattle.std.proofs.lemmas.Grind.{common_steps}
use Rattle.std.specs.Prelude.{Option, Some, None, ◌&&◌, not, nat_lt, IfSome, is_none}
use Rattle.term_core.specs.Numbers.{Number, Whole, Bounds, signed, digits_value, is_held, is_within, is_from, is_up_to, is_minus, behind_sign, are_digits, is_empty, is_type, xsd_decimal, bounds_of, is_decimal, decimal_value, is_integer, integer_value, read, read_integer, read_decimal}
use Rattle.xsd_num.specs.Values.{held, is_open, AreHeld}
use Rattle.term_core.specs.Literals.{Form, exact_or_wide, decimal_form, integer_form, form_of, number_in}

above_from : (low : Option ℤ) (n : ℕ) → IfSome low (λ m. is_held m ≡ true) → nat_lt n (2 ^ 127) ≡ false → is_from low (pos n) ≡ true
above_from None n h past = refl
above_from (Some (pos l)) n h past = grind (arith, common_steps)
above_from (Some (negsuc l)) n h past = refl

above_up : (high : Option ℤ) (n : ℕ) → IfSome high (λ m. is_held m ≡ true) → nat_lt n (2 ^ 127) ≡ false → is_up_to high (pos n) ≡ is_none high
above_up None n h past = refl
above_up (Some (pos l)) n h past = grind (arith, common_steps)
above_up (Some (negsuc l)) n h past = refl

below_from : (low : Option ℤ) (n : ℕ) → IfSome low (λ m. is_held m ≡ true) → nat_lt n (2 ^ 127) ≡ false → is_from low (negsuc n) ≡ is_none low
below_from None n h past = refl
below_from (Some (pos l)) n h past = refl
below_from (Some (negsuc l)) n h past = grind (arith, common_steps)

below_up : (high : Option ℤ) (n : ℕ) → IfSome high (λ m. is_held m ≡ true) → nat_lt n (2 ^ 127) ≡ false → is_up_to high (negsuc n) ≡ true
below_up None n h past = refl
below_up (Some (pos l)) n h past = refl
below_up (Some (negsuc l)) n h past = grind (arith, common_steps)

-- what is past 128 bits is within a range exactly where that has no end on this side
past_within : (bounds : Bounds) (minus : Bool) (n : ℕ) → AreHeld bounds → is_held (signed minus n) ≡ false → is_within bounds (signed minus n) ≡ is_open bounds minus
past_within bounds false n h past = rw (above_from bounds.0 n h.0 past) (above_up bounds.1 n h.1 past)
past_within bounds true zero h past = absurd (cc past)
past_within bounds true (suc n) h past = ap (λ b. b && is_up_to bounds.1 (negsuc n)) (below_from bounds.0 n h.0 past) ∙ rw (below_up bounds.1 n h.1 past) (keeps (is_none bounds.0))
  where
    keeps : (b : Bool) → (b && true) ≡ b
    keeps true = refl
    keeps false = refl

not_held : (z : ℤ) → None ≡ held z → is_held z ≡ false
not_held z e = grind (arith, common_steps)

-- the form of an integer that is past 128 bits
pub past_is : (bounds : Bounds) (text digits : List ℕ) (minus : Bool) → AreHeld bounds → minus ≡ is_minus text → digits ≡ behind_sign text
    → are_digits digits ≡ true → is_empty digits ≡ false → None ≡ held (signed minus (digits_value digits))
    → integer_form (Some bounds) text ≡ cond (is_open bounds minus) Form.Wide Form.Outside
past_is bounds text digits minus h m d are some none =
    let past : is_held (signed minus (digits_value digits)) ≡ false = not_held (signed minus (digits_value digits)) none in
    let within : is_within bounds (signed minus (digits_value digits)) ≡ is_open bounds minus = past_within bounds minus (digits_value digits) h past in
    rw (← m, ← d, are, some, within, past) refl

either : (b : Bool) (f g : Form) (r s : Option Number) → number_in f ≡ r → number_in g ≡ s → number_in (cond b f g) ≡ cond b r s
either true f g r s p q = p
either false f g r s p q = q

number_back : (r : Option Number) → number_in (exact_or_wide r) ≡ r
number_back None = refl
number_back (Some n) = refl

regrouped : (a b c : Bool) (n : Number) → cond (a && b) (cond c (Some n) None) None ≡ cond (a && (b && c)) (Some n) None
regrouped true true c n = refl
regrouped true false c n = refl
regrouped false b c n = refl

integer_back : (bounds : Option Bounds) (text : List ℕ) → number_in (integer_form bounds text) ≡ read_integer bounds text
integer_back None text = refl
integer_back (Some bounds) text =
    either (is_integer text && is_within bounds (integer_value text)) _ Form.Outside _ None (number_back _) refl
    ∙ regrouped (is_integer text) (is_within bounds (integer_value text)) (is_held (integer_value text)) (Whole (integer_value text))

-- the number that is read is that of the form
pub projected : (text datatype : List ℕ) → number_in (form_of text datatype) ≡ read text datatype
projected text datatype = either (is_type xsd_decimal datatype) (decimal_form text) (integer_form (bounds_of datatype) text) (read_decimal text) (read_integer (bounds_of datatype) text)
    (either (is_decimal text) (exact_or_wide (decimal_value text)) Form.Outside (decimal_value text) None (number_back (decimal_value text)) refl)
    (integer_back (bounds_of datatype) text)
