-- Exact numbers: the integers and decimals of XML Schema (XSD 1.1 part 2, sections 3.3.3 and 3.4.13 to 3.4.25) and
-- the arithmetic on them (SPARQL 1.1, section 17.3). A number is exact, or an operation names why there is none.
use Rattle.std.specs.Prelude.{◌≡◌, ◌⊎◌, ℕ, zero, suc, ◌+◌, ◌-◌, ◌*◌, ◌/◌, ◌%◌, ◌^◌, max, ℤ, pos, negsuc, neg_ℤ, ◌+ℤ◌, ◌-ℤ◌, ◌*ℤ◌, unsigned_abs, int_le, Bool, true, false, cond, not, ◌&&◌, ◌||◌, ◌==◌, nat_lt, nat_le, if◌then◌else◌, List, [], ◌∷◌, ◌++◌, length, codes, Option, Some, None, Result, Ok, Err, ok_or}
use Rattle.std.specs.Int.{is_negative}
use Rattle.std.specs.Ordering.{int_cmp}
use Rattle.std.specs.declared.cmp.Ordering.{Ordering}
use Rattle.std.specs.Str.{bytes_eq}
use Rattle.std.specs.Fmt.{signed_decimal, decimal}
use Rattle.term_core.specs.Characters.{is_digit}

-- m, a value of xsd:integer or a type derived from it (XSD 3.4.13); or m * 10^-s, a value of xsd:decimal (XSD 3.3.3)
pub data Number : Type 0 where
  Whole : ℤ → Number
  Decimal : ℤ → ℕ → Number

-- why an operation has no number: its value is past the numbers that are kept, or it divides by zero
pub data Fault : Type 0 where
  Range : Fault
  Zero : Fault

-- m, of a number m * 10^-s (XSD 3.3.3: a decimal is i / 10^n)
abbrev pub numerator : Number → ℤ
numerator (Whole m) = m
numerator (Decimal m s) = m

-- s, of a number m * 10^-s (XSD 3.3.3: a decimal is i / 10^n)
abbrev pub scale : Number → ℕ
scale (Whole m) = 0
scale (Decimal m s) = s

-- the same kind of number with another numerator
abbrev pub with_numerator : Number → ℤ → Number
with_numerator (Whole m) n = Whole n
with_numerator (Decimal m s) n = Decimal n s

-- both are integers (SPARQL 1.1, 17.3: two xsd:integer give an xsd:integer, but for a quotient)
abbrev pub are_whole : Number → Number → Bool
are_whole (Whole m) (Whole n) = true
are_whole (Whole m) (Decimal n t) = false
are_whole (Decimal m s) b = false

-- a signed number of 128 bits: from -2^127 to 2^127 - 1 (negsuc n is -(n + 1))
abbrev pub is_held : ℤ → Bool
is_held (pos n) = nat_lt n (2 ^ 127)
is_held (negsuc n) = nat_lt n (2 ^ 127)

-- a decimal has at most 18 places, and the last is not 0: its scale is the least one (XSD 3.3.3: 2.0 is 2.00)
abbrev pub is_kept : Number → Bool
is_kept (Whole m) = true
is_kept (Decimal m s) = nat_le s 18 && (s == 0 || not (unsigned_abs m % 10 == 0))

-- a magnitude with its sign
abbrev pub signed : Bool → ℕ → ℤ
signed minus n = cond minus (neg_ℤ (pos n)) (pos n)

-- n and s without the zeros at the end of n, as far as there are places
unfoldable pub trimmed : ℕ → ℕ → ℕ × ℕ
trimmed n zero = (n, 0)
trimmed n (suc s) = cond (n % 10 == 0) (trimmed (n / 10) s) (n, suc s)

-- the decimal of this sign, magnitude and scale, if it has 128 bits and at most 18 places
abbrev pub held_decimal : Bool → ℕ × ℕ → Option Number
held_decimal minus t =
    cond (is_held (signed minus t.0) && nat_le t.1 18) (Some (Decimal (signed minus t.0) t.1)) None

-- the same at its least scale
abbrev pub least_decimal : Bool → ℕ → ℕ → Option Number
least_decimal minus n s = held_decimal minus (trimmed n s)

-- ---- arithmetic (SPARQL 1.1, section 17.3)

-- the numerator at a scale that is no less than the number's own
abbrev pub at_scale : ℕ → Number → ℤ
at_scale t a = numerator a *ℤ pos (10 ^ (t - scale a))

-- m * 10^-s: an integer where both terms are, and else a decimal; none where m is past 128 bits
abbrev pub made : Bool → ℤ → ℕ → Option Number
made whole m s =
    cond (is_held m) (cond whole (Some (Whole m)) (least_decimal (is_negative m) (unsigned_abs m) s)) None

-- both numerators at the greater scale
abbrev pub are_held_at : ℕ → Number → Number → Bool
are_held_at t a b = is_held (at_scale t a) && is_held (at_scale t b)

-- the sum of both numerators at the greater scale
abbrev pub sum_at : ℕ → Number → Number → Option Number
sum_at t a b = cond (are_held_at t a b) (made (are_whole a b) (at_scale t a +ℤ at_scale t b) t) None

-- the difference of both numerators at the greater scale
abbrev pub difference_at : ℕ → Number → Number → Option Number
difference_at t a b = cond (are_held_at t a b) (made (are_whole a b) (at_scale t a -ℤ at_scale t b) t) None

-- a + b (op:numeric-add; SPARQL 1.1, 17.3)
abbrev pub sum : Number → Number → Result Number Fault
sum a b = ok_or (sum_at (max (scale a) (scale b)) a b) Range

-- a - b (op:numeric-subtract; SPARQL 1.1, 17.3)
abbrev pub difference : Number → Number → Result Number Fault
difference a b = ok_or (difference_at (max (scale a) (scale b)) a b) Range

-- a * b (op:numeric-multiply; SPARQL 1.1, 17.3)
abbrev pub product : Number → Number → Result Number Fault
product a b = ok_or (made (are_whole a b) (numerator a *ℤ numerator b) (scale a + scale b)) Range

-- the two signs differ
abbrev pub do_differ : ℤ → ℤ → Bool
do_differ m n = cond (is_negative m) (not (is_negative n)) (is_negative n)

-- m / n cut toward zero at 18 places, where both have 128 bits and n is below 10^37
abbrev pub cut_quotient : ℤ → ℤ → Option Number
cut_quotient m n =
    cond (is_held m && (is_held n && nat_lt (unsigned_abs n) (10 ^ 37)))
    (least_decimal (do_differ m n) (unsigned_abs m * 10 ^ 18 / unsigned_abs n) 18) None

-- a / b (op:numeric-divide; SPARQL 1.1, 17.3): the quotient of both numerators at the greater scale
abbrev pub quotient : Number → Number → Result Number Fault
quotient a b =
    cond (unsigned_abs (numerator b) == 0) (Err Zero)
    (ok_or (cut_quotient (at_scale (max (scale a) (scale b)) a) (at_scale (max (scale a) (scale b)) b)) Range)

-- the number with this numerator, if it has 128 bits
abbrev pub renumbered : Number → ℤ → Result Number Fault
renumbered a m = cond (is_held m) (Ok (with_numerator a m)) (Err Range)

-- -a (op:numeric-unary-minus; SPARQL 1.1, 17.3)
abbrev pub negation : Number → Result Number Fault
negation a = renumbered a (neg_ℤ (numerator a))

-- |a| (SPARQL 1.1, section 17.4.4.1)
abbrev pub absolute : Number → Result Number Fault
absolute a = renumbered a (pos (unsigned_abs (numerator a)))

-- the order of the values (op:numeric-less-than; SPARQL 1.1, 17.3): both numerators at 18 places, the most there are
abbrev pub compared : Number → Number → Ordering
compared a b = int_cmp (at_scale 18 a) (at_scale 18 b)

-- ---- lexical forms (XSD 3.3.3.1 and 3.4.13.1)

-- [0-9]*
abbrev pub are_digits : List ℕ → Bool
are_digits [] = true
are_digits (c ∷ cs) = is_digit c && are_digits cs

-- no text
abbrev pub is_empty : List ℕ → Bool
is_empty [] = true
is_empty (c ∷ cs) = false

-- the number that digits write behind those of n
abbrev pub value_after : ℕ → List ℕ → ℕ
value_after n [] = n
value_after n (c ∷ cs) = value_after (n * 10 + (c - 48)) cs

-- the number that digits write
abbrev pub digits_value : List ℕ → ℕ
digits_value digits = value_after 0 digits

-- a minus stands in front
abbrev pub is_minus : List ℕ → Bool
is_minus [] = false
is_minus (c ∷ cs) = c == 45

-- what is behind a sign, if one stands in front
abbrev pub behind_sign : List ℕ → List ℕ
behind_sign [] = []
behind_sign (c ∷ cs) = if c == 43 || c == 45 then cs else c ∷ cs

-- what is in front of the first point, or all
abbrev pub before_point : List ℕ → List ℕ
before_point [] = []
before_point (c ∷ cs) = if c == 46 then [] else c ∷ before_point cs

-- what is behind the first point, or nothing
abbrev pub behind_point : List ℕ → List ℕ
behind_point [] = []
behind_point (c ∷ cs) = if c == 46 then cs else behind_point cs

-- [+-]?[0-9]+
abbrev pub is_integer : List ℕ → Bool
is_integer text = are_digits (behind_sign text) && not (is_empty (behind_sign text))

-- the integer that such a text writes
abbrev pub integer_value : List ℕ → ℤ
integer_value text = signed (is_minus text) (digits_value (behind_sign text))

-- the digits in front of the point and behind it
abbrev pub all_digits : List ℕ → List ℕ
all_digits body = before_point body ++ behind_point body

-- [+-]?([0-9]+(\.[0-9]*)?|\.[0-9]+): digits with at most one point, and at least one digit
abbrev pub is_decimal : List ℕ → Bool
is_decimal text = are_digits (all_digits (behind_sign text)) && not (is_empty (all_digits (behind_sign text)))

-- the decimal that such a text writes, at its least scale
abbrev pub decimal_value : List ℕ → Option Number
decimal_value text =
    least_decimal (is_minus text) (digits_value (all_digits (behind_sign text))) (length (behind_point (behind_sign text)))

-- ---- the grammar of lexical forms

-- [+-]?
abbrev pub IsSign : List ℕ → Type 0
IsSign sign = (sign ≡ []) ⊎ ((sign ≡ 43 ∷ []) ⊎ (sign ≡ 45 ∷ []))

-- [+-]?[0-9]+ (XSD 3.4.13.1)
pub record IsIntegerForm (text : List ℕ) : Type 0 where
  pub sign : List ℕ
  pub digits : List ℕ
  pub is_sign : IsSign sign
  pub are_digits : are_digits digits ≡ true
  pub some : is_empty digits ≡ false
  pub parts : text ≡ sign ++ digits

-- a point, or nothing and then no digit behind it
abbrev pub IsPointedForm : List ℕ → List ℕ → Type 0
IsPointedForm point fraction = ((point ≡ []) × (fraction ≡ [])) ⊎ (point ≡ 46 ∷ [])

-- [+-]?([0-9]+(\.[0-9]*)?|\.[0-9]+) (XSD 3.3.3.1): digits, a point or none, digits, and one digit at least
pub record IsDecimalForm (text : List ℕ) : Type 0 where
  pub sign : List ℕ
  pub whole : List ℕ
  pub point : List ℕ
  pub fraction : List ℕ
  pub is_sign : IsSign sign
  pub whole_digits : are_digits whole ≡ true
  pub fraction_digits : are_digits fraction ≡ true
  pub is_pointed : IsPointedForm point fraction
  pub some : is_empty (whole ++ fraction) ≡ false
  pub parts : text ≡ sign ++ (whole ++ (point ++ fraction))

-- ---- datatypes (XSD 1.1 part 2, section 3.3.3 and sections 3.4.13 to 3.4.25)

-- xsd:decimal (XSD 3.3.3)
abbrev pub xsd_decimal : List ℕ
xsd_decimal = codes "http://www.w3.org/2001/XMLSchema#decimal"

-- xsd:integer (XSD 3.4.13)
abbrev pub xsd_integer : List ℕ
xsd_integer = codes "http://www.w3.org/2001/XMLSchema#integer"

-- the datatype is the one of this IRI (RDF 1.1 Concepts, section 3.3: IRIs are equal character by character)
abbrev pub is_type : List ℕ → List ℕ → Bool
is_type iri datatype = bytes_eq datatype iri

-- a least and a greatest value, where there is one
abbrev pub Bounds : Type 0
Bounds = Option ℤ × Option ℤ

-- from m to n
abbrev pub bounds_between : ℤ → ℤ → Option Bounds
bounds_between m n = Some (Some m, Some n)

-- the range of xsd:integer and of each of the twelve types derived from it (XSD 3.4.13 to 3.4.25)
unfoldable pub bounds_of : List ℕ → Option Bounds
bounds_of datatype =
    if is_type xsd_integer datatype then
    Some (None, None)
    else if is_type (codes "http://www.w3.org/2001/XMLSchema#long") datatype then
    bounds_between (negsuc (2 ^ 63 - 1)) (pos (2 ^ 63 - 1))
    else if is_type (codes "http://www.w3.org/2001/XMLSchema#int") datatype then
    bounds_between (negsuc (2 ^ 31 - 1)) (pos (2 ^ 31 - 1))
    else if is_type (codes "http://www.w3.org/2001/XMLSchema#short") datatype then
    bounds_between (negsuc (2 ^ 15 - 1)) (pos (2 ^ 15 - 1))
    else if is_type (codes "http://www.w3.org/2001/XMLSchema#byte") datatype then
    bounds_between (negsuc (2 ^ 7 - 1)) (pos (2 ^ 7 - 1))
    else if is_type (codes "http://www.w3.org/2001/XMLSchema#nonNegativeInteger") datatype then
    Some (Some (pos 0), None)
    else if is_type (codes "http://www.w3.org/2001/XMLSchema#positiveInteger") datatype then
    Some (Some (pos 1), None)
    else if is_type (codes "http://www.w3.org/2001/XMLSchema#nonPositiveInteger") datatype then
    Some (None, Some (pos 0))
    else if is_type (codes "http://www.w3.org/2001/XMLSchema#negativeInteger") datatype then
    Some (None, Some (negsuc 0))
    else if is_type (codes "http://www.w3.org/2001/XMLSchema#unsignedLong") datatype then
    bounds_between (pos 0) (pos (2 ^ 64 - 1))
    else if is_type (codes "http://www.w3.org/2001/XMLSchema#unsignedInt") datatype then
    bounds_between (pos 0) (pos (2 ^ 32 - 1))
    else if is_type (codes "http://www.w3.org/2001/XMLSchema#unsignedShort") datatype then
    bounds_between (pos 0) (pos (2 ^ 16 - 1))
    else if is_type (codes "http://www.w3.org/2001/XMLSchema#unsignedByte") datatype then
    bounds_between (pos 0) (pos (2 ^ 8 - 1))
    else None

-- no less than the least value
abbrev pub is_from : Option ℤ → ℤ → Bool
is_from None m = true
is_from (Some low) m = int_le low m

-- no greater than the greatest value
abbrev pub is_up_to : Option ℤ → ℤ → Bool
is_up_to None m = true
is_up_to (Some high) m = int_le m high

-- an integer within a type's range
abbrev pub is_within : Bounds → ℤ → Bool
is_within bounds m = is_from bounds.0 m && is_up_to bounds.1 m

-- the integer of a text at a type of that range, if it has 128 bits
abbrev pub read_integer : Option Bounds → List ℕ → Option Number
read_integer None text = None
read_integer (Some bounds) text =
    cond (is_integer text && (is_within bounds (integer_value text) && is_held (integer_value text)))
    (Some (Whole (integer_value text))) None

-- the decimal of a text
abbrev pub read_decimal : List ℕ → Option Number
read_decimal text = cond (is_decimal text) (decimal_value text) None

-- the number of a lexical form and a datatype (XSD 2.3: the lexical mapping)
abbrev pub read : List ℕ → List ℕ → Option Number
read text datatype = cond (is_type xsd_decimal datatype) (read_decimal text) (read_integer (bounds_of datatype) text)

-- ---- writing (canonical forms: XSD 1.1 part 2, 3.4.13.2; decimals with their point, as in XSD 1.0 part 2, 3.2.3.2)

-- the last s decimal digits of n
unfoldable pub last_digits : ℕ → ℕ → List ℕ
last_digits zero n = []
last_digits (suc s) n = last_digits s (n / 10) ++ (48 + n % 10) ∷ []

-- the places behind the point, of which there is at least one
abbrev pub places : ℕ → ℕ → List ℕ
places zero n = 48 ∷ []
places (suc s) n = last_digits (suc s) n

-- a minus, or nothing
abbrev pub sign_text : ℤ → List ℕ
sign_text m = cond (is_negative m) (45 ∷ []) []

-- the lexical form: digits, and for a decimal a point with at least one digit on each side
abbrev pub lexical : Number → List ℕ
lexical (Whole m) = signed_decimal m
lexical (Decimal m s) = sign_text m ++ (decimal (unsigned_abs m / 10 ^ s) ++ 46 ∷ places s (unsigned_abs m))

-- the datatype
abbrev pub datatype : Number → List ℕ
datatype (Whole m) = xsd_integer
datatype (Decimal m s) = xsd_decimal
