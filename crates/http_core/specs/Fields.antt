-- The fields of a head, each a name and a value without the white space around it (RFC 9110, 5).
use Rattle.std.specs.Prelude.{ℕ, ◌-◌, ◌^◌, ◌&&◌, ◌||◌, not, Bool, true, false, List, [], ◌∷◌, map, min, Option, Some, None, if◌then◌else◌}
use Rattle.std.specs.Char.{to_ascii_lowercase, is_ascii_digit}
use Rattle.std.specs.Str.{bytes_eq}
use Rattle.std.specs.Str.Parse.{digits_value}

-- a name and a value
abbrev pub Pair : Type 0
Pair = List ℕ × List ℕ

-- equal in any case of their letters
abbrev pub same_name : List ℕ → List ℕ → Bool
same_name a b = bytes_eq (map to_ascii_lowercase a) (map to_ascii_lowercase b)

-- the value of the first field of that name
abbrev pub first_value : List ℕ → List Pair → Option (List ℕ)
first_value name [] = None
first_value name (field ∷ fields) = if same_name field.0 name then Some field.1 else first_value name fields

-- each field of that name has that value
abbrev pub all_are : List ℕ → List ℕ → List Pair → Bool
all_are name value [] = true
all_are name value (field ∷ fields) =
    (not (same_name field.0 name) || bytes_eq field.1 value) && all_are name value fields

-- a field of that name has that value in any case
abbrev pub has_value : List ℕ → List ℕ → List Pair → Bool
has_value name value [] = false
has_value name value (field ∷ fields) =
    (same_name field.0 name && same_name field.1 value) || has_value name value fields

-- a field has that name
abbrev pub has_field : List ℕ → List Pair → Bool
has_field name [] = false
has_field name (field ∷ fields) = same_name field.0 name || has_field name fields

-- each byte is a digit
abbrev pub are_digits : List ℕ → Bool
are_digits [] = true
are_digits (c ∷ cs) = is_ascii_digit c && are_digits cs

-- one digit or more: the form of a Content-Length (RFC 9110, 8.6)
abbrev pub is_number : List ℕ → Bool
is_number [] = false
is_number (c ∷ cs) = are_digits (c ∷ cs)

-- the number that digits write; all past 2^64 - 1 count as that
abbrev pub number_of : List ℕ → Option ℕ
number_of text = if is_number text then Some (min (digits_value 10 text) (2 ^ 64 - 1)) else None
