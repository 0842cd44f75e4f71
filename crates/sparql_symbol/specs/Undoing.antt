-- Escapes undone from left to right, character by character (SPARQL 1.1, 19.2 and 19.8).
use Rattle.std.specs.Prelude.{ℕ, ◌+◌, ◌-◌, ◌*◌, ◌^◌, min, nat_lt, nat_le, ◌==◌, List, [], ◌∷◌, Option, Some, None, if◌then◌else◌}
use Rattle.std.specs.Char.{digit_value}
use Rattle.term_core.specs.Characters.{is_scalar}
use Rattle.term_core.specs.Escapes.{echar_value}
use Rattle.sparql_symbol.specs.declared.undoing.Place.{Place}
use Rattle.sparql_symbol.specs.declared.undoing.Place.TheVariants as places
use Rattle.sparql_symbol.specs.declared.undoing.Reading.{Reading}

-- the character that is spelled, if there is one, and where the reading stands then
abbrev pub step_to : Option ℕ → Place → Reading
step_to spelled next = record { spelled = spelled; next = next }

-- outside an escape
abbrev pub plain_step : ℕ → Reading
plain_step c = if c == 92 then step_to None places.Letter else step_to (Some c) places.Plain

-- so many digits follow
abbrev pub digits_follow : ℕ → Reading
digits_follow left = step_to None (places.Digits left 0)

-- behind the backslash: the letter stands for a character, or says how many digits follow
abbrev pub letter_step : ℕ → Reading
letter_step c = if c == 117 then digits_follow 4 else if c == 85 then digits_follow 8
    else step_to (echar_value c) places.Plain

-- the value of a hexadecimal digit
abbrev pub hex_value : ℕ → ℕ
hex_value c = if nat_lt (digit_value c) 16 then digit_value c else 0

-- the number with one more digit, if it has 32 bits
abbrev pub with_hex_digit : ℕ → ℕ → ℕ
with_hex_digit number c = min (min (number * 16) (2 ^ 32 - 1) + hex_value c) (2 ^ 32 - 1)

-- the character of a number, if it has one
abbrev pub char_of : ℕ → Option ℕ
char_of n = if is_scalar n then Some n else None

-- within the digits: the last of them ends the escape
abbrev pub digit_step : ℕ → ℕ → ℕ → Reading
digit_step left number c = if nat_le left 1 then step_to (char_of (with_hex_digit number c)) places.Plain
    else step_to None (places.Digits (left - 1) (with_hex_digit number c))

-- in a local name, whose backslashes are dropped
abbrev pub name_step : ℕ → Reading
name_step c = if c == 92 then step_to None places.Name else step_to (Some c) places.Name

-- one more character
abbrev pub undo_step : Place → ℕ → Reading
undo_step places.Plain c = plain_step c
undo_step places.Letter c = letter_step c
undo_step (places.Digits left number) c = digit_step left number c
undo_step places.Name c = name_step c

-- a character in front, if there is one
abbrev pub in_front : Option ℕ → List ℕ → List ℕ
in_front None text = text
in_front (Some c) text = c ∷ text

-- what the characters spell from this place on
abbrev pub undone : Place → List ℕ → List ℕ
undone place [] = []
undone place (c ∷ text) = in_front (undo_step place c).spelled (undone (undo_step place c).next text)
