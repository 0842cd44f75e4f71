-- How a character is written by an escape, and a text with escapes (RDF 1.1 N-Triples 7; SPARQL 1.1 19.2 and 19.8).
-- A text is a list of characters.
use Rattle.std.specs.Prelude.{◌≡◌, ◌⊎◌, ◌++◌, ◌+◌, ◌*◌, ℕ, Bool, true, codes, ◌==◌, List, [], ◌∷◌, length, Option, Some, None, if◌then◌else◌}
use Rattle.std.specs.Char.{IsScalar, digit_value}
use Rattle.term_core.specs.Characters.{is_hex, is_iri, AreAll}

-- the number that the digits spell after this one
abbrev pub hex_onto : ℕ → List ℕ → ℕ
hex_onto number [] = number
hex_onto number (digit ∷ digits) = hex_onto (number * 16 + digit_value digit) digits

-- the number that hexadecimal digits spell
abbrev pub hex_number : List ℕ → ℕ
hex_number digits = hex_onto 0 digits

-- \u and four hexadecimal digits, or \U and eight, which spell a Unicode scalar value (RDF 1.1 N-Triples 7, UCHAR)
pub record IsUchar (text : List ℕ) (c : ℕ) : Type 0 where
  pub digits : List ℕ
  pub spelled : ((text ≡ codes "\\u" ++ digits) × (length digits ≡ 4)) ⊎ ((text ≡ codes "\\U" ++ digits) × (length digits ≡ 8))
  pub are_hex : AreAll is_hex digits
  pub value : c ≡ hex_number digits
  pub scalar : IsScalar c

-- the character of the letter behind a backslash: tab, backspace, LF, CR, form feed, quotes, backslash
abbrev pub echar_value : ℕ → Option ℕ
echar_value c = if c == 116 then Some 9 else if c == 98 then Some 8 else if c == 110 then Some 10 else if c == 114 then Some 13
    else if c == 102 then Some 12 else if c == 34 then Some 34 else if c == 39 then Some 39 else if c == 92 then Some 92 else None

-- a backslash and one of t b n r f " ' \ (RDF 1.1 N-Triples 7, ECHAR)
pub record IsEchar (text : List ℕ) (c : ℕ) : Type 0 where
  pub letter : ℕ
  pub spelled : text ≡ 92 ∷ letter ∷ []
  pub value : echar_value letter ≡ Some c

-- a text whose characters stand as they are, where the class has them, or by an escape: the text, and what it spells
pub data IsEscaped (plain : ℕ → Bool) (IsEscape : List ℕ → ℕ → Type 0) : List ℕ → List ℕ → Type 0 where
  nothing : IsEscaped plain IsEscape [] []
  character : {c : ℕ} {text value : List ℕ} → plain c ≡ true → IsEscaped plain IsEscape text value → IsEscaped plain IsEscape (c ∷ text) (c ∷ value)
  escape : {c : ℕ} {escape text value : List ℕ} → IsEscape escape c → IsEscaped plain IsEscape text value
      → IsEscaped plain IsEscape (escape ++ text) (c ∷ value)

-- an escape in an IRI: a UCHAR of a character that may stand in an IRI (RDF 1.1 N-Triples 7, IRIREF)
pub record IsIriEscape (text : List ℕ) (c : ℕ) : Type 0 where
  pub uchar : IsUchar text c
  pub allowed : is_iri c ≡ true

-- an escape in a string (RDF 1.1 N-Triples 7, STRING_LITERAL_QUOTE)
abbrev pub IsStringEscape : List ℕ → ℕ → Type 0
IsStringEscape text c = IsUchar text c ⊎ IsEchar text c

-- what stands between < and >, and the IRI that it spells (RDF 1.1 N-Triples 7, IRIREF)
abbrev pub IsIriBody : List ℕ → List ℕ → Type 0
IsIriBody text iri = IsEscaped is_iri IsIriEscape text iri
