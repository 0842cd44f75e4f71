-- Classes of characters, as Unicode scalar values (SPARQL 1.1 19.8, RDF 1.1 N-Triples 7).
use Rattle.std.specs.Prelude.{◌≡◌, ℕ, Bool, true, false, ◌&&◌, ◌||◌, not, codes, ◌==◌, nat_lt, nat_le, List, [], ◌∷◌, if◌then◌else◌}
use Rattle.std.specs.List.{list_all, list_any}
use Rattle.std.specs.Str.{all_scalars, encode_utf8_all}

-- one of these
abbrev pub is_among : List ℕ → ℕ → Bool
is_among signs c = list_any (λ sign. c == sign) signs

-- from the first to the second, both counted
abbrev pub is_between : ℕ → ℕ → ℕ → Bool
is_between first last c = nat_le first c && nat_le c last

-- in one of these ranges, their ends counted
abbrev pub is_in_ranges : List (ℕ × ℕ) → ℕ → Bool
is_in_ranges ranges c = list_any (λ range. is_between range.0 range.1 c) ranges

-- a Unicode scalar value (Unicode, definition D76)
abbrev pub is_scalar : ℕ → Bool
is_scalar n = nat_lt n 0xD800 || (not (nat_lt n 0xE000) && nat_lt n 0x110000)

-- 0 to 9
abbrev pub is_digit : ℕ → Bool
is_digit c = is_between 48 57 c

-- A to Z, a to z (RFC 5234 B.1)
abbrev pub is_letter : ℕ → Bool
is_letter c = is_between 65 90 c || is_between 97 122 c

-- 0 to 9, A to F, a to f (RDF 1.1 N-Triples 7, HEX)
abbrev pub is_hex : ℕ → Bool
is_hex c = is_digit c || is_between 65 70 c || is_between 97 102 c

-- the letters with which a name may begin (SPARQL 1.1 19.8, PN_CHARS_BASE)
abbrev pub pn_base_ranges : List (ℕ × ℕ)
pn_base_ranges = (0x41, 0x5A) ∷ (0x61, 0x7A) ∷ (0xC0, 0xD6) ∷ (0xD8, 0xF6) ∷ (0xF8, 0x2FF) ∷ (0x370, 0x37D) ∷ (0x37F, 0x1FFF)
    ∷ (0x200C, 0x200D) ∷ (0x2070, 0x218F) ∷ (0x2C00, 0x2FEF) ∷ (0x3001, 0xD7FF) ∷ (0xF900, 0xFDCF) ∷ (0xFDF0, 0xFFFD) ∷ (0x10000, 0xEFFFF) ∷ []

-- what a name may have behind its first character besides letters, _ and - (SPARQL 1.1 19.8, PN_CHARS)
abbrev pub pn_more_ranges : List (ℕ × ℕ)
pn_more_ranges = (0x30, 0x39) ∷ (0xB7, 0xB7) ∷ (0x300, 0x36F) ∷ (0x203F, 0x2040) ∷ []

-- a letter of any script (SPARQL 1.1 19.8, PN_CHARS_BASE)
unfoldable pub is_pn_base : ℕ → Bool
is_pn_base c = is_in_ranges pn_base_ranges c

-- such a letter or _ (SPARQL 1.1 19.8, PN_CHARS_U)
unfoldable pub is_pn_u : ℕ → Bool
is_pn_u c = is_pn_base c || (c == 95)

-- such a letter, _, -, a digit or a mark (SPARQL 1.1 19.8, PN_CHARS)
unfoldable pub is_pn : ℕ → Bool
is_pn c = is_pn_u c || (c == 45) || is_in_ranges pn_more_ranges c

-- above U+0020, and none of < > " { } | ^ ` \ (RDF 1.1 N-Triples 7, IRIREF)
abbrev pub is_iri : ℕ → Bool
is_iri c = nat_lt 32 c && not (is_among (codes "<>\"{}|^`\\") c)

-- no quote, backslash, LF or CR (RDF 1.1 N-Triples 7, STRING_LITERAL_QUOTE)
abbrev pub is_plain : ℕ → Bool
is_plain c = not (is_among (codes "\"\\\n\r") c)

-- all of the class
abbrev pub AreAll : (ℕ → Bool) → List ℕ → Type 0
AreAll p text = list_all p text ≡ true

-- the longest front that is all of the class
abbrev pub front : (ℕ → Bool) → List ℕ → List ℕ
front p [] = []
front p (c ∷ text) = if p c then c ∷ front p text else []

-- what is behind that front
abbrev pub after : (ℕ → Bool) → List ℕ → List ℕ
after p [] = []
after p (c ∷ text) = if p c then after p text else c ∷ text

-- the first character passes the test
abbrev pub begins : (ℕ → Bool) → List ℕ → Bool
begins p [] = false
begins p (c ∷ text) = p c

-- the bytes are the UTF-8 of these characters (Unicode, definition D92)
pub record IsTextOf (characters bytes : List ℕ) : Type 0 where
  pub scalars : all_scalars characters ≡ true
  pub encoded : encode_utf8_all characters ≡ bytes
