-- The terminals of a query text, each the language of a kind of token, on lists of characters (SPARQL 1.1 19.8).
use Rattle.std.specs.Prelude.{◌≡◌, ◌≢◌, ◌⊎◌, ◌<◌, suc, ◌++◌, ℕ, Bool, true, ◌||◌, ◌==◌, not, codes, List, [], ◌∷◌}
use Rattle.term_core.specs.Bags.{In}
use Rattle.term_core.specs.Characters.{is_among, is_in_ranges, pn_more_ranges, is_digit, is_letter, is_hex, AreAll, is_pn_base, is_pn_u, is_pn}
use Rattle.term_core.specs.Escapes.{IsEscaped, IsIriBody, IsStringEscape}
use Rattle.term_core.specs.Names.{IsName, IsTag}
use Rattle.term_core.specs.declared.token.Kind.{Kind}
use Rattle.term_core.specs.declared.token.Kind.TheVariants as kinds

-- < and >, and between them an IRI with its escapes (SPARQL 1.1 19.8, IRIREF)
pub record IsIri (text : List ℕ) : Type 0 where
  pub body : List ℕ
  pub iri : List ℕ
  pub is_body : IsIriBody body iri
  pub spelled : text ≡ 60 ∷ (body ++ 62 ∷ [])

-- a letter of any script, and then what may hold dots and does not end in one; or nothing (SPARQL 1.1 19.8, PN_PREFIX)
abbrev pub IsPrefix : List ℕ → Type 0
IsPrefix [] = Unit {0}
IsPrefix (c ∷ text) = IsName is_pn_base is_pn (c ∷ text)

-- what a backslash may stand before in a local name (SPARQL 1.1 19.8, PN_LOCAL_ESC)
abbrev pub is_local_escape : ℕ → Bool
is_local_escape c = is_among (codes "_~.-!$&'()*+,;=/?#@%") c

-- how a local name goes on, but for dots and escapes (SPARQL 1.1 19.8, PN_LOCAL)
abbrev pub is_local_part : ℕ → Bool
is_local_part c = is_pn c || (c == 58)

-- parts of a local name, of which the last is no dot (SPARQL 1.1 19.8, PN_LOCAL and PLX)
pub data AreLocalParts : List ℕ → Type 0 where
  no_part : AreLocalParts []
  part : {c : ℕ} {text : List ℕ} → is_local_part c ≡ true → AreLocalParts text → AreLocalParts (c ∷ text)
  dot : {text : List ℕ} → text ≢ [] → AreLocalParts text → AreLocalParts (46 ∷ text)
  percent : {c d : ℕ} {text : List ℕ} → is_hex c ≡ true → is_hex d ≡ true → AreLocalParts text
      → AreLocalParts (37 ∷ c ∷ d ∷ text)
  backslash : {c : ℕ} {text : List ℕ} → is_local_escape c ≡ true → AreLocalParts text → AreLocalParts (92 ∷ c ∷ text)

-- how a local name may begin: as a label, or by an escape (SPARQL 1.1 19.8, PN_LOCAL)
abbrev pub is_local_first : ℕ → Bool
is_local_first c = is_pn_u c || (c == 58) || is_digit c || is_among (codes "%\\") c

-- a local name, or nothing (SPARQL 1.1 19.8, PN_LOCAL)
abbrev pub IsLocal : List ℕ → Type 0
IsLocal [] = Unit {0}
IsLocal (c ∷ text) = (is_local_first c ≡ true) × AreLocalParts (c ∷ text)

-- a prefix, a colon and a local name, of which both may be empty (SPARQL 1.1 19.8, PNAME_NS and PNAME_LN)
pub record IsPrefixedName (text : List ℕ) : Type 0 where
  pub prefix : List ℕ
  pub local : List ℕ
  pub is_prefix : IsPrefix prefix
  pub is_local : IsLocal local
  pub spelled : text ≡ prefix ++ 58 ∷ local

-- how a label of a blank node, and a variable's name, may begin (SPARQL 1.1 19.8, BLANK_NODE_LABEL and VARNAME)
abbrev pub is_query_label_first : ℕ → Bool
is_query_label_first c = is_pn_u c || is_digit c

-- _: and a label (SPARQL 1.1 19.8, BLANK_NODE_LABEL)
pub record IsBlank (text : List ℕ) : Type 0 where
  pub label : List ℕ
  pub is_label : IsName is_query_label_first is_pn label
  pub spelled : text ≡ 95 ∷ 58 ∷ label

-- how a variable's name goes on (SPARQL 1.1 19.8, VARNAME)
abbrev pub is_variable_part : ℕ → Bool
is_variable_part c = is_pn_u c || is_in_ranges pn_more_ranges c

-- ? or $, and a name (SPARQL 1.1 19.8, VAR1 and VAR2)
pub record IsVariable (text : List ℕ) : Type 0 where
  pub mark : ℕ
  pub first : ℕ
  pub more : List ℕ
  pub is_mark : is_among (codes "?$") mark ≡ true
  pub is_first : is_query_label_first first ≡ true
  pub are_parts : AreAll is_variable_part more
  pub spelled : text ≡ mark ∷ first ∷ more

-- the two quotes
abbrev pub is_quote : ℕ → Bool
is_quote c = is_among (codes "\"'") c

-- no backslash, LF or CR, and not this quote (SPARQL 1.1 19.8, STRING_LITERAL1 and STRING_LITERAL2)
abbrev pub is_plain_in : ℕ → ℕ → Bool
is_plain_in quote c = not ((c == quote) || is_among (codes "\\\n\r") c)

-- a string between single quotes or quotation marks (SPARQL 1.1 19.8, STRING_LITERAL1 and STRING_LITERAL2)
pub record IsShortString (text : List ℕ) : Type 0 where
  pub quote : ℕ
  pub body : List ℕ
  pub value : List ℕ
  pub quotes : is_quote quote ≡ true
  pub is_body : IsEscaped (is_plain_in quote) IsStringEscape body value
  pub spelled : text ≡ quote ∷ (body ++ quote ∷ [])

-- neither this quote nor a backslash (SPARQL 1.1 19.8, STRING_LITERAL_LONG1 and STRING_LITERAL_LONG2)
abbrev pub is_long_plain : ℕ → ℕ → Bool
is_long_plain quote c = not ((c == quote) || (c == 92))

-- what stands in a long string behind so many of its quotes in a row, and what it spells: never three quotes in a row,
-- and none at the end, so that the first three end the string (SPARQL 1.1 19.8, STRING_LITERAL_LONG1 and _LONG2)
pub data IsLongBody (quote : ℕ) : ℕ → List ℕ → List ℕ → Type 0 where
  nothing : IsLongBody quote 0 [] []
  one_quote : {row : ℕ} {text value : List ℕ} → row < 2 → IsLongBody quote (suc row) text value
      → IsLongBody quote row (quote ∷ text) (quote ∷ value)
  character : {row c : ℕ} {text value : List ℕ} → is_long_plain quote c ≡ true → IsLongBody quote 0 text value
      → IsLongBody quote row (c ∷ text) (c ∷ value)
  escape : {row c : ℕ} {escape text value : List ℕ} → IsStringEscape escape c → IsLongBody quote 0 text value
      → IsLongBody quote row (escape ++ text) (c ∷ value)

-- a string between three quotes and three (SPARQL 1.1 19.8, STRING_LITERAL_LONG1 and STRING_LITERAL_LONG2)
pub record IsLongString (text : List ℕ) : Type 0 where
  pub quote : ℕ
  pub body : List ℕ
  pub value : List ℕ
  pub quotes : is_quote quote ≡ true
  pub is_body : IsLongBody quote 0 body value
  pub spelled : text ≡ quote ∷ quote ∷ quote ∷ (body ++ quote ∷ quote ∷ quote ∷ [])

-- @ and a tag (SPARQL 1.1 19.8, LANGTAG)
pub record IsLanguage (text : List ℕ) : Type 0 where
  pub tag : List ℕ
  pub is_tag : IsTag tag
  pub spelled : text ≡ 64 ∷ tag

-- digits, one or more (SPARQL 1.1 19.8, INTEGER)
pub record IsInteger (text : List ℕ) : Type 0 where
  pub some : text ≢ []
  pub digits : AreAll is_digit text

-- digits or none, a point, and digits (SPARQL 1.1 19.8, DECIMAL)
pub record IsDecimal (text : List ℕ) : Type 0 where
  pub whole : List ℕ
  pub part : List ℕ
  pub are_digits : AreAll is_digit whole
  pub is_part : IsInteger part
  pub spelled : text ≡ whole ++ 46 ∷ part

-- digits and a point
pub record IsPointed (text : List ℕ) : Type 0 where
  pub whole : List ℕ
  pub is_whole : IsInteger whole
  pub spelled : text ≡ whole ++ 46 ∷ []

-- e or E, maybe a sign, and digits (SPARQL 1.1 19.8, EXPONENT)
pub record IsExponent (text : List ℕ) : Type 0 where
  pub letter : ℕ
  pub digits : List ℕ
  pub is_letter : is_among (codes "eE") letter ≡ true
  pub are_digits : IsInteger digits
  pub spelled : (text ≡ letter ∷ digits)
      ⊎ ((sign : ℕ) × (is_among (codes "+-") sign ≡ true) × (text ≡ letter ∷ sign ∷ digits))

-- an integer, a decimal, or digits and a point, with an exponent (SPARQL 1.1 19.8, DOUBLE)
pub record IsDouble (text : List ℕ) : Type 0 where
  pub mantissa : List ℕ
  pub exponent : List ℕ
  pub is_mantissa : IsInteger mantissa ⊎ IsDecimal mantissa ⊎ IsPointed mantissa
  pub is_exponent : IsExponent exponent
  pub spelled : text ≡ mantissa ++ exponent

-- a letter, a digit or _
abbrev pub is_word_part : ℕ → Bool
is_word_part c = is_letter c || is_digit c || (c == 95)

-- a letter, and then letters, digits and _: the keywords, and a (SPARQL 1.1 19.8)
abbrev pub IsWord : List ℕ → Type 0
IsWord [] = ⊥
IsWord (c ∷ text) = (is_letter c ≡ true) × AreAll is_word_part text

-- the operators and marks of the grammar (SPARQL 1.1 19.8)
abbrev pub signs : List (List ℕ)
signs = codes "^^" ∷ codes "&&" ∷ codes "||" ∷ codes "!=" ∷ codes "<=" ∷ codes ">=" ∷ codes "{" ∷ codes "}"
    ∷ codes "(" ∷ codes ")" ∷ codes "[" ∷ codes "]" ∷ codes "." ∷ codes "," ∷ codes ";" ∷ codes "=" ∷ codes "<"
    ∷ codes ">" ∷ codes "!" ∷ codes "+" ∷ codes "-" ∷ codes "*" ∷ codes "/" ∷ codes "|" ∷ codes "^" ∷ codes "?" ∷ []

-- all the characters together are one token of the kind
abbrev pub IsToken : Kind → List ℕ → Type 0
IsToken kinds.Iri text = IsIri text
IsToken kinds.PName text = IsPrefixedName text
IsToken kinds.Blank text = IsBlank text
IsToken kinds.Var text = IsVariable text
IsToken kinds.String text = IsShortString text ⊎ IsLongString text
IsToken kinds.Lang text = IsLanguage text
IsToken kinds.Integer text = IsInteger text
IsToken kinds.Decimal text = IsDecimal text
IsToken kinds.Double text = IsDouble text
IsToken kinds.Word text = IsWord text
IsToken kinds.Sign text = In signs text
