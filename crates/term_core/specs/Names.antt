-- Schemes of IRIs, labels of blank nodes and language tags, as lists of characters (RDF 1.1 N-Triples 7; SPARQL 1.1 19.8).
use Rattle.std.specs.Prelude.{◌≡◌, ◌≢◌, ◌++◌, ℕ, Bool, true, false, codes, ◌&&◌, ◌||◌, ◌==◌, List, [], ◌∷◌}
use Rattle.term_core.specs.Characters.{is_among, is_letter, is_digit, is_pn, is_pn_u, after, begins, AreAll}

-- a letter, a digit, + - or . (RFC 3986 3.1, scheme)
abbrev pub is_scheme : ℕ → Bool
is_scheme c = is_letter c || is_digit c || is_among (codes "+-.") c

-- a letter, then letters, digits, + - and . up to a colon (RFC 3986 3.1, scheme)
abbrev pub has_scheme : List ℕ → Bool
has_scheme [] = false
has_scheme (c ∷ text) = is_letter c && begins (λ d. d == 58) (after is_scheme text)

-- nothing, or characters of the class and dots, of which the last is no dot
abbrev pub IsDotted : (ℕ → Bool) → List ℕ → Type 0
IsDotted part [] = Unit {0}
IsDotted part (c ∷ []) = part c ≡ true
IsDotted part (c ∷ d ∷ text) = ((part c || (c == 46)) ≡ true) × IsDotted part (d ∷ text)

-- a character of the first class, and then what is dotted of the second
abbrev pub IsName : (ℕ → Bool) → (ℕ → Bool) → List ℕ → Type 0
IsName first part [] = ⊥
IsName first part (c ∷ text) = (first c ≡ true) × IsDotted part text

-- how a label may begin (RDF 1.1 N-Triples 7, BLANK_NODE_LABEL)
abbrev pub is_label_first : ℕ → Bool
is_label_first c = is_pn_u c || (c == 58) || is_digit c

-- how a label goes on, but for its dots (RDF 1.1 N-Triples 7, BLANK_NODE_LABEL)
abbrev pub is_label_part : ℕ → Bool
is_label_part c = is_pn c || (c == 58)

-- a label of a blank node, without its _: (RDF 1.1 N-Triples 7, BLANK_NODE_LABEL)
abbrev pub IsLabel : List ℕ → Type 0
IsLabel label = IsName is_label_first is_label_part label

-- a letter or a digit
abbrev pub is_alphanumeric : ℕ → Bool
is_alphanumeric c = is_letter c || is_digit c

-- a hyphen with letters and digits, one or more, any number of times (RDF 1.1 N-Triples 7, LANGTAG)
pub data AreSubtags : List ℕ → Type 0 where
  no_subtag : AreSubtags []
  subtag : {tag rest : List ℕ} → tag ≢ [] → AreAll is_alphanumeric tag → AreSubtags rest → AreSubtags (45 ∷ (tag ++ rest))

-- letters, one or more, and subtags: a language tag without its @ (RDF 1.1 N-Triples 7, LANGTAG)
pub record IsTag (text : List ℕ) : Type 0 where
  pub primary : List ℕ
  pub subtags : List ℕ
  pub spelled : text ≡ primary ++ subtags
  pub some : primary ≢ []
  pub letters : AreAll is_letter primary
  pub are_subtags : AreSubtags subtags
