-- How the symbol of a token is read off its bytes.
use Rattle.std.specs.Prelude.{codes, ◌≡◌, ◌≤◌, ◌+◌, ◌-◌, ℕ, Bool, true, false, ◌==◌, ◌&&◌, List, [], ◌∷◌, map, length, Option, Some, None, if◌then◌else◌}
use Rattle.std.specs.Char.{to_ascii_lowercase}
use Rattle.std.specs.List.{slice_range}
use Rattle.std.specs.Str.{chars, encode_utf8_all, IsCharBoundary}
use Rattle.term_core.specs.Names.{has_scheme}
use Rattle.term_core.specs.Terminals.{IsToken}
use Rattle.term_core.specs.declared.token.Kind.{Kind}
use Rattle.term_core.specs.declared.token.Kind.TheVariants as kinds
use Rattle.term_core.specs.declared.token.Token.{Token}
use Rattle.sparql_tree.specs.declared.symbol.Shape.TheVariants as shapes
use Rattle.sparql_tree.specs.declared.symbol.Symbol.{Symbol}
use Rattle.sparql_symbol.specs.declared.undoing.Place.TheVariants as places
use Rattle.sparql_symbol.specs.Undoing.{undone}
use Rattle.sparql_tree.specs.Words.{is_word, sign_shape}
use Rattle.sparql_tree.specs.Symbols.{Lexeme, Prefixes, symbol, bare, other, iri_symbol, name_symbol, word_symbol}
use Rattle.sparql_tree.specs.Prologue.{Declaration, with_declaration, prefixes_of}

-- a token stands in the text, between two of its characters
pub record StandsIn (text : List ℕ) (t : Token) : Type 0 where
  pub order : t.from ≤ t.to
  pub begins : IsCharBoundary text t.from
  pub ends : IsCharBoundary text t.to
  pub token : IsToken t.kind (chars (slice_range text t.from t.to))

-- a text may be cut behind so many bytes and before so many
pub record IsFramed (text : List ℕ) (front back : ℕ) : Type 0 where
  pub order : front + back ≤ length text
  pub begins : IsCharBoundary text front
  pub ends : IsCharBoundary text (length text - back)

-- what stands between so many bytes at the front and so many at the end
abbrev pub within : ℕ → ℕ → List ℕ → List ℕ
within front back text = slice_range text front (length text - back)

-- what a text with escapes spells
abbrev pub spelled : List ℕ → List ℕ
spelled text = encode_utf8_all (undone places.Plain (chars text))

-- the IRI between < and >
abbrev pub iri_inside : List ℕ → List ℕ
iri_inside text = spelled (within 1 1 text)

-- what stands in front of the first colon
abbrev pub before_colon : List ℕ → List ℕ
before_colon [] = []
before_colon (b ∷ bytes) = if b == 58 then [] else b ∷ before_colon bytes

-- what stands behind it
abbrev pub behind_colon : List ℕ → List ℕ
behind_colon [] = []
behind_colon (b ∷ bytes) = if b == 58 then bytes else behind_colon bytes

-- a local name without backslashes
abbrev pub local_at : List ℕ → List ℕ
local_at local = encode_utf8_all (undone places.Name (chars local))

-- three quotes open the string
abbrev pub is_long : List ℕ → Bool
is_long (a ∷ b ∷ c ∷ bytes) = a == b && b == c
is_long _ = false

-- how many quotes open it
abbrev pub quotes_of : List ℕ → ℕ
quotes_of text = if is_long text then 3 else 1

-- the characters between the quotes
abbrev pub string_inside : List ℕ → List ℕ
string_inside text = spelled (within (quotes_of text) (quotes_of text) text)

-- the symbol of a token
abbrev pub read_symbol : Prefixes → Kind → List ℕ → Symbol
read_symbol prefixes kinds.Iri text = iri_symbol (iri_inside text)
read_symbol prefixes kinds.PName text = name_symbol (prefixes (before_colon text)) (local_at (behind_colon text))
read_symbol prefixes kinds.Blank text = symbol shapes.Blank (within 2 0 text)
read_symbol prefixes kinds.Var text = symbol shapes.Var (within 1 0 text)
read_symbol prefixes kinds.String text = symbol shapes.Quoted (string_inside text)
read_symbol prefixes kinds.Lang text = symbol shapes.Tag (map to_ascii_lowercase (within 1 0 text))
read_symbol prefixes kinds.Integer text = symbol shapes.Integer text
read_symbol prefixes kinds.Decimal text = symbol shapes.Decimal text
read_symbol prefixes kinds.Double text = other
read_symbol prefixes kinds.Word text = word_symbol text
read_symbol prefixes kinds.Sign text = bare (sign_shape text)

-- the symbols of all tokens
abbrev pub read_symbols : Prefixes → List Lexeme → List Symbol
read_symbols prefixes [] = []
read_symbols prefixes (l ∷ ls) = read_symbol prefixes l.kind l.text ∷ read_symbols prefixes ls

-- ---- the prologue

-- the word PREFIX
abbrev pub is_prefix_word : Kind → List ℕ → Bool
is_prefix_word kinds.Word text = is_word text (codes "PREFIX")
is_prefix_word _ text = false

-- the prefix in front of the colon, where no local name stands behind it
abbrev pub prefix_before : List ℕ → List ℕ → Option (List ℕ)
prefix_before prefix [] = Some prefix
prefix_before prefix (b ∷ local) = None

-- the prefix of a name without a local name
abbrev pub prefix_at : Kind → List ℕ → Option (List ℕ)
prefix_at kinds.PName text = prefix_before (before_colon text) (behind_colon text)
prefix_at _ text = None

-- the prefix that two tokens declare
abbrev pub declared_prefix : Lexeme → Lexeme → Option (List ℕ)
declared_prefix word name = if is_prefix_word word.kind word.text then prefix_at name.kind name.text else None

-- the IRI of a token, where it has a scheme
abbrev pub absolute_iri : Kind → List ℕ → Option (List ℕ)
absolute_iri kinds.Iri text = if has_scheme (iri_inside text) then Some (iri_inside text) else None
absolute_iri _ text = None

-- a prefix with its IRI
abbrev pub declared_by : Option (List ℕ) → Option (List ℕ) → Option Declaration
declared_by (Some prefix) (Some iri) = Some (record { prefix = prefix; iri = iri })
declared_by _ _ = None

-- what three tokens declare
abbrev pub declaration_at : Lexeme → Lexeme → Lexeme → Option Declaration
declaration_at word name iri = declared_by (declared_prefix word name) (absolute_iri iri.kind iri.text)

-- a declaration with what follows, or all tokens where there is none
abbrev pub with_first : Option Declaration → List Lexeme → List Declaration × List Lexeme → List Declaration × List Lexeme
with_first None all more = ([], all)
with_first (Some d) all more = (d ∷ more.0, more.1)

-- the declarations at the front, and what is behind them
abbrev pub read_prologue : List Lexeme → List Declaration × List Lexeme
read_prologue (word ∷ name ∷ iri ∷ ls) = with_first (declaration_at word name iri) (word ∷ name ∷ iri ∷ ls) (read_prologue ls)
read_prologue ls = ([], ls)

-- the prefixes became those with the declaration, if there is one
abbrev pub Declares : Option Declaration → Bool → Prefixes → Prefixes → Type 0
Declares None found old new = (found ≡ false) × ((prefix : List ℕ) → new prefix ≡ old prefix)
Declares (Some d) found old new = (found ≡ true) × ((prefix : List ℕ) → new prefix ≡ with_declaration old d prefix)

-- the symbols of the tokens behind the prologue
abbrev pub AreOfLexemes : List Lexeme → List Symbol → Type 0
AreOfLexemes ls symbols = symbols ≡ read_symbols (prefixes_of (read_prologue ls).0) (read_prologue ls).1
