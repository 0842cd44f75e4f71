-- The prologue of a query: declarations of prefixes (SPARQL 1.1, 4.1.1 and 19.8, rules 4 and 6).
use Rattle.std.specs.Prelude.{◌≡◌, ℕ, true, codes, List, [], ◌∷◌, Some, None, if◌then◌else◌}
use Rattle.std.specs.Str.{bytes_eq, chars, encode_utf8_all}
use Rattle.term_core.specs.Names.{has_scheme}
use Rattle.term_core.specs.Terminals.{IsIri, IsPrefixedName}
use Rattle.term_core.specs.declared.token.Kind.TheVariants as kinds
use Rattle.sparql_tree.specs.Words.{is_word}
use Rattle.sparql_tree.specs.Symbols.{Lexeme, Prefixes}

-- a prefix and the IRI that it stands for
pub record Declaration : Type 0 where
  pub prefix : List ℕ
  pub iri : List ℕ

-- the word PREFIX, without case (SPARQL 1.1, 19.8, rule 6)
pub record IsPrefixWord (l : Lexeme) : Type 0 where
  pub kind : l.kind ≡ kinds.Word
  pub word : is_word l.text (codes "PREFIX") ≡ true

-- a prefix and its colon, with no local name (SPARQL 1.1, 19.8, PNAME_NS)
pub record IsPrefixName (l : Lexeme) (prefix : List ℕ) : Type 0 where
  pub kind : l.kind ≡ kinds.PName
  pub name : IsPrefixedName (chars l.text)
  pub no_local : name.local ≡ []
  pub spelled : prefix ≡ encode_utf8_all name.prefix

-- an IRI with a scheme, behind its escapes (SPARQL 1.1, 19.8, IRIREF; RFC 3986, 3.1)
pub record IsAbsolute (l : Lexeme) (iri : List ℕ) : Type 0 where
  pub kind : l.kind ≡ kinds.Iri
  pub token : IsIri (chars l.text)
  pub spelled : iri ≡ encode_utf8_all token.iri
  pub scheme : has_scheme iri ≡ true

-- three tokens that declare a prefix (SPARQL 1.1, 19.8, rule 6)
pub record IsDeclaration (word name iri : Lexeme) (d : Declaration) : Type 0 where
  pub is_word : IsPrefixWord word
  pub is_name : IsPrefixName name d.prefix
  pub is_iri : IsAbsolute iri d.iri

-- the tokens begin with no declaration
abbrev pub NoDeclaration : List Lexeme → Type 0
NoDeclaration ls = (word name iri : Lexeme) (rest : List Lexeme) (d : Declaration) → ls ≡ word ∷ name ∷ iri ∷ rest
    → IsDeclaration word name iri d → ⊥

-- the tokens begin with these declarations, as long as there are any, and the rest stands behind them
pub data IsPrologue : List Lexeme → List Declaration → List Lexeme → Type 0 where
  ended : {ls : List Lexeme} → NoDeclaration ls → IsPrologue ls [] ls
  declared : {word name iri : Lexeme} {ls rest : List Lexeme} {d : Declaration} {ds : List Declaration} → IsDeclaration word name iri d
      → IsPrologue ls ds rest → IsPrologue (word ∷ name ∷ iri ∷ ls) (d ∷ ds) rest

-- no prefix stands for an IRI
abbrev pub no_prefixes : Prefixes
no_prefixes prefix = None

-- one more declaration, which holds over those before it
abbrev pub with_declaration : Prefixes → Declaration → Prefixes
with_declaration prefixes d prefix = if bytes_eq d.prefix prefix then Some d.iri else prefixes prefix

-- declarations over those before them: the last of a prefix holds (SPARQL 1.1, 4.1.1)
abbrev pub prefixes_over : Prefixes → List Declaration → Prefixes
prefixes_over prefixes [] = prefixes
prefixes_over prefixes (d ∷ ds) = prefixes_over (with_declaration prefixes d) ds

-- what the prefixes stand for behind these declarations
abbrev pub prefixes_of : List Declaration → Prefixes
prefixes_of ds = prefixes_over no_prefixes ds
