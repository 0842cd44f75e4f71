-- What a token is to the grammar (SPARQL 1.1, 19.8).
use Rattle.std.specs.Prelude.{◌≡◌, ◌⊎◌, ◌++◌, ℕ, not, codes, ◌==◌, List, [], ◌∷◌, filter, map, Option, Some, None, if◌then◌else◌}
use Rattle.std.specs.Char.{to_ascii_lowercase}
use Rattle.std.specs.List.{slice_range}
use Rattle.std.specs.Str.{chars, encode_utf8_all}
use Rattle.term_core.specs.Names.{has_scheme}
use Rattle.term_core.specs.Terminals.{IsIri, IsPrefixedName, IsBlank, IsVariable, IsShortString, IsLongString, IsLanguage}
use Rattle.term_core.specs.declared.token.Kind.{Kind}
use Rattle.term_core.specs.declared.token.Kind.TheVariants as kinds
use Rattle.term_core.specs.declared.token.Token.{Token}
use Rattle.sparql_tree.specs.declared.symbol.Shape.{Shape}
use Rattle.sparql_tree.specs.declared.symbol.Shape.TheVariants as shapes
use Rattle.sparql_tree.specs.declared.symbol.Symbol.{Symbol}
use Rattle.sparql_tree.specs.Words.{is_word, word_shape, sign_shape}

-- a token's kind and its bytes
pub record Lexeme : Type 0 where
  pub kind : Kind
  pub text : List ℕ

-- a token with the bytes from its first place up to its last
abbrev pub lexeme : List ℕ → Token → Lexeme
lexeme text t = record { kind = t.kind; text = slice_range text t.from t.to }

-- all tokens of a text, with their bytes
abbrev pub lexemes : List ℕ → List Token → List Lexeme
lexemes text [] = []
lexemes text (t ∷ ts) = lexeme text t ∷ lexemes text ts

-- a shape and a value
abbrev pub symbol : Shape → List ℕ → Symbol
symbol shape value = record { shape = shape; value = value }

-- a shape that has no value
abbrev pub bare : Shape → Symbol
bare shape = symbol shape []

-- a token that stands in no rule
abbrev pub other : Symbol
other = bare shapes.Other

-- the IRI of each prefix that has one
abbrev pub Prefixes : Type 0
Prefixes = List ℕ → Option (List ℕ)

-- an IRI, where it has a scheme; its bytes are looked at, since a scheme is ASCII (RFC 3986, 3.1)
abbrev pub iri_symbol : List ℕ → Symbol
iri_symbol iri = if has_scheme iri then symbol shapes.Iri iri else other

-- a local name without the backslash of each of its escapes (SPARQL 1.1, 4.1.1 and 19.8, PLX)
abbrev pub unescaped : List ℕ → List ℕ
unescaped local = filter (λ c. not (c == 92)) local

-- the prefix's IRI with the local name behind it, where the prefix has one (SPARQL 1.1, 4.1.1)
abbrev pub name_symbol : Option (List ℕ) → List ℕ → Symbol
name_symbol None local = other
name_symbol (Some iri) local = symbol shapes.Iri (iri ++ local)

-- a string's characters behind their escapes, of any of its four forms (SPARQL 1.1, 4.1.2)
abbrev pub IsStringSymbol : List ℕ → Symbol → Type 0
IsStringSymbol characters s = ((string : IsShortString characters) × (s ≡ symbol shapes.Quoted (encode_utf8_all string.value)))
    ⊎ ((string : IsLongString characters) × (s ≡ symbol shapes.Quoted (encode_utf8_all string.value)))

-- a word: of those with a value there are the truth values, in lower case
abbrev pub word_symbol : List ℕ → Symbol
word_symbol text = if is_word text (codes "true") then symbol shapes.Boolean (codes "true")
    else if is_word text (codes "false") then symbol shapes.Boolean (codes "false")
    else bare (word_shape text)

-- the symbol of a token of this kind, of these bytes
abbrev pub IsSymbolOf : Prefixes → Kind → List ℕ → Symbol → Type 0
IsSymbolOf prefixes kinds.Iri text s = (token : IsIri (chars text)) × (s ≡ iri_symbol (encode_utf8_all token.iri))
IsSymbolOf prefixes kinds.PName text s = (name : IsPrefixedName (chars text))
    × (s ≡ name_symbol (prefixes (encode_utf8_all name.prefix)) (encode_utf8_all (unescaped name.local)))
IsSymbolOf prefixes kinds.Blank text s = (blank : IsBlank (chars text)) × (s ≡ symbol shapes.Blank (encode_utf8_all blank.label))
IsSymbolOf prefixes kinds.Var text s = (variable : IsVariable (chars text))
    × (s ≡ symbol shapes.Var (encode_utf8_all (variable.first ∷ variable.more)))
IsSymbolOf prefixes kinds.String text s = IsStringSymbol (chars text) s
IsSymbolOf prefixes kinds.Lang text s = (language : IsLanguage (chars text))
    × (s ≡ symbol shapes.Tag (map to_ascii_lowercase (encode_utf8_all language.tag)))
IsSymbolOf prefixes kinds.Integer text s = s ≡ symbol shapes.Integer text
IsSymbolOf prefixes kinds.Decimal text s = s ≡ symbol shapes.Decimal text
IsSymbolOf prefixes kinds.Double text s = s ≡ other
IsSymbolOf prefixes kinds.Word text s = s ≡ word_symbol text
IsSymbolOf prefixes kinds.Sign text s = s ≡ bare (sign_shape text)

-- what a token is to the grammar, where prefixes stand for these IRIs
abbrev pub IsSymbol : Prefixes → Lexeme → Symbol → Type 0
IsSymbol prefixes l s = IsSymbolOf prefixes l.kind l.text s

-- one symbol for each token, in order
abbrev pub AreSymbolsOf : Prefixes → List Lexeme → List Symbol → Type 0
AreSymbolsOf prefixes [] [] = Unit {0}
AreSymbolsOf prefixes (l ∷ ls) (s ∷ ss) = IsSymbol prefixes l s × AreSymbolsOf prefixes ls ss
AreSymbolsOf prefixes _ _ = ⊥
