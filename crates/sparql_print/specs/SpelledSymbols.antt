-- Which symbols have values that can be written (SPARQL 1.1, 19.8).
use Rattle.std.specs.Prelude.{ℕ, List, [], ◌∷◌}
use Rattle.std.specs.Str.{IsUtf8}
use Rattle.term_core.specs.Spelling.{IsSpelledIri, IsSpelledTag}
use Rattle.sparql_tree.specs.declared.symbol.Shape.{Shape}
use Rattle.sparql_tree.specs.declared.symbol.Shape.TheVariants as shapes
use Rattle.sparql_tree.specs.declared.symbol.Symbol.{Symbol}
use Rattle.sparql_print.specs.Spelled.{IsSpelledName}

-- the value of a symbol of this shape; shapes without a value that an expression has may have any (SPARQL 1.1, 19.8, PrimaryExpression)
abbrev pub IsSpelledValue : Shape → List ℕ → Type 0
IsSpelledValue shapes.Var name = IsSpelledName name
IsSpelledValue shapes.Iri iri = IsSpelledIri iri
IsSpelledValue shapes.Tag tag = IsSpelledTag tag
IsSpelledValue shapes.Quoted lexical = IsUtf8 lexical
IsSpelledValue shapes.Integer digits = IsUtf8 digits
IsSpelledValue shapes.Decimal digits = IsUtf8 digits
IsSpelledValue shapes.Boolean word = IsUtf8 word
IsSpelledValue shape value = Unit {0}

-- a symbol whose value can be written
abbrev pub IsSpelledSymbol : Symbol → Type 0
IsSpelledSymbol symbol = IsSpelledValue symbol.shape symbol.value

-- all of them
abbrev pub AreSpelledSymbols : List Symbol → Type 0
AreSpelledSymbols [] = Unit {0}
AreSpelledSymbols (first ∷ rest) = IsSpelledSymbol first × AreSpelledSymbols rest
