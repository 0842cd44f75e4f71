-- The grammar of terms: the symbols from here, the term, and the symbols behind it (SPARQL 1.1, 4.1 and 19.8).
use Rattle.std.specs.Prelude.{◌≢◌, ◌++◌, ℕ, List, [], codes}
use Rattle.term_core.specs.Numbers.{xsd_integer, xsd_decimal}
use Rattle.term_core.specs.Spelling.{lang_string}
use Rattle.term_core.specs.Texts.{xsd_string, xsd_boolean}
use Rattle.term_core.specs.declared.term.Term.{Term}
use Rattle.term_core.specs.declared.term.Term.TheVariants as terms
use Rattle.sparql_tree.specs.declared.symbol.Shape.TheVariants as s
use Rattle.sparql_tree.specs.declared.symbol.Symbol.{Symbol}
use Rattle.sparql_tree.specs.Heads.{Is, IsHead}

-- a literal without a tag
abbrev pub literal : List ℕ → List ℕ → Term
literal lexical datatype = terms.Literal lexical datatype []

-- a number behind this sign, which belongs to its lexical form (SPARQL 1.1 19.8, NumericLiteral)
pub data IsNumber (sign : List ℕ) : List Symbol → Term → List Symbol → Type 0 where
  integer : {ts rest : List Symbol} {digits : List ℕ} → IsHead s.Integer digits ts rest → IsNumber sign ts (literal (sign ++ digits) xsd_integer) rest
  decimal : {ts rest : List Symbol} {digits : List ℕ} → IsHead s.Decimal digits ts rest → IsNumber sign ts (literal (sign ++ digits) xsd_decimal) rest

-- an IRI, a string with a tag, a datatype or neither, a number, or true or false
-- (SPARQL 1.1 19.8, iri, RDFLiteral, NumericLiteral and BooleanLiteral)
pub data IsTerm : List Symbol → Term → List Symbol → Type 0 where
  iri : {ts rest : List Symbol} {iri : List ℕ} → IsHead s.Iri iri ts rest → IsTerm ts (terms.Iri iri) rest
  plain : {ts rest : List Symbol} {lexical : List ℕ} → IsHead s.Quoted lexical ts rest → IsTerm ts (literal lexical xsd_string) rest
  tagged : {ts us rest : List Symbol} {lexical tag : List ℕ} → IsHead s.Quoted lexical ts us → IsHead s.Tag tag us rest
      → IsTerm ts (terms.Literal lexical lang_string tag) rest
  typed : {ts us vs rest : List Symbol} {lexical datatype : List ℕ} → IsHead s.Quoted lexical ts us → Is s.Typed us vs
      → IsHead s.Iri datatype vs rest → datatype ≢ lang_string → IsTerm ts (literal lexical datatype) rest
  number : {ts rest : List Symbol} {term : Term} → IsNumber [] ts term rest → IsTerm ts term rest
  plus : {ts us rest : List Symbol} {term : Term} → Is s.Plus ts us → IsNumber (codes "+") us term rest → IsTerm ts term rest
  minus : {ts us rest : List Symbol} {term : Term} → Is s.Minus ts us → IsNumber (codes "-") us term rest → IsTerm ts term rest
  boolean : {ts rest : List Symbol} {word : List ℕ} → IsHead s.Boolean word ts rest → IsTerm ts (literal word xsd_boolean) rest
