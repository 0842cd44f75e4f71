-- A term by its texts.
use Rattle.std.specs.Prelude.{◌≡◌, Option, Some, None}
use Rattle.term_core.specs.declared.term.Term.{Term}
use Rattle.term_core.specs.declared.term.Term.TheVariants as terms
use Rattle.expr_eval.specs.declared.compared.Parts.{Parts}
use Rattle.expr_eval.specs.declared.compared.Parts.TheVariants.{Iri, Blank, Literal}

-- the term
abbrev pub parts_term : Parts → Term
parts_term (Iri iri) = terms.Iri iri.now
parts_term (Blank label) = terms.Blank label.now
parts_term (Literal lexical datatype lang) = terms.Literal lexical.now datatype.now lang.now

-- the texts, if they are there, are the term's
abbrev pub IsWhole : Term → Option Parts → Type 0
IsWhole term None = Unit {0}
IsWhole term (Some parts) = parts_term parts ≡ term
