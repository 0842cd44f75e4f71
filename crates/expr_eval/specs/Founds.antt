-- What the code holds of a value, as a term.
use Rattle.std.specs.Prelude.{IsTrue}
use Rattle.term_core.specs.declared.term.Term.{Term}
use Rattle.term_core.specs.declared.term.Term.TheVariants as terms
use Rattle.term_core.specs.Numbers.{numerator, is_held, is_kept}
use Rattle.xsd_num.specs.Values.{number_of}
use Rattle.sparql_value.specs.MadeTerms.{boolean_term, number_term, simple_term}
use Rattle.expr_eval.specs.declared.found.Found.{Found}
use Rattle.expr_eval.specs.declared.found.Found.TheVariants.{Held, Number, Truth, Text, Iri, Made}

-- the term
abbrev pub term_of : Found → Term
term_of (Held term) = term.now
term_of (Number number) = number_term (number_of number)
term_of (Truth truth) = boolean_term truth
term_of (Text text) = simple_term text.now
term_of (Iri iri) = terms.Iri iri.now
term_of (Made term) = term

-- a number has 128 bits, and is at its least scale, with at most 18 places
abbrev pub IsKeptFound : Found → Type 0
IsKeptFound (Held term) = Unit {0}
IsKeptFound (Number number) = IsTrue (is_held (numerator (number_of number))) × IsTrue (is_kept (number_of number))
IsKeptFound (Truth truth) = Unit {0}
IsKeptFound (Text text) = Unit {0}
IsKeptFound (Iri iri) = Unit {0}
IsKeptFound (Made term) = Unit {0}
