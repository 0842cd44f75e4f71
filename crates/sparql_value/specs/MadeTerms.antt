-- The terms that operators and functions make.
use Rattle.std.specs.Prelude.{ℕ, Bool, true, false, codes, List, [], ◌∷◌}
use Rattle.term_core.specs.declared.term.Term.{Term}
use Rattle.term_core.specs.declared.term.Term.TheVariants.{Literal}
use Rattle.term_core.specs.Texts.{xsd_string, xsd_boolean}
use Rattle.term_core.specs.Spelling.{lang_string}
use Rattle.term_core.specs.Numbers.{Number, lexical, datatype}

-- a truth value (XSD 1.1 part 2, section 3.3.2.2)
abbrev pub boolean_term : Bool → Term
boolean_term true = Literal (codes "true") xsd_boolean []
boolean_term false = Literal (codes "false") xsd_boolean []

-- a number in its canonical form
abbrev pub number_term : Number → Term
number_term number = Literal (lexical number) (datatype number) []

-- a string without a tag (RDF 1.1 Concepts, section 3.3, simple literals)
abbrev pub simple_term : List ℕ → Term
simple_term text = Literal text xsd_string []

-- a string with its tag, which is empty where there is none (RDF 1.1 Concepts, section 3.3)
abbrev pub string_term : List ℕ → List ℕ → Term
string_term text [] = simple_term text
string_term text (c ∷ tag) = Literal text lang_string (c ∷ tag)
