-- The terms that operators make are read back.
use Rattle.std.proofs.Common.{◌≡◌, refl, ap, ◌∙◌, List, ℕ, Bool, true, false, Some}
use Rattle.std.specs.Prelude.{IsTrue}
use Rattle.term_core.specs.Numbers.{Number, numerator, lexical, datatype, is_held, is_kept, bounds_of}
use Rattle.term_core.specs.Literals.{Form, Exact, Wide, Outside, Other, form_of, number_in}
use Rattle.value_table.specs.Values.{Numeric, Logical, Simple, value_of, typed_value}
use Rattle.sparql_value.specs.MadeTerms.{boolean_term, number_term, simple_term}
use Rattle.xsd_num.proofs.Readback.{reads_back}
use Rattle.xsd_num.proofs.Wide.{projected}

exact_form : (form : Form) (a : Number) → number_in form ≡ Some a → form ≡ Exact a
exact_form (Exact b) a e = ap Exact (cc)
exact_form Wide a e = cc
exact_form Outside a e = cc
exact_form Other a e = cc

form_back : (a : Number) → IsTrue (is_held (numerator a)) → IsTrue (is_kept a) → form_of (lexical a) (datatype a) ≡ Exact a
form_back a held kept = exact_form (form_of (lexical a) (datatype a)) a (projected (lexical a) (datatype a) ∙ reads_back a held kept)

pub number_back : (a : Number) → IsTrue (is_held (numerator a)) → IsTrue (is_kept a) → value_of (number_term a) ≡ Numeric a
number_back a held kept = ap (λ form. typed_value form (lexical a) (datatype a)) (form_back a held kept)

pub boolean_back : (b : Bool) → value_of (boolean_term b) ≡ Logical b
unfolding bounds_of
boolean_back true = refl
boolean_back false = refl

pub simple_back : (text : List ℕ) → value_of (simple_term text) ≡ Simple text
unfolding bounds_of
simple_back text = refl

-- all of these
pub ruleset made_values = (number_back, boolean_back, simple_back)
