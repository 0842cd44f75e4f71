use Rattle.term_core.specs.Mappings.{same_name, same_term}
use Rattle.term_core.proofs.Merges.{names_same, name_itself, terms_same, term_itself}
use Rattle.term_core.proofs.Distinct.{AreDistinct-distinct, In-distinct, from_In-distinct, distinct-append}
use Rattle.term_core.proofs.law.distinct_keeps_each_once.Goals as goal

pub returns-clause-names : goal.returns-clause-names
returns-clause-names c = AreDistinct-distinct same_name names_same name_itself

pub returns-clause-same_names : goal.returns-clause-same_names
returns-clause-same_names c xs x =
    (from_In-distinct same_name names_same name_itself xs x, In-distinct same_name names_same name_itself xs x)

pub returns-clause-terms : goal.returns-clause-terms
returns-clause-terms c = AreDistinct-distinct same_term terms_same term_itself

pub returns-clause-same_terms : goal.returns-clause-same_terms
returns-clause-same_terms c xs x =
    (from_In-distinct same_term terms_same term_itself xs x, In-distinct same_term terms_same term_itself xs x)

pub returns-clause-first_names : goal.returns-clause-first_names
returns-clause-first_names c = distinct-append same_name

pub returns-clause-first_terms : goal.returns-clause-first_terms
returns-clause-first_terms c = distinct-append same_term
