use Rattle.std.proofs.Common.{subst, true, ◌≡◌}
use Rattle.term_core.specs.Mappings.{same_name, same_term}
use Rattle.term_core.proofs.Merges.{names_same, name_itself, terms_same, term_itself, same_row}
use Rattle.term_core.proofs.law.equality_is_exact.Goals as goal

pub returns-clause-names : goal.returns-clause-names
returns-clause-names c a b = (names_same a b, λ e. subst (λ x. same_name a x ≡ true) e (name_itself a))

pub returns-clause-terms : goal.returns-clause-terms
returns-clause-terms c a b = (terms_same a b, λ e. subst (λ x. same_term a x ≡ true) e (term_itself a))

pub returns-clause-rows : goal.returns-clause-rows
returns-clause-rows c = same_row
