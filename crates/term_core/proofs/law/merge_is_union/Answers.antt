use Rattle.term_core.proofs.Merges.{compatible_to, compatible_from, joined_to, joined_from}
use Rattle.term_core.proofs.law.merge_is_union.Goals as goal

pub returns-clause-compatible : goal.returns-clause-compatible
returns-clause-compatible c a b = (λ e name s t p q. compatible_to a b name s t e p q, compatible_from a b)

pub returns-clause-joined : goal.returns-clause-joined
returns-clause-joined c a b k = (joined_to a b k, joined_from a b k)
