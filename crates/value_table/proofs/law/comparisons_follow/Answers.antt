use Rattle.value_table.specs.Values.{equal, less}
use Rattle.value_table.proofs.Less.{one_of_three}
use Rattle.value_table.proofs.Comparing.{true_of_false, none_of_none, untold_back, at_most_is, at_least_is}
use Rattle.value_table.proofs.law.comparisons_follow.Goals as goal

pub returns-clause-at_most : goal.returns-clause-at_most
returns-clause-at_most c a b h = at_most_is a b (one_of_three a b h)

pub returns-clause-at_least : goal.returns-clause-at_least
returns-clause-at_least c a b h = at_least_is a b (one_of_three a b h)

pub returns-clause-no_at_most : goal.returns-clause-no_at_most
returns-clause-no_at_most c a b =
    (λ e. untold_back b a ((none_of_none (less b a)).0 e), λ e. (none_of_none (less b a)).1 (untold_back a b e))

pub returns-clause-no_at_least : goal.returns-clause-no_at_least
returns-clause-no_at_least c a b = none_of_none (less a b)

pub returns-clause-no_greater : goal.returns-clause-no_greater
returns-clause-no_greater c a b = (untold_back b a, untold_back a b)

pub returns-clause-unequal : goal.returns-clause-unequal
returns-clause-unequal c a b = true_of_false (equal a b)

pub returns-clause-no_unequal : goal.returns-clause-no_unequal
returns-clause-no_unequal c a b = none_of_none (equal a b)
