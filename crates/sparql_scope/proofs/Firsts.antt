-- The first of names.
use Rattle.std.proofs.Common.{◌≡◌, ◌++◌, ◌∷◌, [], List, Some, None, refl}
use Rattle.term_core.specs.Mappings.{Name}
use Rattle.sparql_tree.specs.Breaches.{first_name}

-- of the front, where it has one
pub first_front : (a b : List Name) (name : Name) → first_name a ≡ Some name → first_name (a ++ b) ≡ Some name
first_front [] b name e = absurd (cc)
first_front (x ∷ a) b name e = e

-- else of what stands behind
pub first_behind : (a b : List Name) → first_name a ≡ None → first_name (a ++ b) ≡ first_name b
first_behind [] b e = refl
first_behind (x ∷ a) b e = absurd (cc)

-- names without a first are none
pub first_none : (a : List Name) → first_name a ≡ None → a ≡ []
first_none [] e = refl
first_none (x ∷ a) e = absurd (cc)

pub ruleset firsts = (first_front, first_behind)
