-- The join of two, by which of them is the unit.
use Rattle.std.proofs.Common.{◌≡◌, refl, true, false}
use Rattle.sparql_tree.specs.Algebra.{Algebra, Bgp, Join}
use Rattle.std.specs.Prelude.{[], ◌∷◌}
use Rattle.sparql_tree.specs.Translation.{joined}
use Rattle.sparql_translation.specs.Measures.{is_unit}

pub left_unit : (a b : Algebra) → is_unit a ≡ true → joined a b ≡ b
left_unit (Bgp []) b h = refl
left_unit a b h = absurd cc

pub right_unit : (a b : Algebra) → is_unit a ≡ false → is_unit b ≡ true → joined a b ≡ a
right_unit (Bgp []) b h k = absurd cc
right_unit a (Bgp []) h k = refl
right_unit a b h k = absurd cc

pub no_unit : (a b : Algebra) → is_unit a ≡ false → is_unit b ≡ false → joined a b ≡ Join a b
no_unit (Bgp []) b h k = absurd cc
no_unit a (Bgp []) h k = absurd cc
no_unit a b h k = refl

pub ruleset joins = (left_unit, right_unit, no_unit)
