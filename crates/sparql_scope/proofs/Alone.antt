-- Expressions that are no variable alone.
use Rattle.std.proofs.Common.{◌≡◌, false, refl}
use Rattle.term_core.specs.Mappings.{Name}
use Rattle.sparql_tree.specs.ExprTrees.{tree_of, aggregate_of}
use Rattle.sparql_tree.specs.declared.expr.Expr.{Expr, None', Some'}
use Rattle.sparql_tree.specs.declared.expr.Expr.TheVariants as code
use Rattle.sparql_tree.specs.Breaches.{is_alone}

pub not_alone : (value : Expr) (name : Name) → ((other : Name) → value ≡ code.Var other → ⊥) → false ≡ is_alone (tree_of value) name
unfolding tree_of aggregate_of
not_alone (code.Var other) name h = absurd (h other refl)
not_alone (code.Aggregate' kind distinct None') name h = refl
not_alone (code.Aggregate' kind distinct (Some' p argument)) name h = refl
not_alone _ name h = refl
