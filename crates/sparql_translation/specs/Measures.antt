-- The depth and the weight of a query, counted over its groups before any operator is made.
use Rattle.std.specs.Prelude.{◌≡◌, ℕ, Bool, true, false, List, [], ◌∷◌, ◌++◌, length, Option, Some, None, is_some}
use Rattle.term_core.specs.declared.pattern.Pattern.{Pattern}
use Rattle.sparql_tree.specs.Algebra as algebra
use Rattle.sparql_tree.specs.Algebra.{Algebra, Bgp, LeftJoin, Extend, Table}
use Rattle.sparql_tree.specs.Exprs.{Expr}
use Rattle.sparql_tree.specs.Groups as tree
use Rattle.sparql_tree.specs.Groups.{Element, GroupOf, Groups}
use Rattle.sparql_tree.specs.Sizes.{counted, depth, weight, deepest_expr, condition_depth, condition_weight, deepest_among, weight_among}
use Rattle.sparql_tree.specs.Translation.{unit, joined, filters_in, conjunction, of_group, of_elements, of_groups, union_from}
use Rattle.sparql_translation.specs.declared.measure.Measure.{Measure}
use Rattle.sparql_translation.specs.declared.measure.Front.{Front}
use Rattle.sparql_translation.specs.declared.measure.Condition.{Condition}
use Rattle.sparql_translation.specs.declared.measure.Sums.{Sums}

-- whether it is the pattern without a triple
abbrev pub is_unit : Algebra → Bool
is_unit (Bgp []) = true
is_unit a = false

-- the operator so far, behind one part of its group; the triple patterns behind it are not in it yet
abbrev pub behind_part : Algebra → List Pattern → Element → Algebra
behind_part a ps (tree.Triples more) = a
behind_part a ps (tree.Filter value) = a
behind_part a ps (tree.Union groups) = joined (joined a (Bgp ps)) (of_groups groups)
behind_part a ps (tree.Optional (GroupOf elements)) =
    LeftJoin (joined a (Bgp ps)) (of_elements unit [] elements) (conjunction (filters_in elements))
behind_part a ps (tree.Minus group) = algebra.Minus (joined a (Bgp ps)) (of_group group)
behind_part a ps (tree.Bind value variable) = Extend (joined a (Bgp ps)) variable value
behind_part a ps (tree.Values variables rows) = joined (joined a (Bgp ps)) (Table variables rows)

-- the triple patterns behind the operator so far, behind one part of its group
abbrev pub open_patterns : List Pattern → Element → List Pattern
open_patterns ps (tree.Triples more) = ps ++ more
open_patterns ps (tree.Filter value) = ps
open_patterns ps (tree.Union groups) = []
open_patterns ps (tree.Optional group) = []
open_patterns ps (tree.Minus group) = []
open_patterns ps (tree.Bind value variable) = []
open_patterns ps (tree.Values variables rows) = []

-- the measure is of the operator
pub record IsMeasure (m : Measure) (a : Algebra) : Type 0 where
  pub unit : m.unit ≡ is_unit a
  pub depth : m.depth ≡ counted (depth a)
  pub expression : m.expression ≡ counted (deepest_expr a)
  pub weight : m.weight ≡ counted (weight a)

-- the measure is of the operator so far and of so many triple patterns behind it
pub record IsFront (m : Front) (a : Algebra) (ps : List Pattern) : Type 0 where
  pub operator : IsMeasure m.operator a
  pub patterns : m.patterns ≡ counted (length ps)

-- the sums are of these expressions
pub record AreSums (m : Sums) (es : List Expr) : Type 0 where
  pub number : m.number ≡ counted (length es)
  pub depth : m.depth ≡ counted (deepest_among es)
  pub weight : m.weight ≡ counted (weight_among es)

-- the measure is of the condition, if there is one
pub record IsCondition (m : Condition) (condition : Option Expr) : Type 0 where
  pub there : m.there ≡ is_some condition
  pub depth : m.depth ≡ counted (condition_depth condition)
  pub weight : m.weight ≡ counted (condition_weight condition)

-- the union so far, if there is one, with one group more
abbrev pub union_with : Option Algebra → Algebra → Algebra
union_with None a = a
union_with (Some before) a = algebra.Union before a

-- the union so far, if there is one, with the groups to come
abbrev pub united : Option Algebra → Groups → Algebra
united None groups = of_groups groups
united (Some before) groups = union_from before groups

-- the measure is of the union so far, if there is one
abbrev pub IsUnited : Option Measure → Option Algebra → Type 0
IsUnited None None = Unit {0}
IsUnited None (Some a) = ⊥
IsUnited (Some m) None = ⊥
IsUnited (Some m) (Some a) = IsMeasure m a
