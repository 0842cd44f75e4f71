-- The algebra that a query's text means (SPARQL 1.1, 18.2.2): groups are read from left to right.
use Rattle.std.specs.Prelude.{List, [], ◌∷◌, ◌++◌, Option, Some, None}
use Rattle.term_core.specs.declared.pattern.Pattern.{Pattern}
use Rattle.sparql_tree.specs.Algebra as algebra
use Rattle.sparql_tree.specs.Algebra.{Algebra, Bgp, Join, LeftJoin, Extend, Table}
use Rattle.sparql_tree.specs.Exprs.{Expr, And, exprs}
use Rattle.sparql_tree.specs.Groups.{Group, GroupOf, Elements, EndOfElements, ThenElement, Groups, EndOfGroups, ThenGroup, Triples, Union, Optional, Filter, Bind, Values, Query}
use Rattle.sparql_tree.specs.Groups as tree

-- the pattern without a triple: its one solution is empty
abbrev pub unit : Algebra
unit = Bgp []

-- the join of two, of which the unit is dropped on either side (SPARQL 1.1 18.2.2.8)
abbrev pub joined : Algebra → Algebra → Algebra
joined (Bgp []) right = right
joined left (Bgp []) = left
joined left right = Join left right

-- the filters that stand directly between the braces, in order
abbrev pub filters_in : Elements → List Expr
filters_in EndOfElements = []
filters_in (ThenElement (Filter value) rest) = value ∷ filters_in rest
filters_in (ThenElement other rest) = filters_in rest

-- one condition for all: none, the only one, or && of all (SPARQL 1.1 18.2.2.7)
abbrev pub conjunction : List Expr → Option Expr
conjunction [] = None
conjunction (only ∷ []) = Some only
conjunction (first ∷ second ∷ rest) = Some (And (exprs (first ∷ second ∷ rest)))

-- the solutions for which the condition is true, if there is one
abbrev pub filtered : Option Expr → Algebra → Algebra
filtered None a = a
filtered (Some condition) a = algebra.Filter condition a

abbrev mutual
  -- a group: its parts joined, and its filters around the whole, wherever they stand (SPARQL 1.1 18.2.2.2 and 18.2.2.7)
  pub of_group : Group → Algebra
  of_group (GroupOf elements) = filtered (conjunction (filters_in elements)) (of_elements unit [] elements)

  -- the operator so far, the triple patterns behind it, and the parts to come; triples with only filters between are one
  -- basic graph pattern (SPARQL 1.1 18.2.2.5 and 18.2.2.6); the filters of OPTIONAL's own group are its condition
  pub of_elements : Algebra → List Pattern → Elements → Algebra
  of_elements a ps EndOfElements = joined a (Bgp ps)
  of_elements a ps (ThenElement (Triples more) rest) = of_elements a (ps ++ more) rest
  of_elements a ps (ThenElement (Filter value) rest) = of_elements a ps rest
  of_elements a ps (ThenElement (Union groups) rest) = of_elements (joined (joined a (Bgp ps)) (of_groups groups)) [] rest
  of_elements a ps (ThenElement (Optional (GroupOf elements)) rest) =
      of_elements (LeftJoin (joined a (Bgp ps)) (of_elements unit [] elements) (conjunction (filters_in elements))) [] rest
  of_elements a ps (ThenElement (tree.Minus group) rest) = of_elements (algebra.Minus (joined a (Bgp ps)) (of_group group)) [] rest
  of_elements a ps (ThenElement (Bind value variable) rest) = of_elements (Extend (joined a (Bgp ps)) variable value) [] rest
  of_elements a ps (ThenElement (Values variables rows) rest) = of_elements (joined (joined a (Bgp ps)) (Table variables rows)) [] rest

  -- groups between UNION, from left to right (SPARQL 1.1 18.2.2.6)
  pub of_groups : Groups → Algebra
  of_groups EndOfGroups = unit
  of_groups (ThenGroup first rest) = union_from (of_group first) rest

  -- the union so far with the groups to come
  pub union_from : Algebra → Groups → Algebra
  union_from a EndOfGroups = a
  union_from a (ThenGroup next rest) = union_from (algebra.Union a (of_group next)) rest

-- the algebra of a query's group; what stands behind the group acts on its solutions (SPARQL 1.1 18.2.3 to 18.2.5)
abbrev pub translation : Query → Algebra
translation query = of_group query.body
