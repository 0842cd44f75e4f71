-- The solutions of each operator of the algebra on data, as a list whose order means nothing (SPARQL 1.1, sections 18.3 to 18.6).
use Rattle.std.specs.Prelude.{Bool, true, ◌&&◌, not, List, [], ◌∷◌, ◌++◌, map, filter, flat_map, Option, Some, None, is_some}
use Rattle.std.specs.List.{list_any, filter_map}
use Rattle.std.specs.FinMap as finmap
use Rattle.term_core.specs.declared.term.Term.{Term}
use Rattle.term_core.specs.declared.term.Triple.{Triple}
use Rattle.term_core.specs.Mappings.{Name, Row, value, are_compatible, joined, joins}
use Rattle.term_core.specs.Patterns.{pattern_of}
use Rattle.sparql_tree.specs.Algebra.{Algebra, Bgp, Join, LeftJoin, Minus, Union, Filter, Extend, Table}
use Rattle.sparql_tree.specs.Bgp.{solutions}
use Rattle.sparql_tree.specs.Exprs.{Expr}
use Rattle.sparql_value.specs.Evaluation.{value_under, is_true_under}

-- whether a condition is true on a row; one that is not there is always true
abbrev pub holds : Option Expr → Row → Bool
holds None row = true
holds (Some condition) row = is_true_under condition row

-- a row itself, where nothing is found for it
abbrev pub or_itself : Row → List Row → List Row
or_itself a [] = a ∷ []
or_itself a (first ∷ rest) = first ∷ rest

-- for each row on the left, its merges with what is compatible on the right where the condition is true, or itself where
-- there is none (SPARQL 1.1 18.5, LeftJoin)
abbrev pub left_joins : Option Expr → List Row → List Row → List Row
left_joins condition xs ys = flat_map (λ a. or_itself a (filter (holds condition) (filter_map (joined a) ys))) xs

-- whether two rows share a name
abbrev pub share_name : Row → Row → Bool
share_name a b = list_any (λ name. is_some (value b name)) (finmap.keys a)

-- whether the row b rules the row a out: they are compatible and share a name (SPARQL 1.1 18.5, Minus)
abbrev pub rules_out : Row → Row → Bool
rules_out a b = are_compatible a b && share_name a b

-- the rows on the left that none on the right rules out (SPARQL 1.1 18.5, Minus)
abbrev pub differences : List Row → List Row → List Row
differences xs ys = filter (λ a. not (list_any (rules_out a) ys)) xs

-- a row with a value under a name, if there is a value (SPARQL 1.1 18.5, Extend)
abbrev pub with_value : Name → Option Term → Row → Row
with_value name None row = row
with_value name (Some term) row = finmap.insert row name term

-- each row with the expression's value on it, where that is not the error (SPARQL 1.1 18.5, Extend)
abbrev pub extensions : Name → Expr → List Row → List Row
extensions name e xs = map (λ row. with_value name (value_under e row) row) xs

-- the solutions of an operator on the data (SPARQL 1.1 18.6)
abbrev pub eval : List Triple → Algebra → List Row
eval D (Bgp patterns) = solutions D (map pattern_of patterns)
eval D (Join left right) = joins (eval D left) (eval D right)
eval D (LeftJoin left right condition) = left_joins condition (eval D left) (eval D right)
eval D (Minus left right) = differences (eval D left) (eval D right)
eval D (Union left right) = eval D left ++ eval D right
eval D (Filter condition inner) = filter (is_true_under condition) (eval D inner)
eval D (Extend inner variable value) = extensions variable value (eval D inner)
eval D (Table variables rows) = rows
