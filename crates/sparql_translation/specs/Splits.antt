-- A query's algebra cut into parts, which servers answer page by page, and the tree of the operators that the client computes
-- from their solutions.
use Rattle.std.specs.Prelude.{ℕ, zero, suc, ◌+◌, List, [], ◌∷◌, ◌++◌, length, if◌then◌else◌, filter, Option}
use Rattle.term_core.specs.Mappings.{Name, Row, joins}
use Rattle.sparql_tree.specs.Algebra as algebra
use Rattle.sparql_tree.specs.Algebra.{Algebra, is_server}
use Rattle.sparql_tree.specs.Exprs.{Expr}
use Rattle.sparql_value.specs.Evaluation.{is_true_under}
use Rattle.sparql_value.specs.Solutions.{left_joins, differences, extensions}

-- operators over parts
pub data Tree : Type 0 where
  -- the part of this number, counted from 0
  Part : (number : ℕ) → Tree
  Join : (left right : Tree) → Tree
  LeftJoin : (left right : Tree) (condition : Option Expr) → Tree
  Minus : (left right : Tree) → Tree
  Union : (left right : Tree) → Tree
  Filter : (condition : Expr) (inner : Tree) → Tree
  Extend : (inner : Tree) (variable : Name) (value : Expr) → Tree

-- one part for what a server evaluates, and else those of the operands
abbrev pub whole_or : Algebra → List Algebra → List Algebra
whole_or a parts = if is_server a then a ∷ [] else parts

-- the operators that servers evaluate, from left to right: the greatest that they can
abbrev pub parts_of : Algebra → List Algebra
parts_of (algebra.Bgp patterns) = algebra.Bgp patterns ∷ []
parts_of (algebra.Table variables rows) = algebra.Table variables rows ∷ []
parts_of (algebra.Join left right) = whole_or (algebra.Join left right) (parts_of left ++ parts_of right)
parts_of (algebra.Union left right) = whole_or (algebra.Union left right) (parts_of left ++ parts_of right)
parts_of (algebra.Filter condition inner) = whole_or (algebra.Filter condition inner) (parts_of inner)
parts_of (algebra.Extend inner variable value) = whole_or (algebra.Extend inner variable value) (parts_of inner)
parts_of (algebra.LeftJoin left right condition) = parts_of left ++ parts_of right
parts_of (algebra.Minus left right) = parts_of left ++ parts_of right

-- one part for what a server evaluates, and else the tree over the operands
abbrev pub part_or : ℕ → Algebra → Tree → Tree
part_or n a tree = if is_server a then Part n else tree

-- the number of the first part behind those of an operator
abbrev pub behind : ℕ → Algebra → ℕ
behind n a = n + length (parts_of a)

-- the tree over the parts, which are numbered from this number on from left to right; any other operator is kept over its operands
abbrev pub tree_from : ℕ → Algebra → Tree
tree_from n (algebra.Bgp patterns) = Part n
tree_from n (algebra.Table variables rows) = Part n
tree_from n (algebra.Join left right) = part_or n (algebra.Join left right) (Join (tree_from n left) (tree_from (behind n left) right))
tree_from n (algebra.Union left right) = part_or n (algebra.Union left right) (Union (tree_from n left) (tree_from (behind n left) right))
tree_from n (algebra.Filter condition inner) = part_or n (algebra.Filter condition inner) (Filter condition (tree_from n inner))
tree_from n (algebra.Extend inner variable value) = part_or n (algebra.Extend inner variable value) (Extend (tree_from n inner) variable value)
tree_from n (algebra.LeftJoin left right condition) = LeftJoin (tree_from n left) (tree_from (behind n left) right) condition
tree_from n (algebra.Minus left right) = Minus (tree_from n left) (tree_from (behind n left) right)

-- the solutions of a part, of those of all
abbrev pub solutions_at : List (List Row) → ℕ → List Row
solutions_at [] number = []
solutions_at (first ∷ rest) zero = first
solutions_at (first ∷ rest) (suc number) = solutions_at rest number

-- the solutions of a tree, from those of its parts (SPARQL 1.1 18.6)
abbrev pub tree_solutions : List (List Row) → Tree → List Row
tree_solutions parts (Part number) = solutions_at parts number
tree_solutions parts (Join left right) = joins (tree_solutions parts left) (tree_solutions parts right)
tree_solutions parts (LeftJoin left right condition) = left_joins condition (tree_solutions parts left) (tree_solutions parts right)
tree_solutions parts (Minus left right) = differences (tree_solutions parts left) (tree_solutions parts right)
tree_solutions parts (Union left right) = tree_solutions parts left ++ tree_solutions parts right
tree_solutions parts (Filter condition inner) = filter (is_true_under condition) (tree_solutions parts inner)
tree_solutions parts (Extend inner variable value) = extensions variable value (tree_solutions parts inner)
