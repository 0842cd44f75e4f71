-- The depth and the weight of the algebra and of expressions, by which queries are limited. They are this program's own.
use Rattle.std.specs.Prelude.{ℕ, ◌+◌, ◌-◌, ◌*◌, ◌^◌, min, max, List, [], ◌∷◌, ◌++◌, length, map, Option, Some, None}
use Rattle.sparql_tree.specs.Algebra as algebra
use Rattle.sparql_tree.specs.Algebra.{Algebra, Bgp, Join, LeftJoin, Union, Filter, Extend, Table}
use Rattle.sparql_tree.specs.Breaches.{item_values}
use Rattle.sparql_tree.specs.Exprs.{Expr, Var, Const, Or, And, Not, Plus, Minus, Compare, OneOf, Sum, Product, Call, Aggregate, AggregateAll, Exprs, EndOfExprs, ThenExpr, Operands, EndOfOperands, ThenOperand}
use Rattle.sparql_tree.specs.Groups.{GroupKey, OrderKey, Query}
use Rattle.sparql_tree.specs.Translation.{translation}

-- a number as it is counted: it stops at the greatest of 64 bits
abbrev pub counted : ℕ → ℕ
counted n = min n (2 ^ 64 - 1)

abbrev mutual
  -- the nodes from the root of an expression to its deepest leaf
  pub expr_depth : Expr → ℕ
  expr_depth (Var name) = 1
  expr_depth (Const term) = 1
  expr_depth (Or parts) = 1 + deepest_of parts
  expr_depth (And parts) = 1 + deepest_of parts
  expr_depth (Not value) = 1 + expr_depth value
  expr_depth (Plus value) = 1 + expr_depth value
  expr_depth (Minus value) = 1 + expr_depth value
  expr_depth (Compare op left right) = 1 + max (expr_depth left) (expr_depth right)
  expr_depth (OneOf left items negated) = 1 + max (expr_depth left) (deepest_of items)
  expr_depth (Sum first rest) = 1 + max (expr_depth first) (deepest_operand rest)
  expr_depth (Product first rest) = 1 + max (expr_depth first) (deepest_operand rest)
  expr_depth (Call function arguments) = 1 + deepest_of arguments
  expr_depth (Aggregate kind distinct argument) = 1 + expr_depth argument
  expr_depth (AggregateAll kind distinct) = 1

  pub deepest_of : Exprs → ℕ
  deepest_of EndOfExprs = 0
  deepest_of (ThenExpr first rest) = max (expr_depth first) (deepest_of rest)

  pub deepest_operand : Operands → ℕ
  deepest_operand EndOfOperands = 0
  deepest_operand (ThenOperand inverse value rest) = max (expr_depth value) (deepest_operand rest)

abbrev mutual
  -- the nodes of an expression
  pub expr_weight : Expr → ℕ
  expr_weight (Var name) = 1
  expr_weight (Const term) = 1
  expr_weight (Or parts) = 1 + weight_of parts
  expr_weight (And parts) = 1 + weight_of parts
  expr_weight (Not value) = 1 + expr_weight value
  expr_weight (Plus value) = 1 + expr_weight value
  expr_weight (Minus value) = 1 + expr_weight value
  expr_weight (Compare op left right) = 1 + (expr_weight left + expr_weight right)
  expr_weight (OneOf left items negated) = 1 + (expr_weight left + weight_of items)
  expr_weight (Sum first rest) = 1 + (expr_weight first + operand_weight rest)
  expr_weight (Product first rest) = 1 + (expr_weight first + operand_weight rest)
  expr_weight (Call function arguments) = 1 + weight_of arguments
  expr_weight (Aggregate kind distinct argument) = 1 + expr_weight argument
  expr_weight (AggregateAll kind distinct) = 1

  pub weight_of : Exprs → ℕ
  weight_of EndOfExprs = 0
  weight_of (ThenExpr first rest) = expr_weight first + weight_of rest

  pub operand_weight : Operands → ℕ
  operand_weight EndOfOperands = 0
  operand_weight (ThenOperand inverse value rest) = expr_weight value + operand_weight rest

-- the depth of a condition, and its weight: 0 where there is none
abbrev pub condition_depth : Option Expr → ℕ
condition_depth None = 0
condition_depth (Some condition) = expr_depth condition

abbrev pub condition_weight : Option Expr → ℕ
condition_weight None = 0
condition_weight (Some condition) = expr_weight condition

-- the depth of the operators, without their expressions; a plan puts the patterns of a join one above the other, so
-- each pattern counts, and a join has the sum of its sides
abbrev pub depth : Algebra → ℕ
depth (Bgp patterns) = length patterns + 1
depth (Join left right) = depth left + depth right
depth (LeftJoin left right condition) = 1 + max (depth left) (depth right)
depth (algebra.Minus left right) = 1 + max (depth left) (depth right)
depth (Union left right) = 1 + max (depth left) (depth right)
depth (Filter condition inner) = 1 + depth inner
depth (Extend inner variable value) = 1 + depth inner
depth (Table variables rows) = 1

-- the depth of the deepest expression in the operators
abbrev pub deepest_expr : Algebra → ℕ
deepest_expr (Bgp patterns) = 0
deepest_expr (Join left right) = max (deepest_expr left) (deepest_expr right)
deepest_expr (LeftJoin left right condition) = max (max (deepest_expr left) (deepest_expr right)) (condition_depth condition)
deepest_expr (algebra.Minus left right) = max (deepest_expr left) (deepest_expr right)
deepest_expr (Union left right) = max (deepest_expr left) (deepest_expr right)
deepest_expr (Filter condition inner) = max (deepest_expr inner) (expr_depth condition)
deepest_expr (Extend inner variable value) = max (deepest_expr inner) (expr_depth value)
deepest_expr (Table variables rows) = 0

-- 1 for the table, and for each row 1 and 1 for each cell, also an empty one
abbrev pub table_weight : ℕ → ℕ → ℕ
table_weight columns rows = 1 + rows * (1 + columns)

-- 4 for each triple pattern, nothing more for a basic graph pattern, and 1 for each other operator, table, row, cell and node of
-- an expression
abbrev pub weight : Algebra → ℕ
weight (Bgp patterns) = 4 * length patterns
weight (Join left right) = 1 + (weight left + weight right)
weight (LeftJoin left right condition) = 1 + ((weight left + weight right) + condition_weight condition)
weight (algebra.Minus left right) = 1 + (weight left + weight right)
weight (Union left right) = 1 + (weight left + weight right)
weight (Filter condition inner) = 1 + (weight inner + expr_weight condition)
weight (Extend inner variable value) = 1 + (weight inner + expr_weight value)
weight (Table variables rows) = table_weight (length variables) (length rows)

-- the expressions of a query that stand outside its group: of items, keys, HAVING and ORDER BY
abbrev pub outside_group : Query → List Expr
outside_group q = item_values q.items ++ (map (λ (key : GroupKey). key.value) q.keys ++ (q.having ++ map (λ (key : OrderKey). key.value) q.order))

-- the depth of the deepest, and the weight of all
abbrev pub deepest_among : List Expr → ℕ
deepest_among [] = 0
deepest_among (first ∷ rest) = max (expr_depth first) (deepest_among rest)

abbrev pub weight_among : List Expr → ℕ
weight_among [] = 0
weight_among (first ∷ rest) = expr_weight first + weight_among rest

-- the greatest depth in a query: of its operators, and of each expression by itself; at most 100 is accepted
abbrev pub query_depth : Query → ℕ
query_depth q = max (depth (translation q)) (max (deepest_expr (translation q)) (deepest_among (outside_group q)))

-- what a query weighs, with all its expressions; at most 4,000 is accepted
abbrev pub query_weight : Query → ℕ
query_weight q = weight (translation q) + weight_among (outside_group q)
