-- Operators of the algebra as a tree, apart from where they lie in memory (SPARQL 1.1, 18.2 and 18.5).
use Rattle.std.specs.Prelude.{Bool, true, false, ◌&&◌, ◌||◌, List, Option}
use Rattle.term_core.specs.declared.pattern.Pattern.{Pattern}
use Rattle.term_core.specs.Mappings.{Name, Row}
use Rattle.sparql_tree.specs.Exprs.{Expr}

-- an operator over the solutions of others (SPARQL 1.1, 18.2)
pub data Algebra : Type 0 where
  Bgp : (patterns : List Pattern) → Algebra
  Join : (left right : Algebra) → Algebra
  -- without a condition it is one that is always true
  LeftJoin : (left right : Algebra) (condition : Option Expr) → Algebra
  Minus : (left right : Algebra) → Algebra
  Union : (left right : Algebra) → Algebra
  Filter : (condition : Expr) (inner : Algebra) → Algebra
  Extend : (inner : Algebra) (variable : Name) (value : Expr) → Algebra
  -- the solutions of VALUES (SPARQL 1.1, 10.2)
  Table : (variables : List Name) (rows : List Row) → Algebra

-- whether it is a basic graph pattern
abbrev pub is_bgp : Algebra → Bool
is_bgp (Bgp patterns) = true
is_bgp a = false

-- whether a server evaluates it page by page: operators that need no solution but the one at hand
abbrev pub is_server : Algebra → Bool
is_server (Bgp patterns) = true
is_server (Table variables rows) = true
is_server (Join left right) = (is_server left && is_server right) && (is_bgp left || is_bgp right)
is_server (Union left right) = is_server left && is_server right
is_server (Filter condition inner) = is_server inner
is_server (Extend inner variable value) = is_server inner
is_server (LeftJoin left right condition) = false
is_server (Minus left right) = false
