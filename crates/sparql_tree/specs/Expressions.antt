-- The grammar of expressions: the symbols from here, the expression, and the symbols behind it
-- (SPARQL 1.1, 19.8, Expression to Aggregate). The truth value says whether aggregates may stand here.
use Rattle.std.specs.Prelude.{◌≡◌, ◌==◌, ℕ, Bool, true, false, List, [], ◌∷◌, length, Option, Some, None}
use Rattle.term_core.specs.Mappings.{Name}
use Rattle.term_core.specs.declared.term.Term.{Term}
use Rattle.sparql_tree.specs.Exprs.{Expr, Var, Const, Or, And, Not, Plus, Minus, Compare, OneOf, Sum, Product, Call, Aggregate, AggregateAll, exprs, operands}
use Rattle.sparql_tree.specs.declared.words.AggregateKind.{AggregateKind}
use Rattle.sparql_tree.specs.declared.words.AggregateKind.TheVariants as kinds
use Rattle.sparql_tree.specs.declared.words.CompareOp.{CompareOp}
use Rattle.sparql_tree.specs.declared.words.CompareOp.TheVariants as ops
use Rattle.sparql_tree.specs.declared.words.Function.{Function}
use Rattle.sparql_tree.specs.declared.words.Function.TheVariants as functions
use Rattle.sparql_tree.specs.declared.symbol.Shape.{Shape}
use Rattle.sparql_tree.specs.declared.symbol.Shape.TheVariants as s
use Rattle.sparql_tree.specs.declared.symbol.Symbol.{Symbol}
use Rattle.sparql_tree.specs.Heads.{head}
use Rattle.sparql_tree.specs.Heads.{Is, IsHead}
use Rattle.sparql_tree.specs.Terms.{IsTerm}

-- a chain of one is that one
abbrev pub or_node : List Expr → Expr
or_node (only ∷ []) = only
or_node parts = Or (exprs parts)

abbrev pub and_node : List Expr → Expr
and_node (only ∷ []) = only
and_node parts = And (exprs parts)

abbrev pub sum_node : Expr → List (Bool × Expr) → Expr
sum_node first [] = first
sum_node first (second ∷ rest) = Sum first (operands (second ∷ rest))

abbrev pub product_node : Expr → List (Bool × Expr) → Expr
product_node first [] = first
product_node first (second ∷ rest) = Product first (operands (second ∷ rest))

-- the sign of a comparison (SPARQL 1.1 19.8, RelationalExpression)
abbrev pub op_of : Shape → Option CompareOp
op_of s.Equal = Some ops.Eq
op_of s.Unequal = Some ops.Ne
op_of s.Less = Some ops.Lt
op_of s.Greater = Some ops.Gt
op_of s.AtMost = Some ops.Le
op_of s.AtLeast = Some ops.Ge
op_of shape = None

-- a number stands here: a sign before it belongs to it (SPARQL 1.1 19.8, NumericLiteralPositive and NumericLiteralNegative)
abbrev pub begins_number : Option Shape → Bool
begins_number (Some s.Integer) = true
begins_number (Some s.Decimal) = true
begins_number o = false

-- whether a function takes so many expressions; BOUND takes a variable and no expression (SPARQL 1.1 19.8, BuiltInCall)
abbrev pub takes : Function → ℕ → Bool
takes functions.Bound n = false
takes functions.SameTerm n = n == 2
takes functions.If n = n == 3
takes functions.Coalesce n = true
takes functions.StrStarts n = n == 2
takes functions.StrEnds n = n == 2
takes functions.Contains n = n == 2
takes functions.Concat n = true
takes function n = n == 1

-- DISTINCT, or nothing (SPARQL 1.1 19.8, Aggregate)
pub data IsDistinct : List Symbol → Bool → List Symbol → Type 0 where
  distinct : {ts rest : List Symbol} → Is s.Distinct ts rest → IsDistinct ts true rest
  not_distinct : {ts : List Symbol} → IsDistinct ts false ts

mutual
  -- and ('||' and)*
  pub data IsExpr : Bool → List Symbol → Expr → List Symbol → Type 0 where
    or : {b : Bool} {ts us rest : List Symbol} {first : Expr} {more : List Expr} → IsAnd b ts first us → OrTail b us more rest
        → IsExpr b ts (or_node (first ∷ more)) rest

  pub data OrTail : Bool → List Symbol → List Expr → List Symbol → Type 0 where
    or_end : {b : Bool} {ts : List Symbol} → OrTail b ts [] ts
    or_more : {b : Bool} {ts us vs rest : List Symbol} {first : Expr} {more : List Expr} → Is s.Or ts us → IsAnd b us first vs → OrTail b vs more rest
        → OrTail b ts (first ∷ more) rest

  -- rel ('&&' rel)*
  pub data IsAnd : Bool → List Symbol → Expr → List Symbol → Type 0 where
    and : {b : Bool} {ts us rest : List Symbol} {first : Expr} {more : List Expr} → IsRel b ts first us → AndTail b us more rest
        → IsAnd b ts (and_node (first ∷ more)) rest

  pub data AndTail : Bool → List Symbol → List Expr → List Symbol → Type 0 where
    and_end : {b : Bool} {ts : List Symbol} → AndTail b ts [] ts
    and_more : {b : Bool} {ts us vs rest : List Symbol} {first : Expr} {more : List Expr} → Is s.And ts us → IsRel b us first vs → AndTail b vs more rest
        → AndTail b ts (first ∷ more) rest

  -- sum (('=' | '!=' | '<' | '>' | '<=' | '>=') sum | 'NOT'? 'IN' list)?
  pub data IsRel : Bool → List Symbol → Expr → List Symbol → Type 0 where
    rel_one : {b : Bool} {ts rest : List Symbol} {a : Expr} → IsSum b ts a rest → IsRel b ts a rest
    rel_compare : {b : Bool} {ts us vs rest : List Symbol} {left right : Expr} {shape : Shape} {op : CompareOp} → IsSum b ts left us → Is shape us vs
        → op_of shape ≡ Some op → IsSum b vs right rest → IsRel b ts (Compare op left right) rest
    rel_in : {b : Bool} {ts us vs rest : List Symbol} {left : Expr} {items : List Expr} → IsSum b ts left us → Is s.In us vs → IsList b vs items rest
        → IsRel b ts (OneOf left (exprs items) false) rest
    rel_not_in : {b : Bool} {ts us vs ws rest : List Symbol} {left : Expr} {items : List Expr} → IsSum b ts left us → Is s.Not us vs → Is s.In vs ws
        → IsList b ws items rest → IsRel b ts (OneOf left (exprs items) true) rest

  -- '(' (expr (',' expr)*)? ')'
  pub data IsList : Bool → List Symbol → List Expr → List Symbol → Type 0 where
    list_none : {b : Bool} {ts us rest : List Symbol} → Is s.Open ts us → Is s.Close us rest → IsList b ts [] rest
    list_some : {b : Bool} {ts us vs ws rest : List Symbol} {first : Expr} {more : List Expr} → Is s.Open ts us → IsExpr b us first vs → ListTail b vs more ws
        → Is s.Close ws rest → IsList b ts (first ∷ more) rest

  pub data ListTail : Bool → List Symbol → List Expr → List Symbol → Type 0 where
    list_end : {b : Bool} {ts : List Symbol} → ListTail b ts [] ts
    list_more : {b : Bool} {ts us vs rest : List Symbol} {first : Expr} {more : List Expr} → Is s.Comma ts us → IsExpr b us first vs → ListTail b vs more rest
        → ListTail b ts (first ∷ more) rest

  -- product (('+' | '-') product)*
  pub data IsSum : Bool → List Symbol → Expr → List Symbol → Type 0 where
    sum : {b : Bool} {ts us rest : List Symbol} {first : Expr} {more : List (Bool × Expr)} → IsProduct b ts first us → SumTail b us more rest
        → IsSum b ts (sum_node first more) rest

  pub data SumTail : Bool → List Symbol → List (Bool × Expr) → List Symbol → Type 0 where
    sum_end : {b : Bool} {ts : List Symbol} → SumTail b ts [] ts
    sum_plus : {b : Bool} {ts us vs rest : List Symbol} {first : Expr} {more : List (Bool × Expr)} → Is s.Plus ts us → IsProduct b us first vs
        → SumTail b vs more rest → SumTail b ts ((false, first) ∷ more) rest
    sum_minus : {b : Bool} {ts us vs rest : List Symbol} {first : Expr} {more : List (Bool × Expr)} → Is s.Minus ts us → IsProduct b us first vs
        → SumTail b vs more rest → SumTail b ts ((true, first) ∷ more) rest

  -- unary (('*' | '/') unary)*
  pub data IsProduct : Bool → List Symbol → Expr → List Symbol → Type 0 where
    product : {b : Bool} {ts us rest : List Symbol} {first : Expr} {more : List (Bool × Expr)} → IsUnary b ts first us → ProductTail b us more rest
        → IsProduct b ts (product_node first more) rest

  pub data ProductTail : Bool → List Symbol → List (Bool × Expr) → List Symbol → Type 0 where
    product_end : {b : Bool} {ts : List Symbol} → ProductTail b ts [] ts
    product_times : {b : Bool} {ts us vs rest : List Symbol} {first : Expr} {more : List (Bool × Expr)} → Is s.Star ts us → IsUnary b us first vs
        → ProductTail b vs more rest → ProductTail b ts ((false, first) ∷ more) rest
    product_over : {b : Bool} {ts us vs rest : List Symbol} {first : Expr} {more : List (Bool × Expr)} → Is s.Slash ts us → IsUnary b us first vs
        → ProductTail b vs more rest → ProductTail b ts ((true, first) ∷ more) rest

  -- ('!' | '+' | '-')? atom
  pub data IsUnary : Bool → List Symbol → Expr → List Symbol → Type 0 where
    bare : {b : Bool} {ts rest : List Symbol} {a : Expr} → IsAtom b ts a rest → IsUnary b ts a rest
    not : {b : Bool} {ts us rest : List Symbol} {a : Expr} → Is s.Bang ts us → IsAtom b us a rest → IsUnary b ts (Not a) rest
    plus : {b : Bool} {ts us rest : List Symbol} {a : Expr} → Is s.Plus ts us → begins_number (head us) ≡ false → IsAtom b us a rest
        → IsUnary b ts (Plus a) rest
    minus : {b : Bool} {ts us rest : List Symbol} {a : Expr} → Is s.Minus ts us → begins_number (head us) ≡ false → IsAtom b us a rest
        → IsUnary b ts (Minus a) rest

  -- term | VAR | '(' expr ')' | call | aggregate
  pub data IsAtom : Bool → List Symbol → Expr → List Symbol → Type 0 where
    constant : {b : Bool} {ts rest : List Symbol} {term : Term} → IsTerm ts term rest → IsAtom b ts (Const term) rest
    variable : {b : Bool} {ts rest : List Symbol} {name : Name} → IsHead s.Var name ts rest → IsAtom b ts (Var name) rest
    parens : {b : Bool} {ts us vs rest : List Symbol} {a : Expr} → Is s.Open ts us → IsExpr b us a vs → Is s.Close vs rest → IsAtom b ts a rest
    called : {b : Bool} {ts rest : List Symbol} {a : Expr} → IsCall b ts a rest → IsAtom b ts a rest
    aggregated : {ts rest : List Symbol} {a : Expr} → IsAggregate ts a rest → IsAtom true ts a rest

  -- a function and its list, or BOUND '(' VAR ')'
  pub data IsCall : Bool → List Symbol → Expr → List Symbol → Type 0 where
    call : {b : Bool} {ts us rest : List Symbol} {function : Function} {arguments : List Expr} → Is (s.Function function) ts us → IsList b us arguments rest
        → takes function (length arguments) ≡ true → IsCall b ts (Call function (exprs arguments)) rest
    bound : {b : Bool} {ts us vs ws rest : List Symbol} {name : Name} → Is (s.Function functions.Bound) ts us → Is s.Open us vs → IsHead s.Var name vs ws
        → Is s.Close ws rest → IsCall b ts (Call functions.Bound (exprs (Var name ∷ []))) rest

  -- COUNT '(' DISTINCT? '*' ')' | (COUNT | SUM | AVG | MIN | MAX) '(' DISTINCT? expr ')', where no aggregate stands inside
  pub data IsAggregate : List Symbol → Expr → List Symbol → Type 0 where
    count_all : {ts us vs ws xs rest : List Symbol} {distinct : Bool} → Is (s.Aggregate kinds.Count) ts us → Is s.Open us vs → IsDistinct vs distinct ws
        → Is s.Star ws xs → Is s.Close xs rest → IsAggregate ts (AggregateAll kinds.Count distinct) rest
    aggregate : {ts us vs ws xs rest : List Symbol} {kind : AggregateKind} {distinct : Bool} {a : Expr} → Is (s.Aggregate kind) ts us → Is s.Open us vs
        → IsDistinct vs distinct ws → IsExpr false ws a xs → Is s.Close xs rest → IsAggregate ts (Aggregate kind distinct a) rest
