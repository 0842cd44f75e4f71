-- Expressions of the query language, apart from where they lie in memory (SPARQL 1.1, 17 and 19.8).
use Rattle.std.specs.Prelude.{Bool, List, [], ◌∷◌}
use Rattle.term_core.specs.declared.term.Term.{Term}
use Rattle.term_core.specs.Mappings.{Name}
use Rattle.sparql_tree.specs.declared.words.AggregateKind.{AggregateKind}
use Rattle.sparql_tree.specs.declared.words.CompareOp.{CompareOp}
use Rattle.sparql_tree.specs.declared.words.Function.{Function}

mutual
  -- an expression (SPARQL 1.1 19.8, Expression); a chain of operators of one level is one node
  pub data Expr : Type 0 where
    Var : (name : Name) → Expr
    Const : (term : Term) → Expr
    Or : (parts : Exprs) → Expr
    And : (parts : Exprs) → Expr
    Not : (value : Expr) → Expr
    Plus : (value : Expr) → Expr
    Minus : (value : Expr) → Expr
    Compare : (op : CompareOp) (left right : Expr) → Expr
    OneOf : (left : Expr) (items : Exprs) (negated : Bool) → Expr
    Sum : (first : Expr) (rest : Operands) → Expr
    Product : (first : Expr) (rest : Operands) → Expr
    Call : (function : Function) (arguments : Exprs) → Expr
    Aggregate : (kind : AggregateKind) (distinct : Bool) (argument : Expr) → Expr
    -- an aggregate of whole solutions, as COUNT(*)
    AggregateAll : (kind : AggregateKind) (distinct : Bool) → Expr

  -- a list of expressions
  pub data Exprs : Type 0 where
    EndOfExprs : Exprs
    ThenExpr : (first : Expr) (rest : Exprs) → Exprs

  -- further operands of a sum or a product; one that is inverse is subtracted, or divided by
  pub data Operands : Type 0 where
    EndOfOperands : Operands
    ThenOperand : (inverse : Bool) (value : Expr) (rest : Operands) → Operands

-- the expressions of a list
abbrev pub exprs : List Expr → Exprs
exprs [] = EndOfExprs
exprs (first ∷ rest) = ThenExpr first (exprs rest)

-- the operands of a list, each with whether it is inverse
abbrev pub operands : List (Bool × Expr) → Operands
operands [] = EndOfOperands
operands (first ∷ rest) = ThenOperand first.0 first.1 (operands rest)
