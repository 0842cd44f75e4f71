-- What the parts of an expression of a tree are, read off one layer of its derivation.
use Rattle.std.proofs.Common.{◌≡◌, ◌⊎◌, inl, inr, Bool, true, false, List, [], ◌∷◌, length, refl, ap, ◌∙◌}
use Rattle.term_core.specs.Mappings.{Name}
use Rattle.sparql_tree.specs.Exprs.{Expr, Var, Or, And, Not, Plus, Minus, Compare, OneOf, Sum, Product, Call, Aggregate, AggregateAll, Exprs, EndOfExprs, ThenExpr, Operands, EndOfOperands, ThenOperand, exprs, operands}
use Rattle.sparql_tree.specs.declared.words.AggregateKind.TheVariants as kinds
use Rattle.sparql_tree.specs.declared.words.Function.{Function}
use Rattle.sparql_tree.specs.declared.words.Function.TheVariants as functions
use Rattle.sparql_tree.specs.declared.symbol.Symbol.{Symbol}
use Rattle.sparql_tree.specs.Expressions.{IsExpr, or, OrTail, or_end, or_more, IsAnd, and, AndTail, and_end, and_more, IsRel, rel_one, rel_compare, rel_in, rel_not_in, IsList, list_none, list_some, ListTail, list_end, list_more, IsSum, sum, SumTail, sum_end, sum_plus, sum_minus, IsProduct, product, ProductTail, product_end, product_times, product_over, IsUnary, bare, not, plus, minus, IsAtom, constant, variable, parens, called, aggregated, IsCall, call, bound, IsAggregate, count_all, aggregate, takes}
use Rattle.sparql_print.specs.OfTrees.{IsOfTree}

-- the list of expressions, and that of operands
abbrev pub listed : Exprs → List Expr
listed EndOfExprs = []
listed (ThenExpr first rest) = first ∷ listed rest

abbrev pub listed_operands : Operands → List (Bool × Expr)
listed_operands EndOfOperands = []
listed_operands (ThenOperand inverse value rest) = (inverse, value) ∷ listed_operands rest

pub exprs_listed : (parts : Exprs) → exprs (listed parts) ≡ parts
exprs_listed EndOfExprs = refl
exprs_listed (ThenExpr first rest) = ap (ThenExpr first) (exprs_listed rest)

pub listed_exprs : (parts : List Expr) → listed (exprs parts) ≡ parts
listed_exprs [] = refl
listed_exprs (first ∷ rest) = ap (λ xs. first ∷ xs) (listed_exprs rest)

pub operands_listed : (rest : Operands) → operands (listed_operands rest) ≡ rest
operands_listed EndOfOperands = refl
operands_listed (ThenOperand inverse value rest) = ap (ThenOperand inverse value) (operands_listed rest)

-- each is of a tree
abbrev pub Trees : Bool → Exprs → Type 0
Trees b EndOfExprs = Unit {0}
Trees b (ThenExpr first rest) = IsOfTree b first × Trees b rest

abbrev pub OperandTrees : Bool → Operands → Type 0
OperandTrees b EndOfOperands = Unit {0}
OperandTrees b (ThenOperand inverse value rest) = IsOfTree b value × OperandTrees b rest

-- two parts or more
abbrev pub Chain : Bool → Exprs → Type 0
Chain b EndOfExprs = ⊥
Chain b (ThenExpr first EndOfExprs) = ⊥
Chain b (ThenExpr first (ThenExpr second rest)) = Trees b (ThenExpr first (ThenExpr second rest))

-- one operand or more
abbrev pub SomeOperands : Bool → Operands → Type 0
SomeOperands b EndOfOperands = ⊥
SomeOperands b rest = OperandTrees b rest

-- as many as the function takes, or the variable of BOUND
abbrev pub Arguments : Bool → Function → Exprs → Type 0
Arguments b function arguments = (Trees b arguments × (takes function (length (listed arguments)) ≡ true))
    ⊎ ((name : Name) × (function ≡ functions.Bound) × (arguments ≡ exprs (Var name ∷ [])))

abbrev pub Layer : Bool → Expr → Type 0
Layer b (Or parts) = Chain b parts
Layer b (And parts) = Chain b parts
Layer b (Not value) = IsOfTree b value
Layer b (Plus value) = IsOfTree b value
Layer b (Minus value) = IsOfTree b value
Layer b (Compare op left right) = IsOfTree b left × IsOfTree b right
Layer b (OneOf left items negated) = IsOfTree b left × Trees b items
Layer b (Sum first rest) = IsOfTree b first × SomeOperands b rest
Layer b (Product first rest) = IsOfTree b first × SomeOperands b rest
Layer b (Call function arguments) = Arguments b function arguments
Layer b (Aggregate kind distinct argument) = (b ≡ true) × IsOfTree false argument
Layer b (AggregateAll kind distinct) = (b ≡ true) × (kind ≡ kinds.Count)
Layer b _ = Unit {0}

expr-tree : {b : Bool} {ts rest : List Symbol} {a : Expr} → IsExpr b ts a rest → IsOfTree b a
expr-tree {ts = ts} {rest = rest} h = record { tokens = ts; rest = rest; spelled = h }

and-tree : {b : Bool} {ts rest : List Symbol} {a : Expr} → IsAnd b ts a rest → IsOfTree b a
and-tree h = expr-tree (or h or_end)

rel-tree : {b : Bool} {ts rest : List Symbol} {a : Expr} → IsRel b ts a rest → IsOfTree b a
rel-tree h = and-tree (and h and_end)

sum-tree : {b : Bool} {ts rest : List Symbol} {a : Expr} → IsSum b ts a rest → IsOfTree b a
sum-tree h = rel-tree (rel_one h)

product-tree : {b : Bool} {ts rest : List Symbol} {a : Expr} → IsProduct b ts a rest → IsOfTree b a
product-tree h = sum-tree (sum h sum_end)

unary-tree : {b : Bool} {ts rest : List Symbol} {a : Expr} → IsUnary b ts a rest → IsOfTree b a
unary-tree h = product-tree (product h product_end)

atom-tree : {b : Bool} {ts rest : List Symbol} {a : Expr} → IsAtom b ts a rest → IsOfTree b a
atom-tree h = unary-tree (bare h)

or-trees : {b : Bool} {ts rest : List Symbol} {xs : List Expr} → OrTail b ts xs rest → Trees b (exprs xs)
or-trees or_end = tt
or-trees (or_more i h k) = (and-tree h, or-trees k)

and-trees : {b : Bool} {ts rest : List Symbol} {xs : List Expr} → AndTail b ts xs rest → Trees b (exprs xs)
and-trees and_end = tt
and-trees (and_more i h k) = (rel-tree h, and-trees k)

list_tail-trees : {b : Bool} {ts rest : List Symbol} {xs : List Expr} → ListTail b ts xs rest → Trees b (exprs xs)
list_tail-trees list_end = tt
list_tail-trees (list_more i h k) = (expr-tree h, list_tail-trees k)

list-trees : {b : Bool} {ts rest : List Symbol} {xs : List Expr} → IsList b ts xs rest → Trees b (exprs xs)
list-trees (list_none i j) = tt
list-trees (list_some i h k j) = (expr-tree h, list_tail-trees k)

sum-trees : {b : Bool} {ts rest : List Symbol} {xs : List (Bool × Expr)} → SumTail b ts xs rest → OperandTrees b (operands xs)
sum-trees sum_end = tt
sum-trees (sum_plus i h k) = (product-tree h, sum-trees k)
sum-trees (sum_minus i h k) = (product-tree h, sum-trees k)

product-trees : {b : Bool} {ts rest : List Symbol} {xs : List (Bool × Expr)} → ProductTail b ts xs rest → OperandTrees b (operands xs)
product-trees product_end = tt
product-trees (product_times i h k) = (unary-tree h, product-trees k)
product-trees (product_over i h k) = (unary-tree h, product-trees k)

mutual
  expr-layer : {b : Bool} {ts rest : List Symbol} {a : Expr} → IsExpr b ts a rest → Layer b a
  expr-layer (or h or_end) = and-layer h
  expr-layer (or h (or_more i k m)) = (and-tree h, (and-tree k, or-trees m))

  and-layer : {b : Bool} {ts rest : List Symbol} {a : Expr} → IsAnd b ts a rest → Layer b a
  and-layer (and h and_end) = rel-layer h
  and-layer (and h (and_more i k m)) = (rel-tree h, (rel-tree k, and-trees m))

  rel-layer : {b : Bool} {ts rest : List Symbol} {a : Expr} → IsRel b ts a rest → Layer b a
  rel-layer (rel_one h) = sum-layer h
  rel-layer (rel_compare h i e k) = (sum-tree h, sum-tree k)
  rel-layer (rel_in h i k) = (sum-tree h, list-trees k)
  rel-layer (rel_not_in h i j k) = (sum-tree h, list-trees k)

  sum-layer : {b : Bool} {ts rest : List Symbol} {a : Expr} → IsSum b ts a rest → Layer b a
  sum-layer (sum h sum_end) = product-layer h
  sum-layer (sum h (sum_plus i k m)) = (product-tree h, (product-tree k, sum-trees m))
  sum-layer (sum h (sum_minus i k m)) = (product-tree h, (product-tree k, sum-trees m))

  product-layer : {b : Bool} {ts rest : List Symbol} {a : Expr} → IsProduct b ts a rest → Layer b a
  product-layer (product h product_end) = unary-layer h
  product-layer (product h (product_times i k m)) = (unary-tree h, (unary-tree k, product-trees m))
  product-layer (product h (product_over i k m)) = (unary-tree h, (unary-tree k, product-trees m))

  unary-layer : {b : Bool} {ts rest : List Symbol} {a : Expr} → IsUnary b ts a rest → Layer b a
  unary-layer (bare h) = atom-layer h
  unary-layer (not i h) = atom-tree h
  unary-layer (plus i e h) = atom-tree h
  unary-layer (minus i e h) = atom-tree h

  atom-layer : {b : Bool} {ts rest : List Symbol} {a : Expr} → IsAtom b ts a rest → Layer b a
  atom-layer (constant h) = tt
  atom-layer (variable h) = tt
  atom-layer (parens i h j) = expr-layer h
  atom-layer (called h) = call-layer h
  atom-layer (aggregated h) = aggregate-layer h

  call-layer : {b : Bool} {ts rest : List Symbol} {a : Expr} → IsCall b ts a rest → Layer b a
  call-layer (call {function = function} {arguments = arguments} i h e) = inl (list-trees h, ap (λ xs. takes function (length xs)) (listed_exprs arguments) ∙ e)
  call-layer (bound {name = name} i j h k) = inr (name, refl, refl)

  aggregate-layer : {ts rest : List Symbol} {a : Expr} → IsAggregate ts a rest → Layer true a
  aggregate-layer (count_all i j d k m) = (refl, refl)
  aggregate-layer (aggregate i j d h m) = (refl, expr-tree h)

pub layer_of : {b : Bool} {a : Expr} → IsOfTree b a → Layer b a
layer_of h = expr-layer h.spelled
