-- What is of the grammar of expressions takes symbols.
use Rattle.std.proofs.Common.{◌<◌, ◌≤◌, Bool, List, length, arith}
use Rattle.sparql_tree.specs.Exprs.{Expr}
use Rattle.sparql_tree.specs.declared.symbol.Symbol.{Symbol}
use Rattle.sparql_tree.specs.Expressions.{IsDistinct, distinct, not_distinct, IsExpr, or, OrTail, or_end, or_more, IsAnd, and, AndTail, and_end, and_more, IsRel, rel_one, rel_compare, rel_in, rel_not_in, IsList, list_none, list_some, ListTail, list_end, list_more, IsSum, sum, SumTail, sum_end, sum_plus, sum_minus, IsProduct, product, ProductTail, product_end, product_times, product_over, IsUnary, bare, not, plus, minus, IsAtom, constant, variable, parens, called, aggregated, IsCall, call, bound, IsAggregate, count_all, aggregate}
use Rattle.sparql_grammar.proofs.Steps.{is-shorter, holds-shorter}
use Rattle.sparql_grammar.proofs.TermLaws.{term-shorter}

pub distinct-shorter : {ts rest : List Symbol} {once : Bool} → IsDistinct ts once rest → length rest ≤ length ts
distinct-shorter (distinct i) = omega (arith, is-shorter i)
distinct-shorter not_distinct = omega arith

mutual
  pub expr-shorter : {b : Bool} {ts rest : List Symbol} {a : Expr} → IsExpr b ts a rest → length rest < length ts
  expr-shorter (or h k) = omega (arith, and-shorter h, or_tail-shorter k)

  pub or_tail-shorter : {b : Bool} {ts rest : List Symbol} {a : List Expr} → OrTail b ts a rest → length rest ≤ length ts
  or_tail-shorter or_end = omega (arith)
  or_tail-shorter (or_more i h k) = omega (arith, is-shorter i, and-shorter h, or_tail-shorter k)

  pub and-shorter : {b : Bool} {ts rest : List Symbol} {a : Expr} → IsAnd b ts a rest → length rest < length ts
  and-shorter (and h k) = omega (arith, rel-shorter h, and_tail-shorter k)

  pub and_tail-shorter : {b : Bool} {ts rest : List Symbol} {a : List Expr} → AndTail b ts a rest → length rest ≤ length ts
  and_tail-shorter and_end = omega (arith)
  and_tail-shorter (and_more i h k) = omega (arith, is-shorter i, rel-shorter h, and_tail-shorter k)

  pub rel-shorter : {b : Bool} {ts rest : List Symbol} {a : Expr} → IsRel b ts a rest → length rest < length ts
  rel-shorter (rel_one h) = omega (arith, sum-shorter h)
  rel-shorter (rel_compare h i e k) = omega (arith, sum-shorter h, is-shorter i, sum-shorter k)
  rel-shorter (rel_in h i k) = omega (arith, sum-shorter h, is-shorter i, list-shorter k)
  rel-shorter (rel_not_in h i j k) = omega (arith, sum-shorter h, is-shorter i, is-shorter j, list-shorter k)

  pub list-shorter : {b : Bool} {ts rest : List Symbol} {a : List Expr} → IsList b ts a rest → length rest < length ts
  list-shorter (list_none i j) = omega (arith, is-shorter i, is-shorter j)
  list-shorter (list_some i h k j) = omega (arith, is-shorter i, expr-shorter h, list_tail-shorter k, is-shorter j)

  pub list_tail-shorter : {b : Bool} {ts rest : List Symbol} {a : List Expr} → ListTail b ts a rest → length rest ≤ length ts
  list_tail-shorter list_end = omega (arith)
  list_tail-shorter (list_more i h k) = omega (arith, is-shorter i, expr-shorter h, list_tail-shorter k)

  pub sum-shorter : {b : Bool} {ts rest : List Symbol} {a : Expr} → IsSum b ts a rest → length rest < length ts
  sum-shorter (sum h k) = omega (arith, product-shorter h, sum_tail-shorter k)

  pub sum_tail-shorter : {b : Bool} {ts rest : List Symbol} {a : List (Bool × Expr)} → SumTail b ts a rest → length rest ≤ length ts
  sum_tail-shorter sum_end = omega (arith)
  sum_tail-shorter (sum_plus i h k) = omega (arith, is-shorter i, product-shorter h, sum_tail-shorter k)
  sum_tail-shorter (sum_minus i h k) = omega (arith, is-shorter i, product-shorter h, sum_tail-shorter k)

  pub product-shorter : {b : Bool} {ts rest : List Symbol} {a : Expr} → IsProduct b ts a rest → length rest < length ts
  product-shorter (product h k) = omega (arith, unary-shorter h, product_tail-shorter k)

  pub product_tail-shorter : {b : Bool} {ts rest : List Symbol} {a : List (Bool × Expr)} → ProductTail b ts a rest → length rest ≤ length ts
  product_tail-shorter product_end = omega (arith)
  product_tail-shorter (product_times i h k) = omega (arith, is-shorter i, unary-shorter h, product_tail-shorter k)
  product_tail-shorter (product_over i h k) = omega (arith, is-shorter i, unary-shorter h, product_tail-shorter k)

  pub unary-shorter : {b : Bool} {ts rest : List Symbol} {a : Expr} → IsUnary b ts a rest → length rest < length ts
  unary-shorter (bare h) = omega (arith, atom-shorter h)
  unary-shorter (not i h) = omega (arith, is-shorter i, atom-shorter h)
  unary-shorter (plus i e h) = omega (arith, is-shorter i, atom-shorter h)
  unary-shorter (minus i e h) = omega (arith, is-shorter i, atom-shorter h)

  pub atom-shorter : {b : Bool} {ts rest : List Symbol} {a : Expr} → IsAtom b ts a rest → length rest < length ts
  atom-shorter (constant h) = omega (arith, term-shorter h)
  atom-shorter (variable h) = omega (arith, holds-shorter h)
  atom-shorter (parens i h j) = omega (arith, is-shorter i, expr-shorter h, is-shorter j)
  atom-shorter (called h) = omega (arith, call-shorter h)
  atom-shorter (aggregated h) = omega (arith, aggregate-shorter h)

  pub call-shorter : {b : Bool} {ts rest : List Symbol} {a : Expr} → IsCall b ts a rest → length rest < length ts
  call-shorter (call i h e) = omega (arith, is-shorter i, list-shorter h)
  call-shorter (bound i j h k) = omega (arith, is-shorter i, is-shorter j, holds-shorter h, is-shorter k)

  pub aggregate-shorter : {ts rest : List Symbol} {a : Expr} → IsAggregate ts a rest → length rest < length ts
  aggregate-shorter (count_all i j d k m) = omega (arith, is-shorter i, is-shorter j, distinct-shorter d, is-shorter k, is-shorter m)
  aggregate-shorter (aggregate i j d h m) = omega (arith, is-shorter i, is-shorter j, distinct-shorter d, expr-shorter h, is-shorter m)
