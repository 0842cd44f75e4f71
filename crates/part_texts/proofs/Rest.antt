-- What stands behind an expression that is read is part of the symbols: their values can be written, those of labels too.
use Rattle.std.proofs.Common.{ℕ, Bool, List, [], ◌∷◌}
use Rattle.sparql_tree.specs.Exprs.{Expr}
use Rattle.sparql_tree.specs.declared.symbol.Shape.{Shape}
use Rattle.sparql_tree.specs.declared.symbol.Shape.TheVariants as shapes
use Rattle.sparql_tree.specs.declared.symbol.Symbol.{Symbol}
use Rattle.term_core.specs.declared.term.Term.{Term}
use Rattle.sparql_tree.specs.Heads.{Is, is, IsHead, holds}
use Rattle.sparql_tree.specs.Terms.{IsNumber, integer, decimal, IsTerm}
use Rattle.sparql_tree.specs.Terms as terms_of
use Rattle.sparql_tree.specs.Expressions.{IsDistinct, distinct, not_distinct, IsExpr, or, OrTail, or_end, or_more, IsAnd, and, AndTail, and_end, and_more, IsRel, rel_one, rel_compare, rel_in, rel_not_in, IsList, list_none, list_some, ListTail, list_end, list_more, IsSum, sum, SumTail, sum_end, sum_plus, sum_minus, IsProduct, product, ProductTail, product_end, product_times, product_over, IsUnary, bare, not, plus, minus, IsAtom, constant, variable, parens, called, aggregated, IsCall, call, bound, IsAggregate, count_all, aggregate}
use Rattle.sparql_print.specs.SpelledSymbols.{IsSpelledValue, AreSpelledSymbols}
use Rattle.part_texts.proofs.Forms.{IsWrittenLabel}

-- a label's value can be written; others may have any
abbrev pub IsLabelled : Shape → List ℕ → Type 0
IsLabelled shapes.Blank label = IsWrittenLabel label
IsLabelled shape value = Unit {0}

abbrev pub AreLabelled : List Symbol → Type 0
AreLabelled [] = Unit {0}
AreLabelled (first ∷ rest) = IsLabelled first.shape first.value × AreLabelled rest

-- all of their values can be written
abbrev pub AreWritten : List Symbol → Type 0
AreWritten ts = AreSpelledSymbols ts × AreLabelled ts

pub next : {shape : Shape} {ts rest : List Symbol} → Is shape ts rest → AreWritten ts → AreWritten rest
next is k = (k.0.1, k.1.1)

pub head-next : {shape : Shape} {value : List ℕ} {ts rest : List Symbol} → IsHead shape value ts rest → AreWritten ts
    → IsSpelledValue shape value × IsLabelled shape value × AreWritten rest
head-next holds k = (k.0.0, k.1.0, (k.0.1, k.1.1))

-- ---- terms

number-rest : {sign : List ℕ} {ts rest : List Symbol} {term : Term} → IsNumber sign ts term rest → AreWritten ts → AreWritten rest
number-rest (integer i) k = (head-next i k).2
number-rest (decimal i) k = (head-next i k).2

pub term-rest : {ts rest : List Symbol} {term : Term} → IsTerm ts term rest → AreWritten ts → AreWritten rest
term-rest (terms_of.iri i) k = (head-next i k).2
term-rest (terms_of.plain i) k = (head-next i k).2
term-rest (terms_of.tagged i j) k = (head-next j (head-next i k).2).2
term-rest (terms_of.typed i j m other) k = (head-next m (next j (head-next i k).2)).2
term-rest (terms_of.number h) k = number-rest h k
term-rest (terms_of.plus i h) k = number-rest h (next i k)
term-rest (terms_of.minus i h) k = number-rest h (next i k)
term-rest (terms_of.boolean i) k = (head-next i k).2

-- ---- expressions

distinct-rest : {d : Bool} {ts rest : List Symbol} → IsDistinct ts d rest → AreWritten ts → AreWritten rest
distinct-rest (distinct i) k = next i k
distinct-rest not_distinct k = k

mutual
  pub expr-rest : {b : Bool} {ts rest : List Symbol} {a : Expr} → IsExpr b ts a rest → AreWritten ts → AreWritten rest
  expr-rest (or h m) k = or_tail-rest m (and-rest h k)

  or_tail-rest : {b : Bool} {ts rest : List Symbol} {xs : List Expr} → OrTail b ts xs rest → AreWritten ts → AreWritten rest
  or_tail-rest or_end k = k
  or_tail-rest (or_more i h m) k = or_tail-rest m (and-rest h (next i k))

  and-rest : {b : Bool} {ts rest : List Symbol} {a : Expr} → IsAnd b ts a rest → AreWritten ts → AreWritten rest
  and-rest (and h m) k = and_tail-rest m (rel-rest h k)

  and_tail-rest : {b : Bool} {ts rest : List Symbol} {xs : List Expr} → AndTail b ts xs rest → AreWritten ts → AreWritten rest
  and_tail-rest and_end k = k
  and_tail-rest (and_more i h m) k = and_tail-rest m (rel-rest h (next i k))

  rel-rest : {b : Bool} {ts rest : List Symbol} {a : Expr} → IsRel b ts a rest → AreWritten ts → AreWritten rest
  rel-rest (rel_one h) k = sum-rest h k
  rel-rest (rel_compare h i e j) k = sum-rest j (next i (sum-rest h k))
  rel-rest (rel_in h i j) k = list-rest j (next i (sum-rest h k))
  rel-rest (rel_not_in h i l j) k = list-rest j (next l (next i (sum-rest h k)))

  list-rest : {b : Bool} {ts rest : List Symbol} {xs : List Expr} → IsList b ts xs rest → AreWritten ts → AreWritten rest
  list-rest (list_none i j) k = next j (next i k)
  list-rest (list_some i h m j) k = next j (list_tail-rest m (expr-rest h (next i k)))

  list_tail-rest : {b : Bool} {ts rest : List Symbol} {xs : List Expr} → ListTail b ts xs rest → AreWritten ts → AreWritten rest
  list_tail-rest list_end k = k
  list_tail-rest (list_more i h m) k = list_tail-rest m (expr-rest h (next i k))

  sum-rest : {b : Bool} {ts rest : List Symbol} {a : Expr} → IsSum b ts a rest → AreWritten ts → AreWritten rest
  sum-rest (sum h m) k = sum_tail-rest m (product-rest h k)

  sum_tail-rest : {b : Bool} {ts rest : List Symbol} {xs : List (Bool × Expr)} → SumTail b ts xs rest → AreWritten ts → AreWritten rest
  sum_tail-rest sum_end k = k
  sum_tail-rest (sum_plus i h m) k = sum_tail-rest m (product-rest h (next i k))
  sum_tail-rest (sum_minus i h m) k = sum_tail-rest m (product-rest h (next i k))

  product-rest : {b : Bool} {ts rest : List Symbol} {a : Expr} → IsProduct b ts a rest → AreWritten ts → AreWritten rest
  product-rest (product h m) k = product_tail-rest m (unary-rest h k)

  product_tail-rest : {b : Bool} {ts rest : List Symbol} {xs : List (Bool × Expr)} → ProductTail b ts xs rest → AreWritten ts → AreWritten rest
  product_tail-rest product_end k = k
  product_tail-rest (product_times i h m) k = product_tail-rest m (unary-rest h (next i k))
  product_tail-rest (product_over i h m) k = product_tail-rest m (unary-rest h (next i k))

  unary-rest : {b : Bool} {ts rest : List Symbol} {a : Expr} → IsUnary b ts a rest → AreWritten ts → AreWritten rest
  unary-rest (bare h) k = atom-rest h k
  unary-rest (not i h) k = atom-rest h (next i k)
  unary-rest (plus i e h) k = atom-rest h (next i k)
  unary-rest (minus i e h) k = atom-rest h (next i k)

  atom-rest : {b : Bool} {ts rest : List Symbol} {a : Expr} → IsAtom b ts a rest → AreWritten ts → AreWritten rest
  atom-rest (constant h) k = term-rest h k
  atom-rest (variable i) k = (head-next i k).2
  atom-rest (parens i h j) k = next j (expr-rest h (next i k))
  atom-rest (called h) k = call-rest h k
  atom-rest (aggregated h) k = aggregate-rest h k

  call-rest : {b : Bool} {ts rest : List Symbol} {a : Expr} → IsCall b ts a rest → AreWritten ts → AreWritten rest
  call-rest (call i h e) k = list-rest h (next i k)
  call-rest (bound i j h m) k = next m (head-next h (next j (next i k))).2

  aggregate-rest : {ts rest : List Symbol} {a : Expr} → IsAggregate ts a rest → AreWritten ts → AreWritten rest
  aggregate-rest (count_all i j d l m) k = next m (next l (distinct-rest d (next j (next i k))))
  aggregate-rest (aggregate i j d h m) k = next m (expr-rest h (distinct-rest d (next j (next i k))))
