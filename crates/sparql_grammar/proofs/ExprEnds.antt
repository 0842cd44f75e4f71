-- How an expression begins, and what ends each level.
use Rattle.std.proofs.Common.{◌≡◌, ℕ, ◌<◌, ◌≤◌, Bool, true, false, List, Option, Some, None, refl, sym, subst, ap, arith}
use Rattle.term_core.specs.declared.term.Term.{Term}
use Rattle.sparql_tree.specs.Exprs.{Expr}
use Rattle.sparql_tree.specs.declared.words.CompareOp.{CompareOp}
use Rattle.sparql_tree.specs.declared.symbol.Shape.{Shape}
use Rattle.sparql_tree.specs.declared.symbol.Shape.TheVariants as s
use Rattle.sparql_tree.specs.declared.symbol.Symbol.{Symbol}
use Rattle.sparql_tree.specs.Heads.{Is}
use Rattle.sparql_tree.specs.Heads.{head}
use Rattle.sparql_tree.specs.Terms.{IsNumber, IsTerm}
use Rattle.sparql_tree.specs.Terms as terms
use Rattle.sparql_tree.specs.Expressions.{IsExpr, or, OrTail, or_end, or_more, IsAnd, and, AndTail, and_end, and_more, IsRel, rel_one, rel_compare, rel_in, rel_not_in, ListTail, list_end, list_more, IsSum, sum, SumTail, sum_end, sum_plus, sum_minus, IsProduct, product, ProductTail, product_end, product_times, product_over, IsUnary, bare, not, plus, minus, IsAtom, constant, variable, parens, called, aggregated, IsCall, call, bound, IsAggregate, count_all, aggregate, op_of, begins_number}
use Rattle.sparql_grammar.proofs.Steps.{is-head, holds-head}
use Rattle.sparql_grammar.proofs.TermLaws.{ends_string}

-- an expression begins here
abbrev pub begins_expr : Option Shape → Bool
begins_expr (Some s.Var) = true
begins_expr (Some s.Iri) = true
begins_expr (Some s.Quoted) = true
begins_expr (Some s.Integer) = true
begins_expr (Some s.Decimal) = true
begins_expr (Some s.Boolean) = true
begins_expr (Some s.Plus) = true
begins_expr (Some s.Minus) = true
begins_expr (Some s.Bang) = true
begins_expr (Some s.Open) = true
begins_expr (Some (s.Function function)) = true
begins_expr (Some (s.Aggregate kind)) = true
begins_expr o = false

pub number-begins : {sign : List ℕ} {ts rest : List Symbol} {a : Term} → IsNumber sign ts a rest → begins_number (head ts) ≡ true
number-begins (terms.integer h) = ap begins_number (holds-head h)
number-begins (terms.decimal h) = ap begins_number (holds-head h)

number-begins_expr : {sign : List ℕ} {ts rest : List Symbol} {a : Term} → IsNumber sign ts a rest → begins_expr (head ts) ≡ true
number-begins_expr (terms.integer h) = ap begins_expr (holds-head h)
number-begins_expr (terms.decimal h) = ap begins_expr (holds-head h)

term-begins : {ts rest : List Symbol} {a : Term} → IsTerm ts a rest → begins_expr (head ts) ≡ true
term-begins (terms.iri h) = ap begins_expr (holds-head h)
term-begins (terms.plain h) = ap begins_expr (holds-head h)
term-begins (terms.tagged h k) = ap begins_expr (holds-head h)
term-begins (terms.typed h k m other) = ap begins_expr (holds-head h)
term-begins (terms.number h) = number-begins_expr h
term-begins (terms.plus i h) = ap begins_expr (is-head i)
term-begins (terms.minus i h) = ap begins_expr (is-head i)
term-begins (terms.boolean h) = ap begins_expr (holds-head h)

call-begins : {b : Bool} {ts rest : List Symbol} {a : Expr} → IsCall b ts a rest → begins_expr (head ts) ≡ true
call-begins (call i h e) = ap begins_expr (is-head i)
call-begins (bound i j h k) = ap begins_expr (is-head i)

aggregate-begins : {ts rest : List Symbol} {a : Expr} → IsAggregate ts a rest → begins_expr (head ts) ≡ true
aggregate-begins (count_all i j d k m) = ap begins_expr (is-head i)
aggregate-begins (aggregate i j d h m) = ap begins_expr (is-head i)

atom-begins : {b : Bool} {ts rest : List Symbol} {a : Expr} → IsAtom b ts a rest → begins_expr (head ts) ≡ true
atom-begins (constant h) = term-begins h
atom-begins (variable h) = ap begins_expr (holds-head h)
atom-begins (parens i h j) = ap begins_expr (is-head i)
atom-begins (called h) = call-begins h
atom-begins (aggregated h) = aggregate-begins h

unary-begins : {b : Bool} {ts rest : List Symbol} {a : Expr} → IsUnary b ts a rest → begins_expr (head ts) ≡ true
unary-begins (bare h) = atom-begins h
unary-begins (not i h) = ap begins_expr (is-head i)
unary-begins (plus i e h) = ap begins_expr (is-head i)
unary-begins (minus i e h) = ap begins_expr (is-head i)

product-begins : {b : Bool} {ts rest : List Symbol} {a : Expr} → IsProduct b ts a rest → begins_expr (head ts) ≡ true
product-begins (product h k) = unary-begins h

sum-begins : {b : Bool} {ts rest : List Symbol} {a : Expr} → IsSum b ts a rest → begins_expr (head ts) ≡ true
sum-begins (sum h k) = product-begins h

rel-begins : {b : Bool} {ts rest : List Symbol} {a : Expr} → IsRel b ts a rest → begins_expr (head ts) ≡ true
rel-begins (rel_one h) = sum-begins h
rel-begins (rel_compare h i e k) = sum-begins h
rel-begins (rel_in h i k) = sum-begins h
rel-begins (rel_not_in h i j k) = sum-begins h

and-begins : {b : Bool} {ts rest : List Symbol} {a : Expr} → IsAnd b ts a rest → begins_expr (head ts) ≡ true
and-begins (and h k) = rel-begins h

pub expr-begins : {b : Bool} {ts rest : List Symbol} {a : Expr} → IsExpr b ts a rest → begins_expr (head ts) ≡ true
expr-begins (or h k) = and-begins h

-- how early a level ends before the symbol
abbrev pub binds : Shape → ℕ
binds s.Or = 1
binds s.And = 2
binds s.In = 3
binds s.Not = 3
binds s.Equal = 3
binds s.Unequal = 3
binds s.Less = 3
binds s.Greater = 3
binds s.AtMost = 3
binds s.AtLeast = 3
binds s.Plus = 4
binds s.Minus = 4
binds s.Star = 5
binds s.Slash = 5
binds s.Tag = 6
binds s.Typed = 6
binds shape = 0

-- no level from this one on goes on here
abbrev pub StopsAt : ℕ → Option Shape → Type 0
StopsAt level None = Unit {0}
StopsAt level (Some shape) = binds shape < level

abbrev pub Stops : ℕ → List Symbol → Type 0
Stops level ts = StopsAt level (head ts)

later : (m n : ℕ) (o : Option Shape) → m ≤ n → StopsAt m o → StopsAt n o
later m n None le h = tt
later m n (Some shape) le h = omega arith

pub stops-later : (m n : ℕ) (ts : List Symbol) → m ≤ n → Stops m ts → Stops n ts
stops-later m n ts = later m n (head ts)

pub is-stops : (level : ℕ) {shape : Shape} {ts us : List Symbol} → Is shape ts us → binds shape < level → Stops level ts
is-stops level i h = subst (StopsAt level) (sym (is-head i)) h

pub or_tail-stops : {b : Bool} {ts rest : List Symbol} {xs : List Expr} → OrTail b ts xs rest → Stops 1 rest → Stops 2 ts
or_tail-stops {ts = ts} or_end h = stops-later 1 2 ts (omega arith) h
or_tail-stops (or_more i k m) h = is-stops 2 i (omega arith)

pub and_tail-stops : {b : Bool} {ts rest : List Symbol} {xs : List Expr} → AndTail b ts xs rest → Stops 2 rest → Stops 3 ts
and_tail-stops {ts = ts} and_end h = stops-later 2 3 ts (omega arith) h
and_tail-stops (and_more i k m) h = is-stops 3 i (omega arith)

pub sum_tail-stops : {b : Bool} {ts rest : List Symbol} {xs : List (Bool × Expr)} → SumTail b ts xs rest → Stops 4 rest → Stops 5 ts
sum_tail-stops {ts = ts} sum_end h = stops-later 4 5 ts (omega arith) h
sum_tail-stops (sum_plus i k m) h = is-stops 5 i (omega arith)
sum_tail-stops (sum_minus i k m) h = is-stops 5 i (omega arith)

pub product_tail-stops : {b : Bool} {ts rest : List Symbol} {xs : List (Bool × Expr)} → ProductTail b ts xs rest → Stops 5 rest → Stops 6 ts
product_tail-stops {ts = ts} product_end h = stops-later 5 6 ts (omega arith) h
product_tail-stops (product_times i k m) h = is-stops 6 i (omega arith)
product_tail-stops (product_over i k m) h = is-stops 6 i (omega arith)

pub list_tail-stops : {b : Bool} {ts us rest : List Symbol} {xs : List Expr} → ListTail b ts xs us → Is s.Close us rest → Stops 1 ts
list_tail-stops list_end i = is-stops 1 i (omega arith)
list_tail-stops (list_more j k m) i = is-stops 1 j (omega arith)

-- the sign of a comparison ends a sum
pub op-stops : (shape : Shape) (op : CompareOp) → op_of shape ≡ Some op → binds shape < 4
op-stops s.Equal op e = omega arith
op-stops s.Unequal op e = omega arith
op-stops s.Less op e = omega arith
op-stops s.Greater op e = omega arith
op-stops s.AtMost op e = omega arith
op-stops s.AtLeast op e = omega arith
op-stops shape op e = absurd cc

pub string-stops : (o : Option Shape) → StopsAt 6 o → ends_string o ≡ true
string-stops (Some s.Tag) h = absurd (omega arith)
string-stops (Some s.Typed) h = absurd (omega arith)
string-stops o h = refl
