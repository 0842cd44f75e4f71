-- What is of the grammar of expressions is found.
use Rattle.std.proofs.Common.{◌≡◌, ℕ, zero, suc, ◌<◌, ◌≤◌, Bool, true, false, List, [], ◌∷◌, ◌++◌, length, Option, Some, None, refl, ap, ◌∙◌, append_assoc, codes, arith}
use Rattle.term_core.specs.declared.term.Term.{Term}
use Rattle.sparql_tree.specs.Exprs.{Expr, Var, Const, Not, Plus, Minus, Compare, OneOf, Call, Aggregate, AggregateAll, exprs}
use Rattle.sparql_tree.specs.declared.words.AggregateKind.{AggregateKind}
use Rattle.sparql_tree.specs.declared.words.AggregateKind.TheVariants as kinds
use Rattle.sparql_tree.specs.declared.words.CompareOp.{CompareOp}
use Rattle.sparql_tree.specs.declared.words.Function.{Function}
use Rattle.sparql_tree.specs.declared.words.Function.TheVariants as functions
use Rattle.sparql_tree.specs.declared.symbol.Shape.{Shape}
use Rattle.sparql_tree.specs.declared.symbol.Shape.TheVariants as s
use Rattle.sparql_tree.specs.declared.symbol.Symbol.{Symbol}
use Rattle.sparql_tree.specs.Heads.{Is, IsHead}
use Rattle.sparql_grammar.specs.Parser.{Parser, ◌>>=◌, ◌>>◌, ◌<<◌, ◌<$>◌, peek, take, more, all_more, close_paren}
use Rattle.sparql_tree.specs.Heads.{head}
use Rattle.sparql_tree.specs.Terms.{IsNumber, IsTerm}
use Rattle.sparql_tree.specs.Terms as terms
use Rattle.sparql_grammar.specs.TermReading.{term}
use Rattle.sparql_grammar.specs.ExprReading as l
use Rattle.sparql_tree.specs.Expressions.{IsDistinct, distinct, not_distinct, IsExpr, or, OrTail, or_end, or_more, IsAnd, and, AndTail, and_end, and_more, IsRel, rel_one, rel_compare, rel_in, rel_not_in, IsList, list_none, list_some, ListTail, list_end, list_more, IsSum, sum, SumTail, sum_end, sum_plus, sum_minus, IsProduct, product, ProductTail, product_end, product_times, product_over, IsUnary, bare, not, plus, minus, IsAtom, constant, variable, parens, called, aggregated, IsCall, call, bound, IsAggregate, count_all, aggregate, or_node, and_node, sum_node, product_node, op_of, begins_number, takes}
use Rattle.sparql_grammar.proofs.Steps.{is-head, is-shorter, holds-head, none_more, Finds, same_found, more-stop, more-step, open-finds, close-finds, name-finds, then-finds, map-finds, take-finds, at-finds, spelled-finds, closed-finds}
use Rattle.sparql_grammar.proofs.TermLaws.{number-finds, term-finds}
use Rattle.sparql_grammar.proofs.ExprShorter.{distinct-shorter, expr-shorter, and-shorter, rel-shorter, sum-shorter, product-shorter, unary-shorter}
use Rattle.sparql_grammar.proofs.ExprEnds.{begins_expr, number-begins, expr-begins, StopsAt, Stops, stops-later, is-stops, or_tail-stops, and_tail-stops, sum_tail-stops, product_tail-stops, list_tail-stops, op-stops, string-stops}

-- ---- one step for each rule

in-finds : {ts us : List Symbol} → Is s.In ts us → Finds l.in_word ts tt us
unfolding l.in_word
in-finds i = at-finds l.in_by (is-head i) (take-finds {q = λ w. Some (tt, w)} i (record { found = refl }))

abbrev pub not_distinct_at : Option Shape → Bool
not_distinct_at (Some s.Distinct) = false
not_distinct_at o = true

pub expr-not_distinct : (o : Option Shape) → begins_expr o ≡ true → not_distinct_at o ≡ true
expr-not_distinct (Some s.Distinct) h = absurd cc
expr-not_distinct o h = refl

pub distinct-finds : {ts us : List Symbol} {once : Bool} → IsDistinct ts once us → not_distinct_at (head us) ≡ true → Finds l.distinct_or_all ts once us
unfolding l.distinct_or_all
distinct-finds (distinct i) h = at-finds l.distinct_by (is-head i) (take-finds {q = λ w. Some (true, w)} i (record { found = refl }))
distinct-finds (not_distinct {ts}) h = record { found = by (head ts) h }
  where
    by : (o : Option Shape) → not_distinct_at o ≡ true → l.distinct_by o ts ≡ Some (false, ts)
    by (Some s.Distinct) e = absurd cc
    by o e = refl

pub bound-finds : {us vs ws rest : List Symbol} {word : List ℕ} → Is s.Open us vs → IsHead s.Var word vs ws → Is s.Close ws rest → Finds l.bound us (Call functions.Bound (exprs (Var word ∷ []))) rest
unfolding l.bound
bound-finds i h j = then-finds _ (open-finds i) (then-finds _ (name-finds h) (then-finds _ (close-finds j) (record { found = refl })))

taken-finds : (function : Function) (arguments : List Expr) (rest : List Symbol) → takes function (length arguments) ≡ true → Finds (l.taken function arguments) rest (Call function (exprs arguments)) rest
taken-finds function arguments rest e = record { found = ap (λ fits. l.taken_if fits function arguments rest) e }

-- a sign that belongs to no number stands here: a term does not begin with it
abbrev signless : Option Shape → Bool
signless (Some s.Bang) = false
signless (Some s.Plus) = false
signless (Some s.Minus) = false
signless o = true

-- a term begins here, and nothing else that is an atom
abbrev is_constant : Option Shape → Bool
is_constant (Some s.Var) = false
is_constant (Some s.Open) = false
is_constant (Some (s.Function function)) = false
is_constant (Some (s.Aggregate kind)) = false
is_constant o = true

number-constant : {sign : List ℕ} {ts rest : List Symbol} {a : Term} → IsNumber sign ts a rest → is_constant (head ts) ≡ true
number-constant (terms.integer h) = ap is_constant (holds-head h)
number-constant (terms.decimal h) = ap is_constant (holds-head h)

term-constant : {ts rest : List Symbol} {a : Term} → IsTerm ts a rest → is_constant (head ts) ≡ true
term-constant (terms.iri h) = ap is_constant (holds-head h)
term-constant (terms.plain h) = ap is_constant (holds-head h)
term-constant (terms.tagged h k) = ap is_constant (holds-head h)
term-constant (terms.typed h k m other) = ap is_constant (holds-head h)
term-constant (terms.number h) = number-constant h
term-constant (terms.plus i h) = ap is_constant (is-head i)
term-constant (terms.minus i h) = ap is_constant (is-head i)
term-constant (terms.boolean h) = ap is_constant (holds-head h)

module _ (p : Bool → Parser Expr) (b : Bool) where
  pub list_none-finds : {ts us rest : List Symbol} → Is s.Open ts us → Is s.Close us rest → Finds (l.list p b) ts [] rest
  unfolding l.list
  list_none-finds i j = then-finds _ (open-finds i) (at-finds (l.list_by p b) (is-head j) (take-finds {q = λ w. Some ([], w)} j (record { found = refl })))

  list_by-first : (us : List Symbol) (o : Option Shape) → begins_expr o ≡ true → l.list_by p b o us ≡ (p b >>= (λ first. l.list_from p b (first ∷ []) << close_paren)) us
  list_by-first us (Some s.Close) e = absurd cc
  list_by-first us o e = refl

  list_some-finds : {ts us vs ws rest : List Symbol} {first : Expr} {all : List Expr} → Is s.Open ts us → begins_expr (head us) ≡ true → Finds (p b) us first vs
      → Finds (l.list_from p b (first ∷ [])) vs all ws → Is s.Close ws rest → Finds (l.list p b) ts all rest
  unfolding l.list
  list_some-finds {us = us} i e h k j = then-finds _ (open-finds i) (record { found = list_by-first us (head us) e ∙ (then-finds (λ first. l.list_from p b (first ∷ []) << close_paren) h (closed-finds k j)).found })

  list_turn-stop : {ts us : List Symbol} → Is s.Close ts us → l.list_turn p b (head ts) ≡ None
  list_turn-stop i = ap (l.list_turn p b) (is-head i)

  call_by-list : (function : Function) (n : ℕ) (us : List Symbol) → takes function n ≡ true → l.call_by p b function us ≡ (l.list p b >>= (λ arguments. l.taken function arguments)) us
  call_by-list functions.Bound n us e = absurd cc
  call_by-list function n us e = refl

  pub call-finds : {us rest : List Symbol} {function : Function} {arguments : List Expr} → Finds (l.list p b) us arguments rest → takes function (length arguments) ≡ true
      → Finds (l.call p b function) us (Call function (exprs arguments)) rest
  unfolding l.call
  call-finds {us = us} {rest = rest} {function = function} {arguments = arguments} h e =
      record { found = call_by-list function (length arguments) us e ∙ (then-finds (λ xs. l.taken function xs) h (taken-finds function arguments rest e)).found }

  pub call_bound-finds : {us rest : List Symbol} {a : Expr} → Finds l.bound us a rest → Finds (l.call p b functions.Bound) us a rest
  unfolding l.call
  call_bound-finds h = record { found = h.found }

  pub count_all-finds : {us vs ws xs rest : List Symbol} {once : Bool} → Is s.Open us vs → Finds l.distinct_or_all vs once ws → Is s.Star ws xs → Is s.Close xs rest
      → Finds (l.aggregate p b kinds.Count) us (AggregateAll kinds.Count once) rest
  unfolding l.aggregate
  count_all-finds {once = once} i d k m = then-finds _ (open-finds i) (then-finds _ d (closed-finds (at-finds (l.counted p b kinds.Count once) (is-head k) (take-finds {q = λ w. Some (AggregateAll kinds.Count once, w)} k (record { found = refl }))) m))

  counted-expr : (kind : AggregateKind) (once : Bool) (us : List Symbol) (o : Option Shape) → begins_expr o ≡ true → l.counted p b kind once o us ≡ (Aggregate kind once <$> p false) us
  counted-expr kind once us (Some s.Star) e = absurd cc
  counted-expr kind once us o e = refl

  pub aggregate-finds : {us vs ws xs rest : List Symbol} {kind : AggregateKind} {once : Bool} {a : Expr} → Is s.Open us vs → Finds l.distinct_or_all vs once ws → begins_expr (head ws) ≡ true → Finds (p false) ws a xs
      → Is s.Close xs rest → Finds (l.aggregate p b kind) us (Aggregate kind once a) rest
  unfolding l.aggregate
  aggregate-finds {ws = ws} {xs = xs} {kind = kind} {once = once} {a = a} i d e h m =
      then-finds _ (open-finds i) (then-finds _ d (closed-finds {q = peek >>= l.counted p b kind once} (record { found = counted-expr kind once ws (head ws) e ∙ (map-finds (Aggregate kind once) h).found }) m))

  atom_by-term : (ts : List Symbol) (o : Option Shape) → is_constant o ≡ true → l.atom_by p b o ts ≡ (Const <$> term) ts
  atom_by-term ts (Some s.Var) e = absurd cc
  atom_by-term ts (Some s.Open) e = absurd cc
  atom_by-term ts (Some (s.Function function)) e = absurd cc
  atom_by-term ts (Some (s.Aggregate kind)) e = absurd cc
  atom_by-term ts o e = refl

  constant-finds : {ts rest : List Symbol} {t : Term} → is_constant (head ts) ≡ true → Finds term ts t rest → Finds (l.atom p b) ts (Const t) rest
  unfolding l.atom
  constant-finds {ts = ts} e h = record { found = atom_by-term ts (head ts) e ∙ (map-finds Const h).found }

  variable-finds : {ts rest : List Symbol} {word : List ℕ} → IsHead s.Var word ts rest → Finds (l.atom p b) ts (Var word) rest
  unfolding l.atom
  variable-finds h = at-finds (l.atom_by p b) (holds-head h) (spelled-finds Var h)

  parens-finds : {ts us vs rest : List Symbol} {a : Expr} → Is s.Open ts us → Finds (p b) us a vs → Is s.Close vs rest → Finds (l.atom p b) ts a rest
  unfolding l.atom
  parens-finds i h j = at-finds (l.atom_by p b) (is-head i) (take-finds i (closed-finds h j))

  called-finds : {ts us rest : List Symbol} {function : Function} {a : Expr} → Is (s.Function function) ts us → Finds (l.call p b function) us a rest → Finds (l.atom p b) ts a rest
  unfolding l.atom
  called-finds i h = at-finds (l.atom_by p b) (is-head i) (take-finds i h)

  unary_by-bare : (ts : List Symbol) (o : Option Shape) → signless o ≡ true → l.unary_by p b o ts ≡ l.atom p b ts
  unary_by-bare ts (Some s.Bang) e = absurd cc
  unary_by-bare ts (Some s.Plus) e = absurd cc
  unary_by-bare ts (Some s.Minus) e = absurd cc
  unary_by-bare ts o e = refl

  bare-plain : {ts rest : List Symbol} {a : Expr} → signless (head ts) ≡ true → Finds (l.atom p b) ts a rest → Finds (l.unary p b) ts a rest
  unfolding l.unary
  bare-plain {ts = ts} e h = record { found = unary_by-bare ts (head ts) e ∙ h.found }

  bare-plus : {ts us rest : List Symbol} {t : Term} → Is s.Plus ts us → IsNumber (codes "+") us t rest → Finds (l.unary p b) ts (Const t) rest
  unfolding l.unary
  bare-plus {us = us} i h = at-finds (l.unary_by p b) (is-head i) (take-finds {q = l.signed p b (codes "+") Plus} i (record { found = ap (λ v. l.signed_by p b (codes "+") Plus v us) (number-begins h) ∙ (map-finds Const (number-finds h)).found }))

  bare-minus : {ts us rest : List Symbol} {t : Term} → Is s.Minus ts us → IsNumber (codes "-") us t rest → Finds (l.unary p b) ts (Const t) rest
  unfolding l.unary
  bare-minus {us = us} i h = at-finds (l.unary_by p b) (is-head i) (take-finds {q = l.signed p b (codes "-") Minus} i (record { found = ap (λ v. l.signed_by p b (codes "-") Minus v us) (number-begins h) ∙ (map-finds Const (number-finds h)).found }))

  bare_number-finds : {sign : List ℕ} {ts rest : List Symbol} {t : Term} {a : Expr} → IsNumber sign ts t rest → Finds (l.atom p b) ts a rest → Finds (l.unary p b) ts a rest
  bare_number-finds (terms.integer h) e = bare-plain (ap signless (holds-head h)) e
  bare_number-finds (terms.decimal h) e = bare-plain (ap signless (holds-head h)) e

  bare_term-finds : {ts rest : List Symbol} {t : Term} → IsTerm ts t rest → Finds (l.atom p b) ts (Const t) rest → Finds (l.unary p b) ts (Const t) rest
  bare_term-finds (terms.iri h) e = bare-plain (ap signless (holds-head h)) e
  bare_term-finds (terms.plain h) e = bare-plain (ap signless (holds-head h)) e
  bare_term-finds (terms.tagged h k) e = bare-plain (ap signless (holds-head h)) e
  bare_term-finds (terms.typed h k m other) e = bare-plain (ap signless (holds-head h)) e
  bare_term-finds (terms.number h) e = bare_number-finds h e
  bare_term-finds (terms.plus i h) e = bare-plus i h
  bare_term-finds (terms.minus i h) e = bare-minus i h
  bare_term-finds (terms.boolean h) e = bare-plain (ap signless (holds-head h)) e

  bare_call-finds : {ts rest : List Symbol} {a : Expr} → IsCall b ts a rest → Finds (l.atom p b) ts a rest → Finds (l.unary p b) ts a rest
  bare_call-finds (call i h e) f = bare-plain (ap signless (is-head i)) f
  bare_call-finds (bound i j h k) f = bare-plain (ap signless (is-head i)) f

  not-finds : {ts us rest : List Symbol} {a : Expr} → Is s.Bang ts us → Finds (l.atom p b) us a rest → Finds (l.unary p b) ts (Not a) rest
  unfolding l.unary
  not-finds i h = at-finds (l.unary_by p b) (is-head i) (take-finds i (map-finds Not h))

  plus-finds : {ts us rest : List Symbol} {a : Expr} → Is s.Plus ts us → begins_number (head us) ≡ false → Finds (l.atom p b) us a rest → Finds (l.unary p b) ts (Plus a) rest
  unfolding l.unary
  plus-finds {us = us} i e h = at-finds (l.unary_by p b) (is-head i) (take-finds {q = l.signed p b (codes "+") Plus} i (record { found = ap (λ v. l.signed_by p b (codes "+") Plus v us) e ∙ (map-finds Plus h).found }))

  minus-finds : {ts us rest : List Symbol} {a : Expr} → Is s.Minus ts us → begins_number (head us) ≡ false → Finds (l.atom p b) us a rest → Finds (l.unary p b) ts (Minus a) rest
  unfolding l.unary
  minus-finds {us = us} i e h = at-finds (l.unary_by p b) (is-head i) (take-finds {q = l.signed p b (codes "-") Minus} i (record { found = ap (λ v. l.signed_by p b (codes "-") Minus v us) e ∙ (map-finds Minus h).found }))

  product_turn-stop : (o : Option Shape) → StopsAt 5 o → l.product_turn p b o ≡ None
  product_turn-stop (Some s.Star) h = absurd (omega arith)
  product_turn-stop (Some s.Slash) h = absurd (omega arith)
  product_turn-stop o h = refl

  product-finds : {ts us rest : List Symbol} {first : Expr} {all : List (Bool × Expr)} → Finds (l.unary p b) ts first us → Finds (more (l.product_turn p b) (length us) []) us all rest
      → Finds (l.product p b) ts (product_node first all) rest
  unfolding l.product l.product_rest all_more
  product-finds {first = first} {all = all} h k = then-finds _ h (map-finds {q = λ w. more (l.product_turn p b) (length w) [] w} (product_node first) (record { found = k.found }))

  sum_turn-stop : (o : Option Shape) → StopsAt 4 o → l.sum_turn p b o ≡ None
  sum_turn-stop (Some s.Plus) h = absurd (omega arith)
  sum_turn-stop (Some s.Minus) h = absurd (omega arith)
  sum_turn-stop o h = refl

  sum-finds : {ts us rest : List Symbol} {first : Expr} {all : List (Bool × Expr)} → Finds (l.product p b) ts first us → Finds (more (l.sum_turn p b) (length us) []) us all rest
      → Finds (l.sum p b) ts (sum_node first all) rest
  unfolding l.sum l.sum_rest all_more
  sum-finds {first = first} {all = all} h k = then-finds _ h (map-finds {q = λ w. more (l.sum_turn p b) (length w) [] w} (sum_node first) (record { found = k.found }))

  rel_by-stop : (left : Expr) (us : List Symbol) (o : Option Shape) → StopsAt 3 o → l.rel_by p b left o us ≡ Some (left, us)
  rel_by-stop left us None h = refl
  rel_by-stop left us (Some s.In) h = absurd (omega arith)
  rel_by-stop left us (Some s.Not) h = absurd (omega arith)
  rel_by-stop left us (Some s.Equal) h = absurd (omega arith)
  rel_by-stop left us (Some s.Unequal) h = absurd (omega arith)
  rel_by-stop left us (Some s.Less) h = absurd (omega arith)
  rel_by-stop left us (Some s.Greater) h = absurd (omega arith)
  rel_by-stop left us (Some s.AtMost) h = absurd (omega arith)
  rel_by-stop left us (Some s.AtLeast) h = absurd (omega arith)
  rel_by-stop left us o h = refl

  rel_one-finds : {ts us : List Symbol} {a : Expr} → Finds (l.sum p b) ts a us → Stops 3 us → Finds (l.rel p b) ts a us
  unfolding l.rel
  rel_one-finds {us = us} {a = a} h stops = then-finds _ h (record { found = rel_by-stop a us (head us) stops })

  rel_by-op : (left : Expr) (us : List Symbol) (shape : Shape) (op : CompareOp) → op_of shape ≡ Some op → l.rel_by p b left (Some shape) us ≡ (take >> (Compare op left <$> l.sum p b)) us
  rel_by-op left us s.In op e = absurd cc
  rel_by-op left us s.Not op e = absurd cc
  rel_by-op left us shape op e = ap (λ v. l.compared p b left v us) e

  rel_compare-finds : {ts us vs rest : List Symbol} {left right : Expr} {shape : Shape} {op : CompareOp} → Finds (l.sum p b) ts left us → Is shape us vs → op_of shape ≡ Some op
      → Finds (l.sum p b) vs right rest → Finds (l.rel p b) ts (Compare op left right) rest
  unfolding l.rel
  rel_compare-finds {us = us} {left = left} {shape = shape} {op = op} h i e k =
      then-finds _ h (at-finds (l.rel_by p b left) (is-head i) (record { found = rel_by-op left us shape op e ∙ (take-finds i (map-finds (Compare op left) k)).found }))

  rel_in-finds : {ts us vs rest : List Symbol} {left : Expr} {items : List Expr} → Finds (l.sum p b) ts left us → Is s.In us vs → Finds (l.list p b) vs items rest
      → Finds (l.rel p b) ts (OneOf left (exprs items) false) rest
  unfolding l.rel
  rel_in-finds {left = left} h i k = then-finds _ h (at-finds (l.rel_by p b left) (is-head i) (take-finds i (map-finds (λ items. OneOf left (exprs items) false) k)))

  rel_not_in-finds : {ts us vs ws rest : List Symbol} {left : Expr} {items : List Expr} → Finds (l.sum p b) ts left us → Is s.Not us vs → Is s.In vs ws → Finds (l.list p b) ws items rest
      → Finds (l.rel p b) ts (OneOf left (exprs items) true) rest
  unfolding l.rel
  rel_not_in-finds {left = left} h i j k = then-finds _ h (at-finds (l.rel_by p b left) (is-head i) (take-finds i (then-finds _ (in-finds j) (map-finds (λ items. OneOf left (exprs items) true) k))))

  and_turn-stop : (o : Option Shape) → StopsAt 2 o → l.and_turn p b o ≡ None
  and_turn-stop (Some s.And) h = absurd (omega arith)
  and_turn-stop o h = refl

  and-finds : {ts us rest : List Symbol} {first : Expr} {all : List Expr} → Finds (l.rel p b) ts first us → Finds (more (l.and_turn p b) (length us) (first ∷ [])) us all rest
      → Finds (l.and p b) ts (and_node all) rest
  unfolding l.and l.and_from all_more
  and-finds {first = first} h k = then-finds _ h (map-finds {q = λ w. more (l.and_turn p b) (length w) (first ∷ []) w} and_node (record { found = k.found }))

  or_turn-stop : (o : Option Shape) → StopsAt 1 o → l.or_turn p b o ≡ None
  or_turn-stop (Some s.Or) h = absurd (omega arith)
  or_turn-stop o h = refl

  or-finds : {ts us rest : List Symbol} {first : Expr} {all : List Expr} → Finds (l.and p b) ts first us → Finds (more (l.or_turn p b) (length us) (first ∷ [])) us all rest
      → Finds (l.or p b) ts (or_node all) rest
  unfolding l.or l.or_from all_more
  or-finds {first = first} h k = then-finds _ h (map-finds {q = λ w. more (l.or_turn p b) (length w) (first ∷ []) w} or_node (record { found = k.found }))

  list_from-finds : {us rest : List Symbol} {all : List Expr} (found : List Expr) → Finds (more (l.list_turn p b) (length us) found) us all rest → Finds (l.list_from p b found) us all rest
  unfolding l.list_from all_more
  list_from-finds found h = record { found = h.found }

aggregated-finds : (p : Bool → Parser Expr) {ts us rest : List Symbol} {kind : AggregateKind} {a : Expr} → Is (s.Aggregate kind) ts us → Finds (l.aggregate p true kind) us a rest → Finds (l.atom p true) ts a rest
unfolding l.atom
aggregated-finds p i h = at-finds (l.atom_by p true) (is-head i) (take-finds i h)

expr-step : (d : ℕ) (b : Bool) {ts rest : List Symbol} {a : Expr} → Finds (l.or (l.expr d) b) ts a rest → Finds (l.expr (suc d) b) ts a rest
unfolding l.expr
expr-step d b h = record { found = h.found }

-- ---- the laws, along the derivation

mutual
  pub expr-finds : {b : Bool} {ts rest : List Symbol} {a : Expr} (d : ℕ) → IsExpr b ts a rest → length ts < d → Stops 1 rest → Finds (l.expr d b) ts a rest
  expr-finds zero (or h k) fits stops = absurd (omega arith)
  expr-finds {b = b} (suc d) (or {us = us} {first = first} h k) fits stops =
      expr-step d b (or-finds (l.expr d) b (and-finds-all d h (omega arith) (or_tail-stops k stops)) (or_tail-finds d k (omega (arith, and-shorter h)) stops (length us) (first ∷ []) (omega arith)))

  or_tail-finds : {b : Bool} {ts rest : List Symbol} {xs : List Expr} (d : ℕ) → OrTail b ts xs rest → length ts ≤ d → Stops 1 rest → (n : ℕ) (found : List Expr) → length ts ≤ n
      → Finds (more (l.or_turn (l.expr d) b) n found) ts (found ++ xs) rest
  or_tail-finds {b = b} d (or_end {ts = ts}) fits stops n found le = same_found (more-stop (l.or_turn (l.expr d) b) n found ts (or_turn-stop (l.expr d) b (head ts) stops)) (none_more found)
  or_tail-finds d (or_more i h k) fits stops zero found le = absurd (omega (arith, is-shorter i))
  or_tail-finds {b = b} d (or_more {ts = ts} {vs = vs} {first = x} {more = xs} i h k) fits stops (suc n) found le =
      more-step (l.or_turn (l.expr d) b) (take >> l.and (l.expr d) b) n found ts vs x (ap (l.or_turn (l.expr d) b) (is-head i)) (take-finds i (and-finds-all d h (omega (arith, is-shorter i)) (or_tail-stops k stops)))
      (same_found (or_tail-finds d k (omega (arith, is-shorter i, and-shorter h)) stops n (found ++ x ∷ []) (omega (arith, is-shorter i, and-shorter h))) (append_assoc found (x ∷ []) xs))

  and-finds-all : {b : Bool} {ts rest : List Symbol} {a : Expr} (d : ℕ) → IsAnd b ts a rest → length ts ≤ d → Stops 2 rest → Finds (l.and (l.expr d) b) ts a rest
  and-finds-all {b = b} d (and {us = us} {first = first} h k) fits stops =
      and-finds (l.expr d) b (rel-finds-all d h fits (and_tail-stops k stops)) (and_tail-finds d k (omega (arith, rel-shorter h)) stops (length us) (first ∷ []) (omega arith))

  and_tail-finds : {b : Bool} {ts rest : List Symbol} {xs : List Expr} (d : ℕ) → AndTail b ts xs rest → length ts ≤ d → Stops 2 rest → (n : ℕ) (found : List Expr) → length ts ≤ n
      → Finds (more (l.and_turn (l.expr d) b) n found) ts (found ++ xs) rest
  and_tail-finds {b = b} d (and_end {ts = ts}) fits stops n found le = same_found (more-stop (l.and_turn (l.expr d) b) n found ts (and_turn-stop (l.expr d) b (head ts) stops)) (none_more found)
  and_tail-finds d (and_more i h k) fits stops zero found le = absurd (omega (arith, is-shorter i))
  and_tail-finds {b = b} d (and_more {ts = ts} {vs = vs} {first = x} {more = xs} i h k) fits stops (suc n) found le =
      more-step (l.and_turn (l.expr d) b) (take >> l.rel (l.expr d) b) n found ts vs x (ap (l.and_turn (l.expr d) b) (is-head i)) (take-finds i (rel-finds-all d h (omega (arith, is-shorter i)) (and_tail-stops k stops)))
      (same_found (and_tail-finds d k (omega (arith, is-shorter i, rel-shorter h)) stops n (found ++ x ∷ []) (omega (arith, is-shorter i, rel-shorter h))) (append_assoc found (x ∷ []) xs))

  rel-finds-all : {b : Bool} {ts rest : List Symbol} {a : Expr} (d : ℕ) → IsRel b ts a rest → length ts ≤ d → Stops 3 rest → Finds (l.rel (l.expr d) b) ts a rest
  rel-finds-all {b = b} {rest = rest} d (rel_one h) fits stops = rel_one-finds (l.expr d) b (sum-finds-all d h fits (stops-later 3 4 rest (omega arith) stops)) stops
  rel-finds-all {b = b} {rest = rest} d (rel_compare {shape = shape} {op = op} h i e k) fits stops =
      rel_compare-finds (l.expr d) b (sum-finds-all d h fits (is-stops 4 i (op-stops shape op e))) i e (sum-finds-all d k (omega (arith, sum-shorter h, is-shorter i)) (stops-later 3 4 rest (omega arith) stops))
  rel-finds-all {b = b} d (rel_in h i k) fits stops = rel_in-finds (l.expr d) b (sum-finds-all d h fits (is-stops 4 i (omega arith))) i (list-finds-all d k (omega (arith, sum-shorter h, is-shorter i)))
  rel-finds-all {b = b} d (rel_not_in h i j k) fits stops = rel_not_in-finds (l.expr d) b (sum-finds-all d h fits (is-stops 4 i (omega arith))) i j (list-finds-all d k (omega (arith, sum-shorter h, is-shorter i, is-shorter j)))

  pub list-finds-all : {b : Bool} {ts rest : List Symbol} {xs : List Expr} (d : ℕ) → IsList b ts xs rest → length ts ≤ d → Finds (l.list (l.expr d) b) ts xs rest
  list-finds-all {b = b} d (list_none i j) fits = list_none-finds (l.expr d) b i j
  list-finds-all {b = b} d (list_some {vs = vs} {first = first} i h k j) fits =
      list_some-finds (l.expr d) b i (expr-begins h) (expr-finds d h (omega (arith, is-shorter i)) (list_tail-stops k j))
      (list_from-finds (l.expr d) b (first ∷ []) (list_tail-finds d k (omega (arith, is-shorter i, expr-shorter h)) j (length vs) (first ∷ []) (omega arith))) j

  list_tail-finds : {b : Bool} {ts us rest : List Symbol} {xs : List Expr} (d : ℕ) → ListTail b ts xs us → length ts ≤ d → Is s.Close us rest → (n : ℕ) (found : List Expr) → length ts ≤ n
      → Finds (more (l.list_turn (l.expr d) b) n found) ts (found ++ xs) us
  list_tail-finds {b = b} d (list_end {ts = ts}) fits j n found le = same_found (more-stop (l.list_turn (l.expr d) b) n found ts (list_turn-stop (l.expr d) b j)) (none_more found)
  list_tail-finds d (list_more i h k) fits j zero found le = absurd (omega (arith, is-shorter i))
  list_tail-finds {b = b} d (list_more {ts = ts} {vs = vs} {first = x} {more = xs} i h k) fits j (suc n) found le =
      more-step (l.list_turn (l.expr d) b) (take >> l.expr d b) n found ts vs x (ap (l.list_turn (l.expr d) b) (is-head i)) (take-finds i (expr-finds d h (omega (arith, is-shorter i)) (list_tail-stops k j)))
      (same_found (list_tail-finds d k (omega (arith, is-shorter i, expr-shorter h)) j n (found ++ x ∷ []) (omega (arith, is-shorter i, expr-shorter h))) (append_assoc found (x ∷ []) xs))

  sum-finds-all : {b : Bool} {ts rest : List Symbol} {a : Expr} (d : ℕ) → IsSum b ts a rest → length ts ≤ d → Stops 4 rest → Finds (l.sum (l.expr d) b) ts a rest
  sum-finds-all {b = b} d (sum {us = us} h k) fits stops =
      sum-finds (l.expr d) b (product-finds-all d h fits (sum_tail-stops k stops)) (sum_tail-finds d k (omega (arith, product-shorter h)) stops (length us) [] (omega arith))

  sum_tail-finds : {b : Bool} {ts rest : List Symbol} {xs : List (Bool × Expr)} (d : ℕ) → SumTail b ts xs rest → length ts ≤ d → Stops 4 rest → (n : ℕ) (found : List (Bool × Expr)) → length ts ≤ n
      → Finds (more (l.sum_turn (l.expr d) b) n found) ts (found ++ xs) rest
  sum_tail-finds {b = b} d (sum_end {ts = ts}) fits stops n found le = same_found (more-stop (l.sum_turn (l.expr d) b) n found ts (sum_turn-stop (l.expr d) b (head ts) stops)) (none_more found)
  sum_tail-finds d (sum_plus i h k) fits stops zero found le = absurd (omega (arith, is-shorter i))
  sum_tail-finds {b = b} d (sum_plus {ts = ts} {vs = vs} {first = x} {more = xs} i h k) fits stops (suc n) found le =
      more-step (l.sum_turn (l.expr d) b) (take >> ((λ value. (false, value)) <$> l.product (l.expr d) b)) n found ts vs (false, x) (ap (l.sum_turn (l.expr d) b) (is-head i)) (take-finds i (map-finds (λ value. (false, value)) (product-finds-all d h (omega (arith, is-shorter i)) (sum_tail-stops k stops))))
      (same_found (sum_tail-finds d k (omega (arith, is-shorter i, product-shorter h)) stops n (found ++ (false, x) ∷ []) (omega (arith, is-shorter i, product-shorter h))) (append_assoc found ((false, x) ∷ []) xs))
  sum_tail-finds d (sum_minus i h k) fits stops zero found le = absurd (omega (arith, is-shorter i))
  sum_tail-finds {b = b} d (sum_minus {ts = ts} {vs = vs} {first = x} {more = xs} i h k) fits stops (suc n) found le =
      more-step (l.sum_turn (l.expr d) b) (take >> ((λ value. (true, value)) <$> l.product (l.expr d) b)) n found ts vs (true, x) (ap (l.sum_turn (l.expr d) b) (is-head i)) (take-finds i (map-finds (λ value. (true, value)) (product-finds-all d h (omega (arith, is-shorter i)) (sum_tail-stops k stops))))
      (same_found (sum_tail-finds d k (omega (arith, is-shorter i, product-shorter h)) stops n (found ++ (true, x) ∷ []) (omega (arith, is-shorter i, product-shorter h))) (append_assoc found ((true, x) ∷ []) xs))

  product-finds-all : {b : Bool} {ts rest : List Symbol} {a : Expr} (d : ℕ) → IsProduct b ts a rest → length ts ≤ d → Stops 5 rest → Finds (l.product (l.expr d) b) ts a rest
  product-finds-all {b = b} d (product {us = us} h k) fits stops =
      product-finds (l.expr d) b (unary-finds-all d h fits (product_tail-stops k stops)) (product_tail-finds d k (omega (arith, unary-shorter h)) stops (length us) [] (omega arith))

  product_tail-finds : {b : Bool} {ts rest : List Symbol} {xs : List (Bool × Expr)} (d : ℕ) → ProductTail b ts xs rest → length ts ≤ d → Stops 5 rest → (n : ℕ) (found : List (Bool × Expr)) → length ts ≤ n
      → Finds (more (l.product_turn (l.expr d) b) n found) ts (found ++ xs) rest
  product_tail-finds {b = b} d (product_end {ts = ts}) fits stops n found le = same_found (more-stop (l.product_turn (l.expr d) b) n found ts (product_turn-stop (l.expr d) b (head ts) stops)) (none_more found)
  product_tail-finds d (product_times i h k) fits stops zero found le = absurd (omega (arith, is-shorter i))
  product_tail-finds {b = b} d (product_times {ts = ts} {vs = vs} {first = x} {more = xs} i h k) fits stops (suc n) found le =
      more-step (l.product_turn (l.expr d) b) (take >> ((λ value. (false, value)) <$> l.unary (l.expr d) b)) n found ts vs (false, x) (ap (l.product_turn (l.expr d) b) (is-head i)) (take-finds i (map-finds (λ value. (false, value)) (unary-finds-all d h (omega (arith, is-shorter i)) (product_tail-stops k stops))))
      (same_found (product_tail-finds d k (omega (arith, is-shorter i, unary-shorter h)) stops n (found ++ (false, x) ∷ []) (omega (arith, is-shorter i, unary-shorter h))) (append_assoc found ((false, x) ∷ []) xs))
  product_tail-finds d (product_over i h k) fits stops zero found le = absurd (omega (arith, is-shorter i))
  product_tail-finds {b = b} d (product_over {ts = ts} {vs = vs} {first = x} {more = xs} i h k) fits stops (suc n) found le =
      more-step (l.product_turn (l.expr d) b) (take >> ((λ value. (true, value)) <$> l.unary (l.expr d) b)) n found ts vs (true, x) (ap (l.product_turn (l.expr d) b) (is-head i)) (take-finds i (map-finds (λ value. (true, value)) (unary-finds-all d h (omega (arith, is-shorter i)) (product_tail-stops k stops))))
      (same_found (product_tail-finds d k (omega (arith, is-shorter i, unary-shorter h)) stops n (found ++ (true, x) ∷ []) (omega (arith, is-shorter i, unary-shorter h))) (append_assoc found ((true, x) ∷ []) xs))

  unary-finds-all : {b : Bool} {ts rest : List Symbol} {a : Expr} (d : ℕ) → IsUnary b ts a rest → length ts ≤ d → Stops 6 rest → Finds (l.unary (l.expr d) b) ts a rest
  unary-finds-all d (bare h) fits stops = bare-finds-all d h fits stops
  unary-finds-all {b = b} d (not i h) fits stops = not-finds (l.expr d) b i (atom-finds-all d h (omega (arith, is-shorter i)) stops)
  unary-finds-all {b = b} d (plus i e h) fits stops = plus-finds (l.expr d) b i e (atom-finds-all d h (omega (arith, is-shorter i)) stops)
  unary-finds-all {b = b} d (minus i e h) fits stops = minus-finds (l.expr d) b i e (atom-finds-all d h (omega (arith, is-shorter i)) stops)

  bare-finds-all : {b : Bool} {ts rest : List Symbol} {a : Expr} (d : ℕ) → IsAtom b ts a rest → length ts ≤ d → Stops 6 rest → Finds (l.unary (l.expr d) b) ts a rest
  bare-finds-all {b = b} {rest = rest} d (constant h) fits stops = bare_term-finds (l.expr d) b h (constant-finds (l.expr d) b (term-constant h) (term-finds h (string-stops (head rest) stops)))
  bare-finds-all {b = b} d (variable h) fits stops = bare-plain (l.expr d) b (ap signless (holds-head h)) (variable-finds (l.expr d) b h)
  bare-finds-all {b = b} d (parens i h j) fits stops = bare-plain (l.expr d) b (ap signless (is-head i)) (parens-finds (l.expr d) b i (expr-finds d h (omega (arith, is-shorter i)) (is-stops 1 j (omega arith))) j)
  bare-finds-all {b = b} d (called h) fits stops = bare_call-finds (l.expr d) b h (call-atom-finds d h fits)
  bare-finds-all d (aggregated h) fits stops = aggregate-unary-finds d h fits

  atom-finds-all : {b : Bool} {ts rest : List Symbol} {a : Expr} (d : ℕ) → IsAtom b ts a rest → length ts ≤ d → Stops 6 rest → Finds (l.atom (l.expr d) b) ts a rest
  atom-finds-all {b = b} {rest = rest} d (constant h) fits stops = constant-finds (l.expr d) b (term-constant h) (term-finds h (string-stops (head rest) stops))
  atom-finds-all {b = b} d (variable h) fits stops = variable-finds (l.expr d) b h
  atom-finds-all {b = b} d (parens i h j) fits stops = parens-finds (l.expr d) b i (expr-finds d h (omega (arith, is-shorter i)) (is-stops 1 j (omega arith))) j
  atom-finds-all d (called h) fits stops = call-atom-finds d h fits
  atom-finds-all d (aggregated h) fits stops = aggregate-atom-finds d h fits

  call-atom-finds : {b : Bool} {ts rest : List Symbol} {a : Expr} (d : ℕ) → IsCall b ts a rest → length ts ≤ d → Finds (l.atom (l.expr d) b) ts a rest
  call-atom-finds {b = b} d (call i h e) fits = called-finds (l.expr d) b i (call-finds (l.expr d) b (list-finds-all d h (omega (arith, is-shorter i))) e)
  call-atom-finds {b = b} d (bound i j h k) fits = called-finds (l.expr d) b i (call_bound-finds (l.expr d) b (bound-finds j h k))

  aggregate-atom-finds : {ts rest : List Symbol} {a : Expr} (d : ℕ) → IsAggregate ts a rest → length ts ≤ d → Finds (l.atom (l.expr d) true) ts a rest
  aggregate-atom-finds d (count_all i j e k m) fits = aggregated-finds (l.expr d) i (count_all-finds (l.expr d) true j (distinct-finds e (ap not_distinct_at (is-head k))) k m)
  aggregate-atom-finds d (aggregate {ws = ws} i j e h m) fits =
      aggregated-finds (l.expr d) i (aggregate-finds (l.expr d) true j (distinct-finds e (expr-not_distinct (head ws) (expr-begins h))) (expr-begins h)
      (expr-finds d h (omega (arith, is-shorter i, is-shorter j, distinct-shorter e)) (is-stops 1 m (omega arith))) m)

  aggregate-unary-finds : {ts rest : List Symbol} {a : Expr} (d : ℕ) → IsAggregate ts a rest → length ts ≤ d → Finds (l.unary (l.expr d) true) ts a rest
  aggregate-unary-finds d (count_all i j e k m) fits =
      bare-plain (l.expr d) true (ap signless (is-head i)) (aggregated-finds (l.expr d) i (count_all-finds (l.expr d) true j (distinct-finds e (ap not_distinct_at (is-head k))) k m))
  aggregate-unary-finds d (aggregate {ws = ws} i j e h m) fits =
      bare-plain (l.expr d) true (ap signless (is-head i)) (aggregated-finds (l.expr d) i (aggregate-finds (l.expr d) true j (distinct-finds e (expr-not_distinct (head ws) (expr-begins h))) (expr-begins h)
      (expr-finds d h (omega (arith, is-shorter i, is-shorter j, distinct-shorter e)) (is-stops 1 m (omega arith))) m))
