-- What the reader of expressions finds is of the grammar.
use Rattle.std.proofs.Common.{◌≡◌, ℕ, zero, suc, Bool, true, false, List, [], ◌∷◌, length, Option, Some, None, refl, sym, subst, codes}
use Rattle.sparql_tree.specs.Exprs.{Expr, Plus, Minus}
use Rattle.sparql_tree.specs.declared.words.AggregateKind.{AggregateKind}
use Rattle.sparql_tree.specs.declared.words.AggregateKind.TheVariants as kinds
use Rattle.sparql_tree.specs.declared.words.CompareOp.{CompareOp}
use Rattle.sparql_tree.specs.declared.words.Function.{Function}
use Rattle.sparql_tree.specs.declared.words.Function.TheVariants as functions
use Rattle.sparql_tree.specs.declared.symbol.Shape.{Shape}
use Rattle.sparql_tree.specs.declared.symbol.Shape.TheVariants as s
use Rattle.sparql_tree.specs.declared.symbol.Symbol.{Symbol}
use Rattle.sparql_tree.specs.Heads.{Is, IsHead}
use Rattle.sparql_grammar.specs.Parser.{Parser, next, ◌>>=◌, ◌<<◌, peek, open_paren, close_paren, name}
use Rattle.sparql_tree.specs.Heads.{head}
use Rattle.sparql_tree.specs.Terms.{IsNumber, IsTerm}
use Rattle.sparql_tree.specs.Terms as terms
use Rattle.sparql_grammar.specs.TermReading.{term, number}
use Rattle.sparql_grammar.specs.ExprReading as l
use Rattle.sparql_tree.specs.Expressions.{IsDistinct, distinct, not_distinct, IsExpr, or, OrTail, or_end, or_more, IsAnd, and, AndTail, and_end, and_more, IsRel, rel_one, rel_compare, rel_in, rel_not_in, IsList, list_none, list_some, ListTail, list_end, list_more, IsSum, sum, SumTail, sum_end, sum_plus, sum_minus, IsProduct, product, ProductTail, product_end, product_times, product_over, IsUnary, bare, not, plus, minus, IsAtom, constant, variable, parens, called, aggregated, IsCall, call, bound, IsAggregate, count_all, aggregate, or_node, and_node, sum_node, product_node, begins_number, takes}
use Rattle.sparql_grammar.proofs.Steps.{is-next, holds-next, Good, then_good, weaken, Adds, Extends, Turns, all_more-sound, open-sound, close-sound, name-sound}
use Rattle.sparql_grammar.proofs.TermLaws.{number-sound, term-sound}

distinct_by-sound : (ts : List Symbol) (o : Option Shape) → head ts ≡ o → Good (IsDistinct ts) (l.distinct_by o ts)
distinct_by-sound ts (Some s.Distinct) h = distinct (is-next s.Distinct ts h)
distinct_by-sound ts o h = not_distinct

pub distinct-sound : (ts : List Symbol) → Good (IsDistinct ts) (l.distinct_or_all ts)
unfolding l.distinct_or_all
distinct-sound ts = distinct_by-sound ts (head ts) refl

in_by-sound : (ts : List Symbol) (o : Option Shape) → head ts ≡ o → Good (λ (x : Unit {0}) us. Is s.In ts us) (l.in_by o ts)
in_by-sound ts (Some s.In) h = is-next s.In ts h
in_by-sound ts o h = tt

in-sound : (ts : List Symbol) → Good (λ (x : Unit {0}) us. Is s.In ts us) (l.in_word ts)
unfolding l.in_word
in-sound ts = in_by-sound ts (head ts) refl

-- what is closed behind it
pub closed-sound : {A : Type 0} (P Q : A → List Symbol → Type 0) (q : Parser A) (ts : List Symbol) → Good P (q ts)
    → ((a : A) (us rest : List Symbol) → P a us → Is s.Close us rest → Q a rest) → Good Q ((q << close_paren) ts)
closed-sound P Q q ts h k = then_good P Q (q ts) _ h (λ a us m.
    then_good (λ (x : Unit {0}) rest. Is s.Close us rest) Q (close_paren us) _ (close-sound us) (λ x rest n. k a us rest m n))

pub bound-sound : (b : Bool) (ts us : List Symbol) → Is (s.Function functions.Bound) ts us → Good (IsCall b ts) (l.bound us)
unfolding l.bound
bound-sound b ts us i = then_good (λ (x : Unit {0}) vs. Is s.Open us vs) (IsCall b ts) (open_paren us) _ (open-sound us) (λ x vs j.
    then_good (λ word ws. IsHead s.Var word vs ws) (IsCall b ts) (name vs) _ (name-sound vs) (λ word ws k.
    then_good (λ (y : Unit {0}) rest. Is s.Close ws rest) (IsCall b ts) (close_paren ws) _ (close-sound ws) (λ y rest m. bound i j k m)))

module _ (expr : Bool → Parser Expr) (nested : (b : Bool) (ts : List Symbol) → Good (IsExpr b ts) (expr b ts)) (b : Bool) where
  list_turn-sound : (ts : List Symbol) (o : Option Shape) → head ts ≡ o → Turns (ListTail b) ts (l.list_turn expr b o)
  list_turn-sound ts (Some s.Comma) h = weaken (IsExpr b (next ts)) (Extends (ListTail b) ts) _ (nested b (next ts)) (λ x us k xs rest t. list_more (is-next s.Comma ts h) k t)
  list_turn-sound ts o h = tt

  list_from-sound : (found : List Expr) (ts : List Symbol) → Good (Adds (ListTail b ts) found) (l.list_from expr b found ts)
  unfolding l.list_from
  list_from-sound found ts = all_more-sound (ListTail b) (l.list_turn expr b) (λ us. list_end) (λ us. list_turn-sound us (head us) refl) found ts

  list_some-sound : (ts us : List Symbol) → Is s.Open ts us → Good (IsList b ts) ((expr b >>= (λ first. l.list_from expr b (first ∷ []) << close_paren)) us)
  list_some-sound ts us i = then_good (IsExpr b us) (IsList b ts) (expr b us) _ (nested b us) (λ first vs h.
      closed-sound (Adds (ListTail b vs) (first ∷ [])) (IsList b ts) (l.list_from expr b (first ∷ [])) vs (list_from-sound (first ∷ []) vs)
      (λ all ws rest k m. subst (λ v. IsList b ts v rest) (sym k.1) (list_some i h k.2 m)))

  list_by-sound : (ts us : List Symbol) (o : Option Shape) → head us ≡ o → Is s.Open ts us → Good (IsList b ts) (l.list_by expr b o us)
  list_by-sound ts us (Some s.Close) h i = list_none i (is-next s.Close us h)
  list_by-sound ts us o h i = list_some-sound ts us i

  list-sound : (ts : List Symbol) → Good (IsList b ts) (l.list expr b ts)
  unfolding l.list
  list-sound ts = then_good (λ (x : Unit {0}) us. Is s.Open ts us) (IsList b ts) (open_paren ts) _ (open-sound ts) (λ x us i. list_by-sound ts us (head us) refl i)

  taken-sound : (function : Function) (arguments : List Expr) (ts us rest : List Symbol) → Is (s.Function function) ts us → IsList b us arguments rest
      → Good (IsCall b ts) (l.taken function arguments rest)
  taken-sound function arguments ts us rest i k = go (takes function (length arguments)) refl
    where
      go : (fits : Bool) → takes function (length arguments) ≡ fits → Good (IsCall b ts) (l.taken_if fits function arguments rest)
      go true e = call i k e
      go false e = tt

  called-sound : (function : Function) (ts us : List Symbol) → Is (s.Function function) ts us
      → Good (IsCall b ts) ((l.list expr b >>= (λ arguments. l.taken function arguments)) us)
  called-sound function ts us i = then_good (IsList b us) (IsCall b ts) (l.list expr b us) _ (list-sound us) (λ arguments rest k. taken-sound function arguments ts us rest i k)

  pub call-sound : (function : Function) (ts us : List Symbol) → Is (s.Function function) ts us → Good (IsCall b ts) (l.call expr b function us)
  unfolding l.call
  call-sound functions.Bound ts us i = bound-sound b ts us i
  call-sound function ts us i = called-sound function ts us i

  starred-sound : (kind : AggregateKind) (once : Bool) (ts us vs ws : List Symbol) → Is (s.Aggregate kind) ts us → Is s.Open us vs → IsDistinct vs once ws → head ws ≡ Some s.Star
      → Good (λ a rest. (last : List Symbol) → Is s.Close rest last → IsAggregate ts a last) (l.starred expr b kind once ws)
  starred-sound kinds.Count once ts us vs ws i j d h = λ last m. count_all i j d (is-next s.Star ws h) m
  starred-sound kind once ts us vs ws i j d h = tt

  counted-sound : (kind : AggregateKind) (once : Bool) (ts us vs ws : List Symbol) (o : Option Shape) → head ws ≡ o → Is (s.Aggregate kind) ts us → Is s.Open us vs → IsDistinct vs once ws
      → Good (λ a rest. (last : List Symbol) → Is s.Close rest last → IsAggregate ts a last) (l.counted expr b kind once o ws)
  counted-sound kind once ts us vs ws (Some s.Star) h i j d = starred-sound kind once ts us vs ws i j d h
  counted-sound kind once ts us vs ws o h i j d =
      then_good (IsExpr false ws) (λ a rest. (last : List Symbol) → Is s.Close rest last → IsAggregate ts a last) (expr false ws) _ (nested false ws)
      (λ a rest k last m. aggregate i j d k m)

  pub aggregate-sound : (kind : AggregateKind) (ts us : List Symbol) → Is (s.Aggregate kind) ts us → Good (IsAggregate ts) (l.aggregate expr b kind us)
  unfolding l.aggregate
  aggregate-sound kind ts us i = then_good (λ (x : Unit {0}) vs. Is s.Open us vs) (IsAggregate ts) (open_paren us) _ (open-sound us) (λ x vs j.
      then_good (IsDistinct vs) (IsAggregate ts) (l.distinct_or_all vs) _ (distinct-sound vs) (λ once ws d.
      closed-sound (λ a rest. (last : List Symbol) → Is s.Close rest last → IsAggregate ts a last) (IsAggregate ts) (peek >>= l.counted expr b kind once) ws
      (counted-sound kind once ts us vs ws (head ws) refl i j d) (λ a vs2 rest k m. k rest m)))

  aggregate_if-sound : (allowed : Bool) (kind : AggregateKind) (ts : List Symbol) → head ts ≡ Some (s.Aggregate kind) → Good (IsAtom allowed ts) (l.aggregate_if expr b allowed kind ts)
  aggregate_if-sound true kind ts h = weaken (IsAggregate ts) (IsAtom true ts) _ (aggregate-sound kind ts (next ts) (is-next (s.Aggregate kind) ts h)) (λ a rest k. aggregated k)
  aggregate_if-sound false kind ts h = tt

  atom_by-sound : (ts : List Symbol) (o : Option Shape) → head ts ≡ o → Good (IsAtom b ts) (l.atom_by expr b o ts)
  atom_by-sound ts (Some s.Var) h = variable (holds-next s.Var ts h)
  atom_by-sound ts (Some s.Open) h = closed-sound (IsExpr b (next ts)) (IsAtom b ts) (expr b) (next ts) (nested b (next ts)) (λ a us rest k m. parens (is-next s.Open ts h) k m)
  atom_by-sound ts (Some (s.Function function)) h =
      weaken (IsCall b ts) (IsAtom b ts) _ (call-sound function ts (next ts) (is-next (s.Function function) ts h)) (λ a rest k. called k)
  atom_by-sound ts (Some (s.Aggregate kind)) h = aggregate_if-sound b kind ts h
  atom_by-sound ts o h = then_good (IsTerm ts) (IsAtom b ts) (term ts) _ (term-sound ts) (λ t rest k. constant k)

  atom-sound : (ts : List Symbol) → Good (IsAtom b ts) (l.atom expr b ts)
  unfolding l.atom
  atom-sound ts = atom_by-sound ts (head ts) refl

  plus-sound : (ts us : List Symbol) (digit : Bool) → begins_number (head us) ≡ digit → Is s.Plus ts us → Good (IsUnary b ts) (l.signed_by expr b (codes "+") Plus digit us)
  plus-sound ts us true e i = then_good (IsNumber (codes "+") us) (IsUnary b ts) (number (codes "+") us) _ (number-sound (codes "+") us) (λ t rest k. bare (constant (terms.plus i k)))
  plus-sound ts us false e i = then_good (IsAtom b us) (IsUnary b ts) (l.atom expr b us) _ (atom-sound us) (λ a rest k. plus i e k)

  minus-sound : (ts us : List Symbol) (digit : Bool) → begins_number (head us) ≡ digit → Is s.Minus ts us → Good (IsUnary b ts) (l.signed_by expr b (codes "-") Minus digit us)
  minus-sound ts us true e i = then_good (IsNumber (codes "-") us) (IsUnary b ts) (number (codes "-") us) _ (number-sound (codes "-") us) (λ t rest k. bare (constant (terms.minus i k)))
  minus-sound ts us false e i = then_good (IsAtom b us) (IsUnary b ts) (l.atom expr b us) _ (atom-sound us) (λ a rest k. minus i e k)

  unary_by-sound : (ts : List Symbol) (o : Option Shape) → head ts ≡ o → Good (IsUnary b ts) (l.unary_by expr b o ts)
  unary_by-sound ts (Some s.Bang) h = then_good (IsAtom b (next ts)) (IsUnary b ts) (l.atom expr b (next ts)) _ (atom-sound (next ts)) (λ a rest k. not (is-next s.Bang ts h) k)
  unary_by-sound ts (Some s.Plus) h = plus-sound ts (next ts) (begins_number (head (next ts))) refl (is-next s.Plus ts h)
  unary_by-sound ts (Some s.Minus) h = minus-sound ts (next ts) (begins_number (head (next ts))) refl (is-next s.Minus ts h)
  unary_by-sound ts o h = weaken (IsAtom b ts) (IsUnary b ts) _ (atom-sound ts) (λ a rest k. bare k)

  unary-sound : (ts : List Symbol) → Good (IsUnary b ts) (l.unary expr b ts)
  unfolding l.unary
  unary-sound ts = unary_by-sound ts (head ts) refl

  product_turn-sound : (ts : List Symbol) (o : Option Shape) → head ts ≡ o → Turns (ProductTail b) ts (l.product_turn expr b o)
  product_turn-sound ts (Some s.Star) h = then_good (IsUnary b (next ts)) (Extends (ProductTail b) ts) (l.unary expr b (next ts)) _ (unary-sound (next ts)) (λ x us k xs rest t. product_times (is-next s.Star ts h) k t)
  product_turn-sound ts (Some s.Slash) h = then_good (IsUnary b (next ts)) (Extends (ProductTail b) ts) (l.unary expr b (next ts)) _ (unary-sound (next ts)) (λ x us k xs rest t. product_over (is-next s.Slash ts h) k t)
  product_turn-sound ts o h = tt

  product_rest-sound : (ts : List Symbol) → Good (Adds (ProductTail b ts) []) (l.product_rest expr b ts)
  unfolding l.product_rest
  product_rest-sound ts = all_more-sound (ProductTail b) (l.product_turn expr b) (λ us. product_end) (λ us. product_turn-sound us (head us) refl) [] ts

  product-sound : (ts : List Symbol) → Good (IsProduct b ts) (l.product expr b ts)
  unfolding l.product
  product-sound ts = then_good (IsUnary b ts) (IsProduct b ts) (l.unary expr b ts) _ (unary-sound ts) (λ first us h.
      then_good (Adds (ProductTail b us) []) (IsProduct b ts) (l.product_rest expr b us) _ (product_rest-sound us)
      (λ all rest k. subst (λ v. IsProduct b ts (product_node first v) rest) (sym k.1) (product h k.2)))

  sum_turn-sound : (ts : List Symbol) (o : Option Shape) → head ts ≡ o → Turns (SumTail b) ts (l.sum_turn expr b o)
  sum_turn-sound ts (Some s.Plus) h = then_good (IsProduct b (next ts)) (Extends (SumTail b) ts) (l.product expr b (next ts)) _ (product-sound (next ts)) (λ x us k xs rest t. sum_plus (is-next s.Plus ts h) k t)
  sum_turn-sound ts (Some s.Minus) h = then_good (IsProduct b (next ts)) (Extends (SumTail b) ts) (l.product expr b (next ts)) _ (product-sound (next ts)) (λ x us k xs rest t. sum_minus (is-next s.Minus ts h) k t)
  sum_turn-sound ts o h = tt

  sum_rest-sound : (ts : List Symbol) → Good (Adds (SumTail b ts) []) (l.sum_rest expr b ts)
  unfolding l.sum_rest
  sum_rest-sound ts = all_more-sound (SumTail b) (l.sum_turn expr b) (λ us. sum_end) (λ us. sum_turn-sound us (head us) refl) [] ts

  sum-sound : (ts : List Symbol) → Good (IsSum b ts) (l.sum expr b ts)
  unfolding l.sum
  sum-sound ts = then_good (IsProduct b ts) (IsSum b ts) (l.product expr b ts) _ (product-sound ts) (λ first us h.
      then_good (Adds (SumTail b us) []) (IsSum b ts) (l.sum_rest expr b us) _ (sum_rest-sound us)
      (λ all rest k. subst (λ v. IsSum b ts (sum_node first v) rest) (sym k.1) (sum h k.2)))

  compared-sound : (ts us : List Symbol) (left : Expr) (o : Option Shape) (op : Option CompareOp) → head us ≡ o → l.op_at o ≡ op → IsSum b ts left us
      → Good (IsRel b ts) (l.compared expr b left op us)
  compared-sound ts us left o None h e i = rel_one i
  compared-sound ts us left None (Some op) h e i = absurd cc
  compared-sound ts us left (Some shape) (Some op) h e i =
      then_good (IsSum b (next us)) (IsRel b ts) (l.sum expr b (next us)) _ (sum-sound (next us)) (λ right rest k. rel_compare i (is-next shape us h) e k)

  rel_by-sound : (ts us : List Symbol) (left : Expr) (o : Option Shape) → head us ≡ o → IsSum b ts left us → Good (IsRel b ts) (l.rel_by expr b left o us)
  rel_by-sound ts us left (Some s.In) h i = then_good (IsList b (next us)) (IsRel b ts) (l.list expr b (next us)) _ (list-sound (next us)) (λ items rest k. rel_in i (is-next s.In us h) k)
  rel_by-sound ts us left (Some s.Not) h i = then_good (λ (x : Unit {0}) vs. Is s.In (next us) vs) (IsRel b ts) (l.in_word (next us)) _ (in-sound (next us)) (λ x vs j.
      then_good (IsList b vs) (IsRel b ts) (l.list expr b vs) _ (list-sound vs) (λ items rest k. rel_not_in i (is-next s.Not us h) j k))
  rel_by-sound ts us left o h i = compared-sound ts us left o (l.op_at o) h refl i

  rel-sound : (ts : List Symbol) → Good (IsRel b ts) (l.rel expr b ts)
  unfolding l.rel
  rel-sound ts = then_good (IsSum b ts) (IsRel b ts) (l.sum expr b ts) _ (sum-sound ts) (λ left us i. rel_by-sound ts us left (head us) refl i)

  and_turn-sound : (ts : List Symbol) (o : Option Shape) → head ts ≡ o → Turns (AndTail b) ts (l.and_turn expr b o)
  and_turn-sound ts (Some s.And) h = weaken (IsRel b (next ts)) (Extends (AndTail b) ts) _ (rel-sound (next ts)) (λ x us k xs rest t. and_more (is-next s.And ts h) k t)
  and_turn-sound ts o h = tt

  and_from-sound : (found : List Expr) (ts : List Symbol) → Good (Adds (AndTail b ts) found) (l.and_from expr b found ts)
  unfolding l.and_from
  and_from-sound found ts = all_more-sound (AndTail b) (l.and_turn expr b) (λ us. and_end) (λ us. and_turn-sound us (head us) refl) found ts

  and-sound : (ts : List Symbol) → Good (IsAnd b ts) (l.and expr b ts)
  unfolding l.and
  and-sound ts = then_good (IsRel b ts) (IsAnd b ts) (l.rel expr b ts) _ (rel-sound ts) (λ first us h.
      then_good (Adds (AndTail b us) (first ∷ [])) (IsAnd b ts) (l.and_from expr b (first ∷ []) us) _ (and_from-sound (first ∷ []) us)
      (λ all rest k. subst (λ v. IsAnd b ts (and_node v) rest) (sym k.1) (and h k.2)))

  or_turn-sound : (ts : List Symbol) (o : Option Shape) → head ts ≡ o → Turns (OrTail b) ts (l.or_turn expr b o)
  or_turn-sound ts (Some s.Or) h = weaken (IsAnd b (next ts)) (Extends (OrTail b) ts) _ (and-sound (next ts)) (λ x us k xs rest t. or_more (is-next s.Or ts h) k t)
  or_turn-sound ts o h = tt

  or_from-sound : (found : List Expr) (ts : List Symbol) → Good (Adds (OrTail b ts) found) (l.or_from expr b found ts)
  unfolding l.or_from
  or_from-sound found ts = all_more-sound (OrTail b) (l.or_turn expr b) (λ us. or_end) (λ us. or_turn-sound us (head us) refl) found ts

  or-sound : (ts : List Symbol) → Good (IsExpr b ts) (l.or expr b ts)
  unfolding l.or
  or-sound ts = then_good (IsAnd b ts) (IsExpr b ts) (l.and expr b ts) _ (and-sound ts) (λ first us h.
      then_good (Adds (OrTail b us) (first ∷ [])) (IsExpr b ts) (l.or_from expr b (first ∷ []) us) _ (or_from-sound (first ∷ []) us)
      (λ all rest k. subst (λ v. IsExpr b ts (or_node v) rest) (sym k.1) (or h k.2)))

pub expr-sound : (room : ℕ) (b : Bool) (ts : List Symbol) → Good (IsExpr b ts) (l.expr room b ts)
unfolding l.expr
expr-sound zero b ts = tt
expr-sound (suc room) b ts = or-sound (l.expr room) (expr-sound room) b ts
