-- The grammar of group graph patterns and its reader agree.
use Rattle.std.proofs.Common.{◌≡◌, ℕ, zero, suc, ◌<◌, ◌≤◌, Bool, true, false, List, [], ◌∷◌, ◌++◌, length, Option, Some, None, refl, sym, subst, ap, append_assoc, arith, ◌⊎◌, inl, inr}
use Rattle.term_core.specs.Mappings.{Name}
use Rattle.sparql_tree.specs.Exprs.{Expr}
use Rattle.sparql_tree.specs.Groups.{Group, GroupOf, Element, Union, Optional, Minus, Filter, Bind, elements, groups}
use Rattle.sparql_tree.specs.declared.words.AggregateKind.{AggregateKind}
use Rattle.sparql_tree.specs.declared.words.Function.{Function}
use Rattle.sparql_tree.specs.declared.symbol.Shape.{Shape}
use Rattle.sparql_tree.specs.declared.symbol.Shape.TheVariants as s
use Rattle.sparql_tree.specs.declared.symbol.Symbol.{Symbol}
use Rattle.sparql_tree.specs.Heads.{Is, IsHead}
use Rattle.sparql_grammar.specs.Parser.{Parser, next, ◌>>=◌, ◌>>◌, ◌<$>◌, pure, take, more, all_more, repeat, all_steps, open_paren, close_paren, open_brace, close_brace, as_word, name}
use Rattle.sparql_tree.specs.Heads.{head}
use Rattle.sparql_tree.specs.Expressions.{IsExpr, IsCall, call, IsAggregate, count_all, aggregate}
use Rattle.sparql_tree.specs.Expressions as e
use Rattle.sparql_grammar.specs.ExprReading as x
use Rattle.sparql_tree.specs.Triples.{IsTriples, no_triples, triples as triples_there}
use Rattle.sparql_grammar.specs.TripleReading.{triples, begins_node}
use Rattle.sparql_grammar.specs.ValueReading as v
use Rattle.sparql_tree.specs.GroupPatterns.{IsConstraint, constraint, constraint_call, constraint_aggregate, IsPoint, no_point, point, IsGroup, group, GroupTail, group_end, group_more, IsElement, union, optional, without, filter, bind, values, UnionTail, union_end, union_more}
use Rattle.sparql_grammar.specs.GroupReading as r
use Rattle.sparql_grammar.proofs.Steps.{is-next, is-head, is-shorter, holds-shorter, Good, then_good, weaken, Adds, none_more, Extends, Turns, all_more-sound, Grows, GrowsBy, all_steps-sound, open-sound, close-sound, name-sound, open_brace-sound, close_brace-sound, as-sound, Finds, same_found, more-stop, more-step, repeat-stop, repeat-step, open-finds, close-finds, name-finds, open_brace-finds, close_brace-finds, as-finds, then-finds, map-finds, take-finds, at-finds, closed-finds}
use Rattle.sparql_grammar.proofs.ExprSound.{closed-sound, call-sound, aggregate-sound, expr-sound}
use Rattle.sparql_grammar.proofs.ExprShorter.{expr-shorter, call-shorter, aggregate-shorter, distinct-shorter}
use Rattle.sparql_grammar.proofs.ExprEnds.{expr-begins, is-stops}
use Rattle.sparql_grammar.proofs.ExprComplete.{expr-finds, list-finds-all, call-finds, call_bound-finds, bound-finds, count_all-finds, aggregate-finds, distinct-finds, expr-not_distinct, not_distinct_at}
use Rattle.sparql_grammar.proofs.TripleLaws.{triples-sound, triples-shorter, triples-finds, triples-begin, block-begins, Ends, EndsAt, is-ends}
use Rattle.sparql_grammar.proofs.ValueLaws.{HasValues, values-sound, values-shorter, values-finds}

-- ---- sound

point_by-sound : (ts : List Symbol) (o : Option Shape) → head ts ≡ o → Good (λ (u : Unit {0}) us. IsPoint ts us) (r.point_by o ts)
point_by-sound ts (Some s.Point) h = point (is-next s.Point ts h)
point_by-sound ts o h = no_point

point-sound : (ts : List Symbol) → Good (λ (u : Unit {0}) us. IsPoint ts us) (r.point ts)
unfolding r.point
point-sound ts = point_by-sound ts (head ts) refl

module _ (expr : Bool → Parser Expr) (nested : (b : Bool) (ts : List Symbol) → Good (IsExpr b ts) (expr b ts)) where
  aggregate_if-sound : (b allowed : Bool) (kind : AggregateKind) (ts : List Symbol) → head ts ≡ Some (s.Aggregate kind) → Good (IsConstraint allowed ts) (x.aggregate_if expr b allowed kind ts)
  aggregate_if-sound b true kind ts h = weaken (IsAggregate ts) (IsConstraint true ts) _ (aggregate-sound expr nested b kind ts (next ts) (is-next (s.Aggregate kind) ts h)) (λ a rest k. constraint_aggregate k)
  aggregate_if-sound b false kind ts h = tt

  constraint_by-sound : (b : Bool) (ts : List Symbol) (o : Option Shape) → head ts ≡ o → Good (IsConstraint b ts) (r.constraint_by expr b o ts)
  constraint_by-sound b ts (Some s.Open) h = closed-sound (IsExpr b (next ts)) (IsConstraint b ts) (expr b) (next ts) (nested b (next ts)) (λ a us rest k m. constraint (is-next s.Open ts h) k m)
  constraint_by-sound b ts (Some (s.Function function)) h =
      weaken (IsCall b ts) (IsConstraint b ts) _ (call-sound expr nested b function ts (next ts) (is-next (s.Function function) ts h)) (λ a rest k. constraint_call k)
  constraint_by-sound b ts (Some (s.Aggregate kind)) h = aggregate_if-sound b b kind ts h
  constraint_by-sound b ts o h = tt

  pub constraint-sound : (b : Bool) (ts : List Symbol) → Good (IsConstraint b ts) (r.constraint expr b ts)
  unfolding r.constraint
  constraint-sound b ts = constraint_by-sound b ts (head ts) refl

  bound-sound : (ts us : List Symbol) → Is s.Bind ts us → Good (IsElement ts) (r.bound expr us)
  unfolding r.bound
  bound-sound ts us i = then_good (λ (u : Unit {0}) vs. Is s.Open us vs) (IsElement ts) (open_paren us) _ (open-sound us) (λ u vs j.
      then_good (IsExpr false vs) (IsElement ts) (expr false vs) _ (nested false vs) (λ a ws k.
      then_good (λ (w : Unit {0}) xs. Is s.As ws xs) (IsElement ts) (as_word ws) _ (as-sound ws) (λ w xs l.
      then_good (λ word ys. IsHead s.Var word xs ys) (IsElement ts) (name xs) _ (name-sound xs) (λ word ys h.
      then_good (λ (z : Unit {0}) rest. Is s.Close ys rest) (IsElement ts) (close_paren ys) _ (close-sound ys) (λ z rest m. bind i j k l h m)))))

module _ (expr : Bool → Parser Expr) (nested : (b : Bool) (ts : List Symbol) → Good (IsExpr b ts) (expr b ts))
    (inner : Parser Group) (inside : (ts : List Symbol) → Good (IsGroup ts) (inner ts)) where
  union_turn-sound : (ts : List Symbol) (o : Option Shape) → head ts ≡ o → Turns UnionTail ts (r.union_turn expr inner o)
  union_turn-sound ts (Some s.Union) h = weaken (IsGroup (next ts)) (Extends UnionTail ts) _ (inside (next ts)) (λ g us k xs rest t. union_more (is-next s.Union ts h) k t)
  union_turn-sound ts o h = tt

  union_from-sound : (found : List Group) (ts : List Symbol) → Good (Adds (UnionTail ts) found) (r.union_from expr inner found ts)
  unfolding r.union_from
  union_from-sound found ts = all_more-sound UnionTail (r.union_turn expr inner) (λ us. union_end) (λ us. union_turn-sound us (head us) refl) found ts

  groups-sound : (ts : List Symbol) → Good (IsElement ts) ((inner >>= (λ first. (λ all. Union (groups all)) <$> r.union_from expr inner (first ∷ []))) ts)
  groups-sound ts = then_good (IsGroup ts) (IsElement ts) (inner ts) _ (inside ts) (λ first us h.
      then_good (Adds (UnionTail us) (first ∷ [])) (IsElement ts) (r.union_from expr inner (first ∷ []) us) _ (union_from-sound (first ∷ []) us)
      (λ all rest k. subst (λ w. IsElement ts (Union (groups w)) rest) (sym k.1) (union h k.2)))

  element_by-sound : (ts : List Symbol) (o : Option Shape) → head ts ≡ o → Good (IsElement ts) (r.element_by expr inner o ts)
  element_by-sound ts (Some s.Optional) h = then_good (IsGroup (next ts)) (IsElement ts) (inner (next ts)) _ (inside (next ts)) (λ g rest k. optional (is-next s.Optional ts h) k)
  element_by-sound ts (Some s.Without) h = then_good (IsGroup (next ts)) (IsElement ts) (inner (next ts)) _ (inside (next ts)) (λ g rest k. without (is-next s.Without ts h) k)
  element_by-sound ts (Some s.Filter) h =
      then_good (IsConstraint false (next ts)) (IsElement ts) (r.constraint expr false (next ts)) _ (constraint-sound expr nested false (next ts)) (λ a rest k. filter (is-next s.Filter ts h) k)
  element_by-sound ts (Some s.Bind) h = bound-sound expr nested ts (next ts) (is-next s.Bind ts h)
  element_by-sound ts (Some s.Values) h =
      weaken (HasValues (next ts)) (IsElement ts) _ (values-sound (next ts)) (λ a rest k. subst (λ w. IsElement ts w rest) k.same (values (is-next s.Values ts h) k.is_values))
  element_by-sound ts o h = groups-sound ts

  element-sound : (ts : List Symbol) → Good (IsElement ts) (r.element expr inner ts)
  unfolding r.element
  element-sound ts = element_by-sound ts (head ts) refl

  step-sound : (found : List Element) (ts : List Symbol) → Good (Grows GroupTail ts found) (r.step expr inner found ts)
  unfolding r.step
  step-sound found ts = then_good (IsElement ts) (Grows GroupTail ts found) (r.element expr inner ts) _ (element-sound ts) (λ y us h.
      then_good (λ (u : Unit {0}) vs. IsPoint us vs) (Grows GroupTail ts found) (r.point us) _ (point-sound us) (λ u vs d.
      then_good (IsTriples vs) (Grows GroupTail ts found) (triples vs) _ (triples-sound vs) (λ after ws t.
      (y ∷ after, append_assoc found (y ∷ []) after, λ xs rest k. group_more h d t k))))

  body_turn-sound : (ts : List Symbol) (o : Option Shape) → GrowsBy GroupTail ts (r.body_turn expr inner o)
  body_turn-sound ts (Some s.CloseBrace) = tt
  body_turn-sound ts o = λ found. step-sound found ts

  body-sound : (found : List Element) (ts : List Symbol) → Good (Adds (GroupTail ts) found) (r.body expr inner found ts)
  unfolding r.body
  body-sound found ts = all_steps-sound GroupTail (r.body_turn expr inner) (λ us. group_end) (λ us. body_turn-sound us (head us)) found ts

  braced-sound : (ts : List Symbol) → Good (IsGroup ts) (r.braced expr inner ts)
  unfolding r.braced
  braced-sound ts = then_good (λ (u : Unit {0}) us. Is s.OpenBrace ts us) (IsGroup ts) (open_brace ts) _ (open_brace-sound ts) (λ u us i.
      then_good (IsTriples us) (IsGroup ts) (triples us) _ (triples-sound us) (λ first vs t.
      then_good (Adds (GroupTail vs) first) (IsGroup ts) (r.body expr inner first vs) _ (body-sound first vs) (λ all ws k.
      then_good (λ (w : Unit {0}) rest. Is s.CloseBrace ws rest) (IsGroup ts) (close_brace ws) _ (close_brace-sound ws) (λ w rest j.
      subst (λ es. IsGroup ts (GroupOf (elements es)) rest) (sym k.1) (group i t k.2 j)))))

pub group-sound : (room : ℕ) (ts : List Symbol) → Good (IsGroup ts) (r.group room ts)
unfolding r.group
group-sound zero ts = tt
group-sound (suc room) ts = braced-sound (x.expr room) (expr-sound room) (r.group room) (group-sound room) ts

-- ---- what they take

pub constraint-shorter : {b : Bool} {ts rest : List Symbol} {a : Expr} → IsConstraint b ts a rest → length rest < length ts
constraint-shorter (constraint i h j) = omega (arith, is-shorter i, expr-shorter h, is-shorter j)
constraint-shorter (constraint_call h) = call-shorter h
constraint-shorter (constraint_aggregate h) = aggregate-shorter h

point-shorter : {ts rest : List Symbol} → IsPoint ts rest → length rest ≤ length ts
point-shorter no_point = omega arith
point-shorter (point i) = omega (arith, is-shorter i)

mutual
  pub group-shorter : {ts rest : List Symbol} {g : Group} → IsGroup ts g rest → length rest < length ts
  group-shorter (group i t k j) = omega (arith, is-shorter i, triples-shorter t, group_tail-shorter k, is-shorter j)

  group_tail-shorter : {ts rest : List Symbol} {xs : List Element} → GroupTail ts xs rest → length rest ≤ length ts
  group_tail-shorter group_end = omega arith
  group_tail-shorter (group_more h d t k) = omega (arith, element-shorter h, point-shorter d, triples-shorter t, group_tail-shorter k)

  element-shorter : {ts rest : List Symbol} {a : Element} → IsElement ts a rest → length rest < length ts
  element-shorter (union h k) = omega (arith, group-shorter h, union_tail-shorter k)
  element-shorter (optional i h) = omega (arith, is-shorter i, group-shorter h)
  element-shorter (without i h) = omega (arith, is-shorter i, group-shorter h)
  element-shorter (filter i h) = omega (arith, is-shorter i, constraint-shorter h)
  element-shorter (bind i j k l h m) = omega (arith, is-shorter i, is-shorter j, expr-shorter k, is-shorter l, holds-shorter h, is-shorter m)
  element-shorter (values i h) = omega (arith, is-shorter i, values-shorter h)

  union_tail-shorter : {ts rest : List Symbol} {xs : List Group} → UnionTail ts xs rest → length rest ≤ length ts
  union_tail-shorter union_end = omega arith
  union_tail-shorter (union_more i h k) = omega (arith, is-shorter i, group-shorter h, union_tail-shorter k)

-- ---- what may follow

-- a part of a group that is no triples begins here
abbrev begins_element : Option Shape → Bool
begins_element (Some s.OpenBrace) = true
begins_element (Some s.Optional) = true
begins_element (Some s.Without) = true
begins_element (Some s.Filter) = true
begins_element (Some s.Bind) = true
begins_element (Some s.Values) = true
begins_element o = false

element-begins : {ts rest : List Symbol} {a : Element} → IsElement ts a rest → begins_element (head ts) ≡ true
element-begins (union (group i t k j) m) = ap begins_element (is-head i)
element-begins (optional i h) = ap begins_element (is-head i)
element-begins (without i h) = ap begins_element (is-head i)
element-begins (filter i h) = ap begins_element (is-head i)
element-begins (bind i j k l h m) = ap begins_element (is-head i)
element-begins (values i h) = ap begins_element (is-head i)

element-ends : (o : Option Shape) → begins_element o ≡ true → EndsAt 1 o
element-ends None h = tt
element-ends (Some s.OpenBrace) h = omega arith
element-ends (Some s.Optional) h = omega arith
element-ends (Some s.Without) h = omega arith
element-ends (Some s.Filter) h = omega arith
element-ends (Some s.Bind) h = omega arith
element-ends (Some s.Values) h = omega arith
element-ends o h = absurd cc

group_tail-ends : {ts us rest : List Symbol} {xs : List Element} → GroupTail ts xs us → Is s.CloseBrace us rest → Ends 1 ts
group_tail-ends group_end j = is-ends 1 j (omega arith)
group_tail-ends {ts = ts} (group_more h d t k) j = element-ends (head ts) (element-begins h)

-- no union goes on here
abbrev no_union : Option Shape → Bool
no_union (Some s.Union) = false
no_union o = true

element-no_union : (o : Option Shape) → begins_element o ≡ true → no_union o ≡ true
element-no_union (Some s.Union) h = absurd cc
element-no_union o h = refl

node-no_union : (o : Option Shape) → begins_node o ≡ true → no_union o ≡ true
node-no_union (Some s.Union) h = absurd cc
node-no_union o h = refl

group_tail-no_union : {ts us rest : List Symbol} {xs : List Element} → GroupTail ts xs us → Is s.CloseBrace us rest → no_union (head ts) ≡ true
group_tail-no_union group_end j = ap no_union (is-head j)
group_tail-no_union {ts = ts} (group_more h d t k) j = element-no_union (head ts) (element-begins h)

triples-no_union : {ts us vs rest : List Symbol} {xs ys : List Element} → IsTriples ts xs us → GroupTail us ys vs → Is s.CloseBrace vs rest → no_union (head ts) ≡ true
triples-no_union no_triples k j = group_tail-no_union k j
triples-no_union {ts = ts} (triples_there h) k j = node-no_union (head ts) (block-begins h)

point-no_union : {ss ts us vs rest : List Symbol} {xs ys : List Element} → IsPoint ss ts → IsTriples ts xs us → GroupTail us ys vs → Is s.CloseBrace vs rest → no_union (head ss) ≡ true
point-no_union no_point t k j = triples-no_union t k j
point-no_union (point i) t k j = ap no_union (is-head i)

point_by-none : (ts : List Symbol) (o : Option Shape) → EndsAt 1 o ⊎ (begins_node o ≡ true) → r.point_by o ts ≡ Some (tt, ts)
point_by-none ts (Some s.Point) (inl h) = absurd (omega arith)
point_by-none ts (Some s.Point) (inr h) = absurd cc
point_by-none ts o h = refl

point-finds : {us vs ws : List Symbol} {xs : List Element} → IsPoint us vs → IsTriples vs xs ws → Ends 1 ws → Finds r.point us tt vs
unfolding r.point
point-finds {us = us} no_point t ends = record { found = point_by-none us (head us) (triples-begin t ends) }
point-finds (point i) t ends = at-finds r.point_by (is-head i) (take-finds {q = λ w. Some (tt, w)} i (record { found = refl }))

-- ---- complete

module _ (p : Bool → Parser Expr) (b : Bool) where
  constraint-parens : {ts us vs rest : List Symbol} {a : Expr} → Is s.Open ts us → Finds (p b) us a vs → Is s.Close vs rest → Finds (r.constraint p b) ts a rest
  unfolding r.constraint
  constraint-parens i h j = at-finds (r.constraint_by p b) (is-head i) (take-finds i (closed-finds h j))

  constraint-called : {ts us rest : List Symbol} {function : Function} {a : Expr} → Is (s.Function function) ts us → Finds (x.call p b function) us a rest → Finds (r.constraint p b) ts a rest
  unfolding r.constraint
  constraint-called i h = at-finds (r.constraint_by p b) (is-head i) (take-finds i h)

constraint-aggregated : (p : Bool → Parser Expr) {ts us rest : List Symbol} {kind : AggregateKind} {a : Expr} → Is (s.Aggregate kind) ts us → Finds (x.aggregate p true kind) us a rest
    → Finds (r.constraint p true) ts a rest
unfolding r.constraint
constraint-aggregated p i h = at-finds (r.constraint_by p true) (is-head i) (take-finds i h)

call-constraint : {b : Bool} {ts rest : List Symbol} {a : Expr} (d : ℕ) → IsCall b ts a rest → length ts ≤ d → Finds (r.constraint (x.expr d) b) ts a rest
call-constraint {b = b} d (call i h k) fits = constraint-called (x.expr d) b i (call-finds (x.expr d) b (list-finds-all d h (omega (arith, is-shorter i))) k)
call-constraint {b = b} d (e.bound i j h k) fits = constraint-called (x.expr d) b i (call_bound-finds (x.expr d) b (bound-finds j h k))

aggregate-constraint : {ts rest : List Symbol} {a : Expr} (d : ℕ) → IsAggregate ts a rest → length ts ≤ d → Finds (r.constraint (x.expr d) true) ts a rest
aggregate-constraint d (count_all i j k l m) fits = constraint-aggregated (x.expr d) i (count_all-finds (x.expr d) true j (distinct-finds k (ap not_distinct_at (is-head l))) l m)
aggregate-constraint d (aggregate {ws = ws} i j k h m) fits =
    constraint-aggregated (x.expr d) i (aggregate-finds (x.expr d) true j (distinct-finds k (expr-not_distinct (head ws) (expr-begins h))) (expr-begins h)
    (expr-finds d h (omega (arith, is-shorter i, is-shorter j, distinct-shorter k)) (is-stops 1 m (omega arith))) m)

pub constraint-finds : {b : Bool} {ts rest : List Symbol} {a : Expr} (d : ℕ) → IsConstraint b ts a rest → length ts ≤ d → Finds (r.constraint (x.expr d) b) ts a rest
constraint-finds {b = b} d (constraint i h j) fits = constraint-parens (x.expr d) b i (expr-finds d h (omega (arith, is-shorter i)) (is-stops 1 j (omega arith))) j
constraint-finds d (constraint_call h) fits = call-constraint d h fits
constraint-finds d (constraint_aggregate h) fits = aggregate-constraint d h fits

module _ (p : Bool → Parser Expr) (g : Parser Group) where
  union_turn-stop : (o : Option Shape) → no_union o ≡ true → r.union_turn p g o ≡ None
  union_turn-stop (Some s.Union) h = absurd cc
  union_turn-stop o h = refl

  element-union : {ts us rest : List Symbol} {first : Group} {all : List Group} → head ts ≡ Some s.OpenBrace → Finds g ts first us → Finds (more (r.union_turn p g) (length us) (first ∷ [])) us all rest
      → Finds (r.element p g) ts (Union (groups all)) rest
  unfolding r.element r.union_from all_more
  element-union {first = first} i h k = at-finds (r.element_by p g) i (then-finds _ h (map-finds {q = λ w. more (r.union_turn p g) (length w) (first ∷ []) w} (λ all. Union (groups all)) (record { found = k.found })))

  element-optional : {ts us rest : List Symbol} {a : Group} → Is s.Optional ts us → Finds g us a rest → Finds (r.element p g) ts (Optional a) rest
  unfolding r.element
  element-optional i h = at-finds (r.element_by p g) (is-head i) (take-finds i (map-finds Optional h))

  element-without : {ts us rest : List Symbol} {a : Group} → Is s.Without ts us → Finds g us a rest → Finds (r.element p g) ts (Minus a) rest
  unfolding r.element
  element-without i h = at-finds (r.element_by p g) (is-head i) (take-finds i (map-finds Minus h))

  element-filter : {ts us rest : List Symbol} {a : Expr} → Is s.Filter ts us → Finds (r.constraint p false) us a rest → Finds (r.element p g) ts (Filter a) rest
  unfolding r.element
  element-filter i h = at-finds (r.element_by p g) (is-head i) (take-finds i (map-finds Filter h))

  element-bind : {ts us vs ws xs ys rest : List Symbol} {a : Expr} {word : Name} → Is s.Bind ts us → Is s.Open us vs → Finds (p false) vs a ws → Is s.As ws xs → IsHead s.Var word xs ys → Is s.Close ys rest
      → Finds (r.element p g) ts (Bind a word) rest
  unfolding r.element r.bound
  element-bind i j h k l m = at-finds (r.element_by p g) (is-head i) (take-finds i
      (then-finds _ (open-finds j) (then-finds _ h (then-finds _ (as-finds k) (then-finds _ (name-finds l) (then-finds _ (close-finds m) (record { found = refl })))))))

  element-values : {ts us rest : List Symbol} {a : Element} → Is s.Values ts us → Finds v.values us a rest → Finds (r.element p g) ts a rest
  unfolding r.element
  element-values i h = at-finds (r.element_by p g) (is-head i) (take-finds i h)

  step-finds : (found : List Element) {ts us vs ws : List Symbol} {y : Element} {after : List Element} → Finds (r.element p g) ts y us → Finds r.point us tt vs → Finds triples vs after ws
      → Finds (r.step p g found) ts (found ++ (y ∷ after)) ws
  unfolding r.step
  step-finds found {y = y} {after = after} h d t = same_found (then-finds _ h (then-finds _ d (then-finds _ t (record { found = refl })))) (append_assoc found (y ∷ []) after)

  body_turn-step : (o : Option Shape) → begins_element o ≡ true → r.body_turn p g o ≡ Some (r.step p g)
  body_turn-step (Some s.CloseBrace) h = absurd cc
  body_turn-step o h = refl

  braced-finds : {ts us vs ws rest : List Symbol} {first all : List Element} → Is s.OpenBrace ts us → Finds triples us first vs → Finds (repeat (r.body_turn p g) (length vs) first) vs all ws
      → Is s.CloseBrace ws rest → Finds (r.braced p g) ts (GroupOf (elements all)) rest
  unfolding r.braced r.body all_steps
  braced-finds i t k j = then-finds _ (open_brace-finds i) (then-finds _ t (then-finds (λ all. close_brace >> pure (GroupOf (elements all))) (record { found = k.found }) (then-finds _ (close_brace-finds j) (record { found = refl }))))

group-step : (d : ℕ) {ts rest : List Symbol} {a : Group} → Finds (r.braced (x.expr d) (r.group d)) ts a rest → Finds (r.group (suc d)) ts a rest
unfolding r.group
group-step d h = record { found = h.found }

pub group-head : {ts rest : List Symbol} {a : Group} → IsGroup ts a rest → head ts ≡ Some s.OpenBrace
group-head (group i t k j) = is-head i

mutual
  pub group-finds : {ts rest : List Symbol} {a : Group} (d : ℕ) → IsGroup ts a rest → length ts < d → Finds (r.group d) ts a rest
  group-finds zero (group i t k j) fits = absurd (omega arith)
  group-finds (suc d) (group {vs = vs} {first = first} i t k j) fits =
      group-step d (braced-finds (x.expr d) (r.group d) i (triples-finds t (group_tail-ends k j))
      (group_tail-finds d k (omega (arith, is-shorter i, triples-shorter t)) j (length vs) first (omega arith)) j)

  group_tail-finds : {ts us rest : List Symbol} {xs : List Element} (d : ℕ) → GroupTail ts xs us → length ts < d → Is s.CloseBrace us rest → (n : ℕ) (found : List Element) → length ts ≤ n
      → Finds (repeat (r.body_turn (x.expr d) (r.group d)) n found) ts (found ++ xs) us
  group_tail-finds d (group_end {ts = ts}) fits j n found le =
      same_found (repeat-stop (r.body_turn (x.expr d) (r.group d)) n found ts (ap (r.body_turn (x.expr d) (r.group d)) (is-head j))) (none_more found)
  group_tail-finds d (group_more h e t k) fits j zero found le = absurd (omega (arith, element-shorter h))
  group_tail-finds d (group_more {ts = ts} {ws = ws} {x = y} {after = after} {more = xs} h e t k) fits j (suc n) found le =
      repeat-step (r.body_turn (x.expr d) (r.group d)) (r.step (x.expr d) (r.group d)) n found (found ++ (y ∷ after)) ts ws
      (body_turn-step (x.expr d) (r.group d) (head ts) (element-begins h))
      (step-finds (x.expr d) (r.group d) found (element-finds d h fits (point-no_union e t k j)) (point-finds e t (group_tail-ends k j)) (triples-finds t (group_tail-ends k j)))
      (same_found (group_tail-finds d k (omega (arith, element-shorter h, point-shorter e, triples-shorter t)) j n (found ++ (y ∷ after)) (omega (arith, element-shorter h, point-shorter e, triples-shorter t)))
      (append_assoc found (y ∷ after) xs))

  element-finds : {ts rest : List Symbol} {a : Element} (d : ℕ) → IsElement ts a rest → length ts < d → no_union (head rest) ≡ true → Finds (r.element (x.expr d) (r.group d)) ts a rest
  element-finds d (union {us = us} {first = first} h k) fits stop =
      element-union (x.expr d) (r.group d) (group-head h) (group-finds d h fits) (union_tail-finds d k (omega (arith, group-shorter h)) stop (length us) (first ∷ []) (omega arith))
  element-finds d (optional i h) fits stop = element-optional (x.expr d) (r.group d) i (group-finds d h (omega (arith, is-shorter i)))
  element-finds d (without i h) fits stop = element-without (x.expr d) (r.group d) i (group-finds d h (omega (arith, is-shorter i)))
  element-finds d (filter i h) fits stop = element-filter (x.expr d) (r.group d) i (constraint-finds d h (omega (arith, is-shorter i)))
  element-finds d (bind i j h k l m) fits stop = element-bind (x.expr d) (r.group d) i j (expr-finds d h (omega (arith, is-shorter i, is-shorter j)) (is-stops 1 k (omega arith))) k l m
  element-finds d (values i h) fits stop = element-values (x.expr d) (r.group d) i (values-finds h)

  union_tail-finds : {ts rest : List Symbol} {xs : List Group} (d : ℕ) → UnionTail ts xs rest → length ts < d → no_union (head rest) ≡ true → (n : ℕ) (found : List Group) → length ts ≤ n
      → Finds (more (r.union_turn (x.expr d) (r.group d)) n found) ts (found ++ xs) rest
  union_tail-finds d (union_end {ts = ts}) fits stop n found le = same_found (more-stop (r.union_turn (x.expr d) (r.group d)) n found ts (union_turn-stop (x.expr d) (r.group d) (head ts) stop)) (none_more found)
  union_tail-finds d (union_more i h k) fits stop zero found le = absurd (omega (arith, is-shorter i))
  union_tail-finds d (union_more {ts = ts} {vs = vs} {first = first} {more = xs} i h k) fits stop (suc n) found le =
      more-step (r.union_turn (x.expr d) (r.group d)) (take >> r.group d) n found ts vs first (ap (r.union_turn (x.expr d) (r.group d)) (is-head i)) (take-finds i (group-finds d h (omega (arith, is-shorter i))))
      (same_found (union_tail-finds d k (omega (arith, is-shorter i, group-shorter h)) stop n (found ++ first ∷ []) (omega (arith, is-shorter i, group-shorter h))) (append_assoc found (first ∷ []) xs))
