-- The grammar of queries and its reader agree.
use Rattle.std.proofs.Common.{◌≡◌, ℕ, ◌<◌, ◌^◌, Bool, true, false, List, [], ◌∷◌, Option, Some, None, refl, sym, subst, arith}
use Rattle.std.proofs.lemmas.Bool.Decides.{nat_tests}
use Rattle.term_core.specs.Numbers.{are_digits}
use Rattle.term_core.specs.Numbers as numbers
use Rattle.sparql_tree.specs.Exprs.{Expr}
use Rattle.sparql_tree.specs.Groups.{SelectItem, GroupKey, OrderKey, Query}
use Rattle.sparql_tree.specs.declared.symbol.Shape.{Shape}
use Rattle.sparql_tree.specs.declared.symbol.Shape.TheVariants as s
use Rattle.sparql_tree.specs.declared.symbol.Symbol.{Symbol}
use Rattle.sparql_tree.specs.Heads.{Is, IsHead}
use Rattle.sparql_grammar.specs.Parser.{next, first_value, ◌>>=◌, ◌<$>◌, pure, open_paren, close_paren, as_word, name}
use Rattle.sparql_tree.specs.Heads.{head}
use Rattle.sparql_tree.specs.Expressions.{IsExpr, IsCall}
use Rattle.sparql_grammar.specs.ExprReading as x
use Rattle.sparql_tree.specs.GroupPatterns.{IsConstraint, IsGroup}
use Rattle.sparql_grammar.specs.GroupReading as g
use Rattle.sparql_tree.specs.Queries.{ordered, IsDistinctness, distinct_rows, reduced_rows, all_rows, IsItem, item_variable, item_value, ItemTail, item_end, item_more, IsSelection, select_star, select_items, IsWhere, where_word, no_where, IsKey, key_variable, key_call, key_value, key_named, KeyTail, key_end, key_more, IsGrouping, no_grouping, grouping, HavingTail, having_end, having_more, IsHaving, no_having, having, IsOrderKey, ascending, descending, order_constraint, order_variable, OrderTail, order_end, order_more, IsOrdering, no_ordering, ordering, IsCount, count, IsLimit, limit, IsOffset, offset, IsSlice, no_slice, limit_only, limit_offset, offset_only, offset_limit, IsSelect, select}
use Rattle.sparql_grammar.specs.QueryReading as r
use Rattle.sparql_grammar.proofs.Steps.{is-next, holds-next, Good, then_good, weaken, Adds, Extends, Turns, all_more-sound, open-sound, close-sound, name-sound, as-sound}
use Rattle.sparql_grammar.proofs.ExprSound.{expr-sound, call-sound}
use Rattle.sparql_grammar.proofs.GroupLaws.{constraint-sound, group-sound}

-- ---- sound

select-sound : (ts : List Symbol) → Good (λ (u : Unit {0}) us. Is s.Select ts us) (r.select_word ts)
unfolding r.select_word
select-sound ts = by (head ts) refl
  where
    by : (o : Option Shape) → head ts ≡ o → Good (λ (u : Unit {0}) us. Is s.Select ts us) (r.select_by o ts)
    by (Some s.Select) h = is-next s.Select ts h
    by o h = tt

by-sound : (ts : List Symbol) → Good (λ (u : Unit {0}) us. Is s.By ts us) (r.by_word ts)
unfolding r.by_word
by-sound ts = by (head ts) refl
  where
    by : (o : Option Shape) → head ts ≡ o → Good (λ (u : Unit {0}) us. Is s.By ts us) (r.by_by o ts)
    by (Some s.By) h = is-next s.By ts h
    by o h = tt

where-sound : (ts : List Symbol) → Good (λ (u : Unit {0}) us. IsWhere ts us) (r.where_word ts)
unfolding r.where_word
where-sound ts = by (head ts) refl
  where
    by : (o : Option Shape) → head ts ≡ o → Good (λ (u : Unit {0}) us. IsWhere ts us) (r.where_by o ts)
    by (Some s.Where) h = where_word (is-next s.Where ts h)
    by o h = no_where

distinctness-sound : (ts : List Symbol) → Good (IsDistinctness ts) (r.distinctness ts)
unfolding r.distinctness
distinctness-sound ts = by (head ts) refl
  where
    by : (o : Option Shape) → head ts ≡ o → Good (IsDistinctness ts) (r.distinct_by o ts)
    by (Some s.Distinct) h = distinct_rows (is-next s.Distinct ts h)
    by (Some s.Reduced) h = reduced_rows (is-next s.Reduced ts h)
    by o h = all_rows

both_fit : (digits : List ℕ) → r.fits_64_bits digits ≡ true → (are_digits digits ≡ true) × (numbers.digits_value digits < 2 ^ 64)
both_fit digits h = grind (arith, nat_tests)

counted-sound : (ts rest : List Symbol) (digits : List ℕ) (fit : Bool) → r.fits_64_bits digits ≡ fit → IsHead s.Integer digits ts rest → Good (IsCount ts) (r.counted_if fit (numbers.digits_value digits) rest)
counted-sound ts rest digits true e h = let both = both_fit digits e in count h both.0 both.1
counted-sound ts rest digits false e h = tt

count-sound : (ts : List Symbol) → Good (IsCount ts) (r.count ts)
unfolding r.count
count-sound ts = by (head ts) refl
  where
    by : (o : Option Shape) → head ts ≡ o → Good (IsCount ts) (r.count_by o ts)
    by (Some s.Integer) h = counted-sound ts (next ts) (first_value ts) (r.fits_64_bits (first_value ts)) refl (holds-next s.Integer ts h)
    by o h = tt

-- what an offset that may be left out reads
abbrev MaybeOffset : List Symbol → ℕ → List Symbol → Type 0
MaybeOffset ts m rest = (n : Option ℕ) (ss : List Symbol) (l : ℕ) → IsLimit ss l ts → IsSlice ss (Some l) m rest

offset-sound : (ts ss : List Symbol) (l : ℕ) → IsLimit ss l ts → Good (IsSlice ss (Some l)) (r.offset ts)
unfolding r.offset
offset-sound ts ss l k = by (head ts) refl
  where
    by : (o : Option Shape) → head ts ≡ o → Good (IsSlice ss (Some l)) (r.offset_by o ts)
    by (Some s.Offset) h = weaken (IsCount (next ts)) (IsSlice ss (Some l)) _ (count-sound (next ts)) (λ m rest c. limit_offset k (offset (is-next s.Offset ts h) c))
    by o h = limit_only k

offset_alone-sound : (ts : List Symbol) → Good (IsSlice ts None) (r.offset ts)
unfolding r.offset
offset_alone-sound ts = by (head ts) refl
  where
    by : (o : Option Shape) → head ts ≡ o → Good (IsSlice ts None) (r.offset_by o ts)
    by (Some s.Offset) h = weaken (IsCount (next ts)) (IsSlice ts None) _ (count-sound (next ts)) (λ m rest c. offset_only (offset (is-next s.Offset ts h) c))
    by o h = no_slice

-- a limit, or nothing
abbrev MaybeLimit : List Symbol → Option ℕ → List Symbol → Type 0
MaybeLimit ts None rest = ts ≡ rest
MaybeLimit ts (Some n) rest = IsLimit ts n rest

limit-sound : (ts : List Symbol) → Good (MaybeLimit ts) (r.limit ts)
unfolding r.limit
limit-sound ts = by (head ts) refl
  where
    by : (o : Option Shape) → head ts ≡ o → Good (MaybeLimit ts) (r.limit_by o ts)
    by (Some s.Limit) h = then_good (IsCount (next ts)) (MaybeLimit ts) (r.count (next ts)) _ (count-sound (next ts)) (λ n rest c. limit (is-next s.Limit ts h) c)
    by o h = refl

abbrev Sliced : List Symbol → Option ℕ × ℕ → List Symbol → Type 0
Sliced ts part rest = IsSlice ts part.0 part.1 rest

limited-sound : (ts : List Symbol) (n : Option ℕ) (us : List Symbol) → MaybeLimit ts n us → Good (Sliced ts) ((r.offset >>= (λ m. pure (n, m))) us)
limited-sound ts None us e = then_good (IsSlice us None) (Sliced ts) (r.offset us) _ (offset_alone-sound us) (λ m rest k. subst (λ w. IsSlice w None m rest) (sym e) k)
limited-sound ts (Some n) us e = then_good (IsSlice ts (Some n)) (Sliced ts) (r.offset us) _ (offset-sound us ts n e) (λ m rest k. k)

behind_offset-sound : (ts : List Symbol) (m : ℕ) (us : List Symbol) → IsOffset ts m us → (n : Option ℕ) (rest : List Symbol) → MaybeLimit us n rest → Sliced ts (n, m) rest
behind_offset-sound ts m us i None rest e = subst (λ w. IsSlice ts None m w) e (offset_only i)
behind_offset-sound ts m us i (Some n) rest e = offset_limit i e

pub slice-sound : (ts : List Symbol) → Good (Sliced ts) (r.slice ts)
unfolding r.slice
slice-sound ts = by (head ts) refl
  where
    any : Good (Sliced ts) ((r.limit >>= (λ n. r.offset >>= (λ m. pure (n, m)))) ts)
    any = then_good (MaybeLimit ts) (Sliced ts) (r.limit ts) _ (limit-sound ts) (λ n us e. limited-sound ts n us e)

    by : (o : Option Shape) → head ts ≡ o → Good (Sliced ts) (r.slice_by o ts)
    by (Some s.Offset) h = then_good (IsCount (next ts)) (Sliced ts) (r.count (next ts)) _ (count-sound (next ts)) (λ m us c.
        then_good (MaybeLimit us) (Sliced ts) (r.limit us) _ (limit-sound us) (λ n rest e. behind_offset-sound ts m us (offset (is-next s.Offset ts h) c) n rest e))
    by o h = any

module _ (room : ℕ) where
  item_value-sound : (ts us : List Symbol) → Is s.Open ts us → Good (IsItem ts) (r.item_value room us)
  unfolding r.item_value
  item_value-sound ts us i = then_good (IsExpr true us) (IsItem ts) (x.expr room true us) _ (expr-sound room true us) (λ a vs k.
      then_good (λ (u : Unit {0}) ws. Is s.As vs ws) (IsItem ts) (as_word vs) _ (as-sound vs) (λ u ws l.
      then_good (λ word xs. IsHead s.Var word ws xs) (IsItem ts) (name ws) _ (name-sound ws) (λ word xs h.
      then_good (λ (w : Unit {0}) rest. Is s.Close xs rest) (IsItem ts) (close_paren xs) _ (close-sound xs) (λ w rest m. item_value i k l h m))))

  item_by-sound : (ts : List Symbol) (o : Option Shape) → head ts ≡ o → Good (IsItem ts) (r.item_by room o ts)
  item_by-sound ts (Some s.Var) h = item_variable (holds-next s.Var ts h)
  item_by-sound ts (Some s.Open) h = item_value-sound ts (next ts) (is-next s.Open ts h)
  item_by-sound ts o h = tt

  item-sound : (ts : List Symbol) → Good (IsItem ts) (r.one_item room ts)
  unfolding r.one_item
  item-sound ts = item_by-sound ts (head ts) refl

  item-turn : (ts : List Symbol) → Good (Extends ItemTail ts) (r.one_item room ts)
  item-turn ts = weaken (IsItem ts) (Extends ItemTail ts) _ (item-sound ts) (λ y us k xs rest t. item_more k t)

  item_turn-sound : (ts : List Symbol) (o : Option Shape) → Turns ItemTail ts (r.item_turn room o)
  item_turn-sound ts (Some s.Var) = item-turn ts
  item_turn-sound ts (Some s.Open) = item-turn ts
  item_turn-sound ts o = tt

  items_from-sound : (found : List SelectItem) (ts : List Symbol) → Good (Adds (ItemTail ts) found) (r.items_from room found ts)
  unfolding r.items_from
  items_from-sound found ts = all_more-sound ItemTail (r.item_turn room) (λ us. item_end) (λ us. item_turn-sound us (head us)) found ts

  abbrev Selected : List Symbol → Bool × List SelectItem → List Symbol → Type 0
  Selected ts selected rest = IsSelection ts selected.0 selected.1 rest

  items-sound : (ts : List Symbol) → Good (Selected ts) ((r.one_item room >>= (λ first. (λ all. (false, all)) <$> r.items_from room (first ∷ []))) ts)
  items-sound ts = then_good (IsItem ts) (Selected ts) (r.one_item room ts) _ (item-sound ts) (λ first us h.
      then_good (Adds (ItemTail us) (first ∷ [])) (Selected ts) (r.items_from room (first ∷ []) us) _ (items_from-sound (first ∷ []) us)
      (λ all rest k. subst (λ w. IsSelection ts false w rest) (sym k.1) (select_items h k.2)))

  selection_by-sound : (ts : List Symbol) (o : Option Shape) → head ts ≡ o → Good (Selected ts) (r.selection_by room o ts)
  selection_by-sound ts (Some s.Star) h = select_star (is-next s.Star ts h)
  selection_by-sound ts o h = items-sound ts

  selection-sound : (ts : List Symbol) → Good (Selected ts) (r.selection room ts)
  unfolding r.selection
  selection-sound ts = selection_by-sound ts (head ts) refl

  key_end-sound : (ts us vs : List Symbol) (a : Expr) (o : Option Shape) → head vs ≡ o → Is s.Open ts us → IsExpr false us a vs → Good (IsKey ts) (r.key_end room a o vs)
  key_end-sound ts us vs a (Some s.As) h i k = then_good (λ word xs. IsHead s.Var word (next vs) xs) (IsKey ts) (name (next vs)) _ (name-sound (next vs)) (λ word xs l.
      then_good (λ (w : Unit {0}) rest. Is s.Close xs rest) (IsKey ts) (close_paren xs) _ (close-sound xs) (λ w rest m. key_named i k (is-next s.As vs h) l m))
  key_end-sound ts us vs a o h i k = then_good (λ (w : Unit {0}) rest. Is s.Close vs rest) (IsKey ts) (close_paren vs) _ (close-sound vs) (λ w rest m. key_value i k m)

  key_value-sound : (ts us : List Symbol) → Is s.Open ts us → Good (IsKey ts) (r.key_value room us)
  unfolding r.key_value
  key_value-sound ts us i = then_good (IsExpr false us) (IsKey ts) (x.expr room false us) _ (expr-sound room false us) (λ a vs k. key_end-sound ts us vs a (head vs) refl i k)

  key_by-sound : (ts : List Symbol) (o : Option Shape) → head ts ≡ o → Good (IsKey ts) (r.key_by room o ts)
  key_by-sound ts (Some s.Var) h = key_variable (holds-next s.Var ts h)
  key_by-sound ts (Some s.Open) h = key_value-sound ts (next ts) (is-next s.Open ts h)
  key_by-sound ts (Some (s.Function function)) h =
      then_good (IsCall false ts) (IsKey ts) (x.call (x.expr room) false function (next ts)) _
      (call-sound (x.expr room) (expr-sound room) false function ts (next ts) (is-next (s.Function function) ts h)) (λ a rest k. key_call k)
  key_by-sound ts o h = tt

  key-sound : (ts : List Symbol) → Good (IsKey ts) (r.one_key room ts)
  unfolding r.one_key
  key-sound ts = key_by-sound ts (head ts) refl

  key-turn : (ts : List Symbol) → Good (Extends KeyTail ts) (r.one_key room ts)
  key-turn ts = weaken (IsKey ts) (Extends KeyTail ts) _ (key-sound ts) (λ y us k xs rest t. key_more k t)

  key_turn-sound : (ts : List Symbol) (o : Option Shape) → Turns KeyTail ts (r.key_turn room o)
  key_turn-sound ts (Some s.Var) = key-turn ts
  key_turn-sound ts (Some s.Open) = key-turn ts
  key_turn-sound ts (Some (s.Function function)) = key-turn ts
  key_turn-sound ts o = tt

  keys_from-sound : (found : List GroupKey) (ts : List Symbol) → Good (Adds (KeyTail ts) found) (r.keys_from room found ts)
  unfolding r.keys_from
  keys_from-sound found ts = all_more-sound KeyTail (r.key_turn room) (λ us. key_end) (λ us. key_turn-sound us (head us)) found ts

  grouping_by-sound : (ts : List Symbol) (o : Option Shape) → head ts ≡ o → Good (IsGrouping ts) (r.grouping_by room o ts)
  grouping_by-sound ts (Some s.Group) h = then_good (λ (u : Unit {0}) vs. Is s.By (next ts) vs) (IsGrouping ts) (r.by_word (next ts)) _ (by-sound (next ts)) (λ u vs j.
      then_good (IsKey vs) (IsGrouping ts) (r.one_key room vs) _ (key-sound vs) (λ first ws k.
      weaken (Adds (KeyTail ws) (first ∷ [])) (IsGrouping ts) _ (keys_from-sound (first ∷ []) ws)
      (λ all rest m. subst (λ w. IsGrouping ts w rest) (sym m.1) (grouping (is-next s.Group ts h) j k m.2))))
  grouping_by-sound ts o h = no_grouping

  grouping-sound : (ts : List Symbol) → Good (IsGrouping ts) (r.grouping room ts)
  unfolding r.grouping
  grouping-sound ts = grouping_by-sound ts (head ts) refl

  condition-sound : (ts : List Symbol) → Good (IsConstraint true ts) (g.constraint (x.expr room) true ts)
  condition-sound ts = constraint-sound (x.expr room) (expr-sound room) true ts

  having-turn : (ts : List Symbol) → Good (Extends HavingTail ts) (g.constraint (x.expr room) true ts)
  having-turn ts = weaken (IsConstraint true ts) (Extends HavingTail ts) _ (condition-sound ts) (λ y us k xs rest t. having_more k t)

  having_turn-sound : (ts : List Symbol) (o : Option Shape) → Turns HavingTail ts (r.having_turn room o)
  having_turn-sound ts (Some s.Open) = having-turn ts
  having_turn-sound ts (Some (s.Function function)) = having-turn ts
  having_turn-sound ts (Some (s.Aggregate kind)) = having-turn ts
  having_turn-sound ts o = tt

  having_from-sound : (found : List Expr) (ts : List Symbol) → Good (Adds (HavingTail ts) found) (r.having_from room found ts)
  unfolding r.having_from
  having_from-sound found ts = all_more-sound HavingTail (r.having_turn room) (λ us. having_end) (λ us. having_turn-sound us (head us)) found ts

  having_by-sound : (ts : List Symbol) (o : Option Shape) → head ts ≡ o → Good (IsHaving ts) (r.having_by room o ts)
  having_by-sound ts (Some s.Having) h = then_good (IsConstraint true (next ts)) (IsHaving ts) (g.constraint (x.expr room) true (next ts)) _ (condition-sound (next ts)) (λ first vs k.
      weaken (Adds (HavingTail vs) (first ∷ [])) (IsHaving ts) _ (having_from-sound (first ∷ []) vs) (λ all rest m. subst (λ w. IsHaving ts w rest) (sym m.1) (having (is-next s.Having ts h) k m.2)))
  having_by-sound ts o h = no_having

  having-sound : (ts : List Symbol) → Good (IsHaving ts) (r.having room ts)
  unfolding r.having
  having-sound ts = having_by-sound ts (head ts) refl

  -- what stands in parentheses behind a direction
  directed-sound : (Q : OrderKey → List Symbol → Type 0) (down : Bool) (us : List Symbol)
      → ((vs ws rest : List Symbol) (a : Expr) → Is s.Open us vs → IsExpr true vs a ws → Is s.Close ws rest → Q (ordered a down) rest) → Good Q (r.directed room down us)
  unfolding r.directed
  directed-sound Q down us k = then_good (λ (u : Unit {0}) vs. Is s.Open us vs) Q (open_paren us) _ (open-sound us) (λ u vs i.
      then_good (IsExpr true vs) Q (x.expr room true vs) _ (expr-sound room true vs) (λ a ws l.
      then_good (λ (w : Unit {0}) rest. Is s.Close ws rest) Q (close_paren ws) _ (close-sound ws) (λ w rest m. k vs ws rest a i l m)))

  order_by-sound : (ts : List Symbol) (o : Option Shape) → head ts ≡ o → Good (IsOrderKey ts) (r.order_by room o ts)
  order_by-sound ts (Some s.Asc) h = directed-sound (IsOrderKey ts) false (next ts) (λ vs ws rest a i k m. ascending (is-next s.Asc ts h) i k m)
  order_by-sound ts (Some s.Desc) h = directed-sound (IsOrderKey ts) true (next ts) (λ vs ws rest a i k m. descending (is-next s.Desc ts h) i k m)
  order_by-sound ts (Some s.Var) h = order_variable (holds-next s.Var ts h)
  order_by-sound ts o h = then_good (IsConstraint true ts) (IsOrderKey ts) (g.constraint (x.expr room) true ts) _ (condition-sound ts) (λ a rest k. order_constraint k)

  order-sound : (ts : List Symbol) → Good (IsOrderKey ts) (r.one_order room ts)
  unfolding r.one_order
  order-sound ts = order_by-sound ts (head ts) refl

  order-turn : (ts : List Symbol) → Good (Extends OrderTail ts) (r.one_order room ts)
  order-turn ts = weaken (IsOrderKey ts) (Extends OrderTail ts) _ (order-sound ts) (λ y us k xs rest t. order_more k t)

  order_turn-sound : (ts : List Symbol) (o : Option Shape) → Turns OrderTail ts (r.order_turn room o)
  order_turn-sound ts (Some s.Asc) = order-turn ts
  order_turn-sound ts (Some s.Desc) = order-turn ts
  order_turn-sound ts (Some s.Var) = order-turn ts
  order_turn-sound ts (Some s.Open) = order-turn ts
  order_turn-sound ts (Some (s.Function function)) = order-turn ts
  order_turn-sound ts (Some (s.Aggregate kind)) = order-turn ts
  order_turn-sound ts o = tt

  orders_from-sound : (found : List OrderKey) (ts : List Symbol) → Good (Adds (OrderTail ts) found) (r.orders_from room found ts)
  unfolding r.orders_from
  orders_from-sound found ts = all_more-sound OrderTail (r.order_turn room) (λ us. order_end) (λ us. order_turn-sound us (head us)) found ts

  ordering_by-sound : (ts : List Symbol) (o : Option Shape) → head ts ≡ o → Good (IsOrdering ts) (r.ordering_by room o ts)
  ordering_by-sound ts (Some s.Order) h = then_good (λ (u : Unit {0}) vs. Is s.By (next ts) vs) (IsOrdering ts) (r.by_word (next ts)) _ (by-sound (next ts)) (λ u vs j.
      then_good (IsOrderKey vs) (IsOrdering ts) (r.one_order room vs) _ (order-sound vs) (λ first ws k.
      weaken (Adds (OrderTail ws) (first ∷ [])) (IsOrdering ts) _ (orders_from-sound (first ∷ []) ws)
      (λ all rest m. subst (λ w. IsOrdering ts w rest) (sym m.1) (ordering (is-next s.Order ts h) j k m.2))))
  ordering_by-sound ts o h = no_ordering

  ordering-sound : (ts : List Symbol) → Good (IsOrdering ts) (r.ordering room ts)
  unfolding r.ordering
  ordering-sound ts = ordering_by-sound ts (head ts) refl

  -- a query, if nothing is left
  abbrev Selects : List Symbol → Query → List Symbol → Type 0
  Selects ts query rest = rest ≡ [] → IsSelect ts query

  pub query-sound : (ts : List Symbol) → Good (Selects ts) (r.query room ts)
  unfolding r.query r.modified
  query-sound ts =
      then_good (λ (u : Unit {0}) us. Is s.Select ts us) (Selects ts) (r.select_word ts) _ (select-sound ts) (λ u1 us i1.
      then_good (IsDistinctness us) (Selects ts) (r.distinctness us) _ (distinctness-sound us) (λ distinct vs i2.
      then_good (Selected vs) (Selects ts) (r.selection room vs) _ (selection-sound vs) (λ selected ws i3.
      then_good (λ (u : Unit {0}) xs. IsWhere ws xs) (Selects ts) (r.where_word ws) _ (where-sound ws) (λ u2 xs i4.
      then_good (IsGroup xs) (Selects ts) (g.group room xs) _ (group-sound room xs) (λ body ys i5.
      then_good (IsGrouping ys) (Selects ts) (r.grouping room ys) _ (grouping-sound ys) (λ keys zs i6.
      then_good (IsHaving zs) (Selects ts) (r.having room zs) _ (having-sound zs) (λ conditions bs i7.
      then_good (IsOrdering bs) (Selects ts) (r.ordering room bs) _ (ordering-sound bs) (λ order cs i8.
      then_good (Sliced cs) (Selects ts) (r.slice cs) _ (slice-sound cs) (λ part rest i9 none.
      select i1 i2 i3 i4 i5 i6 i7 i8 (subst (λ w. IsSlice cs part.0 part.1 w) none i9))))))))))
