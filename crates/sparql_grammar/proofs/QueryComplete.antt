-- What is of the grammar of queries is read.
use Rattle.std.proofs.Common.{◌≡◌, ℕ, zero, suc, ◌<◌, ◌≤◌, ◌^◌, Bool, true, false, List, [], ◌∷◌, ◌++◌, length, Option, Some, None, refl, sym, subst, ap, ◌∙◌, append_assoc, arith}
use Rattle.std.proofs.lemmas.Bool.Decides.{nat_tests}
use Rattle.term_core.specs.Mappings.{Name}
use Rattle.term_core.specs.Numbers.{are_digits}
use Rattle.term_core.specs.Numbers as numbers
use Rattle.sparql_tree.specs.Exprs.{Expr, Var}
use Rattle.sparql_tree.specs.Groups.{Group, SelectItem, GroupKey, OrderKey, Query}
use Rattle.sparql_tree.specs.declared.symbol.Shape.{Shape}
use Rattle.sparql_tree.specs.declared.symbol.Shape.TheVariants as s
use Rattle.sparql_tree.specs.declared.symbol.Symbol.{Symbol}
use Rattle.sparql_tree.specs.Heads.{Is, IsHead}
use Rattle.sparql_grammar.specs.Parser.{◌>>=◌, ◌>>◌, ◌<$>◌, pure, peek, spelled_value, more, all_more}
use Rattle.sparql_tree.specs.Heads.{head}
use Rattle.sparql_tree.specs.Expressions.{call, bound, count_all, aggregate}
use Rattle.sparql_grammar.specs.ExprReading as x
use Rattle.sparql_tree.specs.GroupPatterns.{IsConstraint, constraint, constraint_call, constraint_aggregate, IsGroup}
use Rattle.sparql_grammar.specs.GroupReading as g
use Rattle.sparql_tree.specs.Queries.{item, key, ordered, IsDistinctness, distinct_rows, reduced_rows, all_rows, IsItem, item_variable, item_value, ItemTail, item_end, item_more, IsSelection, select_star, select_items, IsWhere, where_word, no_where, IsKey, key_variable, key_call, key_value, key_named, KeyTail, key_end, key_more, IsGrouping, no_grouping, grouping, HavingTail, having_end, having_more, IsHaving, no_having, having, IsOrderKey, ascending, descending, order_constraint, order_variable, OrderTail, order_end, order_more, IsOrdering, no_ordering, ordering, IsCount, count, IsLimit, limit, IsOffset, offset, IsSlice, no_slice, limit_only, limit_offset, offset_only, offset_limit, IsSelect, select}
use Rattle.sparql_grammar.specs.QueryReading as r
use Rattle.sparql_grammar.proofs.Steps.{is-head, holds-head, is-shorter, holds-shorter, holds-value, holds-behind, none_more, Finds, same_found, more-stop, more-step, open-finds, close-finds, name-finds, as-finds, then-finds, map-finds, take-finds, at-finds, spelled-finds}
use Rattle.sparql_grammar.proofs.ExprShorter.{expr-shorter, call-shorter}
use Rattle.sparql_grammar.proofs.ExprEnds.{is-stops}
use Rattle.sparql_grammar.proofs.ExprComplete.{expr-finds, list-finds-all, call-finds, call_bound-finds, bound-finds}
use Rattle.sparql_grammar.proofs.GroupLaws.{constraint-shorter, group-shorter, constraint-finds, group-finds, group-head}

no_more : head [] ≡ None
unfolding head
no_more = refl

-- ---- what they take

distinctness-shorter : {ts rest : List Symbol} {d : Bool} → IsDistinctness ts d rest → length rest ≤ length ts
distinctness-shorter (distinct_rows i) = omega (arith, is-shorter i)
distinctness-shorter (reduced_rows i) = omega (arith, is-shorter i)
distinctness-shorter all_rows = omega arith

item-shorter : {ts rest : List Symbol} {a : SelectItem} → IsItem ts a rest → length rest < length ts
item-shorter (item_variable h) = holds-shorter h
item-shorter (item_value i h j k m) = omega (arith, is-shorter i, expr-shorter h, is-shorter j, holds-shorter k, is-shorter m)

item_tail-shorter : {ts rest : List Symbol} {xs : List SelectItem} → ItemTail ts xs rest → length rest ≤ length ts
item_tail-shorter item_end = omega arith
item_tail-shorter (item_more h k) = omega (arith, item-shorter h, item_tail-shorter k)

selection-shorter : {ts rest : List Symbol} {star : Bool} {xs : List SelectItem} → IsSelection ts star xs rest → length rest < length ts
selection-shorter (select_star i) = is-shorter i
selection-shorter (select_items h k) = omega (arith, item-shorter h, item_tail-shorter k)

where-shorter : {ts rest : List Symbol} → IsWhere ts rest → length rest ≤ length ts
where-shorter (where_word i) = omega (arith, is-shorter i)
where-shorter no_where = omega arith

key-shorter : {ts rest : List Symbol} {a : GroupKey} → IsKey ts a rest → length rest < length ts
key-shorter (key_variable h) = holds-shorter h
key-shorter (key_call h) = call-shorter h
key-shorter (key_value i h m) = omega (arith, is-shorter i, expr-shorter h, is-shorter m)
key-shorter (key_named i h j k m) = omega (arith, is-shorter i, expr-shorter h, is-shorter j, holds-shorter k, is-shorter m)

key_tail-shorter : {ts rest : List Symbol} {xs : List GroupKey} → KeyTail ts xs rest → length rest ≤ length ts
key_tail-shorter key_end = omega arith
key_tail-shorter (key_more h k) = omega (arith, key-shorter h, key_tail-shorter k)

grouping-shorter : {ts rest : List Symbol} {xs : List GroupKey} → IsGrouping ts xs rest → length rest ≤ length ts
grouping-shorter no_grouping = omega arith
grouping-shorter (grouping i j h k) = omega (arith, is-shorter i, is-shorter j, key-shorter h, key_tail-shorter k)

having_tail-shorter : {ts rest : List Symbol} {xs : List Expr} → HavingTail ts xs rest → length rest ≤ length ts
having_tail-shorter having_end = omega arith
having_tail-shorter (having_more h k) = omega (arith, constraint-shorter h, having_tail-shorter k)

having-shorter : {ts rest : List Symbol} {xs : List Expr} → IsHaving ts xs rest → length rest ≤ length ts
having-shorter no_having = omega arith
having-shorter (having i h k) = omega (arith, is-shorter i, constraint-shorter h, having_tail-shorter k)

order-shorter : {ts rest : List Symbol} {a : OrderKey} → IsOrderKey ts a rest → length rest < length ts
order-shorter (ascending i j h m) = omega (arith, is-shorter i, is-shorter j, expr-shorter h, is-shorter m)
order-shorter (descending i j h m) = omega (arith, is-shorter i, is-shorter j, expr-shorter h, is-shorter m)
order-shorter (order_constraint h) = constraint-shorter h
order-shorter (order_variable h) = holds-shorter h

-- ---- where each part may stand

-- the parts of a query that begin with one symbol, from the last to the first
abbrev stage : Option Shape → ℕ
stage None = 0
stage (Some s.Limit) = 1
stage (Some s.Offset) = 1
stage (Some s.Order) = 2
stage (Some s.Having) = 3
stage (Some s.Group) = 4
stage (Some s.OpenBrace) = 5
stage (Some s.Where) = 6
stage o = 9

at-stage : (n : ℕ) (ts : List Symbol) {o : Option Shape} → head ts ≡ o → stage o ≤ n → stage (head ts) ≤ n
at-stage n ts e h = subst (λ w. stage w ≤ n) (sym e) h

is-stage : (n : ℕ) {shape : Shape} {ts us : List Symbol} → Is shape ts us → stage (Some shape) ≤ n → stage (head ts) ≤ n
is-stage n {ts = ts} i h = at-stage n ts (is-head i) h

slice-stage : {ts rest : List Symbol} {n : Option ℕ} {m : ℕ} → IsSlice ts n m rest → head rest ≡ None → stage (head ts) ≤ 1
slice-stage (no_slice {ts = ts}) e = at-stage 1 ts e (omega arith)
slice-stage (limit_only (limit i c)) e = is-stage 1 i (omega arith)
slice-stage (limit_offset (limit i c) k) e = is-stage 1 i (omega arith)
slice-stage (offset_only (offset i c)) e = is-stage 1 i (omega arith)
slice-stage (offset_limit (offset i c) k) e = is-stage 1 i (omega arith)

ordering-stage : {ts us : List Symbol} {xs : List OrderKey} → IsOrdering ts xs us → stage (head us) ≤ 1 → stage (head ts) ≤ 2
ordering-stage no_ordering h = omega arith
ordering-stage (ordering i j k l) h = is-stage 2 i (omega arith)

having-stage : {ts us : List Symbol} {xs : List Expr} → IsHaving ts xs us → stage (head us) ≤ 2 → stage (head ts) ≤ 3
having-stage no_having h = omega arith
having-stage (having i k l) h = is-stage 3 i (omega arith)

where-stage : {ts us rest : List Symbol} {body : Group} → IsWhere ts us → IsGroup us body rest → stage (head ts) ≤ 6
where-stage (where_word i) k = is-stage 6 i (omega arith)
where-stage (no_where {ts = ts}) k = at-stage 6 ts (group-head k) (omega arith)

-- ---- complete

select-finds : {ts us : List Symbol} → Is s.Select ts us → Finds r.select_word ts tt us
unfolding r.select_word
select-finds i = at-finds r.select_by (is-head i) (take-finds {q = λ w. Some (tt, w)} i (record { found = refl }))

by-finds : {ts us : List Symbol} → Is s.By ts us → Finds r.by_word ts tt us
unfolding r.by_word
by-finds i = at-finds r.by_by (is-head i) (take-finds {q = λ w. Some (tt, w)} i (record { found = refl }))

where-finds : {ts us rest : List Symbol} {body : Group} → IsWhere ts us → IsGroup us body rest → Finds r.where_word ts tt us
unfolding r.where_word
where-finds (where_word i) k = at-finds r.where_by (is-head i) (take-finds {q = λ w. Some (tt, w)} i (record { found = refl }))
where-finds no_where k = at-finds r.where_by (group-head k) (record { found = refl })

-- neither DISTINCT nor REDUCED stands here
abbrev is_kind : Option Shape → Bool
is_kind (Some s.Distinct) = true
is_kind (Some s.Reduced) = true
is_kind o = false

selection-kind : {ts rest : List Symbol} {star : Bool} {xs : List SelectItem} → IsSelection ts star xs rest → is_kind (head ts) ≡ false
selection-kind (select_star i) = ap is_kind (is-head i)
selection-kind (select_items (item_variable h) k) = ap is_kind (holds-head h)
selection-kind (select_items (item_value i h j l m) k) = ap is_kind (is-head i)

distinctness-none : (ts : List Symbol) (o : Option Shape) → is_kind o ≡ false → r.distinct_by o ts ≡ Some (false, ts)
distinctness-none ts (Some s.Distinct) e = absurd cc
distinctness-none ts (Some s.Reduced) e = absurd cc
distinctness-none ts o e = refl

distinctness-finds : {ts us : List Symbol} {d : Bool} → IsDistinctness ts d us → is_kind (head us) ≡ false → Finds r.distinctness ts d us
unfolding r.distinctness
distinctness-finds (distinct_rows i) e = at-finds r.distinct_by (is-head i) (take-finds {q = λ w. Some (true, w)} i (record { found = refl }))
distinctness-finds (reduced_rows i) e = at-finds r.distinct_by (is-head i) (take-finds {q = λ w. Some (false, w)} i (record { found = refl }))
distinctness-finds (all_rows {ts = ts}) e = record { found = distinctness-none ts (head ts) e }

does_fit : (digits : List ℕ) → are_digits digits ≡ true → numbers.digits_value digits < 2 ^ 64 → r.fits_64_bits digits ≡ true
does_fit digits e h = grind (arith, nat_tests)

spelled-word : {word : List ℕ} {shape : Shape} {ts us : List Symbol} → IsHead shape word ts us → Finds spelled_value ts word us
spelled-word h = record { found = λ i. Some (holds-value h i, holds-behind h i) }

count-finds : {ts rest : List Symbol} {n : ℕ} → IsCount ts n rest → Finds r.count ts n rest
unfolding r.count
count-finds {rest = rest} (count {digits = digits} h e l) =
    at-finds r.count_by (holds-head h) (then-finds (λ ds. r.counted_if (r.fits_64_bits ds) (numbers.digits_value ds)) (spelled-word h)
    (record { found = ap (λ f. r.counted_if f (numbers.digits_value digits) rest) (does_fit digits e l) }))

limit-finds : {ts rest : List Symbol} {n : ℕ} → IsLimit ts n rest → Finds r.limit ts (Some n) rest
unfolding r.limit
limit-finds (limit i c) = at-finds r.limit_by (is-head i) (take-finds i (map-finds Some (count-finds c)))

limit-none : {ts : List Symbol} → head ts ≡ None → Finds r.limit ts None ts
unfolding r.limit
limit-none e = at-finds r.limit_by e (record { found = refl })

offset-finds : {ts rest : List Symbol} {m : ℕ} → IsOffset ts m rest → Finds r.offset ts m rest
unfolding r.offset
offset-finds (offset i c) = at-finds r.offset_by (is-head i) (take-finds i (count-finds c))

offset-none : {ts : List Symbol} → head ts ≡ None → Finds r.offset ts 0 ts
unfolding r.offset
offset-none e = at-finds r.offset_by e (record { found = refl })

-- no limit stands before an offset
limit-behind : {ts : List Symbol} {o : Option Shape} → head ts ≡ o → r.limit_by o ≡ pure None → Finds r.limit ts None ts
unfolding r.limit
limit-behind {ts = ts} e h = at-finds r.limit_by e (record { found = ap (λ q. q ts) h })

slice-any : {ts us rest : List Symbol} {n : Option ℕ} {m : ℕ} {o : Option Shape} → head ts ≡ o → r.slice_by o ≡ (r.limit >>= (λ k. r.offset >>= (λ l. pure (k, l))))
    → Finds r.limit ts n us → Finds r.offset us m rest → Finds r.slice ts (n, m) rest
unfolding r.slice
slice-any {ts = ts} {n = n} e d h k = at-finds r.slice_by e (record { found = ap (λ q. q ts) d ∙ (then-finds (λ a. r.offset >>= (λ c. pure (a, c))) h (then-finds (λ c. pure (n, c)) k (record { found = refl }))).found })

slice-offset : {ts us vs rest : List Symbol} {n : Option ℕ} {m : ℕ} → Is s.Offset ts us → Finds r.count us m vs → Finds r.limit vs n rest → Finds r.slice ts (n, m) rest
unfolding r.slice
slice-offset i h k = at-finds r.slice_by (is-head i) (take-finds i (then-finds _ h (then-finds _ k (record { found = refl }))))

slice-finds : {ts rest : List Symbol} {n : Option ℕ} {m : ℕ} → IsSlice ts n m rest → head rest ≡ None → Finds r.slice ts (n, m) rest
slice-finds no_slice e = slice-any e refl (limit-none e) (offset-none e)
slice-finds (limit_only (limit i c)) e = slice-any (is-head i) refl (limit-finds (limit i c)) (offset-none e)
slice-finds (limit_offset (limit i c) k) e = slice-any (is-head i) refl (limit-finds (limit i c)) (offset-finds k)
slice-finds (offset_only (offset i c)) e = slice-offset i (count-finds c) (limit-none e)
slice-finds (offset_limit (offset i c) k) e = slice-offset i (count-finds c) (limit-finds k)

module _ (d : ℕ) where
  item_value-finds : {us vs ws xs rest : List Symbol} {a : Expr} {word : Name} → Finds (x.expr d true) us a vs → Is s.As vs ws → IsHead s.Var word ws xs → Is s.Close xs rest
      → Finds (r.item_value d) us (item word (Some a)) rest
  unfolding r.item_value
  item_value-finds h i k m = then-finds _ h (then-finds _ (as-finds i) (then-finds _ (name-finds k) (then-finds _ (close-finds m) (record { found = refl }))))

  item-finds : {ts rest : List Symbol} {a : SelectItem} → IsItem ts a rest → length ts ≤ d → Finds (r.one_item d) ts a rest
  unfolding r.one_item
  item-finds (item_variable h) fits = at-finds (r.item_by d) (holds-head h) (spelled-finds (λ n. item n None) h)
  item-finds (item_value i h j k m) fits = at-finds (r.item_by d) (is-head i) (take-finds i (item_value-finds (expr-finds d h (omega (arith, is-shorter i)) (is-stops 1 j (omega arith))) j k m))

  item-turn : {ts rest : List Symbol} {a : SelectItem} → IsItem ts a rest → r.item_turn d (head ts) ≡ Some (r.one_item d)
  item-turn (item_variable h) = ap (r.item_turn d) (holds-head h)
  item-turn (item_value i h j k m) = ap (r.item_turn d) (is-head i)

  item_turn-stop : (o : Option Shape) → stage o ≤ 6 → r.item_turn d o ≡ None
  item_turn-stop (Some s.Var) h = absurd (omega arith)
  item_turn-stop (Some s.Open) h = absurd (omega arith)
  item_turn-stop o h = refl

  item_tail-finds : {ts rest : List Symbol} {xs : List SelectItem} → ItemTail ts xs rest → length ts ≤ d → stage (head rest) ≤ 6 → (n : ℕ) (found : List SelectItem) → length ts ≤ n
      → Finds (more (r.item_turn d) n found) ts (found ++ xs) rest
  item_tail-finds (item_end {ts = ts}) fits stop n found le = same_found (more-stop (r.item_turn d) n found ts (item_turn-stop (head ts) stop)) (none_more found)
  item_tail-finds (item_more h k) fits stop zero found le = absurd (omega (arith, item-shorter h))
  item_tail-finds (item_more {ts = ts} {us = us} {first = first} {more = xs} h k) fits stop (suc n) found le =
      more-step (r.item_turn d) (r.one_item d) n found ts us first (item-turn h) (item-finds h fits)
      (same_found (item_tail-finds k (omega (arith, item-shorter h)) stop n (found ++ first ∷ []) (omega (arith, item-shorter h))) (append_assoc found (first ∷ []) xs))

  selection-star : {ts rest : List Symbol} → Is s.Star ts rest → Finds (r.selection d) ts (true, []) rest
  unfolding r.selection
  selection-star i = at-finds (r.selection_by d) (is-head i) (take-finds {q = λ w. Some ((true, []), w)} i (record { found = refl }))

  selection-items : {ts us rest : List Symbol} {first : SelectItem} {all : List SelectItem} {o : Option Shape} → head ts ≡ o
      → r.selection_by d o ≡ (r.one_item d >>= (λ y. (λ ys. (false, ys)) <$> r.items_from d (y ∷ []))) → Finds (r.one_item d) ts first us
      → Finds (more (r.item_turn d) (length us) (first ∷ [])) us all rest → Finds (r.selection d) ts (false, all) rest
  unfolding r.selection r.items_from all_more
  selection-items {ts = ts} {first = first} e c h k = at-finds (r.selection_by d) e (record {
    found = ap (λ q. q ts) c
        ∙ (then-finds (λ y. (λ ys. (false, ys)) <$> r.items_from d (y ∷ [])) h (map-finds {q = λ w. more (r.item_turn d) (length w) (first ∷ []) w} (λ ys. (false, ys)) (record { found = k.found }))).found;
  })

  selection-finds : {ts rest : List Symbol} {star : Bool} {xs : List SelectItem} → IsSelection ts star xs rest → length ts ≤ d → stage (head rest) ≤ 6 → Finds (r.selection d) ts (star, xs) rest
  selection-finds (select_star i) fits stop = selection-star i
  selection-finds (select_items {us = us} {first = first} (item_variable h) k) fits stop =
      selection-items (holds-head h) refl (item-finds (item_variable h) fits) (item_tail-finds k (omega (arith, holds-shorter h)) stop (length us) (first ∷ []) (omega arith))
  selection-finds (select_items {us = us} {first = first} (item_value i h j l m) k) fits stop =
      selection-items (is-head i) refl (item-finds (item_value i h j l m) fits) (item_tail-finds k (omega (arith, item-shorter (item_value i h j l m))) stop (length us) (first ∷ []) (omega arith))

  key_value-plain : {us vs rest : List Symbol} {a : Expr} → Finds (x.expr d false) us a vs → Is s.Close vs rest → Finds (r.key_value d) us (key a None) rest
  unfolding r.key_value
  key_value-plain {a = a} h m = then-finds (λ b. peek >>= r.key_end d b) h (at-finds (r.key_end d a) (is-head m) (then-finds _ (close-finds m) (record { found = refl })))

  key_value-named : {us vs ws xs rest : List Symbol} {a : Expr} {word : Name} → Finds (x.expr d false) us a vs → Is s.As vs ws → IsHead s.Var word ws xs → Is s.Close xs rest
      → Finds (r.key_value d) us (key a (Some word)) rest
  unfolding r.key_value
  key_value-named {a = a} h i k m = then-finds (λ b. peek >>= r.key_end d b) h (at-finds (r.key_end d a) (is-head i) (take-finds i (then-finds _ (name-finds k) (then-finds _ (close-finds m) (record { found = refl })))))

  key-finds : {ts rest : List Symbol} {a : GroupKey} → IsKey ts a rest → length ts ≤ d → Finds (r.one_key d) ts a rest
  unfolding r.one_key
  key-finds (key_variable h) fits = at-finds (r.key_by d) (holds-head h) (spelled-finds (λ n. key (Var n) (Some n)) h)
  key-finds (key_call (call i h e)) fits =
      at-finds (r.key_by d) (is-head i) (take-finds i (map-finds (λ a. key a None) (call-finds (x.expr d) false (list-finds-all d h (omega (arith, is-shorter i))) e)))
  key-finds (key_call (bound i j h k)) fits = at-finds (r.key_by d) (is-head i) (take-finds i (map-finds (λ a. key a None) (call_bound-finds (x.expr d) false (bound-finds j h k))))
  key-finds (key_value i h m) fits = at-finds (r.key_by d) (is-head i) (take-finds i (key_value-plain (expr-finds d h (omega (arith, is-shorter i)) (is-stops 1 m (omega arith))) m))
  key-finds (key_named i h j k m) fits = at-finds (r.key_by d) (is-head i) (take-finds i (key_value-named (expr-finds d h (omega (arith, is-shorter i)) (is-stops 1 j (omega arith))) j k m))

  key-turn : {ts rest : List Symbol} {a : GroupKey} → IsKey ts a rest → r.key_turn d (head ts) ≡ Some (r.one_key d)
  key-turn (key_variable h) = ap (r.key_turn d) (holds-head h)
  key-turn (key_call (call i h e)) = ap (r.key_turn d) (is-head i)
  key-turn (key_call (bound i j h k)) = ap (r.key_turn d) (is-head i)
  key-turn (key_value i h m) = ap (r.key_turn d) (is-head i)
  key-turn (key_named i h j k m) = ap (r.key_turn d) (is-head i)

  key_turn-stop : (o : Option Shape) → stage o ≤ 3 → r.key_turn d o ≡ None
  key_turn-stop (Some s.Var) h = absurd (omega arith)
  key_turn-stop (Some s.Open) h = absurd (omega arith)
  key_turn-stop (Some (s.Function function)) h = absurd (omega arith)
  key_turn-stop o h = refl

  key_tail-finds : {ts rest : List Symbol} {xs : List GroupKey} → KeyTail ts xs rest → length ts ≤ d → stage (head rest) ≤ 3 → (n : ℕ) (found : List GroupKey) → length ts ≤ n
      → Finds (more (r.key_turn d) n found) ts (found ++ xs) rest
  key_tail-finds (key_end {ts = ts}) fits stop n found le = same_found (more-stop (r.key_turn d) n found ts (key_turn-stop (head ts) stop)) (none_more found)
  key_tail-finds (key_more h k) fits stop zero found le = absurd (omega (arith, key-shorter h))
  key_tail-finds (key_more {ts = ts} {us = us} {first = first} {more = xs} h k) fits stop (suc n) found le =
      more-step (r.key_turn d) (r.one_key d) n found ts us first (key-turn h) (key-finds h fits)
      (same_found (key_tail-finds k (omega (arith, key-shorter h)) stop n (found ++ first ∷ []) (omega (arith, key-shorter h))) (append_assoc found (first ∷ []) xs))

  grouping_by-none : (ts : List Symbol) (o : Option Shape) → stage o ≤ 3 → r.grouping_by d o ts ≡ Some ([], ts)
  grouping_by-none ts (Some s.Group) h = absurd (omega arith)
  grouping_by-none ts o h = refl

  grouping-finds : {ts rest : List Symbol} {xs : List GroupKey} → IsGrouping ts xs rest → length ts ≤ d → stage (head rest) ≤ 3 → Finds (r.grouping d) ts xs rest
  unfolding r.grouping r.keys_from all_more
  grouping-finds (no_grouping {ts = ts}) fits stop = record { found = grouping_by-none ts (head ts) stop }
  grouping-finds (grouping {ws = ws} {first = first} i j h k) fits stop =
      at-finds (r.grouping_by d) (is-head i) (take-finds i (then-finds _ (by-finds j) (then-finds (λ y w. more (r.key_turn d) (length w) (y ∷ []) w) (key-finds h (omega (arith, is-shorter i, is-shorter j)))
      (record { found = (key_tail-finds k (omega (arith, is-shorter i, is-shorter j, key-shorter h)) stop (length ws) (first ∷ []) (omega arith)).found }))))

  constraint-turn : {ts rest : List Symbol} {a : Expr} → IsConstraint true ts a rest → r.having_turn d (head ts) ≡ Some (g.constraint (x.expr d) true)
  constraint-turn (constraint i h j) = ap (r.having_turn d) (is-head i)
  constraint-turn (constraint_call (call i h e)) = ap (r.having_turn d) (is-head i)
  constraint-turn (constraint_call (bound i j h k)) = ap (r.having_turn d) (is-head i)
  constraint-turn (constraint_aggregate (count_all i j e k m)) = ap (r.having_turn d) (is-head i)
  constraint-turn (constraint_aggregate (aggregate i j e h m)) = ap (r.having_turn d) (is-head i)

  having_turn-stop : (o : Option Shape) → stage o ≤ 2 → r.having_turn d o ≡ None
  having_turn-stop (Some s.Open) h = absurd (omega arith)
  having_turn-stop (Some (s.Function function)) h = absurd (omega arith)
  having_turn-stop (Some (s.Aggregate kind)) h = absurd (omega arith)
  having_turn-stop o h = refl

  having_tail-finds : {ts rest : List Symbol} {xs : List Expr} → HavingTail ts xs rest → length ts ≤ d → stage (head rest) ≤ 2 → (n : ℕ) (found : List Expr) → length ts ≤ n
      → Finds (more (r.having_turn d) n found) ts (found ++ xs) rest
  having_tail-finds (having_end {ts = ts}) fits stop n found le = same_found (more-stop (r.having_turn d) n found ts (having_turn-stop (head ts) stop)) (none_more found)
  having_tail-finds (having_more h k) fits stop zero found le = absurd (omega (arith, constraint-shorter h))
  having_tail-finds (having_more {ts = ts} {us = us} {first = first} {more = xs} h k) fits stop (suc n) found le =
      more-step (r.having_turn d) (g.constraint (x.expr d) true) n found ts us first (constraint-turn h) (constraint-finds d h fits)
      (same_found (having_tail-finds k (omega (arith, constraint-shorter h)) stop n (found ++ first ∷ []) (omega (arith, constraint-shorter h))) (append_assoc found (first ∷ []) xs))

  having_by-none : (ts : List Symbol) (o : Option Shape) → stage o ≤ 2 → r.having_by d o ts ≡ Some ([], ts)
  having_by-none ts (Some s.Having) h = absurd (omega arith)
  having_by-none ts o h = refl

  having-finds : {ts rest : List Symbol} {xs : List Expr} → IsHaving ts xs rest → length ts ≤ d → stage (head rest) ≤ 2 → Finds (r.having d) ts xs rest
  unfolding r.having r.having_from all_more
  having-finds (no_having {ts = ts}) fits stop = record { found = having_by-none ts (head ts) stop }
  having-finds (having {vs = vs} {first = first} i h k) fits stop =
      at-finds (r.having_by d) (is-head i) (take-finds i (then-finds (λ y w. more (r.having_turn d) (length w) (y ∷ []) w) (constraint-finds d h (omega (arith, is-shorter i)))
      (record { found = (having_tail-finds k (omega (arith, is-shorter i, constraint-shorter h)) stop (length vs) (first ∷ []) (omega arith)).found })))

  directed-finds : (down : Bool) {us vs ws rest : List Symbol} {a : Expr} → Is s.Open us vs → Finds (x.expr d true) vs a ws → Is s.Close ws rest → Finds (r.directed d down) us (ordered a down) rest
  unfolding r.directed
  directed-finds down i h m = then-finds _ (open-finds i) (then-finds _ h (then-finds _ (close-finds m) (record { found = refl })))

  order_by-constraint : {ts rest : List Symbol} {a : Expr} → IsConstraint true ts a rest → r.order_by d (head ts) ts ≡ ((λ b. ordered b false) <$> g.constraint (x.expr d) true) ts
  order_by-constraint {ts = ts} (constraint i h j) = ap (λ o. r.order_by d o ts) (is-head i)
  order_by-constraint {ts = ts} (constraint_call (call i h e)) = ap (λ o. r.order_by d o ts) (is-head i)
  order_by-constraint {ts = ts} (constraint_call (bound i j h k)) = ap (λ o. r.order_by d o ts) (is-head i)
  order_by-constraint {ts = ts} (constraint_aggregate (count_all i j e k m)) = ap (λ o. r.order_by d o ts) (is-head i)
  order_by-constraint {ts = ts} (constraint_aggregate (aggregate i j e h m)) = ap (λ o. r.order_by d o ts) (is-head i)

  order-finds : {ts rest : List Symbol} {a : OrderKey} → IsOrderKey ts a rest → length ts ≤ d → Finds (r.one_order d) ts a rest
  unfolding r.one_order
  order-finds (ascending i j h m) fits = at-finds (r.order_by d) (is-head i) (take-finds i (directed-finds false j (expr-finds d h (omega (arith, is-shorter i, is-shorter j)) (is-stops 1 m (omega arith))) m))
  order-finds (descending i j h m) fits = at-finds (r.order_by d) (is-head i) (take-finds i (directed-finds true j (expr-finds d h (omega (arith, is-shorter i, is-shorter j)) (is-stops 1 m (omega arith))) m))
  order-finds (order_constraint h) fits = record { found = order_by-constraint h ∙ (map-finds (λ b. ordered b false) (constraint-finds d h fits)).found }
  order-finds (order_variable h) fits = at-finds (r.order_by d) (holds-head h) (spelled-finds (λ n. ordered (Var n) false) h)

  order_constraint-turn : {ts rest : List Symbol} {a : Expr} → IsConstraint true ts a rest → r.order_turn d (head ts) ≡ Some (r.one_order d)
  order_constraint-turn (constraint i h j) = ap (r.order_turn d) (is-head i)
  order_constraint-turn (constraint_call (call i h e)) = ap (r.order_turn d) (is-head i)
  order_constraint-turn (constraint_call (bound i j h k)) = ap (r.order_turn d) (is-head i)
  order_constraint-turn (constraint_aggregate (count_all i j e k m)) = ap (r.order_turn d) (is-head i)
  order_constraint-turn (constraint_aggregate (aggregate i j e h m)) = ap (r.order_turn d) (is-head i)

  order-turn : {ts rest : List Symbol} {a : OrderKey} → IsOrderKey ts a rest → r.order_turn d (head ts) ≡ Some (r.one_order d)
  order-turn (ascending i j h m) = ap (r.order_turn d) (is-head i)
  order-turn (descending i j h m) = ap (r.order_turn d) (is-head i)
  order-turn (order_constraint h) = order_constraint-turn h
  order-turn (order_variable h) = ap (r.order_turn d) (holds-head h)

  order_turn-stop : (o : Option Shape) → stage o ≤ 1 → r.order_turn d o ≡ None
  order_turn-stop (Some s.Asc) h = absurd (omega arith)
  order_turn-stop (Some s.Desc) h = absurd (omega arith)
  order_turn-stop (Some s.Var) h = absurd (omega arith)
  order_turn-stop (Some s.Open) h = absurd (omega arith)
  order_turn-stop (Some (s.Function function)) h = absurd (omega arith)
  order_turn-stop (Some (s.Aggregate kind)) h = absurd (omega arith)
  order_turn-stop o h = refl

  order_tail-finds : {ts rest : List Symbol} {xs : List OrderKey} → OrderTail ts xs rest → length ts ≤ d → stage (head rest) ≤ 1 → (n : ℕ) (found : List OrderKey) → length ts ≤ n
      → Finds (more (r.order_turn d) n found) ts (found ++ xs) rest
  order_tail-finds (order_end {ts = ts}) fits stop n found le = same_found (more-stop (r.order_turn d) n found ts (order_turn-stop (head ts) stop)) (none_more found)
  order_tail-finds (order_more h k) fits stop zero found le = absurd (omega (arith, order-shorter h))
  order_tail-finds (order_more {ts = ts} {us = us} {first = first} {more = xs} h k) fits stop (suc n) found le =
      more-step (r.order_turn d) (r.one_order d) n found ts us first (order-turn h) (order-finds h fits)
      (same_found (order_tail-finds k (omega (arith, order-shorter h)) stop n (found ++ first ∷ []) (omega (arith, order-shorter h))) (append_assoc found (first ∷ []) xs))

  ordering_by-none : (ts : List Symbol) (o : Option Shape) → stage o ≤ 1 → r.ordering_by d o ts ≡ Some ([], ts)
  ordering_by-none ts (Some s.Order) h = absurd (omega arith)
  ordering_by-none ts o h = refl

  ordering-finds : {ts rest : List Symbol} {xs : List OrderKey} → IsOrdering ts xs rest → length ts ≤ d → stage (head rest) ≤ 1 → Finds (r.ordering d) ts xs rest
  unfolding r.ordering r.orders_from all_more
  ordering-finds (no_ordering {ts = ts}) fits stop = record { found = ordering_by-none ts (head ts) stop }
  ordering-finds (ordering {ws = ws} {first = first} i j h k) fits stop =
      at-finds (r.ordering_by d) (is-head i) (take-finds i (then-finds _ (by-finds j) (then-finds (λ y w. more (r.order_turn d) (length w) (y ∷ []) w) (order-finds h (omega (arith, is-shorter i, is-shorter j)))
      (record { found = (order_tail-finds k (omega (arith, is-shorter i, is-shorter j, order-shorter h)) stop (length ws) (first ∷ []) (omega arith)).found }))))

  modified-finds : (distinct star : Bool) (items : List SelectItem) (body : Group) {ys zs bs cs rest : List Symbol} {keys : List GroupKey} {conditions : List Expr} {order : List OrderKey} {n : Option ℕ} {m : ℕ}
      → Finds (r.grouping d) ys keys zs → Finds (r.having d) zs conditions bs → Finds (r.ordering d) bs order cs → Finds r.slice cs (n, m) rest
      → Finds (r.modified d distinct (star, items) body) ys
      (record { distinct = distinct; star = star; items = items; body = body; keys = keys; having = conditions; order = order; limit = n; offset = m }) rest
  unfolding r.modified
  modified-finds distinct star items body i j k l = then-finds _ i (then-finds _ j (then-finds _ k (then-finds _ l (record { found = refl }))))

  query-all : {ts us vs ws xs ys rest : List Symbol} {distinct star : Bool} {items : List SelectItem} {body : Group} {q : Query} → Finds r.select_word ts tt us → Finds r.distinctness us distinct vs
      → Finds (r.selection d) vs (star, items) ws → Finds r.where_word ws tt xs → Finds (g.group d) xs body ys → Finds (r.modified d distinct (star, items) body) ys q rest → Finds (r.query d) ts q rest
  unfolding r.query
  query-all {distinct = distinct} {star = star} {items = items} i1 i2 i3 i4 i5 i6 =
      then-finds _ i1 (then-finds (λ e. r.selection d >>= (λ selected. r.where_word >> (g.group d >>= (λ body. r.modified d e selected body)))) i2
      (then-finds (λ selected. r.where_word >> (g.group d >>= (λ body. r.modified d distinct selected body))) i3 (then-finds _ i4 (then-finds (λ body. r.modified d distinct (star, items) body) i5 i6))))

  pub query-finds : {ts : List Symbol} {q : Query} → IsSelect ts q → length ts ≤ d → Finds (r.query d) ts q []
  query-finds (select {distinct = distinct} {star = star} {items = items} {body = body} i1 i2 i3 i4 i5 i6 i7 i8 i9) fits =
      let s1 = slice-stage i9 no_more in
      let s2 = ordering-stage i8 s1 in
      let s3 = having-stage i7 s2 in
      query-all (select-finds i1) (distinctness-finds i2 (selection-kind i3))
      (selection-finds i3 (omega (arith, is-shorter i1, distinctness-shorter i2)) (where-stage i4 i5)) (where-finds i4 i5)
      (group-finds d i5 (omega (arith, is-shorter i1, distinctness-shorter i2, selection-shorter i3, where-shorter i4)))
      (modified-finds distinct star items body
      (grouping-finds i6 (omega (arith, is-shorter i1, distinctness-shorter i2, selection-shorter i3, where-shorter i4, group-shorter i5)) s3)
      (having-finds i7 (omega (arith, is-shorter i1, distinctness-shorter i2, selection-shorter i3, where-shorter i4, group-shorter i5, grouping-shorter i6)) s2)
      (ordering-finds i8 (omega (arith, is-shorter i1, distinctness-shorter i2, selection-shorter i3, where-shorter i4, group-shorter i5, grouping-shorter i6, having-shorter i7)) s1)
      (slice-finds i9 no_more))
