-- Each expression of a query that is read of symbols is read of symbols, and each of its variables is the name of one.
use Rattle.std.proofs.Common.{Bool, true, false, cond, List, [], ◌∷◌, ◌++◌, sym, subst}
use Rattle.sparql_tree.specs.Exprs.{Expr}
use Rattle.sparql_tree.specs.Groups.{Group, Element, elements, groups, SelectItem, GroupKey, OrderKey, Query}
use Rattle.sparql_tree.specs.declared.symbol.Symbol.{Symbol}
use Rattle.sparql_tree.specs.Expressions.{IsExpr, called, aggregated, variable}
use Rattle.sparql_tree.specs.GroupPatterns.{IsConstraint, constraint, constraint_call, constraint_aggregate, IsPoint, no_point, point, IsGroup, group, GroupTail, group_end, group_more, IsElement, union, optional, without, filter, bind, values, UnionTail, union_end, union_more}
use Rattle.sparql_tree.specs.Triples.{IsTriples, no_triples, triples}
use Rattle.sparql_tree.specs.Scopes.{scope_at, scope_of_group, scope_of_groups}
use Rattle.sparql_tree.specs.Queries.{IsDistinctness, distinct_rows, reduced_rows, all_rows, IsItem, item_variable, item_value, ItemTail, item_end, item_more, IsSelection, select_star, select_items, IsWhere, where_word, no_where, IsKey, key_variable, key_call, key_value, key_named, KeyTail, key_end, key_more, IsGrouping, no_grouping, grouping, HavingTail, having_end, having_more, IsHaving, no_having, having, IsOrderKey, ascending, descending, order_constraint, order_variable, OrderTail, order_end, order_more, IsOrdering, no_ordering, ordering, IsSelect, select, IsQuery, repeats, variables, with_item, with_items}
use Rattle.sparql_print.specs.Spelled.{IsSpelledName}
use Rattle.sparql_print.specs.SpelledSymbols.{AreSpelledSymbols}
use Rattle.sparql_print.specs.QueryExpressions.{Fact, EachOfGroup, EachOfElements, EachOfGroups, EachOfElement, EachOfValue, EachOfItems, EachOfKeys, EachOfConditions, EachOfOrder, EachExpression}
use Rattle.sparql_print.proofs.ReadsBack.{expr-of}
use Rattle.sparql_print.proofs.SpelledExprs.{is-rest, holds-value, expr-spelled}
use Rattle.sparql_print.proofs.BehindTriples.{holds-rest, triples-spelled, values-spelled}
use Rattle.sparql_print.proofs.SpelledNames.{AreSpelledNames, AreSpelledParts, names-append, parts-append, HasSpelledNames}

point-rest : {ts rest : List Symbol} → IsPoint ts rest → AreSpelledSymbols ts → AreSpelledSymbols rest
point-rest no_point k = k
point-rest (point i) k = is-rest i k

distinctness-rest : {ts rest : List Symbol} {d : Bool} → IsDistinctness ts d rest → AreSpelledSymbols ts → AreSpelledSymbols rest
distinctness-rest (distinct_rows i) k = is-rest i k
distinctness-rest (reduced_rows i) k = is-rest i k
distinctness-rest all_rows k = k

where-rest : {ts rest : List Symbol} → IsWhere ts rest → AreSpelledSymbols ts → AreSpelledSymbols rest
where-rest (where_word i) k = is-rest i k
where-rest no_where k = k

-- the fact of an item's value, and its name
abbrev OfItem : Fact → SelectItem → Type 0
OfItem fact one = EachOfValue fact one.value × IsSpelledName one.variable

abbrev OfItems : Fact → List SelectItem → Type 0
OfItems fact items = EachOfItems fact items × AreSpelledNames (variables items)

-- a fact of each expression that is read of symbols whose values can be written
module _ (fact : Fact) (read : (b : Bool) (ts rest : List Symbol) (a : Expr) → IsExpr b ts a rest → AreSpelledSymbols ts → fact b a) where
  -- an expression, and what stands behind it
  expr-each : {b : Bool} {ts rest : List Symbol} {a : Expr} → IsExpr b ts a rest → AreSpelledSymbols ts → fact b a × AreSpelledSymbols rest
  expr-each h k = (read _ _ _ _ h k, (expr-spelled h k).1)

  constraint-each : {b : Bool} {ts rest : List Symbol} {a : Expr} → IsConstraint b ts a rest → AreSpelledSymbols ts → fact b a × AreSpelledSymbols rest
  constraint-each (constraint i h j) k = let v = expr-each h (is-rest i k) in (v.0, is-rest j v.1)
  constraint-each (constraint_call h) k = expr-each (expr-of (called h)) k
  constraint-each (constraint_aggregate h) k = expr-each (expr-of (aggregated h)) k

  -- ---- groups

  triples-each : {ts rest : List Symbol} {first : List Element} (more : List Element) → IsTriples ts first rest → EachOfElements fact (elements more) → EachOfElements fact (elements (first ++ more))
  unfolding EachOfGroup
  triples-each more no_triples h = h
  triples-each more (triples k) h = (tt, h)

  mutual
    unfolding EachOfGroup

    group-each : {ts rest : List Symbol} {a : Group} → IsGroup ts a rest → AreSpelledSymbols ts → EachOfGroup fact a × AreSpelledNames (scope_of_group a) × AreSpelledSymbols rest
    group-each (group {first = first} {more = more} i t h j) k =
        let u = triples-spelled t (is-rest i k) in let v = tail-each h u.1 in (triples-each more t v.0, parts-append first more u.0 v.1, is-rest j v.2)

    tail-each : {ts rest : List Symbol} {all : List Element} → GroupTail ts all rest → AreSpelledSymbols ts → EachOfElements fact (elements all) × AreSpelledParts all × AreSpelledSymbols rest
    tail-each group_end k = (tt, tt, k)
    tail-each (group_more {x = x} {after = after} {more = more} h p t m) k =
        let v = element-each h k in let u = triples-spelled t (point-rest p v.2) in let w = tail-each m u.1 in
        ((v.0, triples-each more t w.0), names-append (scope_at x) _ v.1 (parts-append after more u.0 w.1), w.2)

    element-each : {ts rest : List Symbol} {x : Element} → IsElement ts x rest → AreSpelledSymbols ts → EachOfElement fact x × AreSpelledNames (scope_at x) × AreSpelledSymbols rest
    element-each (union {first = first} h m) k =
        let v = group-each h k in let w = union_tail-each m v.2 in ((v.0, w.0), names-append (scope_of_group first) _ v.1 w.1, w.2)
    element-each (optional i h) k = group-each h (is-rest i k)
    element-each (without i h) k = let v = group-each h (is-rest i k) in (v.0, tt, v.2)
    element-each (filter i h) k = let v = constraint-each h (is-rest i k) in (v.0, tt, v.1)
    element-each (bind i j h l n m) k = let v = expr-each h (is-rest j (is-rest i k)) in let w = holds-value n (is-rest l v.1) in (v.0, (w.0, tt), is-rest m w.1)
    element-each (values i h) k = let v = values-spelled h (is-rest i k) in (tt, v.0, v.1)

    union_tail-each : {ts rest : List Symbol} {all : List Group} → UnionTail ts all rest → AreSpelledSymbols ts
        → EachOfGroups fact (groups all) × AreSpelledNames (scope_of_groups (groups all)) × AreSpelledSymbols rest
    union_tail-each union_end k = (tt, tt, k)
    union_tail-each (union_more {first = first} i h m) k =
        let v = group-each h (is-rest i k) in let w = union_tail-each m v.2 in ((v.0, w.0), names-append (scope_of_group first) _ v.1 w.1, w.2)

  -- ---- clauses

  item-each : {ts rest : List Symbol} {item : SelectItem} → IsItem ts item rest → AreSpelledSymbols ts → OfItem fact item × AreSpelledSymbols rest
  item-each (item_variable i) k = let v = holds-value i k in ((tt, v.0), v.1)
  item-each (item_value i h j n m) k = let v = expr-each h (is-rest i k) in let w = holds-value n (is-rest j v.1) in ((v.0, w.0), is-rest m w.1)

  first_item : (first : SelectItem) (more : List SelectItem) → OfItem fact first → OfItems fact more → OfItems fact (first ∷ more)
  first_item first more h k = ((h.0, k.0), (h.1, k.1))

  item_tail-each : {ts rest : List Symbol} {items : List SelectItem} → ItemTail ts items rest → AreSpelledSymbols ts → OfItems fact items × AreSpelledSymbols rest
  item_tail-each item_end k = ((tt, tt), k)
  item_tail-each (item_more {first = first} {more = more} h m) k = let v = item-each h k in let w = item_tail-each m v.1 in (first_item first more v.0 w.0, w.1)

  selection-each : {ts rest : List Symbol} {star : Bool} {items : List SelectItem} → IsSelection ts star items rest → AreSpelledSymbols ts → OfItems fact items × AreSpelledSymbols rest
  selection-each (select_star i) k = ((tt, tt), is-rest i k)
  selection-each (select_items {first = first} {more = more} h m) k = let v = item-each h k in let w = item_tail-each m v.1 in (first_item first more v.0 w.0, w.1)

  key-each : {ts rest : List Symbol} {key : GroupKey} → IsKey ts key rest → AreSpelledSymbols ts → fact false key.value × AreSpelledSymbols rest
  key-each (key_variable i) k = (read _ _ _ _ (expr-of (variable i)) k, holds-rest i k)
  key-each (key_call h) k = expr-each (expr-of (called h)) k
  key-each (key_value i h j) k = let v = expr-each h (is-rest i k) in (v.0, is-rest j v.1)
  key-each (key_named i h j n m) k = let v = expr-each h (is-rest i k) in (v.0, is-rest m (holds-rest n (is-rest j v.1)))

  key_tail-each : {ts rest : List Symbol} {keys : List GroupKey} → KeyTail ts keys rest → AreSpelledSymbols ts → EachOfKeys fact keys × AreSpelledSymbols rest
  key_tail-each key_end k = (tt, k)
  key_tail-each (key_more h m) k = let v = key-each h k in let w = key_tail-each m v.1 in ((v.0, w.0), w.1)

  grouping-each : {ts rest : List Symbol} {keys : List GroupKey} → IsGrouping ts keys rest → AreSpelledSymbols ts → EachOfKeys fact keys × AreSpelledSymbols rest
  grouping-each no_grouping k = (tt, k)
  grouping-each (grouping i j h m) k = let v = key-each h (is-rest j (is-rest i k)) in let w = key_tail-each m v.1 in ((v.0, w.0), w.1)

  having_tail-each : {ts rest : List Symbol} {all : List Expr} → HavingTail ts all rest → AreSpelledSymbols ts → EachOfConditions fact all × AreSpelledSymbols rest
  having_tail-each having_end k = (tt, k)
  having_tail-each (having_more h m) k = let v = constraint-each h k in let w = having_tail-each m v.1 in ((v.0, w.0), w.1)

  having-each : {ts rest : List Symbol} {all : List Expr} → IsHaving ts all rest → AreSpelledSymbols ts → EachOfConditions fact all × AreSpelledSymbols rest
  having-each no_having k = (tt, k)
  having-each (having i h m) k = let v = constraint-each h (is-rest i k) in let w = having_tail-each m v.1 in ((v.0, w.0), w.1)

  order-each : {ts rest : List Symbol} {key : OrderKey} → IsOrderKey ts key rest → AreSpelledSymbols ts → fact true key.value × AreSpelledSymbols rest
  order-each (ascending i j h m) k = let v = expr-each h (is-rest j (is-rest i k)) in (v.0, is-rest m v.1)
  order-each (descending i j h m) k = let v = expr-each h (is-rest j (is-rest i k)) in (v.0, is-rest m v.1)
  order-each (order_constraint h) k = constraint-each h k
  order-each (order_variable i) k = (read _ _ _ _ (expr-of (variable i)) k, holds-rest i k)

  order_tail-each : {ts rest : List Symbol} {keys : List OrderKey} → OrderTail ts keys rest → AreSpelledSymbols ts → EachOfOrder fact keys × AreSpelledSymbols rest
  order_tail-each order_end k = (tt, k)
  order_tail-each (order_more h m) k = let v = order-each h k in let w = order_tail-each m v.1 in ((v.0, w.0), w.1)

  ordering-each : {ts rest : List Symbol} {keys : List OrderKey} → IsOrdering ts keys rest → AreSpelledSymbols ts → EachOfOrder fact keys × AreSpelledSymbols rest
  ordering-each no_ordering k = (tt, k)
  ordering-each (ordering i j h m) k = let v = order-each h (is-rest j (is-rest i k)) in let w = order_tail-each m v.1 in ((v.0, w.0), w.1)

  -- ---- queries

  -- the fact of each expression, and the names
  abbrev Both : Query → Type 0
  Both query = EachExpression fact query × HasSpelledNames query

  select-each : {ts : List Symbol} {query : Query} → IsSelect ts query → AreSpelledSymbols ts → Both query
  select-each (select i d s w h g c o l) k =
      let items = selection-each s (distinctness-rest d (is-rest i k)) in
      let body = group-each h (where-rest w items.1) in
      let keys = grouping-each g body.2 in
      let conditions = having-each c keys.1 in
      let order = ordering-each o conditions.1 in
      (record { items = items.0.0; body = body.0; keys = keys.0; having = conditions.0; order = order.0 }, record { items = items.0.1; scope = body.1 })

  last-each : (items : List SelectItem) (one : SelectItem) → OfItems fact items → OfItem fact one → OfItems fact (items ++ one ∷ [])
  last-each [] one h k = ((k.0, tt), (k.1, tt))
  last-each (first ∷ items) one h k = first_item first (items ++ one ∷ []) (h.0.0, h.1.0) (last-each items one (h.0.1, h.1.1) k)

  kept-each : (items : List SelectItem) (one : SelectItem) → OfItems fact items → OfItem fact one → OfItems fact (with_item items one)
  kept-each items one h k =
      elim (repeats (variables items) one.variable one.value) as (λ t. OfItems fact (cond t items (items ++ one ∷ []))) [ true ↦ h | false ↦ last-each items one h k ]

  all_kept-each : (items more : List SelectItem) → OfItems fact items → OfItems fact more → OfItems fact (with_items items more)
  all_kept-each items [] h k = h
  all_kept-each items (first ∷ more) h k = all_kept-each (with_item items first) more (kept-each items first h (k.0.0, k.1.0)) (k.0.1, k.1.1)

  pub query-each : (ts : List Symbol) (query : Query) → IsQuery ts query → AreSpelledSymbols ts → EachExpression fact query × HasSpelledNames query
  query-each ts query h k =
      let w = select-each h.spelled k in
      let items = all_kept-each [] h.written.items (tt, tt) (w.0.items, w.1.items) in
      subst Both (sym h.kept_once)
      (record { items = items.0; body = w.0.body; keys = w.0.keys; having = w.0.having; order = w.0.order }, record { items = items.1; scope = w.1.scope })
