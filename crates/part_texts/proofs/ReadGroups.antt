-- What is read of symbols whose values can be written can be written: triples, rows, expressions and groups.
use Rattle.std.proofs.Common.{◌≡◌, Bool, false, List, [], ◌∷◌, ◌++◌, refl, sym, subst, Option}
use Rattle.std.specs.FinMap as finmap
use Rattle.term_core.specs.Mappings.{Name, Row}
use Rattle.term_core.specs.Spelling.{IsSpelledIri}
use Rattle.term_core.specs.declared.pattern.Pattern.{Pattern}
use Rattle.term_core.specs.declared.pattern.Place.{Place}
use Rattle.term_core.specs.declared.term.Term.{Term}
use Rattle.nt_text.proofs.WrittenText.{text_small}
use Rattle.sparql_tree.specs.Exprs.{Expr}
use Rattle.sparql_tree.specs.Groups.{Group, Element, elements, groups, Query}
use Rattle.sparql_tree.specs.Queries.{IsDistinctness, distinct_rows, reduced_rows, all_rows, IsItem, item_variable, item_value, ItemTail, item_end, item_more, IsSelection, select_star, select_items, IsWhere, where_word, no_where, IsSelect, select, IsQuery}
use Rattle.sparql_tree.specs.Groups.{SelectItem}
use Rattle.sparql_tree.specs.declared.symbol.Symbol.{Symbol}
use Rattle.sparql_tree.specs.Expressions.{IsExpr, called}
use Rattle.sparql_tree.specs.GroupPatterns.{IsConstraint, constraint, constraint_call, IsPoint, no_point, point, IsGroup, group, GroupTail, group_end, group_more, IsElement, union, optional, without, filter, bind, values, UnionTail, union_end, union_more}
use Rattle.sparql_tree.specs.Triples.{rdf_type, IsNode, node_variable, node_blank, node_term, IsVerb, verb_variable, verb_iri, verb_a, ObjectTail, object_end, object_more, IsObjects, objects, PropertyTail, property_end, property_none, property_more, IsSame, same, IsBlock, block_one, block_point, block_more, IsTriples, no_triples, triples}
use Rattle.sparql_tree.specs.Values.{IsCell, cell_term, cell_undef, IsRow, row_end, row_more, OneRows, one_end, one_more, IsNames, names_end, names_more, FullRows, full_end, full_more, IsValues, values_one, values_full}
use Rattle.sparql_print.proofs.ReadsBack.{expr-of}
use Rattle.sparql_print.proofs.SpelledExprs.{term-spelled, expr-spelled}
use Rattle.sparql_print.proofs.SpelledNames.{AreSpelledNames}
use Rattle.part_texts.proofs.Forms.{IsWrittenPlace, IsWrittenVerb, AreWrittenPatterns, IsWrittenCell, AreCells, with_cells, IsWrittenRow, AreWrittenRows, IsWrittenExpr, IsWrittenGroup, AreWrittenElements, AreWrittenGroups, IsWrittenElement}
use Rattle.part_texts.proofs.Rest.{AreWritten, next, head-next, term-rest, expr-rest}

-- ---- triples

type_is_iri : IsSpelledIri rdf_type
type_is_iri = record { characters = rdf_type; is_text = text_small rdf_type refl; of_class = refl; scheme = refl }

node-written : {ts rest : List Symbol} {node : Place} → IsNode ts node rest → AreWritten ts → IsWrittenPlace node × AreWritten rest
node-written (node_variable i) k = let v = head-next i k in (v.0, v.2)
node-written (node_blank i) k = let v = head-next i k in (v.1, v.2)
node-written (node_term h) k = ((term-spelled h k.0).0, term-rest h k)

verb-written : {ts rest : List Symbol} {verb : Place} → IsVerb ts verb rest → AreWritten ts → IsWrittenVerb verb × AreWritten rest
verb-written (verb_variable i) k = let v = head-next i k in (v.0, v.2)
verb-written (verb_iri i) k = let v = head-next i k in (v.0, v.2)
verb-written (verb_a i) k = (type_is_iri, next i k)

pub patterns-append : (ps qs : List Pattern) → AreWrittenPatterns ps → AreWrittenPatterns qs → AreWrittenPatterns (ps ++ qs)
patterns-append [] qs h k = k
patterns-append (p ∷ ps) qs h k = (h.0, patterns-append ps qs h.1 k)

module _ (subject : Place) (is_subject : IsWrittenPlace subject) where
  object_tail-written : (verb : Place) {ts rest : List Symbol} {found : List Pattern} → IsWrittenVerb verb → ObjectTail subject verb ts found rest → AreWritten ts
      → AreWrittenPatterns found × AreWritten rest
  object_tail-written verb v object_end k = (tt, k)
  object_tail-written verb v (object_more i h m) k =
      let o = node-written h (next i k) in let w = object_tail-written verb v m o.1 in ((record { subject = is_subject; verb = v; object = o.0 }, w.0), w.1)

  objects-written : (verb : Place) {ts rest : List Symbol} {found : List Pattern} → IsWrittenVerb verb → IsObjects subject verb ts found rest → AreWritten ts
      → AreWrittenPatterns found × AreWritten rest
  objects-written verb v (objects h m) k =
      let o = node-written h k in let w = object_tail-written verb v m o.1 in ((record { subject = is_subject; verb = v; object = o.0 }, w.0), w.1)

  property_tail-written : {ts rest : List Symbol} {found : List Pattern} → PropertyTail subject ts found rest → AreWritten ts → AreWrittenPatterns found × AreWritten rest
  property_tail-written property_end k = (tt, k)
  property_tail-written (property_none i m) k = property_tail-written m (next i k)
  property_tail-written (property_more {verb = verb} {found = found} {more = more} i v o m) k =
      let a = verb-written v (next i k) in let b = objects-written verb a.0 o a.1 in let c = property_tail-written m b.1 in (patterns-append found more b.0 c.0, c.1)

same-written : {ts rest : List Symbol} {found : List Pattern} → IsSame ts found rest → AreWritten ts → AreWrittenPatterns found × AreWritten rest
same-written (same {subject = subject} {verb = verb} {found = found} {more = more} s v o m) k =
    let n = node-written s k in let a = verb-written v n.1 in let b = objects-written subject n.0 verb a.0 o a.1 in let c = property_tail-written subject n.0 m b.1 in
    (patterns-append found more b.0 c.0, c.1)

block-written : {ts rest : List Symbol} {found : List Pattern} → IsBlock ts found rest → AreWritten ts → AreWrittenPatterns found × AreWritten rest
block-written (block_one h) k = same-written h k
block-written (block_point h i) k = let v = same-written h k in (v.0, next i v.1)
block-written (block_more {found = found} {more = more} h i m) k =
    let v = same-written h k in let w = block-written m (next i v.1) in (patterns-append found more v.0 w.0, w.1)

-- ---- tables

cell-written : {ts rest : List Symbol} {cell : Option Term} → IsCell ts cell rest → AreWritten ts → IsWrittenCell cell × AreWritten rest
cell-written (cell_term h) k = ((term-spelled h k.0).0, term-rest h k)
cell-written (cell_undef i) k = (tt, next i k)

-- cells that were put into a row
record PutIn (names : List Name) (row all : Row) : Type 0 where
  cells : List (Option Term)
  are_cells : AreCells names cells
  spelled : all ≡ with_cells row names cells

row-written : {names : List Name} {row all : Row} {ts rest : List Symbol} → IsRow names row ts all rest → AreWritten ts → PutIn names row all × AreWritten rest
row-written row_end k = (record { cells = []; are_cells = tt; spelled = refl }, k)
row-written (row_more {cell = cell} h m) k =
    let v = cell-written h k in let w = row-written m v.1 in (record { cells = cell ∷ w.0.cells; are_cells = (v.0, w.0.are_cells); spelled = w.0.spelled }, w.1)

first-row : (names : List Name) (row : Row) → PutIn names finmap.empty row → IsWrittenRow names row
first-row names row h = record { cells = h.cells; are_cells = h.are_cells; spelled = h.spelled }

one_rows-written : {name : Name} {ts rest : List Symbol} {rows : List Row} → OneRows name ts rows rest → AreWritten ts → AreWrittenRows (name ∷ []) rows × AreWritten rest
one_rows-written one_end k = (tt, k)
one_rows-written (one_more h m) k = let v = row-written h k in let w = one_rows-written m v.1 in ((first-row _ _ v.0, w.0), w.1)

names-written : {ts rest : List Symbol} {names : List Name} → IsNames ts names rest → AreWritten ts → AreSpelledNames names × AreWritten rest
names-written names_end k = (tt, k)
names-written (names_more i m) k = let v = head-next i k in let w = names-written m v.2 in ((v.0, w.0), w.1)

full_rows-written : {names : List Name} {ts rest : List Symbol} {rows : List Row} → FullRows names ts rows rest → AreWritten ts → AreWrittenRows names rows × AreWritten rest
full_rows-written full_end k = (tt, k)
full_rows-written (full_more i h j m) k = let v = row-written h (next i k) in let w = full_rows-written m (next j v.1) in ((first-row _ _ v.0, w.0), w.1)

values-written : {ts rest : List Symbol} {names : List Name} {rows : List Row} → IsValues ts names rows rest → AreWritten ts
    → AreSpelledNames names × AreWrittenRows names rows × AreWritten rest
values-written (values_one i j h m) k = let v = head-next i k in let w = one_rows-written h (next j v.2) in ((v.0, tt), w.0, next m w.1)
values-written (values_full i n j l h m) k = let v = names-written n (next i k) in let w = full_rows-written h (next l (next j v.1)) in (v.0, w.0, next m w.1)

-- ---- expressions

expr-written : {ts rest : List Symbol} {a : Expr} → IsExpr false ts a rest → AreWritten ts → IsWrittenExpr a × AreWritten rest
expr-written {ts = ts} {rest = rest} h k = (record { of_tree = record { tokens = ts; rest = rest; spelled = h }; spelled = (expr-spelled h k.0).0 }, expr-rest h k)

constraint-written : {ts rest : List Symbol} {a : Expr} → IsConstraint false ts a rest → AreWritten ts → IsWrittenExpr a × AreWritten rest
constraint-written (constraint i h j) k = let v = expr-written h (next i k) in (v.0, next j v.1)
constraint-written (constraint_call h) k = expr-written (expr-of (called h)) k

-- ---- groups

point-rest : {ts rest : List Symbol} → IsPoint ts rest → AreWritten ts → AreWritten rest
point-rest no_point k = k
point-rest (point i) k = next i k

triples-written : {ts rest : List Symbol} {found : List Element} (more : List Element) → IsTriples ts found rest → AreWritten ts
    → (AreWrittenElements (elements more) → AreWrittenElements (elements (found ++ more))) × AreWritten rest
triples-written more no_triples k = (λ h. h, k)
triples-written more (triples h) k = let v = block-written h k in (λ w. (v.0, w), v.1)

mutual
  group-written : {ts rest : List Symbol} {a : Group} → IsGroup ts a rest → AreWritten ts → IsWrittenGroup a × AreWritten rest
  group-written (group {more = more} i t h j) k =
      let u = triples-written more t (next i k) in let v = tail-written h u.1 in (u.0 v.0, next j v.1)

  tail-written : {ts rest : List Symbol} {all : List Element} → GroupTail ts all rest → AreWritten ts → AreWrittenElements (elements all) × AreWritten rest
  tail-written group_end k = (tt, k)
  tail-written (group_more {more = more} h p t m) k =
      let v = element-written h k in let u = triples-written more t (point-rest p v.1) in let w = tail-written m u.1 in ((v.0, u.0 w.0), w.1)

  element-written : {ts rest : List Symbol} {x : Element} → IsElement ts x rest → AreWritten ts → IsWrittenElement x × AreWritten rest
  element-written (union h m) k = let v = group-written h k in let w = union_tail-written m v.1 in ((v.0, w.0), w.1)
  element-written (optional i h) k = group-written h (next i k)
  element-written (without i h) k = group-written h (next i k)
  element-written (filter i h) k = constraint-written h (next i k)
  element-written (bind i j h l n m) k = let v = expr-written h (next j (next i k)) in let w = head-next n (next l v.1) in ((v.0, w.0), next m w.2)
  element-written (values i h) k = let v = values-written h (next i k) in ((v.0, v.1), v.2)

  union_tail-written : {ts rest : List Symbol} {all : List Group} → UnionTail ts all rest → AreWritten ts → AreWrittenGroups (groups all) × AreWritten rest
  union_tail-written union_end k = (tt, k)
  union_tail-written (union_more i h m) k = let v = group-written h (next i k) in let w = union_tail-written m v.1 in ((v.0, w.0), w.1)

-- ---- queries

distinctness-rest : {ts rest : List Symbol} {d : Bool} → IsDistinctness ts d rest → AreWritten ts → AreWritten rest
distinctness-rest (distinct_rows i) k = next i k
distinctness-rest (reduced_rows i) k = next i k
distinctness-rest all_rows k = k

item-rest : {ts rest : List Symbol} {item : SelectItem} → IsItem ts item rest → AreWritten ts → AreWritten rest
item-rest (item_variable i) k = (head-next i k).2
item-rest (item_value i h j n m) k = next m (head-next n (next j (expr-rest h (next i k)))).2

item_tail-rest : {ts rest : List Symbol} {items : List SelectItem} → ItemTail ts items rest → AreWritten ts → AreWritten rest
item_tail-rest item_end k = k
item_tail-rest (item_more h m) k = item_tail-rest m (item-rest h k)

selection-rest : {ts rest : List Symbol} {star : Bool} {items : List SelectItem} → IsSelection ts star items rest → AreWritten ts → AreWritten rest
selection-rest (select_star i) k = next i k
selection-rest (select_items h m) k = item_tail-rest m (item-rest h k)

where-rest : {ts rest : List Symbol} → IsWhere ts rest → AreWritten ts → AreWritten rest
where-rest (where_word i) k = next i k
where-rest no_where k = k

select-written : {ts : List Symbol} {query : Query} → IsSelect ts query → AreWritten ts → IsWrittenGroup query.body
select-written (select i d s w h g c o l) k = (group-written h (where-rest w (selection-rest s (distinctness-rest d (next i k))))).0

-- what stands between the braces of a query
pub query-written : (ts : List Symbol) (query : Query) → IsQuery ts query → AreWritten ts → IsWrittenGroup query.body
query-written ts query h k = subst (λ (q : Query). IsWrittenGroup q.body) (sym h.kept_once) (select-written h.spelled k)
