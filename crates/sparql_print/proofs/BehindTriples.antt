-- The variables of triples and rows that are read of symbols are names of variables, and what stands behind is part of the symbols.
use Rattle.std.proofs.Common.{ℕ, List, Option, []}
use Rattle.std.specs.Prelude.{flat_map}
use Rattle.term_core.specs.Mappings.{Name, Row}
use Rattle.term_core.specs.declared.pattern.Pattern.{Pattern}
use Rattle.term_core.specs.declared.pattern.Place.{Place}
use Rattle.term_core.specs.declared.term.Term.{Term}
use Rattle.sparql_tree.specs.Groups.{Element}
use Rattle.sparql_tree.specs.declared.symbol.Shape.{Shape}
use Rattle.sparql_tree.specs.declared.symbol.Symbol.{Symbol}
use Rattle.sparql_tree.specs.Heads.{IsHead}
use Rattle.sparql_tree.specs.Scopes.{variables_in}
use Rattle.sparql_tree.specs.Triples.{IsNode, node_variable, node_blank, node_term, IsVerb, verb_variable, verb_iri, verb_a, ObjectTail, object_end, object_more, IsObjects, objects, PropertyTail, property_end, property_none, property_more, IsSame, same, IsBlock, block_one, block_point, block_more, IsTriples, no_triples, triples}
use Rattle.sparql_tree.specs.Values.{IsCell, cell_term, cell_undef, IsRow, row_end, row_more, OneRows, one_end, one_more, IsNames, names_end, names_more, FullRows, full_end, full_more, IsValues, values_one, values_full}
use Rattle.sparql_print.specs.SpelledSymbols.{AreSpelledSymbols}
use Rattle.sparql_print.proofs.SpelledExprs.{is-rest, holds-value, term-spelled}
use Rattle.sparql_print.proofs.SpelledNames.{AreSpelledNames, IsSpelledPlace, AreSpelledPatterns, AreSpelledParts, first_pattern, patterns-append, names-append}

pub holds-rest : {shape : Shape} {value : List ℕ} {ts rest : List Symbol} → IsHead shape value ts rest → AreSpelledSymbols ts → AreSpelledSymbols rest
holds-rest i k = (holds-value i k).1

-- ---- triples

node-spelled : {ts rest : List Symbol} {node : Place} → IsNode ts node rest → AreSpelledSymbols ts → IsSpelledPlace node × AreSpelledSymbols rest
node-spelled (node_variable i) k = let v = holds-value i k in ((v.0, tt), v.1)
node-spelled (node_blank i) k = (tt, holds-rest i k)
node-spelled (node_term h) k = (tt, (term-spelled h k).1)

verb-spelled : {ts rest : List Symbol} {verb : Place} → IsVerb ts verb rest → AreSpelledSymbols ts → IsSpelledPlace verb × AreSpelledSymbols rest
verb-spelled (verb_variable i) k = let v = holds-value i k in ((v.0, tt), v.1)
verb-spelled (verb_iri i) k = (tt, holds-rest i k)
verb-spelled (verb_a i) k = (tt, is-rest i k)

-- patterns behind a subject, or behind a subject and a verb
module _ (subject : Place) (is_subject : IsSpelledPlace subject) where
  object_tail-spelled : (verb : Place) {ts rest : List Symbol} {found : List Pattern} → IsSpelledPlace verb → ObjectTail subject verb ts found rest → AreSpelledSymbols ts
      → AreSpelledPatterns found × AreSpelledSymbols rest
  object_tail-spelled verb v object_end k = (tt, k)
  object_tail-spelled verb v (object_more {object = object} {more = more} i h m) k =
      let o = node-spelled h (is-rest i k) in let w = object_tail-spelled verb v m o.1 in (first_pattern subject verb object more is_subject v o.0 w.0, w.1)

  objects-spelled : (verb : Place) {ts rest : List Symbol} {found : List Pattern} → IsSpelledPlace verb → IsObjects subject verb ts found rest → AreSpelledSymbols ts
      → AreSpelledPatterns found × AreSpelledSymbols rest
  objects-spelled verb v (objects {object = object} {more = more} h m) k =
      let o = node-spelled h k in let w = object_tail-spelled verb v m o.1 in (first_pattern subject verb object more is_subject v o.0 w.0, w.1)

  property_tail-spelled : {ts rest : List Symbol} {found : List Pattern} → PropertyTail subject ts found rest → AreSpelledSymbols ts → AreSpelledPatterns found × AreSpelledSymbols rest
  property_tail-spelled property_end k = (tt, k)
  property_tail-spelled (property_none i m) k = property_tail-spelled m (is-rest i k)
  property_tail-spelled (property_more {verb = verb} {found = found} {more = more} i v o m) k =
      let a = verb-spelled v (is-rest i k) in let b = objects-spelled verb a.0 o a.1 in let c = property_tail-spelled m b.1 in (patterns-append found more b.0 c.0, c.1)

same-spelled : {ts rest : List Symbol} {found : List Pattern} → IsSame ts found rest → AreSpelledSymbols ts → AreSpelledPatterns found × AreSpelledSymbols rest
same-spelled (same {subject = subject} {verb = verb} {found = found} {more = more} s v o m) k =
    let n = node-spelled s k in let a = verb-spelled v n.1 in let b = objects-spelled subject n.0 verb a.0 o a.1 in let c = property_tail-spelled subject n.0 m b.1 in
    (patterns-append found more b.0 c.0, c.1)

block-spelled : {ts rest : List Symbol} {found : List Pattern} → IsBlock ts found rest → AreSpelledSymbols ts → AreSpelledPatterns found × AreSpelledSymbols rest
block-spelled (block_one h) k = same-spelled h k
block-spelled (block_point h i) k = let v = same-spelled h k in (v.0, is-rest i v.1)
block-spelled (block_more {found = found} {more = more} h i m) k =
    let v = same-spelled h k in let w = block-spelled m (is-rest i v.1) in (patterns-append found more v.0 w.0, w.1)

pub triples-spelled : {ts rest : List Symbol} {found : List Element} → IsTriples ts found rest → AreSpelledSymbols ts → AreSpelledParts found × AreSpelledSymbols rest
triples-spelled no_triples k = (tt, k)
triples-spelled (triples {found = found} h) k = let v = block-spelled h k in (names-append (flat_map variables_in found) [] v.0 tt, v.1)

-- ---- rows

cell-rest : {ts rest : List Symbol} {cell : Option Term} → IsCell ts cell rest → AreSpelledSymbols ts → AreSpelledSymbols rest
cell-rest (cell_term h) k = (term-spelled h k).1
cell-rest (cell_undef i) k = is-rest i k

row-rest : {names : List Name} {row all : Row} {ts rest : List Symbol} → IsRow names row ts all rest → AreSpelledSymbols ts → AreSpelledSymbols rest
row-rest row_end k = k
row-rest (row_more h m) k = row-rest m (cell-rest h k)

one_rows-rest : {name : Name} {ts rest : List Symbol} {rows : List Row} → OneRows name ts rows rest → AreSpelledSymbols ts → AreSpelledSymbols rest
one_rows-rest one_end k = k
one_rows-rest (one_more h m) k = one_rows-rest m (row-rest h k)

names-spelled : {ts rest : List Symbol} {names : List Name} → IsNames ts names rest → AreSpelledSymbols ts → AreSpelledNames names × AreSpelledSymbols rest
names-spelled names_end k = (tt, k)
names-spelled (names_more i m) k = let v = holds-value i k in let w = names-spelled m v.1 in ((v.0, w.0), w.1)

full_rows-rest : {names : List Name} {ts rest : List Symbol} {rows : List Row} → FullRows names ts rows rest → AreSpelledSymbols ts → AreSpelledSymbols rest
full_rows-rest full_end k = k
full_rows-rest (full_more i h j m) k = full_rows-rest m (is-rest j (row-rest h (is-rest i k)))

pub values-spelled : {ts rest : List Symbol} {names : List Name} {rows : List Row} → IsValues ts names rows rest → AreSpelledSymbols ts → AreSpelledNames names × AreSpelledSymbols rest
values-spelled (values_one i j h m) k = let v = holds-value i k in ((v.0, tt), is-rest m (one_rows-rest h (is-rest j v.1)))
values-spelled (values_full i n j l h m) k = let v = names-spelled n (is-rest i k) in (v.0, is-rest m (full_rows-rest h (is-rest l (is-rest j v.1))))
