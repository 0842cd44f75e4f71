-- The symbols of a part's group spell that group.
use Rattle.std.proofs.Common.{List, [], ◌∷◌, sym, subst, Option, Some, None}
use Rattle.std.specs.FinMap as finmap
use Rattle.term_core.specs.Bags.{AreDistinct}
use Rattle.term_core.specs.Mappings.{Name, Row, value}
use Rattle.term_core.specs.declared.pattern.Pattern.{Pattern}
use Rattle.term_core.specs.declared.pattern.Place.{Place}
use Rattle.term_core.specs.declared.pattern.Place.TheVariants as places
use Rattle.term_core.specs.declared.term.Term.{Term}
use Rattle.term_core.specs.declared.term.Term.TheVariants as terms
use Rattle.sparql_tree.specs.Algebra as algebra
use Rattle.sparql_tree.specs.Algebra.{Algebra}
use Rattle.sparql_tree.specs.declared.symbol.Shape.TheVariants as s
use Rattle.sparql_tree.specs.declared.symbol.Symbol.{Symbol}
use Rattle.sparql_tree.specs.Symbols.{bare}
use Rattle.sparql_tree.specs.Heads.{is, holds}
use Rattle.sparql_tree.specs.GroupPatterns.{constraint, no_point, IsGroup, group, group_end, group_more, union, filter, bind, values, union_end, union_more}
use Rattle.sparql_tree.specs.Triples.{IsNode, node_variable, node_blank, node_term, IsVerb, verb_variable, verb_iri, object_end, objects, property_end, IsSame, same, IsBlock, block_point, block_more, no_triples, triples}
use Rattle.sparql_tree.specs.Values.{IsCell, cell_term, cell_undef, with_cell, IsRow, row_end, row_more, IsNames, names_end, names_more, FullRows, full_end, full_more, values_full}
use Rattle.sparql_print.proofs.ReadsBack.{term-back, expr-of, reads_back}
use Rattle.part_texts.specs.Rules.{KeepsRules}
use Rattle.part_texts.proofs.Forms.{group_of_part, IsPart, IsWritten, IsWrittenPlace, IsWrittenVerb, IsWrittenPattern, AreWrittenPatterns, IsWrittenCell, AreCells, with_cells, AreWrittenRows, place_symbols, patterns_symbols, names_symbols, value_symbols, row_symbols, rows_symbols, group_symbols}
use Rattle.part_texts.proofs.Rows.{HasCells, names-differ, row-cells}

-- ---- patterns

node-back : (place : Place) (rest : List Symbol) → IsWrittenPlace place → IsNode (place_symbols place rest) place rest
node-back (places.Var name) rest h = node_variable holds
node-back (places.Blank label) rest h = node_blank holds
node-back (places.Term term) rest h = node_term (term-back term rest h)

verb-back : (place : Place) (rest : List Symbol) → IsWrittenVerb place → IsVerb (place_symbols place rest) place rest
verb-back (places.Var name) rest h = verb_variable holds
verb-back (places.Blank label) rest h = absurd h
verb-back (places.Term (terms.Iri iri)) rest h = verb_iri holds
verb-back (places.Term (terms.Blank label)) rest h = absurd h
verb-back (places.Term (terms.Literal lexical datatype lang)) rest h = absurd h

same-back : (p : Pattern) (rest : List Symbol) → IsWrittenPattern p → IsSame (place_symbols p.subject (place_symbols p.predicate (place_symbols p.object rest))) (p ∷ []) rest
same-back p rest h = same (node-back p.subject _ h.subject) (verb-back p.predicate _ h.verb) (objects (node-back p.object rest h.object) object_end) property_end

block-back : (p : Pattern) (ps : List Pattern) (rest : List Symbol) → AreWrittenPatterns (p ∷ ps) → IsBlock (patterns_symbols (p ∷ ps) rest) (p ∷ ps) rest
block-back p [] rest h = block_point (same-back p _ h.0) is
block-back p (q ∷ qs) rest h = block_more (same-back p _ h.0) is (block-back q qs rest h.1)

-- ---- tables

names-back : (names : List Name) (rest : List Symbol) → IsNames (names_symbols names rest) names rest
names-back [] rest = names_end
names-back (name ∷ names) rest = names_more holds (names-back names rest)

cell-back : (o : Option Term) (rest : List Symbol) → IsWrittenCell o → IsCell (value_symbols o rest) o rest
cell-back None rest h = cell_undef is
cell-back (Some term) rest h = cell_term (term-back term rest h)

cells-back : (row start : Row) (names : List Name) (cells : List (Option Term)) (rest : List Symbol) → AreCells names cells → HasCells row names cells
    → IsRow names start (row_symbols row names rest) (with_cells start names cells) rest
cells-back row start [] [] rest w h = row_end
cells-back row start [] (cell ∷ cells) rest w h = absurd w
cells-back row start (name ∷ names) [] rest w h = absurd w
cells-back row start (name ∷ names) (cell ∷ cells) rest w h =
    row_more (subst (λ o. IsCell (value_symbols o (row_symbols row names rest)) cell (row_symbols row names rest)) (sym h.0) (cell-back cell _ w.0))
    (cells-back row (with_cell start name cell) names cells rest w.1 h.1)

rows-back : (names : List Name) (rows : List Row) (rest : List Symbol) → AreDistinct names → AreWrittenRows names rows → FullRows names (rows_symbols names rows rest) rows rest
rows-back names [] rest d w = full_end
rows-back names (row ∷ rows) rest d w =
    let next : List Symbol = bare s.Close ∷ rows_symbols names rows rest in
    full_more is (subst (λ r. IsRow names finmap.empty (row_symbols row names next) r next) (sym w.0.spelled)
    (cells-back row finmap.empty names w.0.cells next w.0.are_cells (row-cells names row d w.0))) is (rows-back names rows rest d w.1)

-- ---- groups

pub group-back : (a : Algebra) (before : List Name) (rest : List Symbol) → IsPart a → IsWritten a → KeepsRules before a → IsGroup (group_symbols a rest) (group_of_part a) rest
unfolding group_symbols
group-back (algebra.Bgp []) before rest p w k = group is no_triples group_end is
group-back (algebra.Bgp (q ∷ qs)) before rest p w k = group is (triples (block-back q qs _ w)) group_end is
group-back (algebra.Join left right) before rest p w k =
    group is no_triples
    (group_more (union (group-back left _ _ p.0 w.0 k.0) union_end) no_point no_triples (group_more (union (group-back right _ _ p.1 w.1 k.1) union_end) no_point no_triples group_end)) is
group-back (algebra.Union left right) before rest p w k =
    group is no_triples
    (group_more (union (group-back left _ _ p.0 w.0 k.0) (union_more is (group-back right _ _ p.1 w.1 k.1) union_end)) no_point no_triples group_end) is
group-back (algebra.Filter condition inner) before rest p w k =
    group is no_triples
    (group_more (union (group-back inner _ _ p w.0 k) union_end) no_point no_triples
    (group_more (filter is (constraint is (expr-of (reads_back condition _ w.1.of_tree w.1.spelled)) is)) no_point no_triples group_end)) is
group-back (algebra.Extend inner variable value) before rest p w k =
    group is no_triples
    (group_more (union (group-back inner _ _ p w.0 k.0) union_end) no_point no_triples
    (group_more (bind is is (expr-of (reads_back value _ w.1.of_tree w.1.spelled)) is holds is) no_point no_triples group_end)) is
group-back (algebra.Table variables rows) before rest p w k =
    group is no_triples
    (group_more (values is (values_full is (names-back variables _) is is (rows-back variables rows _ (names-differ variables k) w.1) is)) no_point no_triples group_end) is
group-back (algebra.LeftJoin left right condition) before rest p w k = absurd p
group-back (algebra.Minus left right) before rest p w k = absurd p
