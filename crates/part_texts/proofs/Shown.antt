-- The symbols of the text of a part's group.
use Rattle.std.proofs.Common.{ℕ, List, [], ◌∷◌, ◌++◌, sym, subst, ◌∙◌, append_assoc, codes, Option, Some, None}
use Rattle.std.specs.Prelude.{flat_map}
use Rattle.term_core.specs.Bags.{AreDistinct}
use Rattle.term_core.specs.Mappings.{Name, Row, value}
use Rattle.term_core.specs.declared.pattern.Pattern.{Pattern}
use Rattle.term_core.specs.declared.pattern.Place.{Place}
use Rattle.term_core.specs.declared.pattern.Place.TheVariants as places
use Rattle.term_core.specs.declared.term.Term.{Term}
use Rattle.term_core.specs.declared.term.Term.TheVariants as terms
use Rattle.sparql_tree.specs.Algebra as algebra
use Rattle.sparql_tree.specs.Algebra.{Algebra}
use Rattle.sparql_tree.specs.declared.symbol.Shape.TheVariants as s
use Rattle.sparql_tree.specs.Symbols.{bare, symbol}
use Rattle.sparql_print.specs.ExprText.{spaced, in_parens, expr_text}
use Rattle.sparql_print.specs.PartText.{in_braces, variable_text, place_text, pattern_text, variable_before, value_text, value_before, row_before, table_text, group_text}
use Rattle.sparql_print.proofs.ExprSymbols.{expr_symbols}
use Rattle.sparql_print.proofs.Gives.{IsShown}
use Rattle.sparql_print.proofs.Pieces.{spaced-shown, open-shown, close-shown}
use Rattle.sparql_print.proofs.LiteralPieces.{constant-shown}
use Rattle.sparql_print.proofs.TermPieces.{name-shown, iri-shown}
use Rattle.sparql_print.proofs.Shown.{Adds, IsTail, tail-of, then-shown, expr-shown, in_parens-shown}
use Rattle.sparql_print.proofs.SpelledNames.{AreSpelledNames}
use Rattle.part_texts.specs.Rules.{KeepsRules}
use Rattle.part_texts.proofs.Forms.{IsPart, IsWritten, IsWrittenPlace, IsWrittenVerb, AreWrittenPatterns, IsWrittenCell, AreCells, AreWrittenRows, place_symbols, patterns_symbols, names_symbols, value_symbols, row_symbols, rows_symbols, group_symbols}
use Rattle.part_texts.proofs.Pieces.{opening-shown, closing-shown, point-shown, union-shown, filter-shown, bind-shown, as-shown, values-shown, undef-shown, label-shown}
use Rattle.part_texts.proofs.Rows.{HasCells, names-differ, row-cells}

-- ---- patterns

place-shown : (place : Place) → IsWrittenPlace place → IsShown (place_text place) (λ ss. place_symbols place ss)
place-shown (places.Var name) h = name-shown name h
place-shown (places.Blank label) h = label-shown label h
place-shown (places.Term term) h = constant-shown term h

verb-shown : (place : Place) → IsWrittenVerb place → IsShown (place_text place) (λ ss. place_symbols place ss)
verb-shown (places.Var name) h = name-shown name h
verb-shown (places.Blank label) h = absurd h
verb-shown (places.Term (terms.Iri iri)) h = iri-shown iri h
verb-shown (places.Term (terms.Blank label)) h = absurd h
verb-shown (places.Term (terms.Literal lexical datatype lang)) h = absurd h

-- patterns with their spaces in front, and the closing brace
patterns-shown : (patterns : List Pattern) → AreWrittenPatterns patterns
    → IsTail (flat_map pattern_text patterns ++ codes " }") (λ ss. patterns_symbols patterns (bare s.CloseBrace ∷ ss))
patterns-shown [] h = tail-of (codes "}") (λ ss. bare s.CloseBrace ∷ ss) closing-shown
patterns-shown (p ∷ ps) h =
    let one : List ℕ = spaced (place_text p.subject) (spaced (place_text p.predicate) (spaced (place_text p.object) (codes "."))) in
    subst (λ t. IsTail t (λ ss. patterns_symbols (p ∷ ps) (bare s.CloseBrace ∷ ss))) (sym (append_assoc (pattern_text p) (flat_map pattern_text ps) (codes " }")))
    (tail-of (one ++ (flat_map pattern_text ps ++ codes " }")) (λ ss. patterns_symbols (p ∷ ps) (bare s.CloseBrace ∷ ss))
    (then-shown one (flat_map pattern_text ps ++ codes " }")
    (λ ss. place_symbols p.subject (place_symbols p.predicate (place_symbols p.object (bare s.Point ∷ ss)))) (λ ss. patterns_symbols ps (bare s.CloseBrace ∷ ss))
    (spaced-shown (place-shown p.subject h.0.subject) (spaced-shown (verb-shown p.predicate h.0.verb) (spaced-shown (place-shown p.object h.0.object) point-shown)))
    (patterns-shown ps h.1)))

-- ---- tables

-- a text with its space behind, before others
before-shown : (a more b : List ℕ) (f : Adds) → IsShown (spaced a (more ++ b)) f → IsShown ((spaced a [] ++ more) ++ b) f
before-shown a more b f h = subst (λ t. IsShown t f) (sym (append_assoc (spaced a []) more b ∙ append_assoc a (32 ∷ []) (more ++ b))) h

names-shown : (names : List Name) (b : List ℕ) (g : Adds) → AreSpelledNames names → IsShown b g → IsShown (flat_map variable_before names ++ b) (λ ss. names_symbols names (g ss))
names-shown [] b g h k = k
names-shown (name ∷ names) b g h k =
    before-shown (variable_text name) (flat_map variable_before names) b (λ ss. names_symbols (name ∷ names) (g ss)) (spaced-shown (name-shown name h.0) (names-shown names b g h.1 k))

value-shown : (o : Option Term) → IsWrittenCell o → IsShown (value_text o) (λ ss. value_symbols o ss)
value-shown None h = undef-shown
value-shown (Some term) h = constant-shown term h

cells-shown : (row : Row) (names : List Name) (cells : List (Option Term)) (b : List ℕ) (g : Adds) → AreCells names cells → HasCells row names cells → IsShown b g
    → IsShown (flat_map (value_before row) names ++ b) (λ ss. row_symbols row names (g ss))
cells-shown row [] cells b g w h k = k
cells-shown row (name ∷ names) [] b g w h k = absurd w
cells-shown row (name ∷ names) (cell ∷ cells) b g w h k =
    before-shown (value_text (value row name)) (flat_map (value_before row) names) b (λ ss. row_symbols row (name ∷ names) (g ss))
    (spaced-shown (value-shown (value row name) (subst IsWrittenCell (sym h.0) w.0)) (cells-shown row names cells b g w.1 h.1 k))

-- rows, and the closing brace
rows-shown : (names : List Name) (rows : List Row) → AreDistinct names → AreWrittenRows names rows
    → IsShown (flat_map (row_before names) rows ++ codes "}") (λ ss. rows_symbols names rows (bare s.CloseBrace ∷ ss))
rows-shown names [] d w = closing-shown
rows-shown names (row ∷ rows) d w =
    let values : List ℕ = flat_map (value_before row) names in
    let more : List ℕ = flat_map (row_before names) rows in
    subst (λ t. IsShown (spaced (codes "(") t) (λ ss. rows_symbols names (row ∷ rows) (bare s.CloseBrace ∷ ss)))
    (sym (append_assoc (values ++ codes ") ") more (codes "}") ∙ append_assoc values (codes ") ") (more ++ codes "}")))
    (spaced-shown open-shown (cells-shown row names w.0.cells (spaced (codes ")") (more ++ codes "}")) (λ ss. bare s.Close ∷ rows_symbols names rows (bare s.CloseBrace ∷ ss))
    w.0.are_cells (row-cells names row d w.0) (spaced-shown close-shown (rows-shown names rows d w.1))))

table-shown : (names : List Name) (rows : List Row) → AreDistinct names → AreSpelledNames names → AreWrittenRows names rows
    → IsShown (table_text names rows) (λ ss. bare s.Open ∷ names_symbols names (bare s.Close ∷ bare s.OpenBrace ∷ rows_symbols names rows (bare s.CloseBrace ∷ ss)))
table-shown names rows d n w =
    spaced-shown open-shown
    (names-shown names (spaced (codes ")") (spaced (codes "{") (flat_map (row_before names) rows ++ codes "}"))) (λ ss. bare s.Close ∷ bare s.OpenBrace ∷ rows_symbols names rows (bare s.CloseBrace ∷ ss))
    n (spaced-shown close-shown (spaced-shown opening-shown (rows-shown names rows d w))))

-- ---- groups

braces-shown : (a : List ℕ) (f : Adds) → IsShown a f → IsShown (in_braces a) (λ ss. bare s.OpenBrace ∷ f (bare s.CloseBrace ∷ ss))
braces-shown a f h = spaced-shown opening-shown (spaced-shown h closing-shown)

pub group-shown : (a : Algebra) (before : List Name) → IsPart a → IsWritten a → KeepsRules before a → IsShown (group_text a) (λ ss. group_symbols a ss)
unfolding group_text group_symbols
group-shown (algebra.Bgp patterns) before p w k =
    then-shown (codes "{") (flat_map pattern_text patterns ++ codes " }") (λ ss. bare s.OpenBrace ∷ ss) (λ ss. patterns_symbols patterns (bare s.CloseBrace ∷ ss)) opening-shown (patterns-shown patterns w)
group-shown (algebra.Join left right) before p w k =
    braces-shown (spaced (group_text left) (group_text right)) (λ ss. group_symbols left (group_symbols right ss)) (spaced-shown (group-shown left _ p.0 w.0 k.0) (group-shown right _ p.1 w.1 k.1))
group-shown (algebra.Union left right) before p w k =
    braces-shown (spaced (group_text left) (spaced (codes "UNION") (group_text right))) (λ ss. group_symbols left (bare s.Union ∷ group_symbols right ss))
    (spaced-shown (group-shown left _ p.0 w.0 k.0) (spaced-shown union-shown (group-shown right _ p.1 w.1 k.1)))
group-shown (algebra.Filter condition inner) before p w k =
    braces-shown (spaced (group_text inner) (spaced (codes "FILTER") (in_parens (expr_text condition)))) (λ ss. group_symbols inner (bare s.Filter ∷ bare s.Open ∷ expr_symbols condition (bare s.Close ∷ ss)))
    (spaced-shown (group-shown inner _ p w.0 k) (spaced-shown filter-shown (in_parens-shown (expr_text condition) (λ ss. expr_symbols condition ss) (expr-shown condition w.1.spelled))))
group-shown (algebra.Extend inner variable value) before p w k =
    braces-shown (spaced (group_text inner) (spaced (codes "BIND") (in_parens (spaced (expr_text value) (spaced (codes "AS") (variable_text variable))))))
    (λ ss. group_symbols inner (bare s.Bind ∷ bare s.Open ∷ expr_symbols value (bare s.As ∷ symbol s.Var variable ∷ bare s.Close ∷ ss)))
    (spaced-shown (group-shown inner _ p w.0 k.0) (spaced-shown bind-shown
    (in_parens-shown (spaced (expr_text value) (spaced (codes "AS") (variable_text variable))) (λ ss. expr_symbols value (bare s.As ∷ symbol s.Var variable ∷ ss))
    (spaced-shown (expr-shown value w.1.spelled) (spaced-shown as-shown (name-shown variable w.2))))))
group-shown (algebra.Table variables rows) before p w k =
    braces-shown (spaced (codes "VALUES") (table_text variables rows))
    (λ ss. bare s.Values ∷ bare s.Open ∷ names_symbols variables (bare s.Close ∷ bare s.OpenBrace ∷ rows_symbols variables rows (bare s.CloseBrace ∷ ss)))
    (spaced-shown values-shown (table-shown variables rows (names-differ variables k) w.0 w.1))
group-shown (algebra.LeftJoin left right condition) before p w k = absurd p
group-shown (algebra.Minus left right) before p w k = absurd p
