-- Reading a row along the list of its variables, beside a loop that counts up.
use Rattle.std.proofs.Common.{◌≡◌, ℕ, suc, ◌+◌, ◌<◌, ◌≤◌, List, ◌∷◌, length, get_or, drop, Option, Some, sym, ap, ◌∙◌, arith}
use Rattle.std.proofs.Math.Seq.{drop-cons}
use Rattle.std.proofs.Math.ListN.{drop_of_length-le}
use Rattle.term_core.specs.Mappings.{Name, Row}
use Rattle.sparql_tree.specs.declared.symbol.Symbol.{Symbol}
use Rattle.sparql_grammar.specs.Parser.{and_then}
use Rattle.sparql_tree.specs.Values.{with_cell}
use Rattle.sparql_grammar.specs.ValueReading.{cell, row_with}

pub row_turn : {outcome : Option (Row × List Symbol)} (names : List Name) (at : ℕ) (name : Name) (row : Row) (ts : List Symbol) → at < length names → name ≡ get_or names at name
    → outcome ≡ row_with (drop at names) row ts → outcome ≡ and_then (cell ts) (λ found. row_with (drop (at + 1) names) (with_cell row name found))
unfolding row_with
row_turn names at name row ts below item e =
    let after : suc at ≡ at + 1 = omega arith in
    let step : drop at names ≡ name ∷ drop (at + 1) names =
    drop-cons names at name below ∙ ap (λ x. x ∷ drop (suc at) names) (sym item) ∙ ap (λ k. name ∷ drop k names) after in
    e ∙ ap (λ xs. row_with xs row ts) step

pub row_over : {outcome : Option (Row × List Symbol)} (names : List Name) (at : ℕ) (row : Row) (ts : List Symbol) → length names ≤ at
    → outcome ≡ row_with (drop at names) row ts → outcome ≡ Some (row, ts)
unfolding row_with
row_over names at row ts done e = e ∙ ap (λ xs. row_with xs row ts) (drop_of_length-le names done)
