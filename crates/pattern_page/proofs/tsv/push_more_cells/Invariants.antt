use Rattle.std.proofs.Common.{◌≡◌, ◌++◌, ◌∷◌, take}
use Rattle.std.specs.Prelude.{flat_map}
use Rattle.term_core.specs.Mappings.{value}
use Rattle.pattern_page.specs.Results.{tsv_cell}
use Rattle.pattern_page.proofs.tsv.push_more_cells.Given as goal

abbrev pub invariant-loop-name : goal.invariant-loop-name
invariant-loop-name l = l.out.items ≡ l.initial.out.items ++ flat_map (λ name. 9 ∷ tsv_cell (value l.row name)) (take l.name-index l.names)
