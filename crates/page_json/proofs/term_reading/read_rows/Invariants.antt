use Rattle.std.proofs.Common.{◌≡◌, ◌++◌, option_map}
use Rattle.serde_json.specs.View.{items_view}
use Rattle.page_json.specs.Reading.{found_rows}
use Rattle.page_json.specs.Views.{rows_entries}
use Rattle.std.specs.Vec.Iter.{into_iter_items}
use Rattle.page_json.proofs.term_reading.read_rows.Given as goal

-- what was read stands before what the rest gives
abbrev pub invariant-loop-value : goal.invariant-loop-value
invariant-loop-value l =
    found_rows (items_view l.fn.values.items) ≡ option_map
    (λ rs. rows_entries l.rows ++ rs) (found_rows (items_view (into_iter_items l.value-iterator)))
