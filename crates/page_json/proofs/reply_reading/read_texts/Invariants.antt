use Rattle.std.proofs.Common.{◌≡◌, ◌++◌, option_map}
use Rattle.serde_json.specs.View.{items_view}
use Rattle.page_json.specs.Reading.{found_texts}
use Rattle.std.specs.Vec.Iter.{into_iter_items}
use Rattle.page_json.proofs.reply_reading.read_texts.Given as goal

-- what was read stands before what the rest gives
abbrev pub invariant-loop-value : goal.invariant-loop-value
invariant-loop-value l =
    found_texts (items_view l.fn.values.items) ≡ option_map
    (λ ts. l.texts ++ ts) (found_texts (items_view (into_iter_items l.value-iterator)))
