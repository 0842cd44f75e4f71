use Rattle.std.proofs.Common.{◌≡◌, ◌++◌, option_map}
use Rattle.serde_json.specs.View.{members_view}
use Rattle.page_json.specs.Reading.{found_entries}
use Rattle.page_json.proofs.term_reading.read_entries.Given as goal

-- what was read stands before what the rest gives
abbrev pub invariant-loop-name : goal.invariant-loop-name
invariant-loop-name l =
    found_entries (members_view l.fn.object.entries) ≡ option_map
    (λ es. l.entries.items ++ es) (found_entries (members_view l.name-iterator))
