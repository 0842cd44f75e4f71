use Rattle.std.proofs.Common.{◌≡◌, Some, arith}
use Rattle.std.proofs.lemmas.Grind.{common_steps}
use Rattle.serde_json.specs.View.{members_view}
use Rattle.page_json.specs.Reading.{found_entries}
use Rattle.page_json.proofs.Fronts.{names_sorted}
use Rattle.page_json.proofs.term_reading.read_entries.Goals as goal

pub returns-clause-sorted : goal.returns-clause-sorted
returns-clause-sorted c =
    let all : found_entries (members_view c.args.object.entries) ≡ Some c.loop-name.entries.items = grind (arith, common_steps) in
    names_sorted c.args.object.entries c.loop-name.entries.items c.into_iter-name-iterator.ensures.into_iter_gives.5 all
