use Rattle.std.proofs.Common.{◌≡◌, take, map, is_some}
use Rattle.std.specs.Prelude.{◌||◌}
use Rattle.term_core.specs.Mappings.{Name, value, has_name}
use Rattle.row_bag.proofs.names.bind_entries.Given as goal

abbrev pub invariant-loop-entry : goal.invariant-loop-entry
invariant-loop-entry l = (q : Name) → is_some (value l.bound q) ≡ is_some (value l.initial.bound q) || has_name (map (λ e. e.0) (take l.entry-index l.entries)) q
