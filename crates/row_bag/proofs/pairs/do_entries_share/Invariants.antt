use Rattle.std.proofs.Common.{◌≡◌, drop, map, is_some}
use Rattle.std.specs.List.{list_any}
use Rattle.term_core.specs.Mappings.{value}
use Rattle.row_bag.proofs.pairs.do_entries_share.Given as goal

abbrev pub invariant-loop-entry : goal.invariant-loop-entry
invariant-loop-entry l = list_any (λ name. is_some (value l.row name)) (map (λ e. e.0) (drop l.entry-index l.entries)) ≡ list_any (λ name. is_some (value l.row name)) (map (λ e. e.0) l.entries)
