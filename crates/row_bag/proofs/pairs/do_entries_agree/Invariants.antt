use Rattle.std.proofs.Common.{◌≡◌, drop, Some}
use Rattle.std.specs.List.{list_all}
use Rattle.term_core.specs.Mappings.{value, do_agree}
use Rattle.row_bag.proofs.pairs.do_entries_agree.Given as goal

abbrev pub invariant-loop-entry : goal.invariant-loop-entry
invariant-loop-entry l = list_all (λ e. do_agree (Some e.1) (value l.row e.0)) (drop l.entry-index l.entries) ≡ list_all (λ e. do_agree (Some e.1) (value l.row e.0)) l.entries
