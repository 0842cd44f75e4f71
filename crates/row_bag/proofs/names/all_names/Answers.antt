use Rattle.std.proofs.Common.{◌∙◌, ap, is_some, map}
use Rattle.std.specs.Prelude.{◌||◌}
use Rattle.term_core.specs.Mappings.{value, has_name}
use Rattle.row_bag.proofs.Bound.{empty_binds, row_bound}
use Rattle.row_bag.proofs.names.all_names.Goals as goal

pub loop-row-init : goal.loop-row-init
loop-row-init c name = ap (λ w. is_some (value w name)) c.empty-bound.ensures ∙ empty_binds name

pub loop-row-preserved : goal.loop-row-preserved
loop-row-preserved c =
    row_bound c.args.rows.now c.loop-row.row-index c.row-item.result c.loop-row.bound c.bind_entries.new.bound c.loop-row-test.true c.row-item.is c.loop-row.invariant
    (λ q. c.in_ok-bind_entries.ensures q ∙ ap (λ w. is_some (value c.loop-row.bound q) || has_name (map (λ e. e.0) w) q) c.entries.ensures)
