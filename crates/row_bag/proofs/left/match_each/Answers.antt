use Rattle.std.proofs.Common.{◌++◌, [], ap, sym, ◌∙◌, take, map, append_assoc}
use Rattle.std.specs.Prelude.{filter, ◌||◌, option_map}
use Rattle.std.specs.List.{filter_map, cons_option}
use Rattle.std.specs.Option.{option_copied}
use Rattle.term_core.specs.Mappings.{joined}
use Rattle.sparql_tree.specs.ExprTrees.{tree_of}
use Rattle.sparql_value.specs.Solutions.{holds}
use Rattle.row_bag.specs.Rows.{has_row}
use Rattle.row_bag.proofs.Matches.{matches_next, some_append}
use Rattle.row_bag.proofs.left.match_each.Goals as goal

pub loop-b-preserved : goal.loop-b-preserved
loop-b-preserved c =
    let pass = holds (option_map tree_of (option_copied c.args.condition)) in
    let next = matches_next (λ r. r.now) pass c.args.a.now c.args.rows.now c.loop-b.b-index c.b-item.result c.loop-b-test.true c.b-item.is in
    let done = filter pass (filter_map (joined c.args.a.now) (map (λ r. r.now) (take c.loop-b.b-index c.args.rows.now))) in
    let more = filter pass (cons_option (joined c.args.a.now c.b-item.result.now) []) in (
      c.in_ok-found.ensures.added ∙ ap (λ w. w ++ more) c.loop-b.invariant.0 ∙ append_assoc c.args.out.now done more ∙ ap (λ w. c.args.out.now ++ w) (sym next),
      ap (λ b. b || c.in_ok-found.found) c.loop-b.invariant.1 ∙ ap (λ b. has_row done || b) c.in_ok-found.ensures.any ∙ sym (some_append done more) ∙ ap has_row (sym next),
    )
