use Rattle.std.proofs.Common.{◌≡◌, ◌∙◌, ap, subst, fold, IfOk}
use Rattle.term_core.specs.Mappings.{value}
use Rattle.sparql_value.specs.Solutions.{with_value}
use Rattle.row_bag.proofs.Puts.{picked_is}
use Rattle.row_bag.proofs.lists.project.Goals as goal

pub returns : goal.returns
returns c =
    subst (λ w. IfOk c.build.result (λ part. part ≡ w))
    (c.in_ok-set_values.ensures ∙ ap (λ w. fold (λ done name. with_value name (value c.args.row.now name) done) w c.args.variables.now) c.new-builder.ensures
    ∙ picked_is c.args.variables.now c.args.row.now)
    c.build.ensures
