use Rattle.std.proofs.Common.{◌∙◌, ap}
use Rattle.std.specs.FinMap as finmap
use Rattle.term_core.proofs.Builders.{built_insert}
use Rattle.term_core.proofs.row_builder.RowBuilder.set.Goals as goal

pub returns-clause-ok : goal.returns-clause-ok
returns-clause-ok c =
    built_insert c.self.inside.terms c.insert.new.self c.into_string.result c.args.name c.args.term c.into_string.ensures c.in_ok-insert.ensures.updates
    ∙ ap (λ m. finmap.insert m c.args.name c.args.term) c.self.view_is
