use Rattle.std.proofs.Common.{◌∙◌, ap, Some}
use Rattle.std.specs.List.{list_all}
use Rattle.term_core.specs.Mappings.{value, do_agree}
use Rattle.term_core.proofs.Entries.{compatible_entries}
use Rattle.row_bag.proofs.pairs.are_compatible.Goals as goal

pub returns : goal.returns
returns c = c.do_entries_agree.ensures ∙ ap (list_all (λ e. do_agree (Some e.1) (value c.args.b.now e.0))) c.entries.ensures ∙ compatible_entries c.args.a.now c.args.b.now
