use Rattle.std.proofs.Common.{◌∙◌, ap}
use Rattle.term_core.specs.Literals.{number_in}
use Rattle.xsd_num.proofs.Wide.{projected}
use Rattle.xsd_num.proofs.lexical.read.Goals as goal

pub returns-clause-exact : goal.returns-clause-exact
returns-clause-exact c = c.number_in.ensures.exact ∙ ap number_in c.form_of.ensures.exact ∙ projected c.args.lexical.now c.args.datatype.now
