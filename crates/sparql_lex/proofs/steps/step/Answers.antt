use Rattle.std.proofs.Common.{ap, sym, ◌∙◌}
use Rattle.sparql_lex.specs.Steps.{step}
use Rattle.sparql_lex.proofs.steps.step.Goals as goal

pub returns-in-Start : goal.returns-in-Start
unfolding step
returns-in-Start c = c.start_step.ensures ∙ sym (ap (λ v. step v c.args.c) c.in-Start.is)
