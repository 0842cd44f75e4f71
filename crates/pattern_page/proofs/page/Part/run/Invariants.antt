use Rattle.pattern_page.proofs.PageRun.{IsRunning}
use Rattle.pattern_page.proofs.page.Part.run.Given as goal

abbrev pub invariant-steps : goal.invariant-steps
invariant-steps g l = IsRunning l.initial.store l.store l.self l.fn.start l.stretch l.counter
