use Rattle.std.proofs.Common.{◌≡◌}
use Rattle.sage.specs.Trial.{trial_front}
use Rattle.sage.proofs.trial.trial_triples.Given as goal

abbrev pub invariant-loop-i : goal.invariant-loop-i
invariant-loop-i l = l.triples ≡ trial_front l.n l.i
