use Rattle.std.proofs.Common.{◌≡◌, ◌++◌, take}
use Rattle.sparql_translation.proofs.translation.add_patterns.Given as goal

abbrev pub invariant-loop-pattern : goal.invariant-loop-pattern
invariant-loop-pattern l = l.patterns ≡ l.initial.patterns ++ take l.pattern-index l.more
