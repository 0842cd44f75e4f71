use Rattle.std.proofs.Common.{◌≡◌, ◌++◌, take, string_bytes}
use Rattle.std.specs.Prelude.{flat_map}
use Rattle.sparql_print.specs.PartText.{pattern_text}
use Rattle.sparql_print.proofs.part.push_patterns.Given as goal

abbrev pub invariant-loop-pattern : goal.invariant-loop-pattern
invariant-loop-pattern l = string_bytes l.out ≡ string_bytes l.initial.out ++ flat_map pattern_text (take l.pattern-index l.patterns)
