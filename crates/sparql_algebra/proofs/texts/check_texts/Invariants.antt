use Rattle.std.proofs.Common.{map, take}
use Rattle.sparql_algebra.specs.Prepared.{PartsFit}
use Rattle.sparql_algebra.specs.SplitTrees.{pure_part}
use Rattle.sparql_algebra.proofs.texts.check_texts.Given as goal

-- the texts so far can be read
abbrev pub invariant-loop-part : goal.invariant-loop-part
invariant-loop-part l = PartsFit (map pure_part (take l.part-index l.parts))
