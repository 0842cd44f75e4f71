use Rattle.std.proofs.Common.{◌≡◌, ◌++◌, drop, take}
use Rattle.term_core.specs.Numbers.{before_point, behind_point}
use Rattle.xsd_num.proofs.lexical.split_point.Given as goal

-- no point stands in what was passed
abbrev pub invariant-loop-i : goal.invariant-loop-i
invariant-loop-i l = record {
  before : take l.i l.body ++ before_point (drop l.i l.body) ≡ before_point l.body;
  behind : behind_point (drop l.i l.body) ≡ behind_point l.body;
}
