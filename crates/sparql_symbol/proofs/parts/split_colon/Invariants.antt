use Rattle.std.proofs.Common.{◌≡◌, ◌++◌, drop, take}
use Rattle.sparql_symbol.specs.Reading.{before_colon, behind_colon}
use Rattle.sparql_symbol.proofs.parts.split_colon.Given as goal

-- no colon stands in what was passed
abbrev pub invariant-loop-i : goal.invariant-loop-i
invariant-loop-i l = record {
  before : take l.i l.text ++ before_colon (drop l.i l.text) ≡ before_colon l.text;
  behind : behind_colon (drop l.i l.text) ≡ behind_colon l.text;
}
