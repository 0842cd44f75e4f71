use Rattle.std.proofs.Common.{◌≡◌, drop}
use Rattle.sparql_lex.specs.Scan as spec
use Rattle.sparql_lex.proofs.scan.longest.Given as goal

abbrev pub invariant-loop-i : goal.invariant-loop-i
invariant-loop-i l = spec.longest l.text ≡ spec.scan (drop l.i l.text) l.state l.i l.found
