use Rattle.std.proofs.Common.{◌≡◌, ◌+◌, drop}
use Rattle.term_core.specs.Tokens as cuts
use Rattle.sparql_lex.specs.Scan.{run}
use Rattle.sparql_lex.proofs.scan.line_run.Given as goal

abbrev pub invariant-loop-i : goal.invariant-loop-i
invariant-loop-i l = run cuts.is_in_line l.text ≡ l.i + run cuts.is_in_line (drop l.i l.text)
