use Rattle.std.proofs.Common.{◌≡◌, ◌+◌, drop}
use Rattle.term_core.specs.Terminals as terminals
use Rattle.sparql_lex.specs.Scan.{run}
use Rattle.sparql_lex.proofs.scan.word_run.Given as goal

abbrev pub invariant-loop-i : goal.invariant-loop-i
invariant-loop-i l = run terminals.is_word_part l.text ≡ l.i + run terminals.is_word_part (drop l.i l.text)
