use Rattle.std.proofs.Common.{◌≡◌, drop}
use Rattle.term_core.specs.Numbers.{are_digits}
use Rattle.sparql_grammar.proofs.queries.are_digits.Given as goal

-- what is left decides
abbrev pub invariant-loop-c : goal.invariant-loop-c
invariant-loop-c l = are_digits (drop l.c-index l.text) ≡ are_digits l.text
