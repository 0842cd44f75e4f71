use Rattle.std.proofs.Common.{◌≡◌, take}
use Rattle.term_core.specs.Tokens.{width}
use Rattle.sparql_lex.proofs.lexing.width_of.Given as goal

abbrev pub invariant-loop-c : goal.invariant-loop-c
invariant-loop-c l = l.bytes ≡ width (take l.c-index l.text)
