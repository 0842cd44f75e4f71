use Rattle.std.proofs.Common.{◌≡◌, ◌<◌, ◌^◌, drop, true}
use Rattle.term_core.specs.Numbers.{are_digits, value_after}
use Rattle.sparql_grammar.proofs.queries.value.Given as goal

-- what is left writes the same number behind the number so far
abbrev pub invariant-loop-digit : goal.invariant-loop-digit
invariant-loop-digit l = record {
  fits : l.n < 2 ^ 64;
  digits : are_digits (drop l.digit-index l.digits) ≡ true;
  value : value_after l.n (drop l.digit-index l.digits) ≡ value_after 0 l.digits;
}
