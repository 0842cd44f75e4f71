use Rattle.std.proofs.Common.{◌≡◌, ◌++◌, take, drop}
use Rattle.term_core.specs.Characters.{is_digit, front, after}
use Rattle.xsd_time.proofs.fields.split_digits.Given as goal

-- what was read is of the digits in front, and what is left has the others
abbrev pub invariant-loop-i : goal.invariant-loop-i
invariant-loop-i l = record {
  digits : front is_digit l.text ≡ take l.i l.text ++ front is_digit (drop l.i l.text);
  rest : after is_digit l.text ≡ after is_digit (drop l.i l.text);
}
