use Rattle.std.proofs.Common.{◌≡◌, ◌+◌, ◌*◌, ◌^◌, ◌≤◌, drop}
use Rattle.term_core.specs.Numbers.{value_after}
use Rattle.xsd_time.proofs.fields.digits_value.Given as goal

-- what is left writes the same number behind the number so far, which has as many digits as were read
abbrev pub invariant-loop-digit : goal.invariant-loop-digit
invariant-loop-digit l = record {
  value : value_after l.value (drop l.digit-index l.digits) ≡ value_after 0 l.digits;
  bound : l.value + 23 ≤ 23 * 10 ^ l.digit-index;
}
