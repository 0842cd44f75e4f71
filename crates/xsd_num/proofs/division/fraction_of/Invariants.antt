use Rattle.std.proofs.Common.{◌≡◌, ◌<◌, ◌+◌, ◌*◌, ◌^◌}
use Rattle.xsd_num.proofs.division.fraction_of.Given as goal

-- the digits so far, and what is left behind them
abbrev pub invariant-loop-place : goal.invariant-loop-place
invariant-loop-place l = record {
  left : l.left < l.divisor;
  value : l.digits * l.divisor + l.left ≡ l.rest * 10 ^ l.place;
  bound : l.digits < 10 ^ l.place;
}
