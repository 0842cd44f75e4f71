use Rattle.std.proofs.Common.{◌≡◌, ◌≤◌, ◌-◌, ◌^◌, drop, min}
use Rattle.std.specs.Str.Parse.{digits_value, digits_value_after}
use Rattle.http_core.specs.Fields.{are_digits}
use Rattle.http_core.proofs.lengths.digits.Given as goal

-- the rest goes on from the total
abbrev pub invariant-digits : goal.invariant-digits
invariant-digits l =
    (l.total ≤ 2 ^ 64 - 1) × (are_digits (drop l.c-index l.text) ≡ are_digits l.text)
    × (min (digits_value_after 10 l.total (drop l.c-index l.text)) (2 ^ 64 - 1) ≡ min (digits_value 10 l.text) (2 ^ 64 - 1))
