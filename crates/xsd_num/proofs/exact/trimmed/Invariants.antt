use Rattle.std.proofs.Common.{◌≡◌, ◌≤◌}
use Rattle.term_core.specs.Numbers.{trimmed}
use Rattle.xsd_num.proofs.exact.trimmed.Given as goal

-- what is left trims to the same
abbrev pub invariant-loop-places : goal.invariant-loop-places
invariant-loop-places l = record {
  same : trimmed l.rest l.places ≡ trimmed l.magnitude l.scale;
  less : l.rest ≤ l.magnitude;
  fewer : l.places ≤ l.scale;
}

abbrev pub decreases-loop-places : goal.decreases-loop-places
decreases-loop-places l = l.places
