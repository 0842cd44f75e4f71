use Rattle.std.proofs.Common.{◌≡◌, ◌≤◌, ℕ, length, take}
use Rattle.term_core.specs.Numbers.{trimmed, value_after}
use Rattle.xsd_num.proofs.lexical.without_zeros.Given as goal

-- what is left trims to the same
abbrev pub invariant-loop-end : goal.invariant-loop-end
invariant-loop-end l = record {
  within : l.end ≤ length l.digits;
  trims : (n : ℕ) → trimmed (value_after n (take l.end l.digits)) l.end ≡ trimmed (value_after n l.digits) (length l.digits);
}

abbrev pub decreases-loop-end : goal.decreases-loop-end
decreases-loop-end l = l.end
