-- When a count of faults has risen, for counts of 64 bits that stand still at their end.
use Rattle.std.specs.Prelude.{ℕ, ◌+◌, ◌-◌, ◌^◌, ◌≤◌, min, Result, OnErr}

-- a count raised by one, which stands still at the end of its type
abbrev pub counted : ℕ → ℕ
counted before = min (before + 1) (2 ^ 64 - 1)

-- the count rose, or stands at the end of its type
abbrev pub Rose : ℕ → ℕ → Type 0
Rose before now = counted before ≤ now

-- the count rose by n at least, or stands at the end of its type
abbrev pub RoseBy : ℕ → ℕ → ℕ → Type 0
RoseBy n before now = min (before + n) (2 ^ 64 - 1) ≤ now

-- the count does not fall, and a refusal comes only where it rose
pub record HasFaultCause {T E : Type 0} (before now : ℕ) (result : Result T E) : Type 0 where
  pub later : before ≤ now
  pub failed : OnErr result (Rose before now)
