-- Numbers of basic graph patterns, as the code keeps them for labels.
use Rattle.std.specs.Prelude.{ℕ, Bool, false, not, ◌==◌, Option, Some, None, if◌then◌else◌}

-- whether it is a number, and another than this
abbrev pub is_other : ℕ → Option ℕ → Bool
is_other current None = false
is_other current (Some number) = not (number == current)

-- a number that stays; where there is none, this one if the name is the label's
abbrev pub numbered : Bool → ℕ → Option ℕ → Option ℕ
numbered here current (Some number) = Some number
numbered here current None = if here then Some current else None
