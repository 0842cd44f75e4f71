-- What a sink has been given, where it tells.
use Rattle.std.specs.Prelude.{◌≡◌, ℕ, ◌≤◌, ◌++◌, List, take, length, Option, Some, None, Result, Ok, Err}
use Rattle.sage_outside.specs.Causes.{HasFaultCause}

-- the told bytes grow by the piece; after a failed call by a front of it
abbrev pub Puts : {T E : Type 0} → Option (List ℕ) → Option (List ℕ) → List ℕ → Result T E → Type 0
Puts None new piece result = new ≡ None
Puts (Some old) new piece (Ok x) = new ≡ Some (old ++ piece)
Puts (Some old) new piece (Err e) = (n : ℕ) × (n ≤ length piece) × (new ≡ Some (old ++ take n piece))

-- the count of faults does not fall, and a refusal comes only where it rose
abbrev pub HasSinkCause : {T E : Type 0} → ℕ → ℕ → Result T E → Type 0
HasSinkCause before now result = HasFaultCause before now result
