-- The numbered calls of a form in memory, and which of them fail.
use Rattle.std.specs.Prelude.{◌≡◌, ℕ, zero, suc, ◌+◌, ◌-◌, ◌^◌, min, ◌⊎◌, Contains, Result, Ok, Err}
use Rattle.std.specs.declared.vec.Vec.{Vec}
use Rattle.std.specs.declared.alloc.Global.{Global}
use Rattle.sage_outside.specs.declared.calls.Calls.{Calls}
use Rattle.sage_outside.specs.declared.shelf.ShelfFault.{ShelfFault}
use Rattle.sage_outside.specs.declared.shelf.ShelfFault.TheVariants.{Missing, Failed}
use Rattle.sage_outside.specs.Causes.{counted}

-- the faults: the calls that failed since they were listed, and those that found no room
abbrev pub faults_of : Calls → ℕ
faults_of calls = min (calls.listed + calls.cramped) (2 ^ 64 - 1)

-- no call was made yet, and those of the list are to fail
abbrev pub calls_with : Vec ℕ Global → Calls
calls_with fails = record { number = 0; fails = fails; listed = 0; cramped = 0 }

-- the call's number is in the list of those that are to fail
abbrev pub IsListed : Calls → Type 0
IsListed calls = Contains calls.fails.items calls.number

-- the call that was not listed was done, and no fault was counted
pub record Passes (old new : Calls) : Type 0 where
  pub unlisted : ¬ IsListed old
  pub next : new ≡ record old { number = counted old.number }

-- the call that was listed failed, and a fault was counted
pub record FailsListed (old new : Calls) : Type 0 where
  pub listed : IsListed old
  pub next : new ≡ record old { number = counted old.number; listed = counted old.listed }

-- the call that was not listed found no room, and a fault was counted
pub record FailsCramped (old new : Calls) : Type 0 where
  pub unlisted : ¬ IsListed old
  pub next : new ≡ record old { number = counted old.number; cramped = counted old.cramped }

-- a call that needs no room: `Failed` comes exactly where it is listed, and `Missing` is no fault
abbrev pub FailsByList : {T : Type 0} → Calls → Calls → Result T ShelfFault → Type 0
FailsByList old new (Ok x) = Passes old new
FailsByList old new (Err Missing) = new ≡ record old { number = counted old.number }
FailsByList old new (Err Failed) = FailsListed old new

-- a call that needs room: `Failed` comes exactly where it is listed or finds none, and `Missing` is no fault
abbrev pub FailsByListOrRoom : {T : Type 0} → Calls → Calls → Result T ShelfFault → Type 0
FailsByListOrRoom old new (Ok x) = Passes old new
FailsByListOrRoom old new (Err Missing) = new ≡ record old { number = counted old.number }
FailsByListOrRoom old new (Err Failed) = FailsListed old new ⊎ FailsCramped old new

-- the same calls are to fail, counted on from the same number, and none has failed
pub record IsNumberedOn (calls new : Calls) : Type 0 where
  pub number : new.number ≡ calls.number
  pub fails : new.fails.items ≡ calls.fails.items
  pub listed : new.listed ≡ 0
  pub cramped : new.cramped ≡ 0

-- a fault is counted where the closed file has had one, and nothing else
abbrev pub ClosesAfter : ℕ → Calls → Calls → Type 0
ClosesAfter zero old new = new ≡ old
ClosesAfter (suc faults) old new = new ≡ record old { listed = counted old.listed }
