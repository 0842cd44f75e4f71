-- A door in memory, as it is seen.
use Rattle.std.specs.Prelude.{◌≡◌, ℕ, ◌⊎◌, List, [], Result, Ok, Err}
use Rattle.sage_outside.specs.declared.calls.Calls.{Calls}
use Rattle.sage_outside.specs.Calls.{IsListed, Passes}
use Rattle.sage_outside.specs.Causes.{counted}
use Rattle.sage_outside.specs.Door.{Served}

-- the calls of the door, the bytes of the connections still to come, those that came back, and how
-- many are handed out
pub record DoorState : Type 0 where
  pub calls : Calls
  pub coming : List (List ℕ)
  pub served : List Served
  pub out : ℕ

-- the call that was listed, or found no connection left, failed, and a fault was counted
pub record FailsUnmet (coming : List (List ℕ)) (old new : Calls) : Type 0 where
  pub reason : IsListed old ⊎ (coming ≡ [])
  pub next : new ≡ record old { number = counted old.number; listed = counted old.listed }

-- a connection is handed out exactly where the call is not listed and one is left
abbrev pub HandsByList : {C E : Type 0} → List (List ℕ) → Calls → Calls → Result C E → Type 0
HandsByList coming old new (Ok conn) = Passes old new
HandsByList coming old new (Err e) = FailsUnmet coming old new
