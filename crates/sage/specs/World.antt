-- What a run reaches, as far as the contract knows it.
use Rattle.std.specs.Prelude.{ℕ, List, Option}
use Rattle.sage_outside.specs.Shelf.{Files}

-- a place for bytes: those that it has got, and how often it failed
pub record SinkState : Type 0 where
  pub written : Option (List ℕ)
  pub faults : ℕ

-- the files and how often their shelf failed, and the output
pub record Io : Type 0 where
  pub files : Option Files
  pub faults : ℕ
  pub out : SinkState

-- all that a run reaches and may change
pub record World : Type 0 where
  pub io : Io
  pub err : SinkState

-- the states of a sink, of a shelf with an output, and of all
abbrev pub sink_state : {E : Type 0} → (E → Option (List ℕ)) → (E → ℕ) → E → SinkState
sink_state written faults sink = record { written = written sink; faults = faults sink }

abbrev pub io : {S O : Type 0} → (S → Option Files) → (S → ℕ) → S → (O → Option (List ℕ)) → (O → ℕ) → O → Io
io files faults shelf written out_faults out = record { files = files shelf; faults = faults shelf; out = record { written = written out; faults = out_faults out } }

abbrev pub world : Io → SinkState → World
world io err = record { io = io; err = err }
