-- The states of the plan of one pattern as the code holds them, and how they are read from bytes.
use Rattle.std.specs.Prelude.{◌≡◌, ℕ, ◌<◌, ◌^◌, zero, suc, List, [], ◌∷◌, Option, Some, None, option_map, slice_index}
use Rattle.std.specs.Int.{w32, from_be_bytes}
use Rattle.std.specs.Borrow.{Bor}
use Rattle.term_core.specs.declared.pattern.IdTriple.{IdTriple}
use Rattle.plan_tree.specs.States.{at_triple, State, table_state, join_state}
use Rattle.plan_tree.specs.Spelling.{state_bytes}
use Rattle.plan_tree.specs.OnePattern.{fresh_state, opened_state, closing_state}
use Rattle.pattern_page.specs.declared.state.State as code
use Rattle.pattern_page.specs.declared.state.State.TheVariants as states

-- the entry of the triple with these numbers was the last
abbrev pub at_state : IdTriple → State
at_state ids = join_state (table_state 1) (at_triple ids)

-- a state, as the code holds it
abbrev pub state_of : code.State → State
state_of states.Fresh = fresh_state
state_of states.Opened = opened_state
state_of (states.At ids) = at_state ids
state_of states.Closing = closing_state

-- four bytes are a number, the highest first
abbrev pub state_number : List ℕ → Option (ℕ × List ℕ)
state_number (a ∷ b ∷ c ∷ d ∷ rest) = Some (from_be_bytes w32 (a ∷ b ∷ c ∷ d ∷ []), rest)
state_number bytes = None

-- a number and the bytes after it, as the code holds them
abbrev pub seen_number : Option (ℕ × Bor (List ℕ)) → Option (ℕ × List ℕ)
seen_number None = None
seen_number (Some (number, rest)) = Some (number, rest.now)

-- three numbers and nothing more are a triple
abbrev pub last_at : ℕ → ℕ → Option (ℕ × List ℕ) → Option IdTriple
last_at s p (Some (o, [])) = Some (record { s = s; p = p; o = o })
last_at s p found = None

abbrev pub second_at : ℕ → Option (ℕ × List ℕ) → Option IdTriple
second_at s (Some (p, rest)) = last_at s p (state_number rest)
second_at s None = None

abbrev pub first_at : Option (ℕ × List ℕ) → Option IdTriple
first_at (Some (s, rest)) = second_at s (state_number rest)
first_at None = None

-- the triple of twelve bytes, subject first
abbrev pub ids_at : List ℕ → Option IdTriple
ids_at bytes = first_at (state_number bytes)

-- what stands behind the place of the table: 0, or where the row was given 1, or 2 and a triple
abbrev pub inner_at : ℕ → List ℕ → Option State
inner_at zero (zero ∷ []) = Some fresh_state
inner_at (suc zero) (zero ∷ []) = Some closing_state
inner_at (suc zero) (suc zero ∷ []) = Some opened_state
inner_at (suc zero) (suc (suc zero) ∷ bytes) = option_map at_state (ids_at bytes)
inner_at place bytes = None

abbrev pub placed_at : Option (ℕ × List ℕ) → Option State
placed_at (Some (place, rest)) = inner_at place rest
placed_at None = None

-- the state that the bytes are: a join, of a table with its place
abbrev pub state_at : List ℕ → Option State
state_at (suc (suc zero) ∷ suc zero ∷ bytes) = placed_at (state_number bytes)
state_at bytes = None

-- the numbers fit into four bytes
pub record AreSmall (ids : IdTriple) : Type 0 where
  pub s : ids.s < 2 ^ 32
  pub p : ids.p < 2 ^ 32
  pub o : ids.o < 2 ^ 32

-- each number is one of a byte
abbrev pub AreBytes : List ℕ → Type 0
AreBytes bytes = (i : ℕ) → slice_index bytes i < 256

-- one of the plan's states, with numbers that fit
abbrev pub IsSmallState : code.State → Type 0
IsSmallState states.Fresh = Unit {0}
IsSmallState states.Opened = Unit {0}
IsSmallState (states.At ids) = AreSmall ids
IsSmallState states.Closing = Unit {0}

-- a state's bytes are read as that state, and no other bytes are
pub record StatesAreRead : Type 0 where
  pub again : (state : code.State) → IsSmallState state → state_at (state_bytes (state_of state)) ≡ Some (state_of state)
  pub only : (bytes : List ℕ) (state : State) → AreBytes bytes → state_at bytes ≡ Some state → bytes ≡ state_bytes state
