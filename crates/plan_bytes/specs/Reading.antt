-- States read along a plan, from the front of bytes.
use Rattle.std.specs.Prelude.{ℕ, zero, suc, List, [], ◌∷◌, length, Option, Some, None, Bool, true, nat_le, if◌then◌else◌}
use Rattle.std.specs.Borrow.{Bor}
use Rattle.std.specs.Int.{w32, from_be_bytes}
use Rattle.plan_tree.specs.Trace.{Plan, rows_plan, join_plan, union_plan, filter_plan, bind_plan, project_plan}
use Rattle.plan_tree.specs.States.{Inner, idle, opened, at_triple, State, done, table_state, join_state, union_state}
use Rattle.plan_tree.specs.Reached.{can_end_in_row}
use Rattle.plan_tree.specs.Trees.{inner_in, state_in}
use Rattle.plan_tree.specs.declared.state.Inner as code_inner
use Rattle.plan_tree.specs.declared.state.State as code

-- what is read, and the bytes behind it; nothing where the bytes do not begin so
abbrev pub Read : Type 0 → Type 0
Read A = Option (A × List ℕ)

-- what the code read
abbrev pub seen_number : Option (ℕ × Bor (List ℕ)) → Read ℕ
seen_number None = None
seen_number (Some found) = Some (found.0, found.1.now)

abbrev pub seen_inner : Option (code_inner.Inner × Bor (List ℕ)) → Read Inner
seen_inner None = None
seen_inner (Some found) = Some (inner_in found.0, found.1.now)

abbrev pub seen_state : Option (code.State × Bor (List ℕ)) → Read State
seen_state None = None
seen_state (Some found) = Some (state_in found.0, found.1.now)

-- a number of four bytes
abbrev pub number_at : List ℕ → Read ℕ
number_at (a ∷ b ∷ c ∷ d ∷ rest) = Some (from_be_bytes w32 (a ∷ b ∷ c ∷ d ∷ []), rest)
number_at _ = None

-- the place of a table with so many rows
abbrev pub placed : ℕ → Read ℕ → Read State
placed rows None = None
placed rows (Some (place, rest)) = if nat_le place rows then Some (table_state place, rest) else None

abbrev pub place_at : ℕ → List ℕ → Read State
place_at rows bytes = placed rows (number_at bytes)

-- a triple of three numbers
abbrev pub third : ℕ → ℕ → Read ℕ → Read Inner
third s p None = None
third s p (Some (o, rest)) = Some (at_triple (record { s = s; p = p; o = o }), rest)

abbrev pub second : ℕ → Read ℕ → Read Inner
second s None = None
second s (Some (p, rest)) = third s p (number_at rest)

abbrev pub first : Read ℕ → Read Inner
first None = None
first (Some (s, rest)) = second s (number_at rest)

abbrev pub triple_at : List ℕ → Read Inner
triple_at bytes = first (number_at bytes)

-- a join's last part, behind a left state that can end in a row or cannot
abbrev pub inner_at : Bool → List ℕ → Read Inner
inner_at can (zero ∷ rest) = Some (idle, rest)
inner_at true (suc zero ∷ rest) = Some (opened, rest)
inner_at true (suc (suc zero) ∷ rest) = triple_at rest
inner_at _ _ = None

-- a join's state, from its left state
abbrev pub joined : State → Read Inner → Read State
joined left None = None
joined left (Some (inner, rest)) = Some (join_state left inner, rest)

abbrev pub join_at : Read State → Read State
join_at None = None
join_at (Some (left, rest)) = joined left (inner_at (can_end_in_row left) rest)

-- a union's state, from that of its active side
abbrev pub union_at : ℕ → Read State → Read State
union_at side None = None
union_at side (Some (active, rest)) = Some (union_state side active, rest)

-- a state of the plan before its end
abbrev pub state_at : Plan → List ℕ → Read State
state_at (rows_plan variables rows) (suc zero ∷ bytes) = place_at (length rows) bytes
state_at (join_plan left p) (suc (suc zero) ∷ bytes) = join_at (state_at left bytes)
state_at (union_plan a b) (suc (suc (suc zero)) ∷ zero ∷ bytes) = union_at 0 (state_at a bytes)
state_at (union_plan a b) (suc (suc (suc zero)) ∷ suc zero ∷ bytes) = union_at 1 (state_at b bytes)
state_at (filter_plan inner condition) bytes = state_at inner bytes
state_at (bind_plan inner variable e) bytes = state_at inner bytes
state_at (project_plan inner names) bytes = state_at inner bytes
state_at _ _ = None

-- a state behind which no byte is left
abbrev pub alone : Read State → Option State
alone (Some (state, [])) = Some state
alone found = None

-- a whole state: the end is one byte
abbrev pub whole_at : Plan → List ℕ → Option State
whole_at plan (zero ∷ []) = Some done
whole_at plan bytes = alone (state_at plan bytes)
