-- What a page needs, where its cursor stands, and what a page answers.
use Rattle.std.specs.Prelude.{◌≡◌, ℕ, ◌+◌, ◌-◌, ◌^◌, ◌<◌, ◌≤◌, List, [], ◌∷◌, ◌++◌, length, map, min, take, drop, slice_get, Option, Some, None, option_map, Result, Ok, Err, Bool, true, false}
use Rattle.sha2.specs.Sha256.{sha256}
use Rattle.term_core.specs.declared.term.Term.{Term}
use Rattle.term_core.specs.declared.term.Triple.{Triple}
use Rattle.term_core.specs.declared.pattern.IdTriple.{IdTriple}
use Rattle.term_core.specs.declared.pattern.Pattern.{Pattern}
use Rattle.term_core.specs.Mappings.{Row}
use Rattle.term_core.specs.Patterns.{pattern_of}
use Rattle.plan_tree.specs.Trace.{Entries, rows_of}
use Rattle.plan_tree.specs.States.{State, Stands}
use Rattle.term_core.specs.Data.{data_id}
use Rattle.plan_tree.specs.Spelling.{state_bytes, plan_bytes}
use Rattle.plan_tree.specs.OnePattern.{matches, solution_of, fresh_state, opened_state, closing_state}
use Rattle.plan_tree.specs.Pages.{Page, IsPage}
use Rattle.pattern_page.specs.declared.page.Part.{Part}
use Rattle.pattern_page.specs.declared.page.Page as code_page
use Rattle.pattern_page.specs.declared.page.PageFault.{PageFault}
use Rattle.pattern_page.specs.declared.page.PageFault.TheVariants as faults
use Rattle.pattern_page.specs.declared.page.Cursor.{Cursor}
use Rattle.pattern_page.specs.declared.page.Cursor.TheVariants as cursors
use Rattle.pattern_page.specs.declared.page.Step.{Step}
use Rattle.pattern_page.specs.declared.page.Stretch.{Stretch}
use Rattle.store_image.specs.Table.{decode, AreBelow, IsTable}
use Rattle.triple_store.specs.Stores.{View, IsShown}
use Rattle.triple_store.specs.Ranges.{triples_at}
use Rattle.pattern_page.specs.Part.{select_all_text, part_plan}
use Rattle.pattern_page.specs.declared.state.State as code_state
use Rattle.pattern_page.specs.StateReading.{at_state, state_of, state_at}
use Rattle.sage_outside.specs.Causes.{Rose}
use Rattle.sage_outside.specs.declared.fault.StoreFault.TheVariants as store_faults

-- what a part is over a store: the terms of the data, the triples of its range in their order by the ranks of their
-- terms, the pattern, and the two names
pub record Seen : Type 0 where
  pub terms : List Term
  pub triples : List IdTriple
  pub pattern : Pattern
  pub data_name : List ℕ
  pub text_name : List ℕ

-- a part as it is seen over a store that shows these terms and triples
abbrev pub part_seen : Part → List Term → List IdTriple → Seen
part_seen part terms ids = record {
  terms = terms;
  triples = triples_at ids part.range;
  pattern = part.pattern.now;
  data_name = part.data_name;
  text_name = part.text_name;
}

-- ranks fit into four bytes, and the triples of the range have the ranks of terms
pub record IsSound (part : Seen) : Type 0 where
  pub few : length part.terms ≤ 12582909
  pub below : AreBelow (length part.terms) part.triples

-- the store shows these terms and triples, and the part's range is of them
pub record IsSeen (store : View) (part : Part) (terms : List Term) (ids : List IdTriple) : Type 0 where
  pub shown : IsShown store terms ids
  pub count : length (triples_at ids part.range) ≡ part.range.end - part.range.first
  pub sound : IsSound (part_seen part terms ids)

-- the part of a pattern over some data
pub record IsOf (D : List Triple) (pattern : Pattern) (part : Seen) : Type 0 where
  pub same : part.pattern ≡ pattern
  pub ids : List IdTriple
  pub table_is : IsTable D part.terms ids
  pub sound : IsSound part
  pub few : length part.triples < 2 ^ 32
  pub listing : map (decode part.terms) part.triples ≡ matches D (pattern_of pattern)
  pub data_name : part.data_name ≡ data_id D
  pub text_name : part.text_name ≡ sha256 (select_all_text pattern)

-- the part of a pattern over a store of some data
pub record IsPart (D : List Triple) (pattern : Pattern) (store : View) (part : Part) : Type 0 where
  pub terms : List Term
  pub ids : List IdTriple
  pub is_seen : IsSeen store part terms ids
  pub counted : part.steps ≡ length (triples_at ids part.range) + 3
  pub is_of : IsOf D pattern (part_seen part terms ids)

-- the cursor stands in the part's range
abbrev pub IsAt : Part → Cursor → Type 0
IsAt part cursors.Fresh = Unit {0}
IsAt part cursors.Opened = Unit {0}
IsAt part (cursors.After place) = place < part.range.end - part.range.first
IsAt part cursors.Closing = Unit {0}
IsAt part cursors.Done = Unit {0}

-- the entry of a triple: its solution, or nothing where one name would get two values
abbrev pub range_entry : Seen → IdTriple → Option Row
range_entry part ids = solution_of (pattern_of part.pattern) (decode (part.terms) ids)

-- the entries of triples, and the two at the end
abbrev pub rest_of : Seen → List IdTriple → Entries
rest_of part ids = map (range_entry part) ids ++ None ∷ None ∷ []

-- the entries that are still to come where the cursor stands
abbrev pub left_at : Seen → Cursor → Entries
left_at part cursors.Fresh = None ∷ rest_of part (part.triples)
left_at part cursors.Opened = rest_of part (part.triples)
left_at part (cursors.After place) = rest_of part (drop (place + 1) (part.triples))
left_at part cursors.Closing = None ∷ []
left_at part cursors.Done = []

-- the cursor stands in the range
abbrev pub IsCursorWithin : Seen → Cursor → Type 0
IsCursorWithin part cursors.Fresh = Unit {0}
IsCursorWithin part cursors.Opened = Unit {0}
IsCursorWithin part (cursors.After place) = place < length (part.triples)
IsCursorWithin part cursors.Closing = Unit {0}
IsCursorWithin part cursors.Done = Unit {0}

-- how many entries come before the cursor
abbrev pub cursor_place : Seen → Cursor → ℕ
cursor_place part cursors.Fresh = 0
cursor_place part cursors.Opened = 1
cursor_place part (cursors.After place) = place + 2
cursor_place part cursors.Closing = length (part.triples) + 2
cursor_place part cursors.Done = length (part.triples) + 3

-- the state where the cursor stands, none at the end
abbrev pub cursor_state : Seen → Cursor → Option State
cursor_state part cursors.Fresh = Some fresh_state
cursor_state part cursors.Opened = Some opened_state
cursor_state part (cursors.After place) = option_map at_state (slice_get (part.triples) place)
cursor_state part cursors.Closing = Some closing_state
cursor_state part cursors.Done = None

-- the bytes of a state of the part's plan
abbrev pub spelled_state : Seen → State → List ℕ
spelled_state part state = 2 ∷ (part.data_name ++ (part.text_name ++ state_bytes state))

-- the bytes of the cursor's state, none at the end
abbrev pub saved_at : Seen → Cursor → Option (List ℕ)
saved_at part cursor = option_map (spelled_state part) (cursor_state part cursor)

-- the bytes of a state behind a part's names
abbrev pub spelled_by : Part → State → List ℕ
spelled_by part state = 2 ∷ (part.data_name ++ (part.text_name ++ state_bytes state))

-- the bytes behind a front, or they do not begin with it
abbrev pub IsBehind : List ℕ → List ℕ → Option (List ℕ) → Type 0
IsBehind front bytes (Some rest) = bytes ≡ front ++ rest
IsBehind front bytes None = (rest : List ℕ) → bytes ≡ front ++ rest → ⊥

-- the bytes behind the version and the part's names, or the bytes do not begin with them
abbrev pub IsNamed : (data_name text_name : List ℕ) → List ℕ → Option (List ℕ) → Type 0
IsNamed data_name text_name bytes (Some rest) = bytes ≡ 2 ∷ (data_name ++ (text_name ++ rest))
IsNamed data_name text_name bytes None = (rest : List ℕ) → bytes ≡ 2 ∷ (data_name ++ (text_name ++ rest)) → ⊥

-- the state is read from its bytes again
abbrev pub IsReadable : State → Type 0
IsReadable state = state_at (state_bytes state) ≡ Some state

-- the state with these bytes, or they are of none
abbrev pub IsRead : Part → List ℕ → Option code_state.State → Type 0
IsRead part bytes (Some state) = (spelled_by part (state_of state) ≡ bytes) × IsReadable (state_of state)
IsRead part bytes None = (state : State) → IsReadable state → spelled_by part state ≡ bytes → ⊥

-- a cursor with that state, or there is none
abbrev pub IsPlaced : Seen → code_state.State → Option Cursor → Type 0
IsPlaced part state (Some cursor) = IsCursorWithin part cursor × (cursor_state part cursor ≡ Some (state_of state))
IsPlaced part state None = (cursor : Cursor) → IsCursorWithin part cursor → cursor_state part cursor ≡ Some (state_of state) → ⊥

-- a cursor with these bytes, or there is none
abbrev pub Loads : Seen → List ℕ → Option Cursor → Type 0
Loads part bytes (Some cursor) = IsCursorWithin part cursor × (saved_at part cursor ≡ Some bytes)
Loads part bytes None = (cursor : Cursor) → IsCursorWithin part cursor → saved_at part cursor ≡ Some bytes → ⊥

-- the cursor at the beginning, or the one with the bytes
abbrev pub Starts : Seen → Option (List ℕ) → Option Cursor → Type 0
Starts part None found = found ≡ Some cursors.Fresh
Starts part (Some bytes) found = Loads part bytes found

-- one entry is given, or none is left
abbrev pub GivesStep : Seen → Cursor → Option Step → Type 0
GivesStep part cursor None = left_at part cursor ≡ []
GivesStep part cursor (Some step) = IsCursorWithin part step.cursor × (left_at part cursor ≡ step.row ∷ left_at part step.cursor)

-- the entry of the triple at a place of the range is given, or the first of the two at the end
abbrev pub GivesAt : Seen → ℕ → Step → Type 0
GivesAt part place step = IsCursorWithin part step.cursor × (rest_of part (drop place (part.triples)) ≡ step.row ∷ left_at part step.cursor)

-- of entries so many steps were taken, these are their rows, and those entries are left
pub record AreTaken (entries : Entries) (steps : ℕ) (rows : List Row) (left : Entries) : Type 0 where
  pub few : steps ≤ length entries
  pub rows_are : rows ≡ rows_of (take steps entries)
  pub left_are : left ≡ drop steps entries

-- from a cursor as many entries were taken as the quantum lets, up to the end
pub record IsStretchFrom (part : Seen) (start : Cursor) (quantum : ℕ) (stretch : Stretch) : Type 0 where
  pub within : IsCursorWithin part stretch.cursor
  pub taken : AreTaken (left_at part start) stretch.steps stretch.rows (left_at part stretch.cursor)
  pub steps_are : stretch.steps ≡ min quantum (length (left_at part start))

-- the page of a stretch, with the bytes of its end
pub record IsPageFrom (part : Seen) (start : Cursor) (quantum : ℕ) (page : code_page.Page) : Type 0 where
  pub end : Cursor
  pub within : IsCursorWithin part end
  pub taken : AreTaken (left_at part start) page.steps page.rows (left_at part end)
  pub steps_are : page.steps ≡ min quantum (length (left_at part start))
  pub next_is : option_map (λ v. v.items) page.next ≡ saved_at part end

-- one step more was taken, or none was left
abbrev pub IsMore : Seen → Stretch → Stretch → Bool → Type 0
IsMore part old new true = (row : Option Row) × IsCursorWithin part new.cursor × (left_at part old.cursor ≡ row ∷ left_at part new.cursor) × (new.rows ≡ old.rows ++ rows_of (row ∷ [])) × (new.steps ≡ old.steps + 1)
IsMore part old new false = (left_at part old.cursor ≡ []) × (new ≡ old)

-- Why a step is refused: for want of memory; by the blocks, only where their faults rose; or by a damaged block, never where
-- the store shows what it holds.
abbrev pub IsRefusal : PageFault → View → View → Type 0
IsRefusal faults.Plan before now = ⊥
IsRefusal faults.Memory before now = Unit {0}
IsRefusal (faults.Store store_faults.Memory) before now = Unit {0}
IsRefusal (faults.Store store_faults.Blocks) before now = Rose before.device.faults now.device.faults
IsRefusal (faults.Store (store_faults.Damaged block)) before now = (terms : List Term) (ids : List IdTriple) → IsShown before terms ids → ⊥

-- the same of a page, which its bytes may refuse too
abbrev pub MayRefuse : PageFault → View → View → Type 0
MayRefuse faults.Plan before now = Unit {0}
MayRefuse faults.Memory before now = Unit {0}
MayRefuse (faults.Store fault) before now = IsRefusal (faults.Store fault) before now

-- a page, as the code holds it
abbrev pub page_of : code_page.Page → Page
page_of page = record { rows = page.rows; steps = page.steps; next = option_map (λ v. v.items) page.next }

-- the page goes on where a state of the plan stands, whose bytes these are
pub record Resumes (D : List Triple) (pattern : Pattern) (bytes : List ℕ) (quantum : ℕ) (page : Page) : Type 0 where
  pub entry : ℕ
  pub state : State
  pub stands : Stands D (part_plan pattern) state entry
  pub bytes_are : bytes ≡ plan_bytes D (select_all_text pattern) state
  pub page_is : IsPage D (part_plan pattern) (select_all_text pattern) entry quantum page

-- no state that stands anywhere in the plan has these bytes
abbrev pub NoState : List Triple → Pattern → List ℕ → Type 0
NoState D pattern bytes = (state : State) (n : ℕ) → Stands D (part_plan pattern) state n → bytes ≡ plan_bytes D (select_all_text pattern) state → ⊥

-- The page of so many steps from the beginning, or from where the bytes say. It is refused exactly where they say nothing.
abbrev pub AnswersPage : List Triple → Pattern → Option (List ℕ) → ℕ → Result code_page.Page PageFault → Type 0
AnswersPage D pattern next quantum (Err faults.Memory) = Unit {0}
AnswersPage D pattern next quantum (Err (faults.Store fault)) = Unit {0}
AnswersPage D pattern None quantum (Ok page) = IsPage D (part_plan pattern) (select_all_text pattern) 0 quantum (page_of page)
AnswersPage D pattern (Some bytes) quantum (Ok page) = Resumes D pattern bytes quantum (page_of page)
AnswersPage D pattern None quantum (Err faults.Plan) = ⊥
AnswersPage D pattern (Some bytes) quantum (Err faults.Plan) = NoState D pattern bytes
