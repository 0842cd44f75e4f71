-- Why bytes are refused as a suspended plan.
use Rattle.std.specs.Prelude.{◌≡◌, ◌≢◌, ◌≤◌, ◌<◌, ℕ, List, length, take, drop, slice_index, Result, Ok, Err}
use Rattle.plan_tree.specs.Trace.{Plan}
use Rattle.plan_tree.specs.States.{State}
use Rattle.plan_tree.specs.Spelling.{state_bytes}
use Rattle.plan_tree.specs.Reached.{IsWholeShape}
use Rattle.plan_bytes.specs.declared.head.HeadFault.{HeadFault}
use Rattle.plan_bytes.specs.declared.head.HeadFault.TheVariants as head
use Rattle.plan_bytes.specs.declared.reading.PlanFault.{PlanFault}
use Rattle.plan_bytes.specs.declared.reading.PlanFault.TheVariants as fault

-- the first thing that is wrong before the state, or nothing is
abbrev pub HeadIs : (bytes data_name text_name : List ℕ) → Result (Unit {0}) HeadFault → Type 0
HeadIs bytes data_name text_name (Err head.Short) = length bytes < 66
HeadIs bytes data_name text_name (Err head.Version) = (66 ≤ length bytes) × (slice_index bytes 0 ≢ 2)
HeadIs bytes data_name text_name (Err head.ForeignData) = (66 ≤ length bytes) × (slice_index bytes 0 ≡ 2) × (take 32 (drop 1 bytes) ≢ data_name)
HeadIs bytes data_name text_name (Err head.ForeignQuery) =
    (66 ≤ length bytes) × (slice_index bytes 0 ≡ 2) × (take 32 (drop 1 bytes) ≡ data_name) × (take 32 (drop 33 bytes) ≢ text_name)
HeadIs bytes data_name text_name (Ok u) =
    (66 ≤ length bytes) × (slice_index bytes 0 ≡ 2) × (take 32 (drop 1 bytes) ≡ data_name) × (take 32 (drop 33 bytes) ≡ text_name)

-- bytes spell no state of a plan's shape
abbrev pub SpellsNone : Plan → List ℕ → Type 0
SpellsNone plan bytes = (state : State) → IsWholeShape plan state → bytes ≡ state_bytes state → ⊥

-- the first cause for which bytes are refused as a suspended plan; want of memory needs none
abbrev pub IsRefused : Plan → (bytes data_name text_name : List ℕ) → PlanFault → Type 0
IsRefused plan bytes data_name text_name fault.Short = HeadIs bytes data_name text_name (Err head.Short)
IsRefused plan bytes data_name text_name fault.Version = HeadIs bytes data_name text_name (Err head.Version)
IsRefused plan bytes data_name text_name fault.ForeignData = HeadIs bytes data_name text_name (Err head.ForeignData)
IsRefused plan bytes data_name text_name fault.ForeignQuery = HeadIs bytes data_name text_name (Err head.ForeignQuery)
IsRefused plan bytes data_name text_name fault.Shape = HeadIs bytes data_name text_name (Ok tt) × SpellsNone plan (drop 65 bytes)
IsRefused plan bytes data_name text_name (fault.StrayCursor scan) = ⊥
IsRefused plan bytes data_name text_name fault.NoMoreRows = ⊥
IsRefused plan bytes data_name text_name fault.Memory = Unit {0}
