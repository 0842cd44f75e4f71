-- Pages: what a server gives for one quantum, and all pages of a plan, followed from none to none.
use Rattle.std.specs.Prelude.{◌≡◌, ℕ, ◌+◌, ◌-◌, ◌%◌, ◌<◌, ◌≤◌, min, max, List, [], ◌∷◌, ◌++◌, length, slice_index_or, take, drop, flat_map, All, Option, Some, None}
use Rattle.term_core.specs.declared.term.Triple.{Triple}
use Rattle.term_core.specs.Mappings.{Row}
use Rattle.plan_tree.specs.Trace.{Plan, trace, steps, rows_of}
use Rattle.plan_tree.specs.States.{State, Stands}
use Rattle.plan_tree.specs.Spelling.{plan_bytes}

-- the rows of a page, how many steps it took, and the plan to go on with, if the end was not reached
pub record Page : Type 0 where
  pub rows : List Row
  pub steps : ℕ
  pub next : Option (List ℕ)

-- nothing at the end, and else the spelling of the state there
abbrev pub IsNext : List Triple → Plan → List ℕ → ℕ → Option (List ℕ) → Type 0
IsNext D plan text n None = n ≡ steps D plan
IsNext D plan text n (Some bytes) = (state : State) × Stands D plan state n × (bytes ≡ plan_bytes D text state)

-- where a page ends that begins after n entries
abbrev pub page_end : List Triple → Plan → ℕ → ℕ → ℕ
page_end D plan n quantum = min (n + quantum) (steps D plan)

-- the page of so many steps that begins after n entries
pub record IsPage (D : List Triple) (plan : Plan) (text : List ℕ) (n quantum : ℕ) (page : Page) : Type 0 where
  pub steps_are : page.steps ≡ page_end D plan n quantum - n
  pub rows_are : page.rows ≡ rows_of (take page.steps (drop n (trace D plan)))
  pub next_is : IsNext D plan text (page_end D plan n quantum) page.next

-- the pages from after n entries to the end, page k of them with quantum `quanta k`
abbrev pub IsRun : List Triple → Plan → List ℕ → (ℕ → ℕ) → ℕ → ℕ → List Page → Type 0
IsRun D plan text quanta k n [] = n ≡ steps D plan
IsRun D plan text quanta k n (page ∷ pages) =
    (n < steps D plan) × IsPage D plan text n (quanta k) page × IsRun D plan text quanta (k + 1) (n + page.steps) pages

-- a part of a query that servers answer: its plan and its text
pub record Part : Type 0 where
  pub plan : Plan
  pub text : List ℕ

-- the pages of several parts, followed one after the other, each to its end; page k of the whole run has quantum `quanta k`
abbrev pub IsRunOf : List Triple → List Part → (ℕ → ℕ) → ℕ → List Page → Type 0
IsRunOf D [] quanta k pages = pages ≡ []
IsRunOf D (part ∷ parts) quanta k pages =
    (own : List Page) × (rest : List Page) × (pages ≡ own ++ rest) × IsRun D part.plan part.text quanta k 0 own × IsRunOf D parts quanta (k + length own) rest

-- there is a quantum, and under each a page takes a step
pub record AreQuanta (quanta : List ℕ) : Type 0 where
  pub some : 0 < length quanta
  pub each : All (λ quantum. 1 ≤ quantum) quanta

-- the quantum of page k where a list of quanta is walked round: after the last comes the first again
abbrev pub walked : List ℕ → ℕ → ℕ
walked quanta k = slice_index_or quanta (k % length quanta) 0

-- the rows of pages, one page after the other
abbrev pub rows_in : List Page → List Row
rows_in pages = flat_map (λ (page : Page). page.rows) pages

-- the steps of pages, added up
abbrev pub steps_in : List Page → ℕ
steps_in [] = 0
steps_in (page ∷ pages) = page.steps + steps_in pages

-- the length of a suspended plan, 0 where there is none
abbrev pub next_length : Option (List ℕ) → ℕ
next_length None = 0
next_length (Some bytes) = length bytes

-- the greatest length of a suspended plan, 0 where there is none
abbrev pub longest_plan_in : List Page → ℕ
longest_plan_in [] = 0
longest_plan_in (page ∷ pages) = max (next_length page.next) (longest_plan_in pages)
