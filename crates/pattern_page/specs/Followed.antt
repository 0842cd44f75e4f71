-- Pages followed from none to none.
use Rattle.std.specs.Prelude.{◌≡◌, ℕ, ◌+◌, ◌<◌, ◌≤◌, max, List, [], ◌∷◌, ◌++◌, length, flat_map, Option, Some, None, is_some, option_map, Bool, Result, Ok, Err}
use Rattle.term_core.specs.declared.term.Triple.{Triple}
use Rattle.term_core.specs.declared.pattern.Pattern.{Pattern}
use Rattle.term_core.specs.Mappings.{Name}
use Rattle.plan_tree.specs.Trace.{Plan, steps}
use Rattle.plan_tree.specs.Pages.{Page, IsNext, IsPage, IsRun, walked, rows_in, steps_in, next_length, longest_plan_in}
use Rattle.pattern_page.specs.declared.page.Page as code_page
use Rattle.pattern_page.specs.declared.page.PageFault.{PageFault}
use Rattle.pattern_page.specs.declared.page.PageFault.TheVariants as faults
use Rattle.pattern_page.specs.declared.follow.Counts.{Counts}
use Rattle.pattern_page.specs.declared.follow.Walk.{Walk}
use Rattle.pattern_page.specs.Part.{select_all_text, part_plan}
use Rattle.pattern_page.specs.Results.{line}
use Rattle.pattern_page.specs.PagesOf.{page_of}

-- the bytes from which a page goes on, none where it is the first
abbrev pub next_in : Walk → Option (List ℕ)
next_in walk = option_map (λ v. v.items) walk.next

-- a page that begins with these bytes, or with none, begins after n entries
abbrev pub Begins : List Triple → Pattern → ℕ → Option (List ℕ) → Type 0
Begins D pattern n None = n ≡ 0
Begins D pattern n (Some bytes) = IsNext D (part_plan pattern) (select_all_text pattern) n (Some bytes)

-- the counts with a page more
pub record AreMore (old new : Counts) (page : Page) : Type 0 where
  pub pages_are : new.pages ≡ old.pages + 1
  pub steps_are : new.steps ≡ old.steps + page.steps
  pub longest_are : new.longest ≡ max old.longest (next_length page.next)

-- one page more was given
pub record IsPaged (D : List Triple) (pattern : Pattern) (quantum : ℕ) (names : List Name) (old new : Walk) (before after : List ℕ) (more : Bool) : Type 0 where
  pub page : Page
  pub page_is : IsPage D (part_plan pattern) (select_all_text pattern) old.counts.steps quantum page
  pub counts_are : AreMore old.counts new.counts page
  pub lines_are : after ≡ before ++ flat_map (line names) page.rows
  pub next_is : next_in new ≡ page.next
  pub more_is : more ≡ is_some page.next

-- the page of the place was given, or it was refused, but not by its bytes
abbrev pub IsTurned : List Triple → Pattern → ℕ → ℕ → Result code_page.Page PageFault → Type 0
IsTurned D pattern n quantum (Ok page) = IsPage D (part_plan pattern) (select_all_text pattern) n quantum (page_of page)
IsTurned D pattern n quantum (Err faults.Plan) = ⊥
IsTurned D pattern n quantum (Err (faults.Store fault)) = Unit {0}
IsTurned D pattern n quantum (Err faults.Memory) = Unit {0}

-- one page more was given, or it was refused, but not by its bytes
abbrev pub IsGiven : List Triple → Pattern → ℕ → List Name → Walk → Walk → List ℕ → List ℕ → Result Bool PageFault → Type 0
IsGiven D pattern quantum names old new before after (Ok more) = IsPaged D pattern quantum names old new before after more
IsGiven D pattern quantum names old new before after (Err faults.Plan) = ⊥
IsGiven D pattern quantum names old new before after (Err (faults.Store fault)) = Unit {0}
IsGiven D pattern quantum names old new before after (Err faults.Memory) = Unit {0}

-- the pages from after m entries to after n, the first of them page k of a run
abbrev pub IsFront : List Triple → Plan → List ℕ → (ℕ → ℕ) → ℕ → ℕ → List Page → ℕ → Type 0
IsFront D plan text quanta k m [] n = m ≡ n
IsFront D plan text quanta k m (page ∷ pages) n =
    (m < steps D plan) × IsPage D plan text m (quanta k) page × IsFront D plan text quanta (k + 1) (m + page.steps) pages n

-- counts and lines of pages
pub record AreOf (names : List Name) (pages : List Page) (counts : Counts) (before after : List ℕ) : Type 0 where
  pub pages_are : counts.pages ≡ length pages
  pub steps_are : counts.steps ≡ steps_in pages
  pub longest_are : counts.longest ≡ longest_plan_in pages
  pub lines_are : after ≡ before ++ flat_map (line names) (rows_in pages)

-- so many pages were given, each of at least one step
pub record AreGiven (D : List Triple) (pattern : Pattern) (quanta : List ℕ) (names : List Name) (count : ℕ) (walk : Walk) (before after : List ℕ) : Type 0 where
  pub pages : List Page
  pub front : IsFront D (part_plan pattern) (select_all_text pattern) (walked quanta) 0 0 pages walk.counts.steps
  pub count_is : length pages ≡ count
  pub few : count ≤ walk.counts.steps
  pub are : AreOf names pages walk.counts before after

-- so many pages were given, and more are to come
pub record IsWalked (D : List Triple) (pattern : Pattern) (quanta : List ℕ) (names : List Name) (count : ℕ) (walk : Walk) (before after : List ℕ) : Type 0 where
  pub given : AreGiven D pattern quanta names count walk before after
  pub begins : Begins D pattern walk.counts.steps (next_in walk)

-- all pages were given, under a list of quanta that is walked round: how many pages and steps there were, how long the longest suspended plan was, and the lines of the rows
pub record IsFollowed (D : List Triple) (pattern : Pattern) (quanta : List ℕ) (names : List Name) (counts : Counts) (before after : List ℕ) : Type 0 where
  pub pages : List Page
  pub run : IsRun D (part_plan pattern) (select_all_text pattern) (walked quanta) 0 0 pages
  pub are : AreOf names pages counts before after

-- all pages were given, or one was refused, but not by its bytes
abbrev pub AreFollowed : List Triple → Pattern → List ℕ → List Name → List ℕ → List ℕ → Result Counts PageFault → Type 0
AreFollowed D pattern quanta names before after (Ok counts) = IsFollowed D pattern quanta names counts before after
AreFollowed D pattern quanta names before after (Err faults.Plan) = ⊥
AreFollowed D pattern quanta names before after (Err (faults.Store fault)) = Unit {0}
AreFollowed D pattern quanta names before after (Err faults.Memory) = Unit {0}
