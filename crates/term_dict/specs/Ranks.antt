-- Ranks of terms, and the dictionary that an image holds.
use Rattle.std.specs.Prelude.{◌≡◌, ℕ, ◌+◌, ◌<◌, ◌≤◌, List, length, slice_get, Option, Some, None, Result, Ok, Err, Contains, count_by}
use Rattle.std.specs.Ordering.{is_lt}
use Rattle.std.specs.declared.cmp.Ordering.{Ordering}
use Rattle.std.specs.declared.cmp.Ordering.TheVariants.{Less, Equal, Greater}
use Rattle.std.specs.List.Sorted.{IsStrictlySortedBy}
use Rattle.sage_outside.specs.declared.fault.StoreFault.{StoreFault}
use Rattle.sage_outside.specs.declared.fault.StoreFault.TheVariants as faults
use Rattle.term_core.specs.declared.term.Term.{Term}
use Rattle.term_core.specs.Order.{term_cmp}
use Rattle.term_dict.specs.declared.dict.Dict.{Dict}
use Rattle.term_dict.specs.Layout.{stored_term, raw_at}

-- the number of terms below a term
abbrev pub rank_among : List Term → Term → ℕ
rank_among ts t = count_by (λ u. is_lt (term_cmp u t)) ts

-- the term has that rank and is there, or it is not there
abbrev pub IsRank : List Term → Term → Option ℕ → Type 0
IsRank ts t None = Contains ts t → ⊥
IsRank ts t (Some k) = (slice_get ts k ≡ Some t) × (k ≡ rank_among ts t)

-- the image has these terms in their order: record k is the term of rank k, and there are no more
pub record HoldsTerms (d : Dict) (ts : List Term) (image : List ℕ) : Type 0 where
  pub sorted : IsStrictlySortedBy term_cmp ts
  pub terms : d.terms ≡ length ts
  pub each : (k : ℕ) (t : Term) → slice_get ts k ≡ Some t → stored_term d k image ≡ Ok t

-- a place in the image where the term would stand: the record before it is less, and the record there is greater
pub record IsGap (d : Dict) (t : Term) (image : List ℕ) : Type 0 where
  pub place : ℕ
  pub within : place ≤ d.terms
  pub below : (k : ℕ) → k + 1 ≡ place → (u : Term) × (raw_at d k image ≡ Ok u) × (term_cmp u t ≡ Less)
  pub above : place < d.terms → (u : Term) × (raw_at d place image ≡ Ok u) × (term_cmp u t ≡ Greater)

-- what a call tells of how a record stands to t: by the texts that it spells, and a tie only where it is read as t; or
-- the block to blame
abbrev pub Compares : Term → Result Ordering StoreFault → Result Term ℕ → Result Term ℕ → Type 0
Compares t (Ok order) raw read = ((u : Term) × (raw ≡ Ok u) × (term_cmp u t ≡ order)) × (order ≡ Equal → read ≡ Ok t)
Compares t (Err (faults.Damaged block)) raw read = read ≡ Err block
Compares t (Err faults.Blocks) raw read = Unit {0}
Compares t (Err faults.Memory) raw read = Unit {0}
