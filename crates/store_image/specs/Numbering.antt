-- How the terms of a document get their numbers: in slots, put in order, each counted once.
use Rattle.std.specs.Prelude.{◌≡◌, ℕ, ◌+◌, ◌<◌, ◌≤◌, List, [], ◌∷◌, ◌++◌, length, map, slice_index, slice_index_or, Bool, false, cond}
use Rattle.std.specs.Ordering.{is_lt}
use Rattle.std.specs.List.Sorted.{IsStrictlySortedBy}
use Rattle.term_core.specs.declared.term.Term.{Term}
use Rattle.term_core.specs.declared.pattern.IdTriple.{IdTriple}
use Rattle.term_core.specs.Order.{term_cmp}
use Rattle.term_core.specs.Bags.{In}
use Rattle.term_core.specs.Mappings.{same_term}
use Rattle.store_image.specs.Table.{term_numbered}

-- values, each with its place, the first at k
abbrev pub with_places : {X : Type 0} → ℕ → List X → List (X × ℕ)
with_places k [] = []
with_places k (x ∷ xs) = (x, k) ∷ with_places (k + 1) xs

-- the triples of the numbers, three for each
abbrev pub trios : List ℕ → List IdTriple
trios [] = []
trios (a ∷ []) = []
trios (a ∷ b ∷ []) = []
trios (a ∷ b ∷ c ∷ rest) = record { s = a; p = b; o = c } ∷ trios rest

-- whether a term is the last of a list
abbrev pub is_last : List Term → Term → Bool
is_last [] t = false
is_last (x ∷ []) t = same_term x t
is_last (x ∷ y ∷ xs) t = is_last (y ∷ xs) t

-- a list with a term at its end, unless it stands there
abbrev pub with_last : List Term → Term → List Term
with_last terms t = cond (is_last terms t) terms (terms ++ t ∷ [])

-- terms with places, none before an earlier one, each place that of one term
pub record AreSlots (slots : List (Term × ℕ)) : Type 0 where
  pub sorted : (i j : ℕ) (d : Term × ℕ) → i ≤ j → j < length slots → is_lt (term_cmp (slice_index_or slots j d).0 (slice_index_or slots i d).0) ≡ false
  pub alone : (t u : Term) (k : ℕ) → In slots (t, k) → In slots (u, k) → t ≡ u
  pub within : (t : Term) (k : ℕ) → In slots (t, k) → k < length slots

-- the terms of slots in order, each once, and at each place the number of its term
pub record AreRanked (slots : List (Term × ℕ)) (terms : List Term) (numbers : List ℕ) : Type 0 where
  pub rising : IsStrictlySortedBy term_cmp terms
  pub to : (t : Term) → In terms t → (k : ℕ) × In slots (t, k)
  pub below : (t : Term) (k : ℕ) → In slots (t, k) → slice_index numbers k < length terms
  pub number : (t : Term) (k : ℕ) → In slots (t, k) → term_numbered terms (slice_index numbers k) ≡ t
  pub few : length terms ≤ length slots

-- the values of a list in order, each once, and the number of each
pub record IsDictionary (values : List Term) (terms : List Term) (numbers : List ℕ) : Type 0 where
  pub rising : IsStrictlySortedBy term_cmp terms
  pub to : (t : Term) → In terms t → In values t
  pub few : length terms ≤ length values
  pub below : (k : ℕ) → In numbers k → k < length terms
  pub same : map (term_numbered terms) numbers ≡ values
