-- What an image that holds a list of terms gives, and how long its records are.
use Rattle.std.proofs.Common.{◌≡◌, ℕ, zero, suc, [], ◌∷◌, ◌<◌, ◌≤◌, List, length, Some, Ok, Err, IfOk, Result, refl, ap, subst, ◌∙◌, arith}
use Rattle.std.specs.List.{slice_get}
use Rattle.sage_outside.specs.declared.fault.StoreFault.{StoreFault}
use Rattle.sage_outside.specs.declared.fault.StoreFault.TheVariants as faults
use Rattle.term_core.specs.declared.term.Term.{Term}
use Rattle.term_dict.specs.declared.dict.Dict.{Dict}
use Rattle.term_dict.specs.Layout.{ReadsImage, stored_term, span_at, span_length, longest_to, longest_record}
use Rattle.term_dict.specs.Ranks.{HoldsTerms}

-- a place below a number is the last below it, or below that
pub by_last : (C : Type 0) (k n : ℕ) → k < suc n → (k ≡ n → C) → (k < n → C) → C
by_last C zero zero lt last lower = last refl
by_last C zero (suc n) lt last lower = lower (omega arith)
by_last C (suc k) zero lt last lower = absurd (omega arith)
by_last C (suc k) (suc n) lt last lower = by_last C k n (omega arith) (λ e. last (ap suc e)) (λ h. lower (omega arith))

longest_of_first : (d : Dict) (image : List ℕ) (n k : ℕ) → k < n → span_length (span_at d k image) ≤ longest_to d n image
longest_of_first d image zero k lt = absurd (omega arith)
longest_of_first d image (suc n) k lt =
    by_last (span_length (span_at d k image) ≤ longest_to d (suc n) image) k n lt
    (λ e. omega (arith, ap (λ j. span_length (span_at d j image)) e))
    (λ lower. omega (arith, longest_of_first d image n k lower))

-- no record is longer than the longest
pub no_longer : (d : Dict) (image : List ℕ) (k : ℕ) → k < d.terms → span_length (span_at d k image) ≤ longest_record d image
unfolding longest_record
no_longer d image k lt = longest_of_first d image d.terms k lt

pub get_within : (ts : List Term) (k : ℕ) → k < length ts → (u : Term) × (slice_get ts k ≡ Some u)
get_within [] k lt = absurd (omega arith)
get_within (x ∷ ts) zero lt = (x, refl)
get_within (x ∷ ts) (suc k) lt = get_within ts k (omega arith)

-- record k is there, and reads as the term of place k
pub held : (d : Dict) (ts : List Term) (image : List ℕ) (k : ℕ) → HoldsTerms d ts image → k < d.terms → (u : Term) × (slice_get ts k ≡ Some u) × (stored_term d k image ≡ Ok u)
held d ts image k holds lt =
    let got = get_within ts k (omega (arith, holds.terms)) in
    (got.0, got.1, holds.each k got.0 got.1)

same_ok : (a b : Term) (r : Result Term ℕ) → r ≡ Ok a → r ≡ Ok b → a ≡ b
same_ok a b r e f = cc

other_ok : (a : Term) (b : ℕ) (r : Result Term ℕ) → r ≡ Ok a → r ≡ Err b → ⊥
other_ok a b r e f = cc

module _ (d : Dict) (ts : List Term) (image : List ℕ) (k : ℕ) (holds : HoldsTerms d ts image) (lt : k < d.terms) where
  -- what is read is the term of place k
  pub held_term : (r : Result Term StoreFault) → ReadsImage {X = Term} {Y = Term} (λ t. t) r (stored_term d k image) → IfOk r (λ t. slice_get ts k ≡ Some t)
  held_term (Ok t) reads = let at = held d ts image k holds lt in at.1 ∙ ap Some (same_ok _ _ _ at.2 reads)
  held_term (Err fault) reads = tt

  -- nothing of it is damaged
  pub none_damaged : (r : Result Term StoreFault) (block : ℕ) → r ≡ Err (faults.Damaged block) → ReadsImage {X = Term} {Y = Term} (λ t. t) r (stored_term d k image) → ⊥
  none_damaged r block e reads =
      let at = held d ts image k holds lt in
      let P : Result Term StoreFault → Type 0 = λ s. ReadsImage {X = Term} {Y = Term} (λ t. t) s (stored_term d k image) in
      other_ok _ _ _ at.2 (subst P e reads)

-- what was answered is what was read
pub reads_ok : (r : Result Term StoreFault) (t : Term) (read : Result Term ℕ) → r ≡ Ok t → ReadsImage {X = Term} {Y = Term} (λ u. u) r read → read ≡ Ok t
reads_ok r t read e reads = let P : Result Term StoreFault → Type 0 = λ s. ReadsImage {X = Term} {Y = Term} (λ u. u) s read in subst P e reads
