-- Members of a list that stand side by side.
use Rattle.std.proofs.Common.{◌≡◌, ℕ, zero, suc, ◌+◌, ◌-◌, ◌<◌, ◌≤◌, List, [], ◌∷◌, length, take, drop, refl, sym, ap, ◌∙◌, arith, Some, slice_get}
use Rattle.std.specs.List.Sorted.{IsStrictlySortedBy}
use Rattle.std.specs.declared.cmp.Ordering.{Ordering}
use Rattle.std.specs.declared.cmp.Ordering.TheVariants.{Less}
use Rattle.std.proofs.lemmas.List.{length-take, length-drop}
use Rattle.std.proofs.lemmas.Option.{slice_get_within}
use Rattle.term_core.specs.Bags.{In}
use Rattle.term_core.proofs.Orders.{all_at, all_from}
use Rattle.term_core.proofs.Ranked.{In-slice_get, slice_get-In}
use Rattle.store_image.proofs.TableLists.{In-take}

-- the members from a place on, so many of them
abbrev pub stretch : {X : Type 0} → ℕ → ℕ → List X → List X
stretch m n xs = take n (drop m xs)

pub length-stretch : {X : Type 0} (m n : ℕ) (xs : List X) → m + n ≤ length xs → length (stretch m n xs) ≡ n
length-stretch {X = X} m n xs le = omega (arith, length-take {A = X} n (drop m xs), length-drop {A = X} m xs)

get-drop : {X : Type 0} (m k : ℕ) (xs : List X) → slice_get (drop m xs) k ≡ slice_get xs (m + k)
get-drop zero k xs = let e : k ≡ 0 + k = omega arith in ap (slice_get xs) e
get-drop (suc m) k [] = refl
get-drop (suc m) k (x ∷ xs) = let e : suc (m + k) ≡ suc m + k = omega arith in get-drop m k xs ∙ ap (slice_get (x ∷ xs)) e

get-take : {X : Type 0} (n k : ℕ) (xs : List X) → k < n → slice_get (take n xs) k ≡ slice_get xs k
get-take zero k xs lt = absurd (omega arith)
get-take (suc n) k [] lt = refl
get-take (suc n) zero (x ∷ xs) lt = refl
get-take (suc n) (suc k) (x ∷ xs) lt = get-take n k xs (omega arith)

-- place k of a stretch is place m + k of the list
pub get-stretch : {X : Type 0} (m n k : ℕ) (xs : List X) → k < n → slice_get (stretch m n xs) k ≡ slice_get xs (m + k)
get-stretch m n k xs lt = get-take n k (drop m xs) lt ∙ get-drop m k xs

few-stretch : {X : Type 0} (m n : ℕ) (xs : List X) → length (stretch m n xs) ≤ n
few-stretch {X = X} m n xs = omega (arith, length-take {A = X} n (drop m xs))

-- a member of a stretch, by its place in the list
pub record HasPlace {X : Type 0} (m n : ℕ) (xs : List X) (x : X) : Type 0 where
  pub place : ℕ
  pub from : m ≤ place
  pub before : place < m + n
  pub is : slice_get xs place ≡ Some x

pub from_In-stretch : {X : Type 0} (m n : ℕ) (xs : List X) (x : X) → In (stretch m n xs) x → HasPlace m n xs x
from_In-stretch m n xs x i =
    let w = slice_get-In (stretch m n xs) x i in
    let lt : w.0 < length (stretch m n xs) = slice_get_within (stretch m n xs) w.0 x w.1 in
    let few = few-stretch m n xs in
    record { place = m + w.0; from = omega arith; before = omega arith; is = sym (get-stretch m n w.0 xs (omega arith)) ∙ w.1 }

pub In-stretch : {X : Type 0} (m n k : ℕ) (xs : List X) (x : X) → m ≤ k → k < m + n → slice_get xs k ≡ Some x → In (stretch m n xs) x
In-stretch m n k xs x from before at =
    let same : m + (k - m) ≡ k = omega arith in
    In-slice_get (stretch m n xs) (k - m) x (get-stretch m n (k - m) xs (omega arith) ∙ ap (slice_get xs) same ∙ at)

rising-drop : {X : Type 0} (R : X → X → Ordering) (m : ℕ) (xs : List X) → IsStrictlySortedBy R xs → IsStrictlySortedBy R (drop m xs)
unfolding IsStrictlySortedBy
rising-drop R zero xs h = h
rising-drop R (suc m) [] h = tt
rising-drop R (suc m) (x ∷ xs) h = rising-drop R m xs h.1

rising-take : {X : Type 0} (R : X → X → Ordering) (n : ℕ) (xs : List X) → IsStrictlySortedBy R xs → IsStrictlySortedBy R (take n xs)
unfolding IsStrictlySortedBy
rising-take R zero xs h = tt
rising-take R (suc n) [] h = tt
rising-take R (suc n) (x ∷ xs) h = (all_from (λ y. R x y ≡ Less) (take n xs) (λ y i. all_at (λ z. R x z ≡ Less) xs y h.0 (In-take n xs y i)), rising-take R n xs h.1)

-- a stretch of a list in strict order is in strict order
pub rising-stretch : {X : Type 0} (R : X → X → Ordering) (m n : ℕ) (xs : List X) → IsStrictlySortedBy R xs → IsStrictlySortedBy R (stretch m n xs)
rising-stretch R m n xs h = rising-take R n (drop m xs) (rising-drop R m xs h)
