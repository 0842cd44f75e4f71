-- Members of lists by place.
use Rattle.std.proofs.Common.{◌≡◌, ℕ, zero, suc, ◌<◌, List, [], ◌∷◌, length, get_or, take, drop, refl, ap, subst, ⊎_elim, inl, inr, arith, Contains, map, Less, Equal, Greater}
use Rattle.std.specs.Prelude.{◌⊎◌}
use Rattle.std.specs.List.{AllByRecursion}
use Rattle.std.specs.List.Sorted.{IsStrictlySortedBy, IsPermutation}
use Rattle.std.specs.declared.cmp.Ordering.{Ordering}
use Rattle.std.specs.Ordering.{nat_cmp}
use Rattle.std.proofs.lemmas.Bool.Decides.{nat_tests}
use Rattle.std.proofs.lemmas.List.{take-append-drop}
use Rattle.std.proofs.lemmas.List.Sorted.{Contains-permutation, IsPermutation-sym}
use Rattle.term_core.specs.Bags.{In}
use Rattle.term_core.proofs.Bags.{In-append_left}
use Rattle.term_core.proofs.Orders.{all_at}

pub In-get_or : {X : Type 0} (xs : List X) (k : ℕ) (d : X) → k < length xs → In xs (get_or xs k d)
In-get_or [] k d h = absurd (omega arith)
In-get_or (x ∷ xs) zero d h = inl refl
In-get_or (x ∷ xs) (suc k) d h = inr (In-get_or xs k d (omega arith))

-- the place of a member
pub record IsPlaceOf {X : Type 0} (xs : List X) (x : X) : Type 0 where
  pub k : ℕ
  pub within : k < length xs
  pub is : (d : X) → get_or xs k d ≡ x

pub place_of : {X : Type 0} (xs : List X) (x : X) → In xs x → IsPlaceOf xs x
place_of [] x i = absurd i
place_of (y ∷ xs) x i = ⊎_elim
    (λ e. record { k = zero; within = omega arith; is = λ d. e })
    (λ j. let r = place_of xs x j in record { k = suc r.k; within = let h : r.k < length xs = r.within in omega arith; is = λ d. r.is d })
    i

pub In-from_Contains : {X : Type 0} (xs : List X) (x : X) → Contains xs x → In xs x
In-from_Contains xs x h = subst (In xs) h.2 (In-get_or xs h.0 x h.1)

pub Contains-from_In : {X : Type 0} (xs : List X) (x : X) → In xs x → Contains xs x
Contains-from_In xs x i = let r = place_of xs x i in (r.k, r.within, r.is x)

pub In-take : {X : Type 0} (i : ℕ) (xs : List X) (x : X) → In (take i xs) x → In xs x
In-take i xs x h = subst (λ w. In w x) (take-append-drop i xs) (In-append_left (take i xs) (drop i xs) x h)

pub In-permutation : {X : Type 0} (xs ys : List X) (x : X) → IsPermutation xs ys → In xs x → In ys x
In-permutation xs ys x p i = In-from_Contains ys x (Contains-permutation xs ys x p (Contains-from_In xs x i))

pub In-from_permutation : {X : Type 0} (xs ys : List X) (x : X) → IsPermutation xs ys → In ys x → In xs x
In-from_permutation xs ys x p i = In-permutation ys xs x (IsPermutation-sym xs ys p) i

pub length-mapped : {X Y : Type 0} (f : X → Y) (xs : List X) → length (map f xs) ≡ length xs
length-mapped f [] = refl
length-mapped f (x ∷ xs) = ap suc (length-mapped f xs)

pub get_or-mapped : {X Y : Type 0} (f : X → Y) (xs : List X) (k : ℕ) (d : X) (e : Y) → k < length xs → get_or (map f xs) k e ≡ f (get_or xs k d)
get_or-mapped f [] k d e h = absurd (omega arith)
get_or-mapped f (x ∷ xs) zero d e h = refl
get_or-mapped f (x ∷ xs) (suc k) d e h = get_or-mapped f xs k d e (omega arith)

-- a list in strict order, by place
pub rising_at : {X : Type 0} (R : X → X → Ordering) (xs : List X) (j k : ℕ) (d : X) → IsStrictlySortedBy R xs → j < k → k < length xs → R (get_or xs j d) (get_or xs k d) ≡ Less
unfolding IsStrictlySortedBy
rising_at R [] j k d h lt le = absurd (omega arith)
rising_at R (x ∷ xs) zero zero d h lt le = absurd (omega arith)
rising_at R (x ∷ xs) zero (suc k) d h lt le = all_at (λ y. R x y ≡ Less) xs (get_or xs k d) h.0 (In-get_or xs k d (omega arith))
rising_at R (x ∷ xs) (suc j) zero d h lt le = absurd (omega arith)
rising_at R (x ∷ xs) (suc j) (suc k) d h lt le = rising_at R xs j k d h.1 (omega arith) (omega arith)

mapped_above : {X Y : Type 0} (S : Y → Y → Ordering) (f : X → Y) (x : X) (xs : List X) → ((y : X) → In xs y → S (f x) (f y) ≡ Less) → AllByRecursion (λ z. S (f x) z ≡ Less) (map f xs)
mapped_above S f x [] h = tt
mapped_above S f x (y ∷ xs) h = (h y (inl refl), mapped_above S f x xs (λ z i. h z (inr i)))

-- what keeps an order on the members of a list keeps the list's order
pub rising-map : {X Y : Type 0} (R : X → X → Ordering) (S : Y → Y → Ordering) (f : X → Y) (xs : List X) → IsStrictlySortedBy R xs → ((x y : X) → In xs x → In xs y → R x y ≡ Less → S (f x) (f y) ≡ Less) → IsStrictlySortedBy S (map f xs)
unfolding IsStrictlySortedBy
rising-map R S f [] h g = tt
rising-map R S f (x ∷ xs) h g = (
  mapped_above S f x xs (λ y i. g x y (inl refl) (inr i) (all_at (λ w. R x w ≡ Less) xs y h.0 i)),
  rising-map R S f xs h.1 (λ a b i j e. g a b (inr i) (inr j) e),
)

pub three : (j k : ℕ) → (j < k) ⊎ ((j ≡ k) ⊎ (k < j))
three j k = elim (nat_cmp j k) as (λ r. nat_cmp j k ≡ r → (j < k) ⊎ ((j ≡ k) ⊎ (k < j))) [
  | Less ↦ λ e. inl (grind (arith, nat_tests))
  | Equal ↦ λ e. inr (inl (grind (arith, nat_tests)))
  | Greater ↦ λ e. inr (inr (grind (arith, nat_tests)))
] refl
