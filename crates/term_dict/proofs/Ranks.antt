-- Places in a list of terms that rise strictly, and the number of terms below one.
use Rattle.std.proofs.Common.{◌≡◌, ℕ, zero, suc, ◌+◌, ◌<◌, ◌≤◌, List, [], ◌∷◌, length, Some, Bool, true, false, cond, refl, sym, ap, subst, ◌∙◌, arith, Contains, Less, Equal, Greater}
use Rattle.std.specs.declared.cmp.Ordering.{Ordering}
use Rattle.std.specs.Ordering.{ordering_reverse, is_lt}
use Rattle.std.specs.List.{slice_get, AllByRecursion, count_by}
use Rattle.std.specs.List.Sorted.{IsStrictlySortedBy}
use Rattle.std.proofs.lemmas.Option.{slice_get-get_or, get_or_from_slice_get}
use Rattle.std.proofs.lemmas.List.Sums.{sum_by-cons}
use Rattle.term_core.specs.declared.term.Term.{Term}
use Rattle.term_core.specs.Order.{term_cmp}
use Rattle.term_core.specs.OrderLaws.{terms_total}
use Rattle.term_dict.specs.Ranks.{rank_among}

all_get : (P : Term → Type 0) (ts : List Term) (k : ℕ) (u : Term) → AllByRecursion P ts → slice_get ts k ≡ Some u → P u
all_get P [] k u all at = cc
all_get P (x ∷ ts) zero u all at = let e : x ≡ u = cc in subst P e all.0
all_get P (x ∷ ts) (suc k) u all at = all_get P ts k u all.1 at

-- the term of the lower place is less
pub rises : (ts : List Term) (i j : ℕ) (u v : Term) → IsStrictlySortedBy term_cmp ts → slice_get ts i ≡ Some u → slice_get ts j ≡ Some v → i < j → term_cmp u v ≡ Less
unfolding IsStrictlySortedBy
rises [] i j u v sorted at_i at_j lt = cc
rises (x ∷ ts) i zero u v sorted at_i at_j lt = absurd (omega arith)
rises (x ∷ ts) zero (suc j) u v sorted at_i at_j lt = let e : x ≡ u = cc in all_get (λ w. term_cmp u w ≡ Less) ts j v (subst (λ y. AllByRecursion (λ w. term_cmp y w ≡ Less) ts) e sorted.0) at_j
rises (x ∷ ts) (suc i) (suc j) u v sorted at_i at_j lt = rises ts i j u v sorted.1 at_i at_j (omega arith)

pub greater : (a b : Term) → term_cmp a b ≡ Greater → term_cmp b a ≡ Less
greater a b e = terms_total.antisymm b a ∙ ap ordering_reverse e

pub turned : (a b : Term) → term_cmp a b ≡ Less → term_cmp b a ≡ Greater
turned a b e = terms_total.antisymm b a ∙ ap ordering_reverse e

self_tie : (r : Ordering) → r ≡ ordering_reverse r → r ≡ Equal
self_tie Less e = cc
self_tie Equal e = refl
self_tie Greater e = cc

pub ties : (t : Term) → term_cmp t t ≡ Equal
ties t = self_tie (term_cmp t t) (terms_total.antisymm t t)

pub by_place : (C : Type 0) (k m : ℕ) → k ≤ m → (k ≡ m → C) → (k < m → C) → C
by_place C zero zero le same less = same refl
by_place C zero (suc m) le same less = less (omega arith)
by_place C (suc k) zero le same less = absurd (omega arith)
by_place C (suc k) (suc m) le same less = by_place C k m (omega arith) (λ e. same (ap suc e)) (λ lt. less (omega arith))

pub same_at : (ts : List Term) (k m : ℕ) (u v : Term) → k ≡ m → slice_get ts m ≡ Some u → slice_get ts k ≡ Some v → u ≡ v
same_at ts k m u v e at_m at_k = let f : slice_get ts k ≡ slice_get ts m = ap (slice_get ts) e in cc

-- the number of those that pass a test, where those before a place are all that do
one_more : (p : Term → Bool) (x : Term) (xs : List Term) (n : ℕ) → p x ≡ true → n ≡ count_by p xs → suc n ≡ count_by p (x ∷ xs)
one_more p x xs n e i =
    let step : count_by p (x ∷ xs) ≡ cond {A = ℕ} (p x) 1 0 + count_by p xs = sum_by-cons (λ y. cond {A = ℕ} (p y) 1 0) x xs in
    let here : cond {A = ℕ} (p x) 1 0 ≡ 1 = ap (λ b. cond {A = ℕ} b 1 0) e in
    omega arith

no_more : (p : Term → Bool) (x : Term) (xs : List Term) → p x ≡ false → count_by p xs ≡ 0 → count_by p (x ∷ xs) ≡ 0
no_more p x xs e i =
    let step : count_by p (x ∷ xs) ≡ cond {A = ℕ} (p x) 1 0 + count_by p xs = sum_by-cons (λ y. cond {A = ℕ} (p y) 1 0) x xs in
    let here : cond {A = ℕ} (p x) 1 0 ≡ 0 = ap (λ b. cond {A = ℕ} b 1 0) e in
    omega arith

counted : (p : Term → Bool) (xs : List Term) (n : ℕ) → n ≤ length xs
    → ((k : ℕ) (x : Term) → slice_get xs k ≡ Some x → k < n → p x ≡ true)
    → ((k : ℕ) (x : Term) → slice_get xs k ≡ Some x → n ≤ k → p x ≡ false) → n ≡ count_by p xs
counted p [] zero le below above = refl
counted p [] (suc n) le below above = absurd (omega arith)
counted p (x ∷ xs) zero le below above =
    sym (no_more p x xs (above 0 x refl (omega arith)) (sym (counted p xs zero (omega arith) (λ k y at lt. absurd (omega arith)) (λ k y at ge. above (suc k) y at (omega arith)))))
counted p (x ∷ xs) (suc n) le below above =
    one_more p x xs n (below 0 x refl (omega arith))
    (counted p xs n (omega arith) (λ k y at lt. below (suc k) y at (omega arith)) (λ k y at ge. above (suc k) y at (omega arith)))

pub inside : (ts : List Term) (k : ℕ) (t : Term) → slice_get ts k ≡ Some t → k < length ts
inside [] k t at = cc
inside (x ∷ ts) zero t at = omega arith
inside (x ∷ ts) (suc k) t at = omega (arith, inside ts k t at)

-- a term's place is its rank
pub place_is_rank : (ts : List Term) (t : Term) (k : ℕ) → IsStrictlySortedBy term_cmp ts → slice_get ts k ≡ Some t → k ≡ rank_among ts t
place_is_rank ts t k sorted at =
    counted (λ u. is_lt (term_cmp u t)) ts k (omega (arith, inside ts k t at))
    (λ j u at_j lt. ap is_lt (rises ts j k u t sorted at_j at lt))
    (λ j u at_j ge. by_place (is_lt (term_cmp u t) ≡ false) k j ge
    (λ e. ap is_lt (ap (λ w. term_cmp w t) (same_at ts k j u t e at_j at) ∙ ties t))
    (λ gt. ap is_lt (turned t u (rises ts k j t u sorted at at_j gt))))

pub contains_get : (ts : List Term) (t : Term) → Contains ts t → (k : ℕ) × (slice_get ts k ≡ Some t)
contains_get ts t (k, within, is) = (k, slice_get-get_or ts k t within ∙ ap Some is)

pub contains_at : (ts : List Term) (t : Term) (k : ℕ) → slice_get ts k ≡ Some t → Contains ts t
contains_at ts t k at = (k, inside ts k t at, get_or_from_slice_get ts k t t at)

pub rank_is_place : (ts : List Term) (t : Term) (k : ℕ) → IsStrictlySortedBy term_cmp ts → Contains ts t → k ≡ rank_among ts t → slice_get ts k ≡ Some t
rank_is_place ts t k sorted has e =
    let at = contains_get ts t has in
    ap (slice_get ts) (e ∙ sym (place_is_rank ts t at.0 sorted at.1)) ∙ at.1
