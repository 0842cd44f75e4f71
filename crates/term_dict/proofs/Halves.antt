-- A search by halves in a list of terms that rise strictly.
use Rattle.std.proofs.Common.{◌≡◌, ℕ, zero, suc, ◌+◌, ◌-◌, ◌*◌, ◌/◌, ◌^◌, ◌<◌, ◌≤◌, ◌⊎◌, inl, inr, List, Some, Ok, Err, Result, sym, ap, subst, ◌∙◌, arith, Contains, Less, Equal, Greater}
use Rattle.std.specs.declared.cmp.Ordering.{Ordering}
use Rattle.std.specs.List.{slice_get}
use Rattle.std.specs.List.Sorted.{IsStrictlySortedBy}
use Rattle.std.proofs.lemmas.Nat.{pow-add}
use Rattle.std.proofs.Math.Nat.{mul-le-mul_right}
use Rattle.sage_outside.specs.declared.fault.StoreFault.{StoreFault}
use Rattle.sage_outside.specs.declared.fault.StoreFault.TheVariants as faults
use Rattle.term_core.specs.declared.term.Term.{Term}
use Rattle.term_core.specs.Order.{term_cmp}
use Rattle.term_core.specs.OrderLaws.{terms_total}
use Rattle.term_dict.specs.declared.dict.Dict.{Dict}
use Rattle.term_dict.specs.Layout.{stored_term, raw_at}
use Rattle.term_dict.specs.Ranks.{HoldsTerms, Compares}
use Rattle.term_dict.proofs.Held.{held}
use Rattle.term_dict.proofs.Raw.{raw_of_term}
use Rattle.term_dict.proofs.Ranks.{rises, greater, turned, ties, by_place, same_at, contains_get}

-- the terms before low are less than t, and those from high on greater
pub record IsBetween (ts : List Term) (t : Term) (low high : ℕ) : Type 0 where
  pub below : (k : ℕ) (u : Term) → slice_get ts k ≡ Some u → k < low → term_cmp u t ≡ Less
  pub above : (k : ℕ) (u : Term) → slice_get ts k ≡ Some u → high ≤ k → term_cmp u t ≡ Greater

module _ (ts : List Term) (t : Term) (sorted : IsStrictlySortedBy term_cmp ts) (low high m : ℕ) (u : Term) (between : IsBetween ts t low high) (at : slice_get ts m ≡ Some u) where
  pub narrow_less : term_cmp u t ≡ Less → IsBetween ts t (m + 1) high
  narrow_less less = record {
    below = λ k v at_k lt. by_place (term_cmp v t ≡ Less) k m (omega arith) (λ e. subst (λ w. term_cmp w t ≡ Less) (same_at ts k m u v e at at_k) less)
        (λ lower. terms_total.trans v u t (rises ts k m v u sorted at_k at lower) less);
    above = between.above;
  }

  pub narrow_greater : term_cmp u t ≡ Greater → IsBetween ts t low m
  narrow_greater more = record {
    below = between.below;
    above = λ k v at_k le. by_place (term_cmp v t ≡ Greater) m k le (λ e. subst (λ w. term_cmp w t ≡ Greater) (same_at ts k m u v (sym e) at at_k) more)
        (λ higher. turned t v (terms_total.trans t u v (greater u t more) (rises ts m k u v sorted at at_k higher)));
  }

by_side : (k m : ℕ) → (k < m → ⊥) → (m ≤ k → ⊥) → ⊥
by_side k zero below above = above (omega arith)
by_side zero (suc m) below above = below (omega arith)
by_side (suc k) (suc m) below above = by_side k m (λ lt. below (omega arith)) (λ le. above (omega arith))

-- nothing is left between
pub nowhere : (ts : List Term) (t : Term) (low high : ℕ) → IsBetween ts t low high → high ≤ low → Contains ts t → ⊥
nowhere ts t low high between le has =
    let at = contains_get ts t has in
    let tie = ties t in
    by_side at.0 low (λ lt. let e = between.below at.0 t at.1 lt in cc) (λ ge. let e = between.above at.0 t at.1 (omega arith) in cc)

-- what is left after one more step
pub halved : (a b s n : ℕ) → 2 * a ≤ b → b * 2 ^ s ≤ n → a * 2 ^ (s + 1) ≤ n
halved a b s n h i =
    let e : 2 ^ (s + 1) ≡ 2 ^ s * 2 ^ 1 = pow-add 2 s 1 in
    let f : a * (2 ^ s * 2 ^ 1) ≡ (2 * a) * 2 ^ s = grind arith in
    let k : (2 * a) * 2 ^ s ≤ b * 2 ^ s = mul-le-mul_right (2 ^ s) h in
    rw e (rw f (omega arith))

pub ended : (a s n : ℕ) → s ≡ 32 → a * 2 ^ s ≤ n → n < 2 ^ 32 → a ≡ 0
ended a s n e h i = let j = rw e at h in omega arith

pow_grows : (r : ℕ) → 2 ^ 24 ≤ 2 ^ (24 + r)
pow_grows zero = omega arith
pow_grows (suc r) =
    let e : 2 ^ ((24 + r) + 1) ≡ 2 ^ (24 + r) * 2 ^ 1 = pow-add 2 (24 + r) 1 in
    let f : 24 + suc r ≡ (24 + r) + 1 = omega arith in
    rw f (rw e (omega (arith, pow_grows r)))

side : (s n : ℕ) → (s ≤ n) ⊎ (n < s)
side zero n = inl (omega arith)
side (suc s) zero = inr (omega arith)
side (suc s) (suc n) = elim (side s n) [ inl le ↦ inl (omega arith) | inr lt ↦ inr (omega arith) ]

no_step : (a s n : ℕ) → 23 < s → 0 < a → a * 2 ^ s ≤ n → n ≤ 12582909 → ⊥
no_step a s n past some h few =
    let e : s ≡ 24 + (s - 24) = omega arith in
    let g : 2 ^ 24 ≤ 2 ^ s = rw e (pow_grows (s - 24)) in
    let k : 1 * 2 ^ s ≤ a * 2 ^ s = mul-le-mul_right (2 ^ s) some in
    omega arith

-- while something is left of so many terms, so many steps were not made
pub few_steps : (a s n : ℕ) → 0 < a → a * 2 ^ s ≤ n → n ≤ 12582909 → s ≤ 23
few_steps a s n some h few = elim (side s 23) [ inl le ↦ le | inr past ↦ absurd (no_step a s n past some h few) ]

pub cost_step : (before mid now s r : ℕ) → mid ≤ before + s * r → now ≤ mid + r → now ≤ before + (s + 1) * r
cost_step before mid now s r h i = let e : (s + 1) * r ≡ s * r + r = grind arith in rw e (omega arith)

pub cost_within : (before now s m r : ℕ) → now ≤ before + s * r → s ≤ m → now ≤ before + m * r
cost_within before now s m r h le = let k : s * r ≤ m * r = mul-le-mul_right r le in omega arith

-- what was compared are the texts of the record
pub compared_here : (d : Dict) (image : List ℕ) (k : ℕ) (t : Term) (r : Result Ordering StoreFault) (order : Ordering) → r ≡ Ok order
    → Compares t r (raw_at d k image) (stored_term d k image) → (u : Term) × (raw_at d k image ≡ Ok u) × (term_cmp u t ≡ order)
compared_here d image k t r order is reads =
    let P : Result Ordering StoreFault → Type 0 = λ s. Compares t s (raw_at d k image) (stored_term d k image) in
    let told = subst P is reads in told.0

same_ok : (a b : Term) (r : Result Term ℕ) → r ≡ Ok a → r ≡ Ok b → a ≡ b
same_ok a b r e f = cc

-- they are those of the term of that place
pub compared_held : (d : Dict) (ts : List Term) (image : List ℕ) (k : ℕ) (t u : Term) (order : Ordering) → HoldsTerms d ts image → k < d.terms
    → raw_at d k image ≡ Ok u → term_cmp u t ≡ order → slice_get ts k ≡ Some u
compared_held d ts image k t u order holds lt raw is =
    let at = held d ts image k holds lt in
    at.1 ∙ ap Some (same_ok at.0 u (raw_at d k image) (raw_of_term d k image at.0 at.2) raw)

pub tie_at : (d : Dict) (image : List ℕ) (k : ℕ) (t : Term) (r : Result Ordering StoreFault) (order : Ordering) → r ≡ Ok order → order ≡ Equal
    → Compares t r (raw_at d k image) (stored_term d k image) → stored_term d k image ≡ Ok t
tie_at d image k t r order is tie reads =
    let P : Result Ordering StoreFault → Type 0 = λ s. Compares t s (raw_at d k image) (stored_term d k image) in
    let told = subst P is reads in told.1 tie

pub damaged_at : (d : Dict) (image : List ℕ) (k : ℕ) (t : Term) (r : Result Ordering StoreFault) (fault : StoreFault) (block : ℕ) → r ≡ Err fault → fault ≡ faults.Damaged block
    → Compares t r (raw_at d k image) (stored_term d k image) → stored_term d k image ≡ Err block
damaged_at d image k t r fault block is damaged reads =
    let P : Result Ordering StoreFault → Type 0 = λ s. Compares t s (raw_at d k image) (stored_term d k image) in subst P (is ∙ ap Err damaged) reads

other_ok : (a : Term) (b : ℕ) (r : Result Term ℕ) → r ≡ Ok a → r ≡ Err b → ⊥
other_ok a b r e f = cc

-- nothing of what an image holds is damaged
pub none_damaged : (d : Dict) (ts : List Term) (image : List ℕ) (k block : ℕ) → HoldsTerms d ts image → k < d.terms → stored_term d k image ≡ Err block → ⊥
none_damaged d ts image k block holds lt e = let at = held d ts image k holds lt in other_ok _ _ _ at.2 e

-- a read that was one of the first steps is within the bound
pub few_more : (before mid now s r cost : ℕ) → mid ≤ before + s * r → now ≤ mid + cost → cost ≤ r → s ≤ 23 → now ≤ before + 25 * r
few_more before mid now s r cost h i le few = cost_within before now (s + 1) 25 r (cost_step before mid now s r h (omega arith)) (omega arith)

pub four_more : (n longest : ℕ) → n ≤ longest → 4 + n / 4080 ≤ 4 + longest / 4080
four_more n longest le = omega arith

-- the record before the place is less
pub lower_here : (d : Dict) (t : Term) (image : List ℕ) (m k : ℕ) (u : Term) → m ≡ k → raw_at d m image ≡ Ok u → term_cmp u t ≡ Less → (v : Term) × (raw_at d k image ≡ Ok v) × (term_cmp v t ≡ Less)
lower_here d t image m k u e raw less = (u, ap (λ j. raw_at d j image) (sym e) ∙ raw, less)
