-- What `distinct` keeps: each value of a list once, at its first place.
use Rattle.std.proofs.Common.{◌≡◌, Bool, true, false, cond, List, [], ◌∷◌, ◌++◌, refl, sym, ap, ◌∙◌, ⊎_elim, inl, inr}
use Rattle.std.specs.Prelude.{filter, not, ◌&&◌}
use Rattle.term_core.specs.Bags.{In, AreDistinct, distinct, is_new}
use Rattle.term_core.proofs.Bags.{In-filter, from_In-filter, AreDistinct-filter}

not_and_not : (b : Bool) → not b ≡ true → b ≡ true → ⊥
not_and_not true e d = cc
not_and_not false e d = cc

filter-append : {X : Type 0} (p : X → Bool) (xs ys : List X) → filter p (xs ++ ys) ≡ filter p xs ++ filter p ys
filter-append p [] ys = refl
filter-append p (x ∷ xs) ys =
    elim (p x) as (λ b. cond b (x ∷ filter p (xs ++ ys)) (filter p (xs ++ ys)) ≡ cond b (x ∷ filter p xs) (filter p xs) ++ filter p ys) [
      | true ↦ ap (λ w. x ∷ w) (filter-append p xs ys)
      | false ↦ filter-append p xs ys
    ]

filter-filter : {X : Type 0} (p q : X → Bool) (xs : List X) → filter p (filter q xs) ≡ filter (λ x. p x && q x) xs
filter-filter p q [] = refl
filter-filter p q (x ∷ xs) =
    elim (q x) as (λ b. filter p (cond b (x ∷ filter q xs) (filter q xs)) ≡ cond (p x && b) (x ∷ filter (λ y. p y && q y) xs) (filter (λ y. p y && q y) xs)) [
      | true ↦ elim (p x) as (λ c. cond c (x ∷ filter p (filter q xs)) (filter p (filter q xs)) ≡ cond (c && true) (x ∷ filter (λ y. p y && q y) xs) (filter (λ y. p y && q y) xs)) [
        | true ↦ ap (λ w. x ∷ w) (filter-filter p q xs)
        | false ↦ filter-filter p q xs
      ]
      | false ↦ elim (p x) as (λ c. filter p (filter q xs) ≡ cond (c && false) (x ∷ filter (λ y. p y && q y) xs) (filter (λ y. p y && q y) xs)) [
        | true ↦ filter-filter p q xs
        | false ↦ filter-filter p q xs
      ]
    ]

filter_all : {X : Type 0} (xs : List X) → filter (λ (x : X). true) xs ≡ xs
filter_all [] = refl
filter_all (x ∷ xs) = ap (λ w. x ∷ w) (filter_all xs)

-- over a test of equality
module _ {X : Type 0} (same : X → X → Bool) (exact : (a b : X) → same a b ≡ true → a ≡ b) (itself : (a : X) → same a a ≡ true) where
  -- what is kept was there
  pub from_In-distinct : (xs : List X) (x : X) → In (distinct same xs) x → In xs x
  from_In-distinct [] x i = absurd i
  from_In-distinct (y ∷ xs) x i = ⊎_elim (λ e. inl e) (λ j. inr (from_In-distinct xs x (from_In-filter _ (distinct same xs) x j).0)) i

  -- what was there is kept
  pub In-distinct : (xs : List X) (x : X) → In xs x → In (distinct same xs) x
  In-distinct [] x i = absurd i
  In-distinct (y ∷ xs) x i =
      ⊎_elim (λ e. inl e) (λ j. elim (same y x) as (λ b. same y x ≡ b → In (y ∷ filter (λ z. not (same y z)) (distinct same xs)) x) [
        | true ↦ λ e. inl (exact y x e)
        | false ↦ λ e. inr (In-filter (λ z. not (same y z)) (distinct same xs) x (In-distinct xs x j) (ap not e))
      ] refl) i

  -- nothing is kept twice
  pub AreDistinct-distinct : (xs : List X) → AreDistinct (distinct same xs)
  AreDistinct-distinct [] = tt
  AreDistinct-distinct (y ∷ xs) = (
    λ i. not_and_not (same y y) (from_In-filter (λ z. not (same y z)) (distinct same xs) y i).1 (itself y),
    AreDistinct-filter (λ z. not (same y z)) (distinct same xs) (AreDistinct-distinct xs),
  )

-- what stands behind adds what does not stand in front
pub distinct-append : {X : Type 0} (same : X → X → Bool) (xs ys : List X) → distinct same (xs ++ ys) ≡ distinct same xs ++ filter (is_new same xs) (distinct same ys)
distinct-append same [] ys = sym (filter_all (distinct same ys))
distinct-append same (x ∷ xs) ys =
    ap (λ w. x ∷ filter (λ y. not (same x y)) w) (distinct-append same xs ys)
    ∙ ap (λ w. x ∷ w) (filter-append (λ y. not (same x y)) (distinct same xs) (filter (is_new same xs) (distinct same ys)))
    ∙ ap (λ w. x ∷ (filter (λ y. not (same x y)) (distinct same xs) ++ w)) (filter-filter (λ y. not (same x y)) (is_new same xs) (distinct same ys))
