-- Lists in strict order.
use Rattle.std.proofs.Common.{◌≡◌, List, [], ◌∷◌, refl, sym, ap, ◌∙◌, subst, ⊎_elim, inl, inr, Less, Equal, Greater}
use Rattle.std.specs.Prelude.{◌⊎◌}
use Rattle.std.specs.List.{AllByRecursion}
use Rattle.std.specs.List.Sorted.{IsStrictlySortedBy}
use Rattle.std.specs.declared.cmp.Ordering.{Ordering}
use Rattle.std.specs.Ordering.{ordering_reverse}
use Rattle.std.specs.Cmp.{IsTotalOrder}
use Rattle.std.proofs.lemmas.Cmp.{tied_itself}
use Rattle.term_core.specs.Bags.{In, AreDistinct}
use Rattle.term_core.specs.Index.{by_order, put_in, in_order}

-- a fact of all members, by recursion and by membership
pub all_at : {X : Type 0} (P : X → Type 0) (xs : List X) (x : X) → AllByRecursion P xs → In xs x → P x
all_at P [] x h i = absurd i
all_at P (y ∷ xs) x h i = ⊎_elim (λ e. subst P e h.0) (λ j. all_at P xs x h.1 j) i

pub all_from : {X : Type 0} (P : X → Type 0) (xs : List X) → ((x : X) → In xs x → P x) → AllByRecursion P xs
all_from P [] h = tt
all_from P (y ∷ xs) h = (h y (inl refl), all_from P xs (λ x i. h x (inr i)))

not_tied : Less ≡ Equal → ⊥
not_tied e = cc

not_turned : Less ≡ Greater → ⊥
not_turned e = cc

module _ {X : Type 0} (R : X → X → Ordering) (o : IsTotalOrder R) where
  -- what a total order forbids
  turned : (x y : X) → R x y ≡ Greater → R y x ≡ Less
  turned x y e = o.antisymm y x ∙ ap ordering_reverse e

  not_below_itself : (x : X) → R x x ≡ Less → ⊥
  not_below_itself x e = not_tied (sym e ∙ tied_itself o x)

  not_both_below : (x y : X) → R x y ≡ Less → R y x ≡ Less → ⊥
  not_both_below x y p q = not_turned (sym p ∙ o.antisymm x y ∙ ap ordering_reverse q)

  -- a list in strict order has each value once
  pub AreDistinct-ordered : (xs : List X) → IsStrictlySortedBy R xs → AreDistinct xs
  unfolding IsStrictlySortedBy
  AreDistinct-ordered [] h = tt
  AreDistinct-ordered (x ∷ xs) h = ((λ i. not_below_itself x (all_at (λ y. R x y ≡ Less) xs x h.0 i)), AreDistinct-ordered xs h.1)

  -- putting a value in keeps the members and the order
  pub from_In-put_in : (x : X) (ys : List X) (y : X) → In (put_in R x ys) y → (x ≡ y) ⊎ In ys y
  from_In-put_in x [] y i = i
  from_In-put_in x (z ∷ ys) y i =
      elim (R x z) as (λ r. In (by_order r (x ∷ z ∷ ys) (z ∷ ys) (z ∷ put_in R x ys)) y → (x ≡ y) ⊎ In (z ∷ ys) y) [
        | Less ↦ λ j. j
        | Equal ↦ λ j. inr j
        | Greater ↦ λ j. ⊎_elim (λ e. inr (inl e)) (λ k. ⊎_elim (λ e. inl e) (λ l. inr (inr l)) (from_In-put_in x ys y k)) j
      ] i

  pub ordered-put_in : (x : X) (ys : List X) → IsStrictlySortedBy R ys → IsStrictlySortedBy R (put_in R x ys)
  unfolding IsStrictlySortedBy
  ordered-put_in x [] h = (tt, tt)
  ordered-put_in x (z ∷ ys) h =
      elim (R x z) as (λ r. R x z ≡ r → IsStrictlySortedBy R (by_order r (x ∷ z ∷ ys) (z ∷ ys) (z ∷ put_in R x ys))) [
        | Less ↦ λ e. ((e, all_from (λ y. R x y ≡ Less) ys (λ y i. o.trans x z y e (all_at (λ w. R z w ≡ Less) ys y h.0 i))), h)
        | Equal ↦ λ e. h
        | Greater ↦ λ e. (
          all_from (λ y. R z y ≡ Less) (put_in R x ys) (λ y i. ⊎_elim
              (λ s. subst (λ w. R z w ≡ Less) s (turned x z e))
              (λ j. all_at (λ w. R z w ≡ Less) ys y h.0 j)
              (from_In-put_in x ys y i)),
          ordered-put_in x ys h.1,
        )
      ] refl

  -- a list put in order has its members, in order
  pub from_In-in_order : (xs : List X) (y : X) → In (in_order R xs) y → In xs y
  from_In-in_order [] y i = i
  from_In-in_order (x ∷ xs) y i = ⊎_elim (λ e. inl e) (λ j. inr (from_In-in_order xs y j)) (from_In-put_in x (in_order R xs) y i)

  pub ordered-in_order : (xs : List X) → IsStrictlySortedBy R (in_order R xs)
  unfolding IsStrictlySortedBy
  ordered-in_order [] = tt
  ordered-in_order (x ∷ xs) = ordered-put_in x (in_order R xs) (ordered-in_order xs)

  -- two lists in strict order with the same members are equal
  heads : (x y : X) (xs ys : List X) → IsStrictlySortedBy R (x ∷ xs) → IsStrictlySortedBy R (y ∷ ys) → In (y ∷ ys) x → In (x ∷ xs) y → x ≡ y
  unfolding IsStrictlySortedBy
  heads x y xs ys h g i j = ⊎_elim
      (λ e. sym e)
      (λ k. ⊎_elim
      (λ e. e)
      (λ l. absurd (not_both_below x y (all_at (λ w. R x w ≡ Less) xs y h.0 l) (all_at (λ w. R y w ≡ Less) ys x g.0 k)))
      j)
      i

  tails : (x y z : X) (xs ys : List X) → IsStrictlySortedBy R (x ∷ xs) → x ≡ y → In xs z → In (y ∷ ys) z → In ys z
  unfolding IsStrictlySortedBy
  tails x y z xs ys h s i j = ⊎_elim
      (λ e. absurd (not_below_itself x (all_at (λ w. R x w ≡ Less) xs x h.0 (subst (λ w. In xs w) (sym (s ∙ e)) i))))
      (λ k. k)
      j

  pub same_ordered : (xs ys : List X) → IsStrictlySortedBy R xs → IsStrictlySortedBy R ys → ((x : X) → In xs x → In ys x) → ((x : X) → In ys x → In xs x) → xs ≡ ys
  unfolding IsStrictlySortedBy
  same_ordered [] [] h g to from = refl
  same_ordered [] (y ∷ ys) h g to from = absurd (from y (inl refl))
  same_ordered (x ∷ xs) [] h g to from = absurd (to x (inl refl))
  same_ordered (x ∷ xs) (y ∷ ys) h g to from =
      let first : x ≡ y = heads x y xs ys h g (to x (inl refl)) (from y (inl refl)) in
      let rest : xs ≡ ys = same_ordered xs ys h.1 g.1
      (λ z i. tails x y z xs ys h first i (to z (inr i)))
      (λ z i. tails y x z ys xs g (sym first) i (from z (inr i))) in
      λ i. first i ∷ rest i

  module _ (exact : (x y : X) → R x y ≡ Equal → x ≡ y) where
    -- nothing is lost, since equal values alone tie
    pub In-put_in : (x : X) (ys : List X) (y : X) → (x ≡ y) ⊎ In ys y → In (put_in R x ys) y
    In-put_in x [] y i = i
    In-put_in x (z ∷ ys) y i =
        elim (R x z) as (λ r. R x z ≡ r → In (by_order r (x ∷ z ∷ ys) (z ∷ ys) (z ∷ put_in R x ys)) y) [
          | Less ↦ λ e. i
          | Equal ↦ λ e. ⊎_elim (λ s. inl (sym (exact x z e) ∙ s)) (λ j. j) i
          | Greater ↦ λ e. ⊎_elim
              (λ s. inr (In-put_in x ys y (inl s)))
              (λ j. ⊎_elim (λ s. inl s) (λ k. inr (In-put_in x ys y (inr k))) j)
              i
        ] refl

    pub In-in_order : (xs : List X) (y : X) → In xs y → In (in_order R xs) y
    In-in_order [] y i = i
    In-in_order (x ∷ xs) y i = In-put_in x (in_order R xs) y (⊎_elim (λ e. inl e) (λ j. inr (In-in_order xs y j)) i)
