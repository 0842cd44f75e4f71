-- The same bag is the same list in some other order.
use Rattle.std.proofs.Common.{◌≡◌, ℕ, ◌+◌, Bool, true, false, cond, List, [], ◌∷◌, ◌++◌, refl, sym, ap, ◌∙◌, subst, ⊎_elim, inl, inr, arith}
use Rattle.std.specs.Prelude.{◌&&◌}
use Rattle.std.specs.FinMap as finmap
use Rattle.std.specs.List.Sorted.{IsPermutation}
use Rattle.std.specs.List.{sum_by}
use Rattle.std.proofs.lemmas.List.Sorted.{IsPermutation-refl, IsPermutation-sym, IsPermutation-trans, IsPermutation-cons, IsPermutation-middle, sum_by-IsPermutation}
use Rattle.std.proofs.lemmas.List.Sums.{sum_by-cons}
use Rattle.term_core.specs.declared.term.Term.{Term}
use Rattle.term_core.specs.Bags.{total, SameBag, In}
use Rattle.term_core.specs.Mappings.{Name, Row, same_name, same_term}
use Rattle.term_core.proofs.Bags.{Split, split, total-middle}
use Rattle.term_core.proofs.Merges.{names_same, name_itself, terms_same, term_itself, both_true, and_true}

-- a list's weight is std's sum
total-sum_by : {X : Type 0} (f : X → ℕ) (xs : List X) → total f xs ≡ sum_by f xs
total-sum_by f [] = refl
total-sum_by f (x ∷ xs) = ap (λ n. f x + n) (total-sum_by f xs) ∙ sym (sum_by-cons f x xs)

-- a list in another order is the same bag
pub bag_from_permutation : {X : Type 0} (xs ys : List X) → IsPermutation xs ys → SameBag xs ys
bag_from_permutation xs ys h = record { by = λ f. total-sum_by f xs ∙ sym (sum_by-IsPermutation f xs ys h) ∙ sym (total-sum_by f ys) }

-- a list without weight is empty
no_weight : {X : Type 0} (ys : List X) → 0 ≡ total (λ (y : X). 1) ys → ys ≡ []
no_weight [] e = refl
no_weight (y ∷ ys) e = absurd (omega arith)

-- over a test of equality
module _ {X : Type 0} (same : X → X → Bool) (exact : (a b : X) → same a b ≡ true → a ≡ b) (itself : (a : X) → same a a ≡ true) where
  -- what counts at least once is an element
  pub counted : (x : X) (ys : List X) → (n : ℕ) → 1 + n ≡ total (λ y. cond (same x y) 1 0) ys → In ys x
  counted x [] n e = absurd (omega arith)
  counted x (y ∷ ys) n e =
      elim (same x y) as (λ b. same x y ≡ b → 1 + n ≡ cond b 1 0 + total (λ y. cond (same x y) 1 0) ys → In (y ∷ ys) x) [
        | true ↦ λ s _. inl (sym (exact x y s))
        | false ↦ λ s h. inr (counted x ys n (omega (arith, h)))
      ] refl e

  -- an element counts at least once
  pub weighed : (xs : List X) (x : X) → In xs x → (n : ℕ) × (total (λ y. cond (same x y) 1 0) xs ≡ 1 + n)
  weighed [] x i = absurd i
  weighed (z ∷ xs) x i =
      ⊎_elim
      (λ e. (total (λ y. cond (same x y) 1 0) xs, ap (λ b. cond b 1 0 + total (λ y. cond (same x y) 1 0) xs) (ap (same x) e ∙ itself x)))
      (λ j. let r = weighed xs x j in (cond (same x z) 1 0 + r.0, omega (arith, r.1))) i

  -- the same bag has the same elements
  pub In-bag : (xs ys : List X) (x : X) → SameBag xs ys → In xs x → In ys x
  In-bag xs ys x h i = let r = weighed xs x i in counted x ys r.0 (sym r.1 ∙ h.by (λ y. cond (same x y) 1 0))

  -- the same bag is the list in another order
  pub permutation_from_bag : (xs ys : List X) → SameBag xs ys → IsPermutation xs ys
  permutation_from_bag [] ys h = subst (IsPermutation []) (sym (no_weight ys (h.by (λ y. 1)))) (IsPermutation-refl [])
  permutation_from_bag (x ∷ xs) ys h =
      let one : 1 + total (λ y. cond (same x y) 1 0) xs ≡ total (λ y. cond (same x y) 1 0) ys =
      ap (λ b. cond b 1 0 + total (λ y. cond (same x y) 1 0) xs) (sym (itself x)) ∙ h.by (λ y. cond (same x y) 1 0) in
      let s : Split ys x = split ys x (counted x ys _ one) in
      let rest : SameBag xs (s.front ++ s.back) = record {
        by = λ f.
            let e : f x + total f xs ≡ f x + total f (s.front ++ s.back) = h.by f ∙ ap (total f) s.is ∙ total-middle f s.front s.back x in omega arith;
      } in
      subst (IsPermutation (x ∷ xs)) (sym s.is)
      (IsPermutation-trans _ (x ∷ (s.front ++ s.back)) _ (IsPermutation-cons x _ _ (permutation_from_bag xs (s.front ++ s.back) rest))
      (IsPermutation-sym _ _ (IsPermutation-middle s.front x s.back)))

-- the test of equality of entries
same_entries : List (Name × Term) → List (Name × Term) → Bool
same_entries [] [] = true
same_entries [] (f ∷ fs) = false
same_entries (e ∷ es) [] = false
same_entries (e ∷ es) (f ∷ fs) = (same_name e.0 f.0 && same_term e.1 f.1) && same_entries es fs

-- entries that pass the test are equal
entries_same : (es fs : List (Name × Term)) → same_entries es fs ≡ true → es ≡ fs
unfolding same_entries
entries_same [] [] h = refl
entries_same [] (f ∷ fs) h = cc
entries_same (e ∷ es) [] h = cc
entries_same (e ∷ es) (f ∷ fs) h =
    let a = both_true _ _ h in
    let b = both_true _ _ a.0 in
    let p = names_same e.0 f.0 b.0 in let q = terms_same e.1 f.1 b.1 in let r = entries_same es fs a.1 in
    λ i. (p i, q i) ∷ r i

-- entries pass the test with themselves
entries_itself : (es : List (Name × Term)) → same_entries es es ≡ true
unfolding same_entries
entries_itself [] = refl
entries_itself (e ∷ es) = and_true _ _ (and_true _ _ (name_itself e.0) (term_itself e.1)) (entries_itself es)

-- the same bag of rows is the list in another order
pub rows_permuted : (xs ys : List Row) → SameBag xs ys → IsPermutation xs ys
rows_permuted = permutation_from_bag (λ a b. same_entries (finmap.entries a) (finmap.entries b)) (λ a b e. finmap.same_entries_map a b (entries_same _ _ e)) (λ a. entries_itself (finmap.entries a))
