-- What a search in a list in strict order finds.
use Rattle.std.proofs.Common.{◌≡◌, ℕ, ◌+◌, ◌<◌, List, [], ◌∷◌, length, get_or, map, refl, sym, ap, ◌∙◌, subst, ⊎_elim, arith, Option, Some, None, Ok, Err, slice_get, Less, Equal, Greater}
use Rattle.std.specs.List.Sorted.{IsStrictlySortedBy, IsSearchInRange, IsBinarySearchResult, IsSortedBy}
use Rattle.std.specs.declared.cmp.Ordering.{Ordering}
use Rattle.std.specs.Ordering.{is_lt, ordering_reverse}
use Rattle.std.specs.Cmp.{IsTotalOrder}
use Rattle.std.proofs.lemmas.Cmp.{tied_itself}
use Rattle.std.proofs.lemmas.Option.{slice_get_within, get_or_from_slice_get, slice_get-get_or}
use Rattle.std.proofs.lemmas.List.Sorted.{searchable_from_sorted}
use Rattle.term_core.specs.Bags.{In}
use Rattle.term_core.proofs.Bags.{In-map, from_In-map}
use Rattle.store_image.specs.Table.{IsFound}
use Rattle.store_image.proofs.TableLists.{In-get_or, place_of, length-mapped, get_or-mapped, rising_at, three}

pub missing : {X : Type 0} (xs : List X) (x : X) → (In xs x → ⊥) → IsFound xs x None
missing xs x h = record {
  at = λ k. ((λ e. cc), (λ e. absurd (h (subst (In xs) (get_or_from_slice_get xs k x x e) (In-get_or xs k x (slice_get_within xs k x e))))));
  none = ((λ e. h), (λ _. refl));
}

module _ {X : Type 0} (R : X → X → Ordering) (o : IsTotalOrder R) where
  not_tied : (x : X) → R x x ≡ Less → ⊥
  not_tied x e = cc (tied_itself o x)

  -- a value stands once in a list in strict order
  once : (xs : List X) (j k : ℕ) (x : X) → IsStrictlySortedBy R xs → slice_get xs j ≡ Some x → slice_get xs k ≡ Some x → j ≡ k
  once xs j k x h p q =
      let a : get_or xs j x ≡ x = get_or_from_slice_get xs j x x p in
      let b : get_or xs k x ≡ x = get_or_from_slice_get xs k x x q in
      let u : j < length xs = slice_get_within xs j x p in
      let v : k < length xs = slice_get_within xs k x q in
      ⊎_elim
      (λ l. absurd (not_tied x (sym (λ i. R (a i) (b i)) ∙ rising_at R xs j k x h l v)))
      (λ m. ⊎_elim (λ e. e) (λ g. absurd (not_tied x (sym (λ i. R (b i) (a i)) ∙ rising_at R xs k j x h g u))) m)
      (three j k)

  pub found : (xs : List X) (x : X) (k : ℕ) → IsStrictlySortedBy R xs → slice_get xs k ≡ Some x → IsFound xs x (Some k)
  found xs x k h e = record {
    at = λ j. (
      (λ q. let s : k ≡ j = cc in subst (λ n. slice_get xs n ≡ Some x) s e),
      (λ q. ap Some (once xs k j x h e q)),
    );
    none = ((λ q. cc), (λ q. absurd (q (subst (In xs) (get_or_from_slice_get xs k x x e) (In-get_or xs k x (slice_get_within xs k x e))))));
  }

  module _ {Y : Type 0} (exact : (x y : X) → R x y ≡ Equal → x ≡ y) (key : Y → X) where
    falls_not : (ys : List Y) → IsStrictlySortedBy R (map key ys) → IsSortedBy (λ a b. is_lt (R (key a) (key b))) ys
    falls_not ys h k d low high =
        let n : length (map key ys) ≡ length ys = length-mapped key ys in
        let l : R (get_or (map key ys) k (key d)) (get_or (map key ys) (k + 1) (key d)) ≡ Less = rising_at R (map key ys) k (k + 1) (key d) h (omega arith) (omega arith) in
        let a = get_or-mapped key ys k d (key d) (omega arith) in
        let b = get_or-mapped key ys (k + 1) d (key d) (omega arith) in
        let m : R (key (get_or ys k d)) (key (get_or ys (k + 1) d)) ≡ Less = sym (λ i. R (a i) (b i)) ∙ l in
        ap is_lt (o.antisymm (key (get_or ys (k + 1) d)) (key (get_or ys k d)) ∙ ap ordering_reverse m)

    ok_from : (ys : List Y) (x : X) (k : ℕ) → k < length ys → ((d : Y) → R (key (get_or ys k d)) x ≡ Equal) → (d : Y) → slice_get (map key ys) k ≡ Some x
    ok_from ys x k w p d =
        let n : length (map key ys) ≡ length ys = length-mapped key ys in
        slice_get-get_or (map key ys) k x (omega arith) ∙ ap Some (get_or-mapped key ys k d x w ∙ exact (key (get_or ys k d)) x (p d))

    -- a search that succeeds ends at the value
    pub at_ok : (ys : List Y) (x : X) (k : ℕ) → IsSearchInRange (Ok k) (length ys) → IsBinarySearchResult (λ y. R (key y) x) ys (Ok k) → slice_get (map key ys) k ≡ Some x
    at_ok [] x k w p = absurd (omega arith)
    at_ok (y ∷ ys) x k w p = ok_from (y ∷ ys) x k w p y

    not_above : (x : X) → R x x ≡ Greater → ⊥
    not_above x e = cc (tied_itself o x)

    err_from : (ys : List Y) (x : X) (k : ℕ) → IsStrictlySortedBy R (map key ys) → IsBinarySearchResult (λ y. R (key y) x) ys (Err k) → In (map key ys) x → (d : Y) → ⊥
    err_from ys x k h p i d =
        let a = place_of (map key ys) x i in
        let n : length (map key ys) ≡ length ys = length-mapped key ys in
        let w : a.k < length (map key ys) = a.within in
        let parted = p (searchable_from_sorted o key ys x (falls_not ys h)) in
        let is : key (get_or ys a.k d) ≡ x = sym (get_or-mapped key ys a.k d (key d) (omega arith)) ∙ a.is (key d) in
        ⊎_elim
        (λ l. not_tied x (sym (ap (λ y. R y x) is) ∙ parted.0 a.k d (omega arith) l))
        (λ m. not_above x (sym (ap (λ y. R y x) is) ∙ parted.1 a.k d (⊎_elim (λ e. omega arith) (λ g. omega arith) m) (omega arith)))
        (three a.k k)

    -- a search that fails was for a value that is not there
    pub at_err : (ys : List Y) (x : X) (k : ℕ) → IsStrictlySortedBy R (map key ys) → IsBinarySearchResult (λ y. R (key y) x) ys (Err k) → In (map key ys) x → ⊥
    at_err [] x k h p i = absurd i
    at_err (y ∷ ys) x k h p i = err_from (y ∷ ys) x k h p i y

slice_get-map_to : {X Y : Type 0} (f : X → Y) (g : Y → X) → ((x : X) → g (f x) ≡ x) → (xs : List X) (y : Y) (k : ℕ) → slice_get (map f xs) k ≡ Some y → slice_get xs k ≡ Some (g y)
slice_get-map_to f g h xs y k e =
    let n : length (map f xs) ≡ length xs = length-mapped f xs in
    let w : k < length (map f xs) = slice_get_within (map f xs) k y e in
    let is : f (get_or xs k (g y)) ≡ y = sym (get_or-mapped f xs k (g y) y (omega arith)) ∙ get_or_from_slice_get (map f xs) k y y e in
    slice_get-get_or xs k (g y) (omega arith) ∙ ap Some (sym (h (get_or xs k (g y))) ∙ ap g is)

slice_get-map_from : {X Y : Type 0} (f : X → Y) (g : Y → X) → ((y : Y) → f (g y) ≡ y) → (xs : List X) (y : Y) (k : ℕ) → slice_get xs k ≡ Some (g y) → slice_get (map f xs) k ≡ Some y
slice_get-map_from f g h xs y k e =
    let n : length (map f xs) ≡ length xs = length-mapped f xs in
    let w : k < length xs = slice_get_within xs k (g y) e in
    slice_get-get_or (map f xs) k y (omega arith) ∙ ap Some (get_or-mapped f xs k (g y) y w ∙ ap f (get_or_from_slice_get xs k (g y) (g y) e) ∙ h y)

-- what was found of a list is found of the list through a change that can be undone
pub found-map : {X Y : Type 0} (f : X → Y) (g : Y → X) → ((x : X) → g (f x) ≡ x) → ((y : Y) → f (g y) ≡ y) → (xs : List X) (y : Y) (r : Option ℕ) → IsFound xs (g y) r → IsFound (map f xs) y r
found-map f g h i xs y r s = record {
  at = λ k. ((λ e. slice_get-map_from f g i xs y k ((s.at k).0 e)), (λ e. (s.at k).1 (slice_get-map_to f g h xs y k e)));
  none = (
    (λ e m. let w = from_In-map f xs y m in s.none.0 e (subst (In xs) (sym (h w.0) ∙ ap g w.2) w.1)),
    (λ e. s.none.1 (λ m. e (subst (In (map f xs)) (i y) (In-map f xs (g y) m)))),
  );
}
