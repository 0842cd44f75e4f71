-- Keys of triples, and the triples of keys.
use Rattle.std.proofs.Common.{◌≡◌, ◌≤◌, ◌↔◌, ◌++◌, List, [], ◌∷◌, length, map, refl, sym, ap, ◌∙◌, subst, ⊎_elim, inl, inr, arith, Contains, length-append}
use Rattle.std.specs.List.Sorted.{IsStrictlySortedBy}
use Rattle.term_core.specs.declared.pattern.IdTriple.{IdTriple}
use Rattle.term_core.specs.Ids.{id_cmp}
use Rattle.term_core.specs.Bags.{In, AreDistinct}
use Rattle.term_core.proofs.Bags.{In-map, from_In-map, Split, split, In-middle, AreDistinct-map}
use Rattle.term_core.proofs.IdOrder.{ids_total, same_ids}
use Rattle.term_core.specs.Index.{Index, by_subject, by_predicate, by_object, in_order}
use Rattle.term_core.proofs.Orders.{AreDistinct-ordered, ordered-in_order, from_In-in_order, In-in_order, same_ordered}
use Rattle.store_image.specs.Keys.{key_in, ids_of_key, keys_by}
use Rattle.store_image.proofs.TableLists.{In-from_Contains, Contains-from_In, length-mapped}

-- a key's triple has that key, and the other way round
pub undone : (x : Index) (ids : IdTriple) → ids_of_key x (key_in x ids) ≡ ids
undone by_subject ids = refl
undone by_predicate ids = refl
undone by_object ids = refl

pub redone : (x : Index) (key : IdTriple) → key_in x (ids_of_key x key) ≡ key
redone by_subject key = refl
redone by_predicate key = refl
redone by_object key = refl

-- a list without repeats is no longer than a list with all of its members
pub distinct_fewer : {X : Type 0} (xs ys : List X) → AreDistinct xs → ((x : X) → In xs x → In ys x) → length xs ≤ length ys
distinct_fewer [] ys d to = omega arith
distinct_fewer (x ∷ xs) ys d to =
    let s : Split ys x = split ys x (to x (inl refl)) in
    let rest : length xs ≤ length (s.front ++ s.back) = distinct_fewer xs (s.front ++ s.back) d.1
    (λ y i. ⊎_elim (λ q. absurd (d.0 (subst (λ w. In xs w) (sym q) i))) (λ j. j) (In-middle s.front s.back x y (subst (λ w. In w y) s.is (to y (inr i))))) in
    omega (arith, ap length s.is, length-append s.front (x ∷ s.back), length-append s.front s.back)

module _ (x : Index) (ids : List IdTriple) where
  -- the keys are in order, one of each triple, and no others
  pub sorted-keys_by : IsStrictlySortedBy id_cmp (keys_by x ids)
  unfolding keys_by
  sorted-keys_by = ordered-in_order id_cmp ids_total (map (key_in x) ids)

  pub In-keys_by : (i : IdTriple) → In ids i → In (keys_by x ids) (key_in x i)
  unfolding keys_by
  In-keys_by i m = In-in_order id_cmp ids_total same_ids (map (key_in x) ids) (key_in x i) (In-map (key_in x) ids i m)

  pub from_In-keys_by : (key : IdTriple) → In (keys_by x ids) key → In ids (ids_of_key x key)
  unfolding keys_by
  from_In-keys_by key m =
      let w = from_In-map (key_in x) ids key (from_In-in_order id_cmp ids_total (map (key_in x) ids) key m) in
      subst (In ids) (sym (undone x w.0) ∙ ap (ids_of_key x) w.2) w.1

  -- what is in order and has the keys of all triples and no others
  pub keys_are : (keys mapped : List IdTriple) → mapped ≡ map (key_in x) ids → IsStrictlySortedBy id_cmp keys → ((k : IdTriple) → Contains keys k ↔ Contains mapped k) → keys ≡ keys_by x ids
  unfolding keys_by
  keys_are keys mapped is sorted same = same_ordered id_cmp ids_total keys (in_order id_cmp (map (key_in x) ids)) sorted (ordered-in_order id_cmp ids_total (map (key_in x) ids))
      (λ k i. In-in_order id_cmp ids_total same_ids (map (key_in x) ids) k (subst (λ l. In l k) is (In-from_Contains mapped k ((same k).0 (Contains-from_In keys k i)))))
      (λ k i. In-from_Contains keys k ((same k).1 (Contains-from_In mapped k (subst (λ l. In l k) (sym is) (from_In-in_order id_cmp ids_total (map (key_in x) ids) k i)))))

  -- triples that stand once have as many keys
  pub length-keys_by : IsStrictlySortedBy id_cmp ids → length (keys_by x ids) ≡ length ids
  length-keys_by h =
      let mapped = map (key_in x) ids in
      let apart : AreDistinct mapped = AreDistinct-map (key_in x) ids (AreDistinct-ordered id_cmp ids_total ids h) (λ a b i j e. sym (undone x a) ∙ ap (ids_of_key x) e ∙ undone x b) in
      let few : length (keys_by x ids) ≤ length mapped = distinct_fewer (keys_by x ids) mapped (AreDistinct-ordered id_cmp ids_total (keys_by x ids) sorted-keys_by)
      (λ k i. subst (In mapped) (redone x k) (In-map (key_in x) ids (ids_of_key x k) (from_In-keys_by k i))) in
      let many : length mapped ≤ length (keys_by x ids) = distinct_fewer mapped (keys_by x ids) apart
      (λ k i. let w = from_In-map (key_in x) ids k i in subst (In (keys_by x ids)) w.2 (In-keys_by w.0 w.1)) in
      omega (arith, length-mapped (key_in x) ids)

-- triples in order are their own keys
pub keys_by_subject : (ids : List IdTriple) → IsStrictlySortedBy id_cmp ids → keys_by by_subject ids ≡ ids
keys_by_subject ids h = same_ordered id_cmp ids_total (keys_by by_subject ids) ids (sorted-keys_by by_subject ids) h
    (λ k i. from_In-keys_by by_subject ids k i)
    (λ k i. In-keys_by by_subject ids k i)
