-- Places of keys in a list in strict order.
use Rattle.std.proofs.Common.{◌≡◌, ℕ, ◌+◌, ◌-◌, ◌<◌, ◌≤◌, List, length, get_or, map, refl, sym, ap, subst, ◌∙◌, ⊎_elim, arith, Option, Some, None, slice_get, count_by, Less, false, true}
use Rattle.std.specs.Prelude.{option_map, is_some, ◌↔◌, Contains, Bool, ◌==◌, ◌&&◌}
use Rattle.std.proofs.lemmas.Bool.{eq-eqb}
use Rattle.std.proofs.lemmas.Bool.Decides.{nat_tests}
use Rattle.std.specs.List.Sorted.{IsStrictlySortedBy}
use Rattle.std.specs.Ordering.{is_lt, ordering_reverse}
use Rattle.std.proofs.lemmas.Cmp.{tied_itself}
use Rattle.std.proofs.lemmas.Option.{slice_get_within, get_or_from_slice_get, slice_get-map}
use Rattle.term_core.specs.declared.pattern.IdTriple.{IdTriple}
use Rattle.term_core.specs.Ids.{id_cmp}
use Rattle.term_core.proofs.IdOrder.{ids_total}
use Rattle.term_core.specs.Index.{Index, by_subject}
use Rattle.term_core.proofs.Ranked.{In-slice_get, slice_get-In}
use Rattle.btree_scan.proofs.Keys.{counted}
use Rattle.store_image.specs.Table.{IsFound}
use Rattle.store_image.specs.Keys.{index_numbered, key_in, ids_of_key, keys_by}
use Rattle.store_image.proofs.Keys.{undone, redone, In-keys_by, from_In-keys_by}
use Rattle.store_image.proofs.TableFound.{missing, found, found-map}
use Rattle.store_image.proofs.TableLists.{In-from_Contains, Contains-from_In, rising_at, three}
use Rattle.triple_store.specs.declared.range.Range.{Range}
use Rattle.triple_store.specs.Ranges.{triples_at}
use Rattle.triple_store.specs.Stretches.{keys_at}
use Rattle.triple_store.proofs.Stretches.{stretch, get-stretch, from_In-stretch, rising-stretch}

module _ (es : List IdTriple) (sorted : IsStrictlySortedBy id_cmp es) where
  rises : (j k : ℕ) (x y : IdTriple) → slice_get es j ≡ Some x → slice_get es k ≡ Some y → j < k → id_cmp x y ≡ Less
  rises j k x y at_j at_k lt =
      let a : get_or es j x ≡ x = get_or_from_slice_get es j x x at_j in
      let b : get_or es k x ≡ y = get_or_from_slice_get es k y x at_k in
      subst (λ v. id_cmp x v ≡ Less) b (subst (λ u. id_cmp u (get_or es k x) ≡ Less) a (rising_at id_cmp es j k x sorted lt (slice_get_within es k y at_k)))

  not_less : (j k : ℕ) (x y : IdTriple) → slice_get es j ≡ Some x → slice_get es k ≡ Some y → j ≤ k → is_lt (id_cmp y x) ≡ false
  not_less j k x y at_j at_k le = ⊎_elim
      (λ lt. ap is_lt (ids_total.antisymm y x ∙ ap ordering_reverse (rises j k x y at_j at_k lt)))
      (λ more. ⊎_elim
      (λ e. let f : slice_get es j ≡ slice_get es k = ap (slice_get es) e in let g : x ≡ y = cc in subst (λ z. is_lt (id_cmp z x) ≡ false) g (ap is_lt (tied_itself ids_total x)))
      (λ gt. absurd (omega arith))
      more)
      (three j k)

  -- so many keys are below the key of a place
  pub place_is : (j : ℕ) (key : IdTriple) → slice_get es j ≡ Some key → j ≡ count_by (λ e. is_lt (id_cmp e key)) es
  place_is j key at =
      let within : j < length es = slice_get_within es j key at in
      counted (λ e. is_lt (id_cmp e key)) es j record {
        below = λ k x at_k lt. ap is_lt (rises k j x key at_k at lt);
        above = λ k x at_k le. not_less j k key x at at_k le;
      } (omega arith)

  -- a key is not there where the number of keys below it is the number of all
  pub none_past : (n : ℕ) (key : IdTriple) → n ≡ count_by (λ e. is_lt (id_cmp e key)) es → length es ≤ n → IsFound es key None
  none_past n key is past = missing es key (λ i.
      let w = slice_get-In es key i in
      let within : w.0 < length es = slice_get_within es w.0 key w.1 in
      let same : w.0 ≡ n = place_is w.0 key w.1 ∙ sym is in
      omega arith)

  -- or where another key stands at that place
  pub none_there : (n : ℕ) (key other : IdTriple) → n ≡ count_by (λ e. is_lt (id_cmp e key)) es → slice_get es n ≡ Some other → (other ≡ key → ⊥) → IsFound es key None
  none_there n key other is at differs = missing es key (λ i.
      let w = slice_get-In es key i in
      let same : w.0 ≡ n = place_is w.0 key w.1 ∙ sym is in
      let f : slice_get es w.0 ≡ slice_get es n = ap (slice_get es) same in
      let g : Some other ≡ Some key = sym at ∙ sym f ∙ w.1 in
      differs (cc))

  pub found_at : (n : ℕ) (key : IdTriple) → slice_get es n ≡ Some key → IsFound es key (Some n)
  found_at n key at = found id_cmp ids_total es key n sorted at

  -- a key that is not in the list is not in a stretch of it
  pub none_within : (m n : ℕ) (key : IdTriple) → IsFound es key None → IsFound (stretch m n es) key None
  none_within m n key f = missing (stretch m n es) key (λ i. let w = from_In-stretch m n es key i in f.none.0 refl (In-slice_get es w.place key w.is))

  pub found_within : (m n k place : ℕ) (key : IdTriple) → IsFound es key (Some place) → m + k ≡ place → place < m + n → IsFound (stretch m n es) key (Some k)
  found_within m n k place key f same before =
      let at : slice_get es place ≡ Some key = (f.at place).0 refl in
      found id_cmp ids_total (stretch m n es) key k (rising-stretch id_cmp m n es sorted) (get-stretch m n k es (omega arith) ∙ ap (slice_get es) same ∙ at)

  pub none_outside : (m n place : ℕ) (key : IdTriple) → IsFound es key (Some place) → (m ≤ place → place < m + n → ⊥) → IsFound (stretch m n es) key None
  none_outside m n place key f outside = missing (stretch m n es) key (λ i.
      let w = from_In-stretch m n es key i in
      let e : Some place ≡ Some w.place = (f.at w.place).1 w.is in
      let same : w.place ≡ place = cc in
      outside (subst (λ p. m ≤ p) same w.from) (subst (λ p. p < m + n) same w.before))

-- what was found by the keys of an order is found of their triples
pub found_by_key : (x : Index) (keys : List IdTriple) (t : IdTriple) (place : Option ℕ) → IsFound keys (key_in x t) place → IsFound (map (ids_of_key x) keys) t place
found_by_key x keys t place f = found-map (ids_of_key x) (key_in x) (redone x) (undone x) keys t place f

-- the triple of the key at a place
pub triple_there : (x : Index) (keys : List IdTriple) (k : ℕ) (t : IdTriple) → slice_get keys k ≡ Some (key_in x t) → slice_get (map (ids_of_key x) keys) k ≡ Some t
triple_there x keys k t at = slice_get-map (ids_of_key x) keys k ∙ ap (option_map (ids_of_key x)) at ∙ ap Some (undone x t)

-- a place in a list as a place in a range of it
pub place_there : (r : Range) (ids : List IdTriple) (t : IdTriple) (place : ℕ) (result : Option ℕ) → IsStrictlySortedBy id_cmp (keys_by (index_numbered r.order) ids) → r.first ≤ r.end
    → IsFound (keys_by (index_numbered r.order) ids) (key_in (index_numbered r.order) t) (Some place)
    → ((k : ℕ) → result ≡ Some k → (r.first + k ≡ place) × (place < r.end)) → (result ≡ None → r.first ≤ place → place < r.end → ⊥)
    → IsFound (triples_at ids r) t result
place_there r ids t place (Some k) sorted rises f at none =
    let x = index_numbered r.order in
    let here = at k refl in
    found_by_key x (keys_at ids r) t (Some k) (found_within (keys_by x ids) sorted r.first (r.end - r.first) k place (key_in x t) f here.0 (omega (arith, here.1)))
place_there r ids t place None sorted rises f at none =
    let x = index_numbered r.order in
    found_by_key x (keys_at ids r) t None (none_outside (keys_by x ids) sorted r.first (r.end - r.first) place (key_in x t) f (λ low high. none refl low (omega arith)))

pub nowhere : (r : Range) (ids : List IdTriple) (t : IdTriple) → IsStrictlySortedBy id_cmp (keys_by (index_numbered r.order) ids) → IsFound (keys_by (index_numbered r.order) ids) (key_in (index_numbered r.order) t) None
    → IsFound (triples_at ids r) t None
nowhere r ids t sorted f =
    let x = index_numbered r.order in
    found_by_key x (keys_at ids r) t None (none_within (keys_by x ids) sorted r.first (r.end - r.first) (key_in x t) f)

-- the triple at a place of a range
pub triple_at_place : (r : Range) (ids : List IdTriple) (t : IdTriple) (place : ℕ) → place < r.end - r.first
    → slice_get (keys_by (index_numbered r.order) ids) (r.first + place) ≡ Some (key_in (index_numbered r.order) t) → slice_get (triples_at ids r) place ≡ Some t
triple_at_place r ids t place lt at =
    triple_there (index_numbered r.order) (keys_at ids r) place t (get-stretch r.first (r.end - r.first) place (keys_by (index_numbered r.order) ids) lt ∙ at)

-- a triple is among the data where its key is in the list by subject
pub had : (ids : List IdTriple) (t : IdTriple) (r : Option ℕ) → IsFound (keys_by by_subject ids) t r → (is_some r ≡ true) ↔ Contains ids t
had ids t (Some k) f = (λ e. Contains-from_In ids t (from_In-keys_by by_subject ids t (In-slice_get (keys_by by_subject ids) k t ((f.at k).0 refl))), λ m. refl)
had ids t None f = (λ e. cc, λ m. absurd (f.none.0 refl (In-keys_by by_subject ids t (In-from_Contains ids t m))))

-- keys of the same ids are the same
all_true : (a b c : Bool) → (a && (b && c)) ≡ true → (a ≡ true) × ((b ≡ true) × (c ≡ true))
all_true true true true e = (refl, (refl, refl))
all_true true true false e = cc
all_true true false c e = cc
all_true false b c e = cc

pub same_number : (j k : ℕ) → (j == k) ≡ true → j ≡ k
same_number j k e = grind (arith, nat_tests)

pub same_key : (a b : IdTriple) → (a.s == b.s && (a.p == b.p && a.o == b.o)) ≡ true → a ≡ b
same_key a b e =
    let t = all_true (a.s == b.s) (a.p == b.p) (a.o == b.o) e in
    λ i. record { s = same_number a.s b.s t.0 i; p = same_number a.p b.p t.1.0 i; o = same_number a.o b.o t.1.1 i }

key_itself : (a : IdTriple) → (a.s == a.s && (a.p == a.p && a.o == a.o)) ≡ true
key_itself a = λ i. eq-eqb a.s a.s refl i && (eq-eqb a.p a.p refl i && eq-eqb a.o a.o refl i)

pub other_key : (a b : IdTriple) → (a.s == b.s && (a.p == b.p && a.o == b.o)) ≡ false → a ≡ b → ⊥
other_key a b e same =
    let f : (a.s == b.s && (a.p == b.p && a.o == b.o)) ≡ true = subst (λ k. (a.s == k.s && (a.p == k.p && a.o == k.o)) ≡ true) same (key_itself a) in
    cc

-- a place that was found is one
pub some_place : (r : Option ℕ) (b : Bool) (P : ℕ → Type 0) → b ≡ is_some r → b ≡ true → ((place : ℕ) → r ≡ Some place → P place) → (place : ℕ) × P place
some_place (Some k) b P is e at = (k, at k refl)
some_place None b P is e at = cc
