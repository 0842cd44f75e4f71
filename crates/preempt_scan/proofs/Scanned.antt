-- What a scan gives, by the places of its keys.
use Rattle.std.proofs.Common.{◌≡◌, ℕ, ◌+◌, ◌-◌, ◌<◌, ◌≤◌, List, length, map, refl, sym, ap, subst, ◌∙◌, ⊎_elim, arith, Some, None, slice_get, count_by, Bool, true, false}
use Rattle.std.specs.List.Sorted.{IsStrictlySortedBy}
use Rattle.std.specs.Ordering.{is_lt, is_eq}
use Rattle.term_core.specs.declared.pattern.IdTriple.{IdTriple}
use Rattle.term_core.specs.Bags.{In}
use Rattle.term_core.specs.Ids.{id_cmp}
use Rattle.term_core.specs.Index.{Index}
use Rattle.term_core.proofs.Bags.{In-filter, from_In-filter, from_In-map}
use Rattle.term_core.proofs.Ranked.{In-slice_get}
use Rattle.btree_scan.specs.declared.prefix.Prefix.{Prefix}
use Rattle.btree_scan.specs.Cuts.{prefix_cmp, stands_before}
use Rattle.store_image.specs.Table.{IsFound}
use Rattle.store_image.specs.Keys.{index_numbered, key_in, ids_of_key, keys_by}
use Rattle.store_image.proofs.Keys.{redone, sorted-keys_by}
use Rattle.store_image.proofs.TableLists.{length-mapped, three}
use Rattle.triple_store.proofs.Places.{place_is, triple_there}
use Rattle.triple_store.proofs.Stretches.{HasPlace, get-stretch, from_In-stretch}
use Rattle.preempt_scan.specs.declared.scan.Scan.{Scan}
use Rattle.preempt_scan.specs.declared.scan.Found.TheVariants.{Triple as ATriple, End}
use Rattle.preempt_scan.specs.Scans.{keys_with, keys_before, triples_with, scanned, HasGiven, Finds, GoesOnBehind}
use Rattle.preempt_scan.proofs.Fronts.{run_is, run_ends}

module _ (ids : List IdTriple) (order : ℕ) (prefix : Prefix) where
  abbrev x_of : Index
  x_of = index_numbered order

  abbrev es : List IdTriple
  es = keys_by x_of ids

  abbrev run : List IdTriple
  run = keys_with (Some prefix) es

  abbrev before : ℕ
  before = keys_before (Some prefix) es

  abbrev has : IdTriple → Bool
  has key = is_eq (prefix_cmp prefix key)

  -- a scan of the front at a place
  abbrev scan_at : ℕ → Scan
  scan_at place = record { order = order; prefix = Some prefix; place = place }

  sorted : IsStrictlySortedBy id_cmp es
  sorted = sorted-keys_by x_of ids

  as_many : length (map (ids_of_key x_of) run) ≡ length run
  as_many = length-mapped (ids_of_key x_of) run

  at_run : (k : ℕ) → k < length run → slice_get es (before + k) ≡ slice_get run k
  at_run k lt = sym (get-stretch before (length run) k es lt) ∙ ap (λ w. slice_get w k) (run_is prefix es sorted)

  passes : (k : ℕ) (key : IdTriple) → k < length run → slice_get es (before + k) ≡ Some key → has key ≡ true
  passes k key lt at = (from_In-filter has es key (In-slice_get run k key (sym (at_run k lt) ∙ at))).1

  -- a key with the front, by its place
  place_there : (place : ℕ) (key : IdTriple) → slice_get es place ≡ Some key → has key ≡ true → HasPlace before (length run) es key
  place_there place key at e =
      from_In-stretch before (length run) es key
      (subst (λ w. In w key) (sym (run_is prefix es sorted)) (In-filter has es key (In-slice_get es place key at) e))

  same_place : (j k : ℕ) (key : IdTriple) → slice_get es j ≡ Some key → slice_get es k ≡ Some key → j ≡ k
  same_place j k key p q = place_is es sorted j key p ∙ sym (place_is es sorted k key q)

  inside : (place : ℕ) (key : IdTriple) → slice_get es place ≡ Some key → has key ≡ true → (before ≤ place) × (place < before + length run)
  inside place key at e =
      let w = place_there place key at e in
      let same = same_place place w.place key at w.is in
      (omega (arith, same, w.from), omega (arith, same, w.before))

  -- the triple at the place, where its key has the front
  pub gives : (place k : ℕ) (t : IdTriple) → HasGiven ids (scan_at place) k → slice_get es place ≡ Some (key_in x_of t) → has (key_in x_of t) ≡ true
      → Finds ids (scan_at place) (scan_at (place + 1)) k (ATriple t)
  gives place k t given at e =
      let within = inside place (key_in x_of t) at e in
      let lt : k < length run = omega (arith, given.place, within.1) in
      let here : slice_get es (before + k) ≡ Some (key_in x_of t) = ap (slice_get es) (sym given.place) ∙ at in (
        triple_there x_of run k t (sym (at_run k lt) ∙ here),
        record { place = omega (arith, given.place); within = omega (arith, lt, as_many) },
      )

  -- the end, where all keys stand before the place
  pub ends_past : (place k : ℕ) → HasGiven ids (scan_at place) k → length es ≤ place → k ≡ length (scanned ids (scan_at place))
  ends_past place k given le = omega (arith, given.place, given.within, as_many, run_ends prefix es sorted, le)

  -- or where the key at the place has another front
  pub ends_there : (place k : ℕ) (key : IdTriple) → HasGiven ids (scan_at place) k → slice_get es place ≡ Some key → has key ≡ false → k ≡ length (scanned ids (scan_at place))
  ends_there place k key given at e = ⊎_elim
      (λ lt. let f = passes k key lt (ap (slice_get es) (sym given.place) ∙ at) in absurd (cc))
      (λ more. ⊎_elim (λ same. same ∙ sym as_many) (λ gt. absurd (omega (arith, given.within, as_many, gt))) more)
      (three k (length run))

  -- a scan behind a triple that was found
  pub goes_on : (t : IdTriple) (place : ℕ) → IsFound es (key_in x_of t) (Some place) → has (key_in x_of t) ≡ true → GoesOnBehind ids order prefix t (Some (scan_at (place + 1)))
  goes_on t place found e =
      let at : slice_get es place ≡ Some (key_in x_of t) = (found.at place).0 refl in
      let within = inside place (key_in x_of t) at e in
      let k = place - before in
      let lt : k < length run = omega (arith, within.0, within.1) in
      let same : before + k ≡ place = omega (arith, within.0) in (
        refl,
        refl,
        k,
        triple_there x_of run k t (sym (at_run k lt) ∙ ap (slice_get es) same ∙ at),
        record { place = omega (arith, same); within = omega (arith, lt, as_many) },
      )

  -- a triple of the scan, by its key
  key_of : (t : IdTriple) → In (triples_with order (Some prefix) ids) t → In es (key_in x_of t) × (has (key_in x_of t) ≡ true)
  key_of t i =
      let w = from_In-map (ids_of_key x_of) run t i in
      let m = from_In-filter has es w.0 w.1 in
      let same : w.0 ≡ key_in x_of t = sym (redone x_of w.0) ∙ ap (key_in x_of) w.2 in
      (subst (In es) same m.0, subst (λ key. has key ≡ true) same m.1)

  pub nowhere_there : (t : IdTriple) → has (key_in x_of t) ≡ false → In (triples_with order (Some prefix) ids) t → ⊥
  nowhere_there t e i = let f = (key_of t i).1 in cc

  pub nowhere_found : (t : IdTriple) → IsFound es (key_in x_of t) None → In (triples_with order (Some prefix) ids) t → ⊥
  nowhere_found t found i = found.none.0 refl (key_of t i).0

  -- before the first of them, the least key with the front has as many keys below it
  pub opened : (t least : IdTriple) (place : ℕ) → t ≡ ids_of_key x_of least → ((key : IdTriple) → is_lt (id_cmp key least) ≡ stands_before false prefix key)
      → place ≡ count_by (λ key. is_lt (id_cmp key (key_in x_of t))) es → HasGiven ids (scan_at place) 0
  opened t least place is below count =
      let same : key_in x_of t ≡ least = ap (key_in x_of) is ∙ redone x_of least in
      let counts : count_by (λ key. is_lt (id_cmp key (key_in x_of t))) es ≡ before =
      ap (λ l. count_by (λ key. is_lt (id_cmp key l)) es) same ∙ ap (λ p. count_by p es) (λ i key. below key i) in
      record { place = omega (arith, count, counts); within = omega arith }

-- a scan with a front by its parts
parts_are : (scan : Scan) (prefix : Prefix) → scan.prefix ≡ Some prefix → (let other : Scan = record { order = scan.order; prefix = Some prefix; place = scan.place } in scan ≡ other)
parts_are scan prefix front = λ i. record { order = scan.order; prefix = front i; place = scan.place }

module _ (ids : List IdTriple) (scan : Scan) (prefix : Prefix) (k : ℕ) (front : scan.prefix ≡ Some prefix) (given : HasGiven ids scan k) where
  given_here : HasGiven ids (scan_at ids scan.order prefix scan.place) k
  given_here = subst (λ s. HasGiven ids s k) (parts_are scan prefix front) given

  pub found_triple : (t : IdTriple) → slice_get (keys_by (index_numbered scan.order) ids) scan.place ≡ Some (key_in (index_numbered scan.order) t)
      → is_eq (prefix_cmp prefix (key_in (index_numbered scan.order) t)) ≡ true
      → Finds ids scan (record { order = scan.order; prefix = scan.prefix; place = scan.place + 1 }) k (ATriple t)
  found_triple t at e =
      subst (λ s. Finds ids s (record { order = s.order; prefix = s.prefix; place = s.place + 1 }) k (ATriple t)) (sym (parts_are scan prefix front))
      (gives ids scan.order prefix scan.place k t given_here at e)

  pub found_past : length (keys_by (index_numbered scan.order) ids) ≤ scan.place → Finds ids scan scan k End
  found_past le =
      (subst (λ s. k ≡ length (scanned ids s)) (sym (parts_are scan prefix front)) (ends_past ids scan.order prefix scan.place k given_here le), refl)

  pub found_other : (key : IdTriple) → slice_get (keys_by (index_numbered scan.order) ids) scan.place ≡ Some key → is_eq (prefix_cmp prefix key) ≡ false
      → Finds ids scan scan k End
  found_other key at e =
      (subst (λ s. k ≡ length (scanned ids s)) (sym (parts_are scan prefix front)) (ends_there ids scan.order prefix scan.place k key given_here at e), refl)
