-- The triples of a scan are those that are asked for.
use Rattle.std.proofs.Common.{◌≡◌, ℕ, ◌+◌, ◌-◌, ◌↔◌, List, length, map, take, drop, refl, sym, ap, subst, ◌∙◌, arith, Option, Some, None, Bool, true, false, Less, Equal, Greater, Ok, Err}
use Rattle.std.specs.Prelude.{IsTrue, Result, IfOk}
use Rattle.std.specs.List.Sorted.{IsStrictlySortedBy}
use Rattle.std.specs.declared.cmp.Ordering.{Ordering}
use Rattle.std.specs.Ordering.{is_eq}
use Rattle.std.proofs.lemmas.Cmp.{tied_itself}
use Rattle.std.proofs.lemmas.List.Kept.{IsStrictlySortedBy-filter}
use Rattle.term_core.specs.declared.term.Term.{Term}
use Rattle.term_core.specs.declared.term.Triple.{Triple}
use Rattle.term_core.specs.declared.pattern.IdTriple.{IdTriple}
use Rattle.term_core.specs.Bags.{In}
use Rattle.term_core.specs.Ids.{id_cmp}
use Rattle.term_core.specs.Index.{Index, by_subject, triple_cmp}
use Rattle.term_core.specs.Mappings.{Row}
use Rattle.term_core.specs.Patterns.{Pattern}
use Rattle.term_core.specs.Order.{term_cmp}
use Rattle.term_core.proofs.Bags.{In-filter, from_In-filter, In-map, from_In-map}
use Rattle.term_core.proofs.IdOrder.{same_ids}
use Rattle.term_core.proofs.Ranges.{index_total}
use Rattle.btree_scan.specs.declared.prefix.Prefix.{Prefix}
use Rattle.btree_scan.specs.Cuts.{prefix_cmp, HasPrefix}
use Rattle.store_image.specs.Table.{decode, IsBelow, AreBelow, IsTable}
use Rattle.store_image.specs.Keys.{index_numbered, key_in, ids_of_key, keys_by}
use Rattle.store_image.proofs.Keys.{undone, In-keys_by, from_In-keys_by, sorted-keys_by}
use Rattle.store_image.proofs.TableOrder.{same_triple_order}
use Rattle.triple_store.specs.declared.asked.Asked.{Asked}
use Rattle.triple_store.specs.declared.range.Range.{Range}
use Rattle.triple_store.specs.Asked.{asks_for, index_for}
use Rattle.triple_store.specs.Ranges.{IsAskedBy, triples_at}
use Rattle.triple_store.specs.Stretches.{keys_at, IsKeyStretch}
use Rattle.triple_store.proofs.Matches.{range_from, stretch_none}
use Rattle.preempt_scan.specs.declared.scan.Scan.{Scan}
use Rattle.preempt_scan.specs.Scans.{keys_with, keys_before, scanned, GoesOnBehind, GoesOnIn, IsScanOf}
use Rattle.preempt_scan.proofs.Fronts.{run_is}

tie : (r : Ordering) → is_eq r ≡ true → r ≡ Equal
tie Less e = cc
tie Equal e = refl
tie Greater e = cc

module _ (ids : List IdTriple) (order : ℕ) (prefix : Prefix) (asked : Asked)
    (asks : (key : IdTriple) → HasPrefix prefix key ↔ IsTrue (asks_for asked (ids_of_key (index_for asked) key))) (index : index_numbered order ≡ index_for asked) where
  abbrev x_of : Index
  x_of = index_numbered order

  abbrev es : List IdTriple
  es = keys_by x_of ids

  abbrev run : List IdTriple
  run = keys_with (Some prefix) es

  abbrev before : ℕ
  before = keys_before (Some prefix) es

  abbrev has : IdTriple → Bool
  has key = is_eq (prefix_cmp prefix key)

  -- their places
  abbrev places : Range
  places = record { order = order; first = before; end = before + length run }

  asks_here : (key : IdTriple) → HasPrefix prefix key ↔ IsTrue (asks_for asked (ids_of_key x_of key))
  asks_here key = subst (λ y. HasPrefix prefix key ↔ IsTrue (asks_for asked (ids_of_key y key))) (sym index) (asks key)

  so_many : before + length run - before ≡ length run
  so_many = omega arith

  pub keys_are : keys_at ids places ≡ run
  keys_are = ap (λ n. take n (drop before es)) so_many ∙ run_is prefix es (sorted-keys_by x_of ids)

  stretch_of : IsKeyStretch (asks_for asked) ids places
  stretch_of = record {
    ordered = subst (IsStrictlySortedBy id_cmp) (sym keys_are) (IsStrictlySortedBy-filter id_cmp has es (sorted-keys_by x_of ids));
    count = ap length keys_are ∙ sym so_many;
    to = λ key i. let m = from_In-filter has es key (subst (λ w. In w key) keys_are i) in
        (from_In-keys_by x_of ids key m.0, (asks_here key).0 (tie (prefix_cmp prefix key) m.1));
    from = λ i m e. subst (λ w. In w (key_in x_of i)) (sym keys_are)
        (In-filter has es (key_in x_of i) (In-keys_by x_of ids i m) (ap is_eq ((asks_here (key_in x_of i)).1 (ap (asks_for asked) (undone x_of i) ∙ e))));
  }

  pub scan_of : (L : List Triple) (terms : List Term) (p : Pattern) (row : Row) (place : ℕ) → IsTable L terms ids → IsAskedBy terms p row asked
      → IsScanOf L terms ids p row (record { order = order; prefix = Some prefix; place = place })
  scan_of L terms p row place table by =
      let range = range_from L terms ids p row asked places table (index ∙ by.index) stretch_of by.same in
      let same : triples_at ids places ≡ map (ids_of_key x_of) run = ap (map (ids_of_key x_of)) keys_are in
      record {
        index = range.index;
        below = subst (AreBelow (length terms)) same range.below;
        triples = ap (map (decode terms)) (sym same) ∙ range.triples;
      }

-- where none will do there is none
pub scan_none : (L : List Triple) (terms : List Term) (ids : List IdTriple) (order : ℕ) (asked : Asked) (p : Pattern) (row : Row) → ((i : IdTriple) → asks_for asked i ≡ false)
    → index_numbered order ≡ index_for asked → IsTable L terms ids → IsAskedBy terms p row asked → IsScanOf L terms ids p row (record { order = order; prefix = None; place = 0 })
scan_none L terms ids order asked p row none index table by =
    let range = range_from L terms ids p row asked _ table (index ∙ by.index) (stretch_none asked ids order none) by.same in
    record { index = range.index; below = λ i m. absurd m; triples = range.triples }

-- triples of numbers of terms are as their triples
alone : (terms : List Term) (a b : IdTriple) → IsStrictlySortedBy term_cmp terms → IsBelow (length terms) a → IsBelow (length terms) b → decode terms a ≡ decode terms b → a ≡ b
alone terms a b rising p q e =
    same_ids a b (same_triple_order terms a b rising p q ∙ ap (λ t. triple_cmp by_subject t (decode terms b)) e ∙ tied_itself (index_total by_subject) (decode terms b))

-- two scans of a pattern give the same triples
same_scans : (L : List Triple) (terms : List Term) (ids : List IdTriple) (p : Pattern) (row : Row) (a b : Scan) (t : IdTriple) → IsStrictlySortedBy term_cmp terms
    → IsScanOf L terms ids p row a → IsScanOf L terms ids p row b → In (scanned ids a) t → In (scanned ids b) t
same_scans L terms ids p row a b t rising of_a of_b i =
    let there : In (map (decode terms) (scanned ids b)) (decode terms t) = subst (λ w. In w (decode terms t)) (of_a.triples ∙ sym of_b.triples) (In-map (decode terms) (scanned ids a) t i) in
    let w = from_In-map (decode terms) (scanned ids b) (decode terms t) there in
    subst (In (scanned ids b)) (alone terms w.0 t rising (of_b.below w.0 w.1) (of_a.below t i) w.2) w.1

-- a scan behind a triple of the front goes on in the pattern's range
goes_in : (L : List Triple) (terms : List Term) (ids : List IdTriple) (p : Pattern) (row : Row) (order : ℕ) (prefix : Prefix) (t : IdTriple) (result : Option Scan) → IsStrictlySortedBy term_cmp terms
    → ((place : ℕ) → IsScanOf L terms ids p row (record { order = order; prefix = Some prefix; place = place })) → GoesOnBehind ids order prefix t result → GoesOnIn L terms ids p row t result
goes_in L terms ids p row order prefix t None rising is behind = λ scan of_scan i. behind (same_scans L terms ids p row scan _ t rising of_scan (is 0) i)
goes_in L terms ids p row order prefix t (Some scan) rising is behind =
    let other : Scan = record { order = order; prefix = Some prefix; place = scan.place } in
    let same : other ≡ scan = λ i. record { order = sym behind.0 i; prefix = sym behind.1 i; place = scan.place } in
    (subst (IsScanOf L terms ids p row) same (is scan.place), behind.2, behind.3, behind.4)

pub goes_in_ok : {E : Type 0} (L : List Triple) (terms : List Term) (ids : List IdTriple) (p : Pattern) (row : Row) (order : ℕ) (prefix : Prefix) (t : IdTriple) (result : Result (Option Scan) E) → IsStrictlySortedBy term_cmp terms
    → ((place : ℕ) → IsScanOf L terms ids p row (record { order = order; prefix = Some prefix; place = place })) → IfOk result (GoesOnBehind ids order prefix t) → IfOk result (GoesOnIn L terms ids p row t)
goes_in_ok L terms ids p row order prefix t (Ok found) rising is behind = goes_in L terms ids p row order prefix t found rising is behind
goes_in_ok L terms ids p row order prefix t (Err fault) rising is behind = tt

-- no scan has a triple where one has none
pub none_in : (L : List Triple) (terms : List Term) (ids : List IdTriple) (p : Pattern) (row : Row) (order : ℕ) (t : IdTriple) → IsStrictlySortedBy term_cmp terms
    → IsScanOf L terms ids p row (record { order = order; prefix = None; place = 0 }) → GoesOnIn L terms ids p row t None
none_in L terms ids p row order t rising is = λ scan of_scan i. same_scans L terms ids p row scan _ t rising of_scan is i

-- a scan of the front is one of the pattern's range
pub scan_ok : {E : Type 0} (L : List Triple) (terms : List Term) (ids : List IdTriple) (p : Pattern) (row : Row) (order : ℕ) (prefix : Prefix) (result : Result Scan E)
    → ((place : ℕ) → IsScanOf L terms ids p row (record { order = order; prefix = Some prefix; place = place })) → IfOk result (λ s. (s.order ≡ order) × (s.prefix ≡ Some prefix)) → IfOk result (IsScanOf L terms ids p row)
scan_ok L terms ids p row order prefix (Ok scan) is has =
    let other : Scan = record { order = order; prefix = Some prefix; place = scan.place } in
    let same : other ≡ scan = λ i. record { order = sym has.0 i; prefix = sym has.1 i; place = scan.place } in
    subst (IsScanOf L terms ids p row) same (is scan.place)
scan_ok L terms ids p row order prefix (Err fault) is has = tt
