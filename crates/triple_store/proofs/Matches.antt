-- The range of a pattern, from the ranks of its terms.
use Rattle.std.proofs.Common.{◌≡◌, ℕ, ◌+◌, ◌-◌, ◌<◌, ◌≤◌, ◌↔◌, List, [], ◌∷◌, length, map, refl, sym, ap, ◌∙◌, subst, arith, Bool, true, false, Option, Some, None, slice_get, Contains}
use Rattle.std.specs.Prelude.{◌&&◌, ◌==◌, IsTrue}
use Rattle.std.specs.FinMap as finmap
use Rattle.std.specs.List.Sorted.{IsStrictlySortedBy}
use Rattle.std.specs.Ordering.{ordering_then}
use Rattle.std.proofs.lemmas.Bool.{eq-eqb}
use Rattle.std.proofs.lemmas.Option.{get_or_from_slice_get, slice_get-get_or}
use Rattle.term_core.specs.declared.term.Term.{Term}
use Rattle.term_core.specs.declared.term.Term.TheVariants.{Iri}
use Rattle.term_core.specs.declared.term.Triple.{Triple}
use Rattle.term_core.specs.declared.pattern.IdTriple.{IdTriple}
use Rattle.term_core.specs.declared.pattern.Place as code_place
use Rattle.term_core.specs.declared.pattern.Place.TheVariants as place
use Rattle.term_core.specs.Order.{term_cmp, bytes_cmp}
use Rattle.term_core.specs.OrderLaws.{terms_total}
use Rattle.term_core.specs.Ids.{id_cmp}
use Rattle.term_core.specs.Bags.{In}
use Rattle.term_core.specs.Mappings.{Row, same_term}
use Rattle.term_core.proofs.Bags.{In-map, from_In-map}
use Rattle.term_core.proofs.Merges.{terms_same, term_itself}
use Rattle.term_core.specs.Patterns.{Pattern, position_of, label_name, filled, fits, agrees}
use Rattle.term_core.specs.Index.{Index, by_subject, by_predicate, by_object, index_of, triple_cmp, range}
use Rattle.term_core.proofs.Ranges.{listing_is, range_alone}
use Rattle.term_core.proofs.Ranked.{In-slice_get, slice_get-In}
use Rattle.term_dict.specs.Ranks.{IsRank}
use Rattle.btree_scan.specs.declared.prefix.Prefix.{Prefix}
use Rattle.btree_scan.specs.Cuts.{HasPrefix, IsKeyRange}
use Rattle.store_image.specs.Table.{term_numbered, decode, IsBelow, IsTable, IsFound}
use Rattle.store_image.specs.Keys.{index_numbered, key_in, ids_of_key, keys_by}
use Rattle.store_image.proofs.Keys.{undone, In-keys_by, from_In-keys_by}
use Rattle.store_image.proofs.TableFound.{found}
use Rattle.store_image.proofs.TableLists.{In-get_or, Contains-from_In, length-mapped, rising-map}
use Rattle.store_image.proofs.TableOrder.{same_order}
use Rattle.triple_store.specs.declared.asked.Asked.{Asked}
use Rattle.triple_store.specs.declared.range.Range.{Range}
use Rattle.triple_store.specs.Asked.{wanted_of, admits, asks_for, index_for}
use Rattle.triple_store.specs.Ranges.{IsRangeOf, triples_at}
use Rattle.triple_store.specs.Stretches.{keys_at, IsKeyStretch}
use Rattle.triple_store.proofs.Places.{same_number}
use Rattle.triple_store.proofs.Stretches.{length-stretch, from_In-stretch, In-stretch, rising-stretch}

pub filled_term : (p : code_place.Place) (t : Term) → p ≡ place.Term t → filled finmap.empty (position_of p) ≡ Some t
filled_term p t e = ap (λ q. filled finmap.empty (position_of q)) e

pub filled_var : (p : code_place.Place) (name : List ℕ) → p ≡ place.Var name → filled finmap.empty (position_of p) ≡ None
filled_var p name e = ap (λ q. filled finmap.empty (position_of q)) e ∙ finmap.get-empty bytes_cmp name

pub filled_blank : (p : code_place.Place) (label : List ℕ) → p ≡ place.Blank label → filled finmap.empty (position_of p) ≡ None
filled_blank p label e = ap (λ q. filled finmap.empty (position_of q)) e ∙ finmap.get-empty bytes_cmp (label_name label)

same_tests : (a b : Bool) → (a ≡ true → b ≡ true) → (b ≡ true → a ≡ true) → a ≡ b
same_tests true true h g = refl
same_tests true false h g = sym (h refl)
same_tests false true h g = g refl
same_tests false false h g = refl

-- a term's rank is wanted where the term is
wants_only : (terms : List Term) (t : Term) (id k : ℕ) → IsFound terms t (Some id) → k < length terms → (id == k) ≡ same_term t (term_numbered terms k)
wants_only terms t id k f h =
    let there : slice_get terms id ≡ Some t = (f.at id).0 refl in
    let is : term_numbered terms id ≡ t = get_or_from_slice_get terms id t (Iri []) there in
    same_tests (id == k) (same_term t (term_numbered terms k))
    (λ e. subst (λ u. same_term t u ≡ true) (sym is ∙ ap (term_numbered terms) (same_number id k e)) (term_itself t))
    (λ e. let s : t ≡ term_numbered terms k = terms_same t (term_numbered terms k) e in
    let q : Some id ≡ Some k = (f.at k).1 (slice_get-get_or terms k (Iri []) h ∙ ap Some (sym s)) in
    let n : id ≡ k = cc in
    eq-eqb id k n)

-- a term that is not there is nowhere wanted
wants_nothing : (terms : List Term) (t : Term) (k : ℕ) → (Contains terms t → ⊥) → k < length terms → false ≡ same_term t (term_numbered terms k)
wants_nothing terms t k f h = same_tests false (same_term t (term_numbered terms k)) (λ e. cc)
    (λ e. absurd (f (Contains-from_In terms t (subst (In terms) (sym (terms_same t (term_numbered terms k) e)) (In-get_or terms k (Iri []) h)))))

pub wants : (terms : List Term) (t : Term) (r : Option ℕ) (k : ℕ) → IsStrictlySortedBy term_cmp terms → IsRank terms t r → k < length terms
    → admits (wanted_of r) k ≡ same_term t (term_numbered terms k)
wants terms t (Some id) k rising rank h = wants_only terms t id k (found term_cmp terms_total terms t id rising rank.0) h
wants terms t None k rising rank h = wants_nothing terms t k rank h

-- ranks are wanted where the terms agree
pub asked_is : (terms : List Term) (p : Pattern) (asked : Asked) (ids : IdTriple)
    → admits asked.s ids.s ≡ fits (filled finmap.empty p.subject) (term_numbered terms ids.s)
    → admits asked.p ids.p ≡ fits (filled finmap.empty p.predicate) (term_numbered terms ids.p)
    → admits asked.o ids.o ≡ fits (filled finmap.empty p.object) (term_numbered terms ids.o)
    → asks_for asked ids ≡ agrees p finmap.empty (decode terms ids)
asked_is terms p asked ids s q o = λ i. s i && (q i && o i)

-- nothing that is asked for is a stretch of nothing
pub stretch_none : (asked : Asked) (ids : List IdTriple) (order : ℕ) → ((i : IdTriple) → asks_for asked i ≡ false)
    → IsKeyStretch (asks_for asked) ids record { order = order; first = 0; end = 0 }
unfolding IsStrictlySortedBy
stretch_none asked ids order none = record {
  ordered = tt;
  count = refl;
  to = λ key i. absurd i;
  from = λ i m e. let f = none i in absurd (cc);
}

-- the places of a front's keys hold the triples that are asked for
pub stretch_from : (asked : Asked) (prefix : Prefix) (ids : List IdTriple) (order first end : ℕ) → IsStrictlySortedBy id_cmp (keys_by (index_numbered order) ids)
    → first ≤ end → end ≤ length (keys_by (index_numbered order) ids) → IsKeyRange prefix (keys_by (index_numbered order) ids) first end
    → ((key : IdTriple) → HasPrefix prefix key ↔ IsTrue (asks_for asked (ids_of_key (index_for asked) key))) → index_numbered order ≡ index_for asked
    → IsKeyStretch (asks_for asked) ids record { order = order; first = first; end = end }
stretch_from asked prefix ids order first end sorted rises within is asks index =
    let x = index_numbered order in
    let es = keys_by x ids in
    let asks_here : (key : IdTriple) → HasPrefix prefix key ↔ IsTrue (asks_for asked (ids_of_key x key)) =
    λ key. subst (λ y. HasPrefix prefix key ↔ IsTrue (asks_for asked (ids_of_key y key))) (sym index) (asks key) in
    record {
      ordered = rising-stretch id_cmp first (end - first) es sorted;
      count = length-stretch first (end - first) es (omega arith);
      to = λ key i. let w = from_In-stretch first (end - first) es key i in (
        from_In-keys_by x ids key (In-slice_get es w.place key w.is),
        (asks_here key).0 ((is.exactly w.place key w.is).1 (w.from, let b : w.place < first + (end - first) = w.before in omega arith)),
      );
      from = λ i m e. let key = key_in x i in
          let w = slice_get-In es key (In-keys_by x ids i m) in
          let has : HasPrefix prefix key = (asks_here key).1 (ap (asks_for asked) (undone x i) ∙ e) in
          let inside = (is.exactly w.0 key w.1).0 has in
          In-stretch first (end - first) w.0 es key inside.0 (omega (arith, inside.1)) w.1;
    }

-- keys compare as their triples do in the index
key_order : (terms : List Term) (x : Index) (a b : IdTriple) → IsStrictlySortedBy term_cmp terms → IsBelow (length terms) (ids_of_key x a) → IsBelow (length terms) (ids_of_key x b)
    → id_cmp a b ≡ triple_cmp x (decode terms (ids_of_key x a)) (decode terms (ids_of_key x b))
key_order terms by_subject a b h p q =
    λ i. ordering_then (same_order terms a.s b.s h p.s q.s i) (ordering_then (same_order terms a.p b.p h p.p q.p i) (same_order terms a.o b.o h p.o q.o i))
key_order terms by_predicate a b h p q =
    λ i. ordering_then (same_order terms a.s b.s h p.p q.p i) (ordering_then (same_order terms a.p b.p h p.o q.o i) (same_order terms a.o b.o h p.s q.s i))
key_order terms by_object a b h p q =
    λ i. ordering_then (same_order terms a.s b.s h p.o q.o i) (ordering_then (same_order terms a.p b.p h p.s q.s i) (same_order terms a.o b.o h p.p q.p i))

twice : (terms : List Term) (x : Index) (keys : List IdTriple) → map (decode terms) (map (ids_of_key x) keys) ≡ map (λ key. decode terms (ids_of_key x key)) keys
twice terms x [] = refl
twice terms x (key ∷ keys) = ap (λ w. decode terms (ids_of_key x key) ∷ w) (twice terms x keys)

module _ (L : List Triple) (terms : List Term) (ids : List IdTriple) (p : Pattern) (row : Row) (asked : Asked) (r : Range) (table : IsTable L terms ids)
    (index : index_numbered r.order ≡ index_of p row) (stretch : IsKeyStretch (asks_for asked) ids r)
    (same : (i : IdTriple) → IsBelow (length terms) i → asks_for asked i ≡ agrees p row (decode terms i)) where
  abbrev x_of : Index
  x_of = index_numbered r.order

  abbrev triple_of : IdTriple → Triple
  triple_of key = decode terms (ids_of_key x_of key)

  key_below : (key : IdTriple) → In (keys_at ids r) key → IsBelow (length terms) (ids_of_key x_of key)
  key_below key i = table.below (ids_of_key x_of key) (stretch.to key i).0

  in_data : (i : IdTriple) → In ids i → In L (decode terms i)
  in_data i m = (listing_is by_subject L).is.same.to (decode terms i) (subst (λ w. In w (decode terms i)) table.listing (In-map (decode terms) ids i m))

  listed : map triple_of (keys_at ids r) ≡ range L p row
  listed = range_alone L p row (map triple_of (keys_at ids r)) (record {
    ordered = subst (λ x. IsStrictlySortedBy (triple_cmp x) (map triple_of (keys_at ids r))) index
        (rising-map id_cmp (triple_cmp x_of) triple_of (keys_at ids r) stretch.ordered
        (λ a b i j e. sym (key_order terms x_of a b table.rising (key_below a i) (key_below b j)) ∙ e));
    to = λ t i. let w = from_In-map triple_of (keys_at ids r) t i in
        let c = stretch.to w.0 w.1 in (
          subst (In L) w.2 (in_data (ids_of_key x_of w.0) c.0),
          subst (λ u. agrees p row u ≡ true) w.2 (sym (same (ids_of_key x_of w.0) (table.below (ids_of_key x_of w.0) c.0)) ∙ c.1),
        );
    from = λ t i e. let w = from_In-map (decode terms) ids t (subst (λ w. In w t) (sym table.listing) ((listing_is by_subject L).is.same.from t i)) in
        let m = stretch.from w.0 w.1 (same w.0 (table.below w.0 w.1) ∙ subst (λ u. agrees p row u ≡ true) (sym w.2) e) in
        subst (In (map triple_of (keys_at ids r))) (ap (decode terms) (undone x_of w.0) ∙ w.2) (In-map triple_of (keys_at ids r) (key_in x_of w.0) m);
  })

  pub range_from : IsRangeOf L terms ids p row r
  range_from = record {
    index = index;
    count = length-mapped (ids_of_key x_of) (keys_at ids r) ∙ stretch.count;
    below = λ i m. let w = from_In-map (ids_of_key x_of) (keys_at ids r) i m in subst (IsBelow (length terms)) w.2 (key_below w.0 w.1);
    triples = twice terms x_of (keys_at ids r) ∙ listed;
  }

-- so many triples agree
pub counted : (L : List Triple) (terms : List Term) (ids : List IdTriple) (p : Pattern) (r : Range) → IsRangeOf L terms ids p finmap.empty r → r.end - r.first ≡ length (range L p finmap.empty)
counted L terms ids p r is = sym is.count ∙ sym (length-mapped (decode terms) (triples_at ids r)) ∙ ap length is.triples
