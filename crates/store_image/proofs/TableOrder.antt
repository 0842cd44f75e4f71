-- The table of a document, from its dictionary.
use Rattle.std.proofs.Common.{◌≡◌, ℕ, ◌*◌, ◌<◌, ◌≤◌, ◌↔◌, List, [], ◌∷◌, length, map, refl, sym, ap, ◌∙◌, subst, ⊎_elim, inl, inr, arith, Contains, Less, Equal, Greater}
use Rattle.std.specs.Prelude.{flat_map}
use Rattle.std.specs.List.Sorted.{IsStrictlySortedBy}
use Rattle.std.specs.Ordering.{nat_cmp, ordering_then, ordering_reverse}
use Rattle.std.specs.Cmp.{nat_cmp_is}
use Rattle.std.proofs.lemmas.Cmp.{tied_itself}
use Rattle.term_core.specs.declared.term.Term.{Term}
use Rattle.term_core.specs.declared.term.Term.TheVariants.{Iri}
use Rattle.term_core.specs.declared.term.Triple.{Triple}
use Rattle.term_core.specs.declared.pattern.IdTriple.{IdTriple}
use Rattle.term_core.specs.Order.{term_cmp}
use Rattle.term_core.specs.OrderLaws.{terms_total}
use Rattle.term_core.specs.Ids.{id_cmp}
use Rattle.term_core.specs.Bags.{In}
use Rattle.term_core.proofs.Bags.{In-map, from_In-map}
use Rattle.term_core.specs.Data.{parts}
use Rattle.term_core.specs.Index.{by_subject, triple_cmp}
use Rattle.term_core.proofs.Ranges.{listing_is}
use Rattle.store_image.specs.Table.{term_numbered, decode, IsBelow, AreBelow, IsTable}
use Rattle.store_image.specs.Numbering.{trios, IsDictionary}
use Rattle.store_image.proofs.TableLists.{In-get_or, In-from_Contains, Contains-from_In, rising_at, rising-map, three}
use Rattle.store_image.proofs.TableSlots.{length-parts}

-- numbers compare as their terms do
pub same_order : (terms : List Term) (j k : ℕ) → IsStrictlySortedBy term_cmp terms → j < length terms → k < length terms → nat_cmp j k ≡ term_cmp (term_numbered terms j) (term_numbered terms k)
same_order terms j k h p q = ⊎_elim
    (λ l. sym (nat_cmp_is j k Less l) ∙ sym (rising_at term_cmp terms j k (Iri []) h l q))
    (λ o. ⊎_elim
    (λ e. sym (nat_cmp_is j k Equal e) ∙ sym (tied_itself terms_total (term_numbered terms j)) ∙ ap (λ n. term_cmp (term_numbered terms j) (term_numbered terms n)) e)
    (λ g. sym (nat_cmp_is j k Greater g) ∙ sym (terms_total.antisymm (term_numbered terms j) (term_numbered terms k) ∙ ap ordering_reverse (rising_at term_cmp terms k j (Iri []) h g p)))
    o)
    (three j k)

-- triples of numbers compare as their triples do
pub same_triple_order : (terms : List Term) (a b : IdTriple) → IsStrictlySortedBy term_cmp terms → IsBelow (length terms) a → IsBelow (length terms) b → id_cmp a b ≡ triple_cmp by_subject (decode terms a) (decode terms b)
same_triple_order terms a b h p q =
    λ i. ordering_then (same_order terms a.s b.s h p.s q.s i) (ordering_then (same_order terms a.p b.p h p.p q.p i) (same_order terms a.o b.o h p.o q.o i))

-- the numbers of triples are among the numbers
pub trios_below : (numbers : List ℕ) (n : ℕ) → ((k : ℕ) → In numbers k → k < n) → AreBelow n (trios numbers)
trios_below [] n h i m = absurd m
trios_below (a ∷ []) n h i m = absurd m
trios_below (a ∷ b ∷ []) n h i m = absurd m
trios_below (a ∷ b ∷ c ∷ rest) n h i m = ⊎_elim
    (λ e. subst (IsBelow n) e (record { s = h a (inl refl); p = h b (inr (inl refl)); o = h c (inr (inr (inl refl))) }))
    (λ j. trios_below rest n (λ k l. h k (inr (inr (inr l)))) i j)
    m

-- the triples of the numbers of a document's terms
pub decoded : (terms : List Term) (numbers : List ℕ) (L : List Triple) → map (term_numbered terms) numbers ≡ flat_map parts L → map (decode terms) (trios numbers) ≡ L
decoded terms [] [] e = refl
decoded terms [] (t ∷ L) e = cc
decoded terms (a ∷ numbers) [] e = cc
decoded terms (a ∷ []) (t ∷ L) e = cc
decoded terms (a ∷ b ∷ []) (t ∷ L) e = cc
decoded terms (a ∷ b ∷ c ∷ rest) (t ∷ L) e =
    let first : term_numbered terms a ≡ t.subject = cc in
    let second : term_numbered terms b ≡ t.predicate = cc in
    let third : term_numbered terms c ≡ t.object = cc in
    let others : map (term_numbered terms) rest ≡ flat_map parts L = cc in
    let more = decoded terms rest L others in
    λ i. record { subject = first i; predicate = second i; object = third i } ∷ more i

pub table_from : (L : List Triple) (terms : List Term) (numbers : List ℕ) (ids : List IdTriple) → length L ≤ 4194303 → IsDictionary (flat_map parts L) terms numbers
    → IsStrictlySortedBy id_cmp ids → ((i : IdTriple) → Contains ids i ↔ Contains (trios numbers) i) → IsTable L terms ids
table_from L terms numbers ids n d s m =
    let is : map (decode terms) (trios numbers) ≡ L = decoded terms numbers L d.same in
    let of_trios : (i : IdTriple) → In ids i → In (trios numbers) i = λ i j. In-from_Contains (trios numbers) i ((m i).0 (Contains-from_In ids i j)) in
    let to_ids : (i : IdTriple) → In (trios numbers) i → In ids i = λ i j. In-from_Contains ids i ((m i).1 (Contains-from_In (trios numbers) i j)) in
    let below : AreBelow (length terms) ids = λ i j. trios_below numbers (length terms) d.below i (of_trios i j) in
    record {
      rising = d.rising;
      to = d.to;
      from = λ t i. let w = from_In-map (term_numbered terms) numbers t (subst (λ w. In w t) (sym d.same) i) in subst (In terms) w.2 (In-get_or terms w.0 (Iri []) (d.below w.0 w.1));
      few = let f : length terms ≤ length (flat_map parts L) = d.few in let l : length (flat_map parts L) ≡ 3 * length L = length-parts L in omega arith;
      below = below;
      ordered = s;
      listing = (listing_is by_subject L).alone (map (decode terms) ids) (record {
        ordered = rising-map id_cmp (triple_cmp by_subject) (decode terms) ids s (λ a b i j e. sym (same_triple_order terms a b d.rising (below a i) (below b j)) ∙ e);
        same = record {
          to = λ t i. let w = from_In-map (decode terms) ids t i in
              subst (λ w. In w t) is (subst (In (map (decode terms) (trios numbers))) w.2 (In-map (decode terms) (trios numbers) w.0 (of_trios w.0 w.1)));
          from = λ t i. let w = from_In-map (decode terms) (trios numbers) t (subst (λ w. In w t) (sym is) i) in
              subst (In (map (decode terms) ids)) w.2 (In-map (decode terms) ids w.0 (to_ids w.0 w.1));
        };
      });
    }
