-- Slots in order, and the numbers of their terms.
use Rattle.std.proofs.Common.{◌≡◌, ◌≢◌, ℕ, zero, suc, ◌+◌, ◌-◌, ◌<◌, ◌≤◌, List, [], ◌∷◌, ◌++◌, length, get_or, set, take, drop, map, refl, sym, ap, ◌∙◌, subst, ⊎_elim, inl, inr, arith, true, false, cond, Less, Equal, Greater, length-append, append_assoc, zero-add, ◌*◌, Bor, Some, slice_get}
use Rattle.std.proofs.lemmas.Option.{slice_get_within, get_or_from_slice_get}
use Rattle.std.specs.Prelude.{◌⊎◌, flat_map}
use Rattle.std.specs.List.{AllByRecursion}
use Rattle.std.proofs.lemmas.Bool.{eq-eqb}
use Rattle.std.proofs.lemmas.Bool.Decides.{nat_tests}
use Rattle.std.proofs.Math.Dec.{eqb}
use Rattle.std.proofs.Math.Seq.{drop-cons}
use Rattle.std.specs.List.Sorted.{IsStrictlySortedBy, IsPermutation, IsSorted}
use Rattle.std.specs.declared.cmp.Ordering.{Ordering}
use Rattle.std.specs.Ordering.{is_lt, is_eq, ordering_reverse}
use Rattle.std.proofs.lemmas.List.{get_or-set_same, get_or-set_other, get_or_append_left, get_or_push, get_or-take, take_more, same_lists}
use Rattle.std.proofs.lemmas.List.Sorted.{length_permutation, IsPermutation-map, sorted_far, ranks_by}
use Rattle.term_core.specs.declared.term.Term.{Term}
use Rattle.term_core.specs.declared.term.Term.TheVariants.{Iri}
use Rattle.term_core.specs.declared.term.Triple.{Triple}
use Rattle.term_core.specs.Order.{term_cmp}
use Rattle.term_core.specs.OrderLaws.{terms_total}
use Rattle.term_core.specs.Bags.{In}
use Rattle.term_core.specs.Mappings.{same_term}
use Rattle.term_core.proofs.Bags.{In-append_left, In-append_right, In-append_cases}
use Rattle.term_core.proofs.Merges.{terms_same}
use Rattle.term_core.specs.Data.{parts}
use Rattle.term_core.proofs.Orders.{all_at}
use Rattle.store_image.specs.declared.slot.Slot.{Slot}
use Rattle.store_image.specs.Slots.{term_and_place, slot_cmp, slots_total}
use Rattle.store_image.specs.Table.{term_numbered}
use Rattle.store_image.specs.Numbering.{with_places, is_last, with_last, AreSlots, AreRanked, IsDictionary}
use Rattle.store_image.proofs.TableLists.{In-get_or, place_of, In-take, In-permutation, In-from_permutation, length-mapped, get_or-mapped}

less_at : (o r : Ordering) → r ≡ ordering_reverse o → is_lt r ≡ false → is_eq o ≡ false → o ≡ Less
less_at Less r e p q = refl
less_at Equal r e p q = cc
less_at Greater r e p q = cc

-- a term that another one neither is nor comes before
less : (x t : Term) → is_lt (term_cmp t x) ≡ false → same_term x t ≡ false → term_cmp x t ≡ Less
less x t p q = less_at (term_cmp x t) (term_cmp t x) (terms_total.antisymm t x) p q

AllByRecursion-append : {X : Type 0} (P : X → Type 0) (xs : List X) (y : X) → AllByRecursion P xs → P y → AllByRecursion P (xs ++ y ∷ [])
AllByRecursion-append P [] y h p = (p, tt)
AllByRecursion-append P (x ∷ xs) y h p = (h.0, AllByRecursion-append P xs y h.1 p)

-- a list that rises, with a term that none comes after and that is not its last
rising-push : (terms : List Term) (t : Term) → IsStrictlySortedBy term_cmp terms → ((x : Term) → In terms x → is_lt (term_cmp t x) ≡ false) → is_last terms t ≡ false → IsStrictlySortedBy term_cmp (terms ++ t ∷ [])
unfolding IsStrictlySortedBy
rising-push [] t h g e = (tt, tt)
rising-push (x ∷ []) t h g e = ((less x t (g x (inl refl)) e, tt), (tt, tt))
rising-push (x ∷ y ∷ xs) t h g e =
    let rest : IsStrictlySortedBy term_cmp ((y ∷ xs) ++ t ∷ []) = rising-push (y ∷ xs) t h.1 (λ z i. g z (inr i)) e in
    let above : term_cmp y t ≡ Less = all_at (λ z. term_cmp y z ≡ Less) (xs ++ t ∷ []) t rest.0 (In-append_right xs (t ∷ []) t (inl refl)) in
    (AllByRecursion-append (λ z. term_cmp x z ≡ Less) (y ∷ xs) t h.0 (terms_total.trans x y t h.0.0 above), rest)

one_more : (i : ℕ) → suc i ≡ i + 1
one_more i = omega arith

last_place : (xs : List Term) → suc (suc (length xs)) - 1 ≡ suc (length xs)
last_place xs = omega arith

next_place : (xs : List Term) → suc (length xs) - 1 ≡ length xs
next_place xs = omega arith

last_is : (terms : List Term) (t : Term) → is_last terms t ≡ true → (d : Term) → (0 < length terms) × (get_or terms (length terms - 1) d ≡ t)
last_is [] t e d = cc
last_is (x ∷ []) t e d = (omega arith, terms_same x t e)
last_is (x ∷ y ∷ xs) t e d =
    let r = last_is (y ∷ xs) t e d in
    (omega arith, ap (λ n. get_or (x ∷ y ∷ xs) n d) (last_place xs) ∙ ap (λ n. get_or (y ∷ xs) n d) (sym (next_place xs)) ∙ r.1)

-- what stands at the end
pub record Put (terms : List Term) (t : Term) (new : List Term) : Type 0 where
  pub rising : IsStrictlySortedBy term_cmp terms → ((x : Term) → In terms x → is_lt (term_cmp t x) ≡ false) → IsStrictlySortedBy term_cmp new
  pub to : (x : Term) → In new x → In terms x ⊎ (x ≡ t)
  pub some : 0 < length new
  pub last : term_numbered new (length new - 1) ≡ t
  pub more : length terms ≤ length new
  pub few : length new ≤ length terms + 1
  pub same : (k : ℕ) → k < length terms → term_numbered new k ≡ term_numbered terms k

pub put : (terms : List Term) (t : Term) → Put terms t (with_last terms t)
put terms t =
    elim (is_last terms t) as (λ b. is_last terms t ≡ b → Put terms t (cond b terms (terms ++ t ∷ []))) [
      | true ↦ λ e. let l = last_is terms t e (Iri []) in record {
        rising = λ h g. h;
        to = λ x i. inl i;
        some = l.0;
        last = l.1;
        more = omega arith;
        few = omega arith;
        same = λ k h. refl;
      }
      | false ↦ λ e. let n : length (terms ++ t ∷ []) ≡ length terms + 1 = omega (arith, length-append terms (t ∷ [])) in record {
        rising = λ h g. rising-push terms t h g e;
        to = λ x i. ⊎_elim (λ j. inl j) (λ j. ⊎_elim (λ q. inr (sym q)) (λ q. absurd q) j) (In-append_cases terms (t ∷ []) x i);
        some = omega arith;
        last = get_or_push terms t (Iri []) (length (terms ++ t ∷ []) - 1) (omega arith);
        more = omega arith;
        few = omega arith;
        same = λ k h. get_or_append_left terms (t ∷ []) (Iri []) k h;
      }
    ] refl

-- the number of a term at a place
pub record Numbered (new : List Term) (numbers : List ℕ) (x : Term) (j : ℕ) : Type 0 where
  pub below : get_or numbers j 0 < length new
  pub number : term_numbered new (get_or numbers j 0) ≡ x

Dec_same : (j k : ℕ) → eqb j k ≡ true → j ≡ k
Dec_same j k e = grind (arith, nat_tests)

same_or : (j k : ℕ) → (j ≡ k) ⊎ (j ≢ k)
same_or j k = elim (eqb j k) as (λ b. eqb j k ≡ b → (j ≡ k) ⊎ (j ≢ k)) [
  | true ↦ λ e. inl (Dec_same j k e)
  | false ↦ λ e. inr (λ s. cc (eq-eqb j k s))
] refl

at_old : (done : List (Term × ℕ)) (terms new : List Term) (numbers : List ℕ) (t : Term) (k : ℕ) → AreRanked done terms numbers → Put terms t new
    → ((x : Term) → x ≡ t → Numbered new (set numbers k (length new - 1)) x k)
    → ((j : ℕ) → j ≢ k → get_or (set numbers k (length new - 1)) j 0 ≡ get_or numbers j 0)
    → (x : Term) (j : ℕ) → In done (x, j) → (In done (x, k) → x ≡ t) → (j ≡ k) ⊎ (j ≢ k) → Numbered new (set numbers k (length new - 1)) x j
at_old done terms new numbers t k r p at_k there x j i a o = ⊎_elim
    (λ e. subst (Numbered new (set numbers k (length new - 1)) x) (sym e) (at_k x (a (subst (λ w. In done (x, w)) e i))))
    (λ ne. let b : get_or numbers j 0 < length terms = r.below x j i in
    let m : length terms ≤ length new = p.more in record {
      below = omega (arith, there j ne);
      number = ap (term_numbered new) (there j ne) ∙ p.same (get_or numbers j 0) b ∙ r.number x j i;
    })
    o

-- one slot more
pub ranked_more : (done : List (Term × ℕ)) (terms new : List Term) (numbers : List ℕ) (t : Term) (k : ℕ) → AreRanked done terms numbers → Put terms t new → k < length numbers
    → ((x : Term) (j : ℕ) → In done (x, j) → is_lt (term_cmp t x) ≡ false) → ((x : Term) → In done (x, k) → x ≡ t)
    → AreRanked (done ++ (t, k) ∷ []) new (set numbers k (length new - 1))
ranked_more done terms new numbers t k r p h g a =
    let n : length (done ++ (t, k) ∷ []) ≡ length done + 1 = omega (arith, length-append done ((t, k) ∷ [])) in
    let here : get_or (set numbers k (length new - 1)) k 0 ≡ length new - 1 = get_or-set_same numbers k (length new - 1) 0 h in
    let there : (j : ℕ) → j ≢ k → get_or (set numbers k (length new - 1)) j 0 ≡ get_or numbers j 0 = λ j ne. get_or-set_other numbers k j (length new - 1) 0 ne in
    let at_k : (x : Term) → x ≡ t → Numbered new (set numbers k (length new - 1)) x k = λ x e. record {
      below = let s = p.some in omega (arith, here);
      number = ap (term_numbered new) here ∙ p.last ∙ sym e;
    } in
    let each : (x : Term) (j : ℕ) → In (done ++ (t, k) ∷ []) (x, j) → Numbered new (set numbers k (length new - 1)) x j = λ x j i. ⊎_elim
    (λ old. at_old done terms new numbers t k r p at_k there x j old (a x) (same_or j k))
    (λ last. ⊎_elim (λ e. subst (Numbered new (set numbers k (length new - 1)) x) (ap (λ (w : Term × ℕ). w.1) e) (at_k x (sym (ap (λ (w : Term × ℕ). w.0) e)))) (λ q. absurd q) last)
    (In-append_cases done ((t, k) ∷ []) (x, j) i) in
    record {
      rising = p.rising r.rising (λ x i. let w = r.to x i in g x w.0 w.1);
      to = λ x i. ⊎_elim
          (λ old. let w = r.to x old in (w.0, In-append_left done ((t, k) ∷ []) (x, w.0) w.1))
          (λ e. (k, In-append_right done ((t, k) ∷ []) (x, k) (inl (λ i. (sym e i, k)))))
          (p.to x i);
      below = λ x j i. (each x j i).below;
      number = λ x j i. (each x j i).number;
      few = let f = r.few in let q = p.few in omega arith;
    }

-- the document's slots from place p on, three more of them done
pub slots_more : (D : List Triple) (i p : ℕ) (t : Triple) (done all : List (Term × ℕ)) → i < length D → t ≡ get_or D i t
    → done ++ with_places p (flat_map parts (drop i D)) ≡ all
    → (((done ++ (t.subject, p) ∷ []) ++ (t.predicate, p + 1) ∷ []) ++ (t.object, p + 2) ∷ []) ++ with_places (p + 3) (flat_map parts (drop (i + 1) D)) ≡ all
slots_more D i p t done all h e q =
    let rest = drop (i + 1) D in
    let split : drop i D ≡ t ∷ rest = drop-cons D i t h ∙ (λ k. sym e k ∷ drop (one_more i k) D) in
    let three : (done ++ ((t.subject, p) ∷ (t.predicate, p + 1) ∷ (t.object, (p + 1) + 1) ∷ with_places (((p + 1) + 1) + 1) (flat_map parts rest))) ≡ all =
    ap (λ w. done ++ with_places p (flat_map parts w)) (sym split) ∙ q in
    let two : (p + 1) + 1 ≡ p + 2 = omega arith in
    let last : ((p + 1) + 1) + 1 ≡ p + 3 = omega arith in
    simp append_assoc ((λ k. done ++ ((t.subject, p) ∷ (t.predicate, p + 1) ∷ (t.object, sym two k) ∷ with_places (sym last k) (flat_map parts rest))) ∙ three)

pub last_at : (terms : List Term) (t d : Term) → 0 < length terms → is_last terms t ≡ same_term (get_or terms (length terms - 1) d) t
last_at [] t d h = absurd (omega arith)
last_at (x ∷ []) t d h = refl
last_at (x ∷ y ∷ xs) t d h =
    last_at (y ∷ xs) t d (omega arith) ∙ ap (λ n. same_term (get_or (y ∷ xs) n d) t) (next_place xs) ∙ ap (λ n. same_term (get_or (x ∷ y ∷ xs) n d) t) (sym (last_place xs))

rising_none : IsStrictlySortedBy term_cmp []
unfolding IsStrictlySortedBy
rising_none = tt

pub ranked_none : (terms : List Term) (numbers : List ℕ) → terms ≡ [] → AreRanked [] terms numbers
ranked_none terms numbers e = subst (λ w. AreRanked [] w numbers) (sym e) (record {
  rising = rising_none;
  to = λ t i. absurd i;
  below = λ t k i. absurd i;
  number = λ t k i. absurd i;
  few = omega arith;
})

length-take_le : {X : Type 0} (i : ℕ) (xs : List X) → length (take i xs) ≤ i
length-take_le zero xs = omega arith
length-take_le (suc i) [] = omega arith
length-take_le (suc i) (x ∷ xs) = let h : length (take i xs) ≤ i = length-take_le i xs in omega arith

earlier : (S : List (Term × ℕ)) (i : ℕ) (t : Term) (k : ℕ) (x : Term) (j : ℕ) → AreSlots S → i < length S → get_or S i (t, k) ≡ (t, k) → In (take i S) (x, j) → is_lt (term_cmp t x) ≡ false
earlier S i t k x j s h e m =
    let a = place_of (take i S) (x, j) m in
    let w : a.k < length (take i S) = a.within in
    let n : length (take i S) ≤ i = length-take_le i S in
    let there : get_or S a.k (t, k) ≡ (x, j) = sym (get_or-take i S a.k (t, k) (omega arith)) ∙ a.is (t, k) in
    let g : is_lt (term_cmp (get_or S i (t, k)).0 (get_or S a.k (t, k)).0) ≡ false = s.sorted a.k i (t, k) (omega arith) h in
    sym (λ z. is_lt (term_cmp (e z).0 (there z).0)) ∙ g

-- the slot at a place, ranked after those before it
pub ranked_next : (S : List (Term × ℕ)) (i : ℕ) (terms new : List Term) (numbers : List ℕ) (t : Term) (k : ℕ) → AreSlots S → i < length S → get_or S i (t, k) ≡ (t, k)
    → AreRanked (take i S) terms numbers → new ≡ with_last terms t → length numbers ≡ length S → AreRanked (take (i + 1) S) new (set numbers k (length new - 1))
ranked_next S i terms new numbers t k s h e r is n =
    let here : In S (t, k) = subst (In S) e (In-get_or S i (t, k) h) in
    let more : take (i + 1) S ≡ take i S ++ (t, k) ∷ [] = take_more S i (t, k) h ∙ ap (λ w. take i S ++ w ∷ []) e in
    let p : Put terms t new = subst (Put terms t) (sym is) (put terms t) in
    let within : k < length S = s.within t k here in
    subst (λ w. AreRanked w new (set numbers k (length new - 1))) (sym more) (ranked_more (take i S) terms new numbers t k r p (omega arith)
    (λ x j m. earlier S i t k x j s h e m)
    (λ x m. s.alone x t k (In-take i S (x, k) m) here))

from_first : (p : ℕ) → p ≡ p + 0
from_first p = omega arith

one_later : (p j : ℕ) → (p + 1) + j ≡ p + suc j
one_later p j = omega arith

same_place : (k i j : ℕ) → k ≡ 0 + i → k ≡ 0 + j → i ≡ j
same_place k i j p q = omega arith

-- where a value of a numbered list stands
pub record IsNumbered {X : Type 0} (xs : List X) (p : ℕ) (x : X) (k : ℕ) : Type 0 where
  pub j : ℕ
  pub is : k ≡ p + j
  pub within : j < length xs
  pub value : (d : X) → get_or xs j d ≡ x

pub numbered_at : {X : Type 0} (xs : List X) (p : ℕ) (x : X) (k : ℕ) → In (with_places p xs) (x, k) → IsNumbered xs p x k
numbered_at [] p x k i = absurd i
numbered_at {X} (y ∷ xs) p x k i = ⊎_elim
    (λ e. let q : p ≡ k = ap (λ (w : X × ℕ). w.1) e in record { j = zero; is = omega arith; within = omega arith; value = λ d. ap (λ (w : X × ℕ). w.0) e })
    (λ m. let r = numbered_at xs (p + 1) x k m in record {
      j = suc r.j;
      is = let q : k ≡ (p + 1) + r.j = r.is in omega arith;
      within = let q : r.j < length xs = r.within in omega arith;
      value = λ d. r.value d;
    })
    i

pub In-numbered : {X : Type 0} (xs : List X) (p j : ℕ) (d : X) → j < length xs → In (with_places p xs) (get_or xs j d, p + j)
In-numbered [] p j d h = absurd (omega arith)
In-numbered (x ∷ xs) p zero d h = inl (λ i. (x, from_first p i))
In-numbered (x ∷ xs) p (suc j) d h = inr (subst (λ n. In (with_places (p + 1) xs) (get_or xs j d, n)) (one_later p j) (In-numbered xs (p + 1) j d (omega arith)))

pub length-numbered : {X : Type 0} (xs : List X) (p : ℕ) → length (with_places p xs) ≡ length xs
length-numbered [] p = refl
length-numbered (x ∷ xs) p = ap suc (length-numbered xs (p + 1))

pub length-parts : (L : List Triple) → length (flat_map parts L) ≡ 3 * length L
length-parts [] = refl
length-parts (t ∷ L) = let n : length (flat_map parts L) ≡ 3 * length L = length-parts L in omega arith

-- the slots of a list of terms, in any order that never falls
pub slots_from : (P : List Term) (S : List (Term × ℕ)) → IsPermutation (with_places 0 P) S
    → ((i j : ℕ) (d : Term × ℕ) → i ≤ j → j < length S → is_lt (term_cmp (get_or S j d).0 (get_or S i d).0) ≡ false) → AreSlots S
slots_from P S p h = record {
  sorted = h;
  alone = λ t u k i j.
      let a = numbered_at P 0 t k (In-from_permutation (with_places 0 P) S (t, k) p i) in
      let b = numbered_at P 0 u k (In-from_permutation (with_places 0 P) S (u, k) p j) in
      sym (a.value t) ∙ ap (λ n. get_or P n t) (same_place k a.j b.j a.is b.is) ∙ b.value t;
  within = λ t k i.
      let a = numbered_at P 0 t k (In-from_permutation (with_places 0 P) S (t, k) p i) in
      let n : length S ≡ length P = length_permutation (with_places 0 P) S p ∙ length-numbered P 0 in
      let w : a.j < length P = a.within in
      let q : k ≡ 0 + a.j = a.is in
      omega arith;
}

pub dictionary_from : (P : List Term) (S : List (Term × ℕ)) (terms : List Term) (numbers : List ℕ) → IsPermutation (with_places 0 P) S → AreRanked S terms numbers → length numbers ≡ length S
    → IsDictionary P terms numbers
dictionary_from P S terms numbers p r n =
    let m : length S ≡ length P = length_permutation (with_places 0 P) S p ∙ length-numbered P 0 in
    let placed : (k : ℕ) (d : Term) → k < length P → In S (get_or P k d, k) = λ k d h.
    In-permutation (with_places 0 P) S (get_or P k d, k) p (subst (λ w. In (with_places 0 P) (get_or P k d, w)) (zero-add k) (In-numbered P 0 k d h)) in
    record {
      rising = r.rising;
      to = λ t i. let w = r.to t i in let a = numbered_at P 0 t w.0 (In-from_permutation (with_places 0 P) S (t, w.0) p w.1) in
          subst (In P) (a.value t) (In-get_or P a.j t a.within);
      few = let f : length terms ≤ length S = r.few in omega arith;
      below = λ k i. let a = place_of numbers k i in let w : a.k < length numbers = a.within in
          subst (λ w. w < length terms) (a.is 0) (r.below (get_or P a.k (Iri [])) a.k (placed a.k (Iri []) (omega arith)));
      same = same_lists (map (term_numbered terms) numbers) P (length-mapped (term_numbered terms) numbers ∙ n ∙ m)
          (λ k d h. let q : length (map (term_numbered terms) numbers) ≡ length numbers = length-mapped (term_numbered terms) numbers in
          get_or-mapped (term_numbered terms) numbers k 0 d (omega arith) ∙ r.number (get_or P k d) k (placed k d (omega arith)));
    }

pub last_read : (xs : List (Bor Term)) (x : Bor Term) (t : Term) → Some x ≡ slice_get xs (length xs - 1) → same_term x.now t ≡ is_last (map (λ (y : Bor Term). y.now) xs) t
last_read xs x t e =
    let now : Bor Term → Term = λ y. y.now in
    let w : length xs - 1 < length xs = slice_get_within xs (length xs - 1) x (sym e) in
    let n : length (map now xs) ≡ length xs = length-mapped now xs in
    let at : get_or (map now xs) (length (map now xs) - 1) t ≡ x.now =
    ap (λ m. get_or (map now xs) (m - 1) t) n ∙ get_or-mapped now xs (length xs - 1) x t w ∙ ap now (get_or_from_slice_get xs (length xs - 1) x x (sym e)) in
    ap (λ y. same_term y t) (sym at) ∙ sym (last_at (map now xs) t t (omega arith))

never_falls : (xs : List Slot) (x : Slot) → IsSorted slot_cmp xs → (i j : ℕ) (d : Term × ℕ) → i ≤ j → j < length xs → is_lt (term_cmp (get_or (map term_and_place xs) j d).0 (get_or (map term_and_place xs) i d).0) ≡ false
never_falls xs x h i j d le lt =
    let far : is_lt (slot_cmp (get_or xs j x) (get_or xs i x)) ≡ false =
    sorted_far (λ (a b : Slot). is_lt (slot_cmp a b)) (ranks_by slots_total (λ (a : Slot). a)) xs h i j x le lt in
    let first = get_or-mapped term_and_place xs i x d (omega arith) in
    let second = get_or-mapped term_and_place xs j x d lt in
    (λ k. is_lt (term_cmp (second k).0 (first k).0)) ∙ far

sorted_seen : (xs : List Slot) → IsSorted slot_cmp xs → (i j : ℕ) (d : Term × ℕ) → i ≤ j → j < length (map term_and_place xs) → is_lt (term_cmp (get_or (map term_and_place xs) j d).0 (get_or (map term_and_place xs) i d).0) ≡ false
sorted_seen [] h i j d le lt = absurd (omega arith)
sorted_seen (x ∷ xs) h i j d le lt =
    let n : length (map term_and_place (x ∷ xs)) ≡ length (x ∷ xs) = length-mapped term_and_place (x ∷ xs) in
    never_falls (x ∷ xs) x h i j d le (omega arith)

pub seen_permutation : (P : List Term) (xs ys zs : List Slot) → map term_and_place xs ≡ with_places 0 P → IsPermutation xs ys → zs ≡ ys → IsPermutation (with_places 0 P) (map term_and_place zs)
seen_permutation P xs ys zs e p v =
    subst (λ w. IsPermutation w (map term_and_place zs)) e (subst (λ w. IsPermutation (map term_and_place xs) (map term_and_place w)) (sym v) (IsPermutation-map term_and_place xs ys p))

pub seen_slots : (P : List Term) (xs ys zs : List Slot) → map term_and_place xs ≡ with_places 0 P → IsPermutation xs ys → IsSorted slot_cmp ys → zs ≡ ys → AreSlots (map term_and_place zs)
seen_slots P xs ys zs e p s v =
    slots_from P (map term_and_place zs) (seen_permutation P xs ys zs e p v) (sorted_seen zs (subst (IsSorted slot_cmp) (sym v) s))

pub seen_length : (L : List Triple) (xs ys zs : List Slot) → map term_and_place xs ≡ with_places 0 (flat_map parts L) → IsPermutation xs ys → zs ≡ ys → length L ≤ 4194303 → length zs ≤ 12582909
seen_length L xs ys zs e p v n =
    let a : length zs ≡ length ys = ap length v in
    let b : length ys ≡ length xs = length_permutation xs ys p in
    let c : length (map term_and_place xs) ≡ length xs = length-mapped term_and_place xs in
    let d : length (map term_and_place xs) ≡ length (flat_map parts L) = ap length e ∙ length-numbered (flat_map parts L) 0 in
    let f : length (flat_map parts L) ≡ 3 * length L = length-parts L in
    omega arith
