-- In a list of keys that rise strictly, those before a cut stand in front.
use Rattle.std.proofs.Common.{◌≡◌, ℕ, zero, suc, ◌+◌, ◌-◌, ◌<◌, ◌≤◌, ◌==◌, List, [], ◌∷◌, length, get_or, count_by, Some, Bool, true, false, cond, Less, Equal, Greater, refl, sym, ap, subst, ◌∙◌, arith}
use Rattle.std.specs.Prelude.{if◌then◌else◌}
use Rattle.std.specs.List.{slice_get}
use Rattle.std.specs.declared.cmp.Ordering.{Ordering}
use Rattle.std.specs.Ordering.{nat_cmp, ordering_then, ordering_reverse, is_lt, is_le}
use Rattle.std.specs.Cmp.{IsTotalOrder}
use Rattle.std.specs.List.Sorted.{IsStrictlySortedBy}
use Rattle.std.proofs.lemmas.Cmp.{then_total, on_total, nat_cmp_total}
use Rattle.std.proofs.lemmas.List.Sums.{sum_by-cons}
use Rattle.std.proofs.lemmas.Map.Keys.{Less-from_sorted}
use Rattle.std.proofs.lemmas.Option.{slice_get_within, get_or_from_slice_get}
use Rattle.term_core.specs.declared.pattern.IdTriple.{IdTriple}
use Rattle.term_core.specs.Ids.{id_cmp}
use Rattle.term_core.proofs.IdOrder.{ids_total}
use Rattle.btree_scan.specs.declared.tree.Tree.{Tree}
use Rattle.btree_scan.specs.declared.prefix.Prefix.{Prefix}
use Rattle.btree_scan.specs.Levels.{Lists, passes, IsEdgeAt}
use Rattle.btree_scan.specs.Cuts.{front_cmp, prefix_cmp, prefix_key, stands_before, IsKeyRange}

-- what stands in front of a key that passes passes too
abbrev pub IsFront : (IdTriple → Bool) → List IdTriple → Type 0
IsFront p xs = (i j : ℕ) (x y : IdTriple) → slice_get xs i ≡ Some x → slice_get xs j ≡ Some y → i < j → p y ≡ true → p x ≡ true

-- the keys in front of a place pass, and those from it on do not
pub record IsCut (p : IdTriple → Bool) (xs : List IdTriple) (n : ℕ) : Type 0 where
  pub below : (k : ℕ) (x : IdTriple) → slice_get xs k ≡ Some x → k < n → p x ≡ true
  pub above : (k : ℕ) (x : IdTriple) → slice_get xs k ≡ Some x → n ≤ k → p x ≡ false

all_tie : IsTotalOrder (λ (a : IdTriple) (b : IdTriple). Equal)
all_tie = record { antisymm = λ x y. refl; trans = λ x y z e f. e; congr = λ x y z e. refl }

either : (t : Bool) (R S : IdTriple → IdTriple → Ordering) → IsTotalOrder R → IsTotalOrder S → IsTotalOrder (λ a b. if t then R a b else S a b)
either true R S r s = r
either false R S r s = s

firsts_total : IsTotalOrder (λ (a : IdTriple) (b : IdTriple). nat_cmp a.s b.s)
firsts_total = on_total (λ (t : IdTriple). t.s) nat_cmp_total

pairs_total : IsTotalOrder (λ (a : IdTriple) (b : IdTriple). ordering_then (nat_cmp a.s b.s) (nat_cmp a.p b.p))
pairs_total = then_total (on_total (λ (t : IdTriple). t.s) nat_cmp_total) (on_total (λ (t : IdTriple). t.p) nat_cmp_total)

front_total : (n : ℕ) → IsTotalOrder (front_cmp n)
unfolding front_cmp
front_total n = either (n == 0) _ _ all_tie (either (n == 1) _ _ firsts_total (either (n == 2) _ _ pairs_total ids_total))

chosen : (t : Bool) (a b : Ordering) → is_le a ≡ true → is_le b ≡ true → is_le (if t then a else b) ≡ true
chosen true a b e f = e
chosen false a b e f = f

first_le : (a rest : Ordering) → ordering_then a rest ≡ Less → is_le a ≡ true
first_le Less rest e = refl
first_le Equal rest e = refl
first_le Greater rest e = cc

pair_le : (a b c : Ordering) → ordering_then a (ordering_then b c) ≡ Less → is_le (ordering_then a b) ≡ true
pair_le Less b c e = refl
pair_le Equal b c e = first_le b c e
pair_le Greater b c e = cc

front_le : (n : ℕ) (x y : IdTriple) → id_cmp x y ≡ Less → is_le (front_cmp n x y) ≡ true
unfolding front_cmp
front_le n x y e =
    chosen (n == 0) _ _ refl (chosen (n == 1) _ _ (first_le (nat_cmp x.s y.s) _ e)
    (chosen (n == 2) _ _ (pair_le (nat_cmp x.s y.s) (nat_cmp x.p y.p) (nat_cmp x.o y.o) e) (ap is_le e)))

le_of : (r : Ordering) → is_lt r ≡ true → is_le r ≡ true
le_of Less e = refl
le_of Equal e = cc
le_of Greater e = cc

-- what stands before the keys with a prefix stands before what follows them
pub through_too : (prefix : Prefix) (e : IdTriple) → stands_before false prefix e ≡ true → stands_before true prefix e ≡ true
through_too prefix e h = le_of (prefix_cmp prefix e) h

less_of : (r : Ordering) → is_lt r ≡ true → r ≡ Less
less_of Less e = refl
less_of Equal e = cc
less_of Greater e = cc

by_order : (C : Type 0) (r : Ordering) → is_le r ≡ true → (r ≡ Less → C) → (r ≡ Equal → C) → C
by_order C Less e less tie = less refl
by_order C Equal e less tie = tie refl
by_order C Greater e less tie = cc

module _ (R : IdTriple → IdTriple → Ordering) (total : IsTotalOrder R) (x y z : IdTriple) (first : is_le (R x y) ≡ true) where
  less_then : R y z ≡ Less → R x z ≡ Less
  less_then e = by_order (R x z ≡ Less) (R x y) first (λ less. total.trans x y z less e) (λ tie. total.congr x y z tie ∙ e)

  tie_then : R y z ≡ Equal → R x z ≡ R x y
  tie_then e =
      let back : R z y ≡ Equal = total.antisymm z y ∙ ap ordering_reverse e in
      total.antisymm x z ∙ ap ordering_reverse (total.congr z y x back) ∙ sym (total.antisymm x y)

  pub le_then : is_le (R y z) ≡ true → is_le (R x z) ≡ true
  le_then h = by_order (is_le (R x z) ≡ true) (R y z) h (λ less. ap is_le (less_then less)) (λ tie. ap is_le (tie_then tie) ∙ first)

  pub lt_then : is_lt (R y z) ≡ true → is_lt (R x z) ≡ true
  lt_then h = ap is_lt (less_then (less_of (R y z) h))

not_true : (b : Bool) → (b ≡ true → ⊥) → b ≡ false
not_true true h = absurd (h refl)
not_true false h = refl

rises : (es : List IdTriple) (i j : ℕ) (x y : IdTriple) → IsStrictlySortedBy id_cmp es → slice_get es i ≡ Some x → slice_get es j ≡ Some y → i < j → id_cmp x y ≡ Less
rises es i j x y sorted at_i at_j lt =
    let a : get_or es i x ≡ x = get_or_from_slice_get es i x x at_i in
    let b : get_or es j x ≡ y = get_or_from_slice_get es j y x at_j in
    subst (λ v. id_cmp x v ≡ Less) b (subst (λ u. id_cmp u (get_or es j x) ≡ Less) a (Less-from_sorted id_cmp es i j x sorted lt (slice_get_within es j y at_j)))

pub front_before : (through : Bool) (prefix : Prefix) (es : List IdTriple) → IsStrictlySortedBy id_cmp es → IsFront (stands_before through prefix) es
front_before true prefix es sorted = λ i j x y at_i at_j lt passes.
    le_then (front_cmp prefix.len) (front_total prefix.len) x y (prefix_key prefix) (front_le prefix.len x y (rises es i j x y sorted at_i at_j lt)) passes
front_before false prefix es sorted = λ i j x y at_i at_j lt passes.
    lt_then (front_cmp prefix.len) (front_total prefix.len) x y (prefix_key prefix) (front_le prefix.len x y (rises es i j x y sorted at_i at_j lt)) passes

by_place : (C : Type 0) (k m : ℕ) → k ≤ m → (k ≡ m → C) → (k < m → C) → C
by_place C zero zero le same less = same refl
by_place C zero (suc m) le same less = less (omega arith)
by_place C (suc k) zero le same less = absurd (omega arith)
by_place C (suc k) (suc m) le same less = by_place C k m (omega arith) (λ e. same (ap suc e)) (λ lt. less (omega arith))

get_within : (es : List IdTriple) (k : ℕ) → k < length es → (e : IdTriple) × (slice_get es k ≡ Some e)
get_within [] k lt = absurd (omega arith)
get_within (x ∷ es) zero lt = (x, refl)
get_within (x ∷ es) (suc k) lt = get_within es k (omega arith)

same_at : (xs : List IdTriple) (k m : ℕ) (u v : IdTriple) → k ≡ m → slice_get xs m ≡ Some u → slice_get xs k ≡ Some v → u ≡ v
same_at xs k m u v e at_m at_k = let f : slice_get xs k ≡ slice_get xs m = ap (slice_get xs) e in cc

-- an edge in a list whose front passes cuts the list
module _ (tree : Tree) (es : List IdTriple) (image : List ℕ) (p : IdTriple → Bool) (n : ℕ) (lists : Lists tree es image) (front : IsFront p es) (edge : IsEdgeAt tree 0 p image n) where
  below_edge : (k : ℕ) (x : IdTriple) → slice_get es k ≡ Some x → k < n → p x ≡ true
  below_edge k x at lt =
      let last = get_within es (n - 1) (omega (arith, edge.within, lists.entries)) in
      let passed : p last.0 ≡ true = ap (passes p) (sym (lists.each (n - 1) last.0 last.1)) ∙ edge.below (n - 1) (omega arith) (omega arith) in
      by_place (p x ≡ true) k (n - 1) (omega arith)
      (λ e. ap p (sym (same_at es k (n - 1) last.0 x e last.1 at)) ∙ passed)
      (λ lower. front k (n - 1) x last.0 at last.1 lower passed)

  above_edge : (k : ℕ) (x : IdTriple) → slice_get es k ≡ Some x → n ≤ k → p x ≡ false
  above_edge k x at le =
      let long = slice_get_within es k x at in
      let here = get_within es n (omega arith) in
      let fails : p here.0 ≡ false = ap (passes p) (sym (lists.each n here.0 here.1)) ∙ edge.above (omega (arith, lists.entries)) in
      by_place (p x ≡ false) n k le
      (λ e. ap p (sym (same_at es k n here.0 x (sym e) here.1 at)) ∙ fails)
      (λ higher. not_true (p x) (λ h. let e = front n k here.0 x here.1 at higher h in cc))

  pub cut_at : IsCut p es n
  cut_at = record { below = below_edge; above = above_edge }

one_more : (p : IdTriple → Bool) (x : IdTriple) (xs : List IdTriple) (n : ℕ) → p x ≡ true → n ≡ count_by p xs → suc n ≡ count_by p (x ∷ xs)
one_more p x xs n e i =
    let step : count_by p (x ∷ xs) ≡ cond {A = ℕ} (p x) 1 0 + count_by p xs = sum_by-cons (λ y. cond {A = ℕ} (p y) 1 0) x xs in
    let here : cond {A = ℕ} (p x) 1 0 ≡ 1 = ap (λ b. cond {A = ℕ} b 1 0) e in
    omega arith

no_more : (p : IdTriple → Bool) (x : IdTriple) (xs : List IdTriple) → p x ≡ false → count_by p xs ≡ 0 → count_by p (x ∷ xs) ≡ 0
no_more p x xs e i =
    let step : count_by p (x ∷ xs) ≡ cond {A = ℕ} (p x) 1 0 + count_by p xs = sum_by-cons (λ y. cond {A = ℕ} (p y) 1 0) x xs in
    let here : cond {A = ℕ} (p x) 1 0 ≡ 0 = ap (λ b. cond {A = ℕ} b 1 0) e in
    omega arith

none_of : (p : IdTriple → Bool) (xs : List IdTriple) → ((k : ℕ) (x : IdTriple) → slice_get xs k ≡ Some x → p x ≡ false) → count_by p xs ≡ 0
none_of p [] h = refl
none_of p (x ∷ xs) h = no_more p x xs (h 0 x refl) (none_of p xs (λ k y at. h (suc k) y at))

-- a cut is the number of keys that pass
pub counted : (p : IdTriple → Bool) (xs : List IdTriple) (n : ℕ) → IsCut p xs n → n ≤ length xs → n ≡ count_by p xs
counted p xs zero cut le = sym (none_of p xs (λ k x at. cut.above k x at (omega arith)))
counted p [] (suc n) cut le = absurd (omega arith)
counted p (x ∷ xs) (suc n) cut le =
    one_more p x xs n (cut.below 0 x refl (omega arith))
    (counted p xs n record { below = λ k y at lt. cut.below (suc k) y at (omega arith); above = λ k y at ge. cut.above (suc k) y at (omega arith) } (omega arith))

-- an edge is the number of keys before the cut
pub edge_counts : (tree : Tree) (es : List IdTriple) (image : List ℕ) (through : Bool) (prefix : Prefix) (n : ℕ) → Lists tree es image → IsEdgeAt tree 0 (stands_before through prefix) image n
    → n ≡ count_by (stands_before through prefix) es
edge_counts tree es image through prefix n lists edge =
    counted (stands_before through prefix) es n (cut_at tree es image (stands_before through prefix) n lists (front_before through prefix es lists.sorted) edge) (omega (arith, edge.within, lists.entries))

side : (C : Type 0) (k m : ℕ) → (k < m → C) → (m ≤ k → C) → C
side C k zero below above = above (omega arith)
side C zero (suc m) below above = below (omega arith)
side C (suc k) (suc m) below above = side C k m (λ lt. below (omega arith)) (λ le. above (omega arith))

ties : (r : Ordering) → is_lt r ≡ false → is_le r ≡ true → r ≡ Equal
ties Less e f = cc
ties Equal e f = refl
ties Greater e f = cc

-- two edges are the range of the prefix
pub edges_range : (tree : Tree) (es : List IdTriple) (image : List ℕ) (prefix : Prefix) (first end : ℕ) → Lists tree es image
    → IsEdgeAt tree 0 (stands_before false prefix) image first → IsEdgeAt tree 0 (stands_before true prefix) image end → IsKeyRange prefix es first end
edges_range tree es image prefix first end lists edge last =
    let low = cut_at tree es image (stands_before false prefix) first lists (front_before false prefix es lists.sorted) edge in
    let high = cut_at tree es image (stands_before true prefix) end lists (front_before true prefix es lists.sorted) last in
    record {
      below = edge_counts tree es image false prefix first lists edge;
      through = edge_counts tree es image true prefix end lists last;
      exactly = λ k e at. (
        λ has. (
          side (first ≤ k) k first (λ lt. let a : is_lt (prefix_cmp prefix e) ≡ true = low.below k e at lt in let b : is_lt (prefix_cmp prefix e) ≡ false = ap is_lt has in absurd (cc)) (λ le. le),
          side (k < end) k end (λ lt. lt) (λ le. let a : is_le (prefix_cmp prefix e) ≡ false = high.above k e at le in let b : is_le (prefix_cmp prefix e) ≡ true = ap is_le has in absurd (cc)),
        ),
        λ inside. ties (prefix_cmp prefix e) (low.above k e at inside.0) (high.below k e at inside.1),
      );
    }

-- the first place of a range is not behind its end
pub edges_ordered : (tree : Tree) (es : List IdTriple) (image : List ℕ) (prefix : Prefix) (first end : ℕ) → Lists tree es image
    → IsEdgeAt tree 0 (stands_before false prefix) image first → IsEdgeAt tree 0 (stands_before true prefix) image end → first ≤ end
edges_ordered tree es image prefix first end lists edge last =
    let low = cut_at tree es image (stands_before false prefix) first lists (front_before false prefix es lists.sorted) edge in
    let high = cut_at tree es image (stands_before true prefix) end lists (front_before true prefix es lists.sorted) last in
    side (first ≤ end) end first
    (λ lt.
    let here = get_within es end (omega (arith, edge.within, lists.entries)) in
    let a : stands_before true prefix here.0 ≡ true = through_too prefix here.0 (low.below end here.0 here.1 lt) in
    let b : stands_before true prefix here.0 ≡ false = high.above end here.0 here.1 (omega arith) in absurd (cc))
    (λ le. le)
