-- The keys of the triples that are asked for are those with a front.
use Rattle.std.proofs.Common.{◌≡◌, ℕ, ◌↔◌, refl, sym, subst, arith, Bool, true, false, Equal}
use Rattle.std.specs.Prelude.{◌==◌, ◌&&◌, IsTrue}
use Rattle.std.specs.declared.cmp.Ordering.{Ordering}
use Rattle.std.specs.Ordering.{nat_cmp, ordering_then}
use Rattle.std.proofs.lemmas.Bool.Decides.{nat_tests}
use Rattle.term_core.specs.declared.pattern.IdTriple.{IdTriple}
use Rattle.term_core.specs.OrderLaws.{both_tie}
use Rattle.btree_scan.specs.Cuts.{front_cmp, HasPrefix}
use Rattle.store_image.specs.Keys.{ids_of_key}
use Rattle.triple_store.specs.declared.asked.Wanted.{Wanted}
use Rattle.triple_store.specs.declared.asked.Wanted.TheVariants.{Any, Only, Nothing}
use Rattle.triple_store.specs.declared.asked.Asked.{Asked}
use Rattle.triple_store.specs.Asked.{asks_for, index_for}
use Rattle.triple_store.specs.WantedFronts.{front_of}

tied : (x a : ℕ) → nat_cmp x a ≡ Equal → (a == x) ≡ true
tied x a e = grind (arith, nat_tests)

untied : (x a : ℕ) → (a == x) ≡ true → nat_cmp x a ≡ Equal
untied x a e = grind (arith, nat_tests)

-- one, two or three ranks, in the order in which they are compared
one : (x a : ℕ) → (nat_cmp x a ≡ Equal) ↔ ((a == x) ≡ true)
one x a = (tied x a, untied x a)

both : (r q : Ordering) (s t : Bool) → (r ≡ Equal) ↔ (s ≡ true) → (q ≡ Equal) ↔ (t ≡ true) → (ordering_then r q ≡ Equal) ↔ ((s && t) ≡ true)
both r q s t f g = (
  λ e. let two = both_tie r q e in let a = f.0 two.0 in let b = g.0 two.1 in λ i. a i && b i,
  λ e. let a = f.1 (first_true s t e) in let b = g.1 (second_true s t e) in λ i. ordering_then (a i) (b i),
)
  where
    first_true : (s t : Bool) → (s && t) ≡ true → s ≡ true
    first_true true t e = refl
    first_true false t e = cc

    second_true : (s t : Bool) → (s && t) ≡ true → t ≡ true
    second_true true t e = e
    second_true false t e = cc

turned : (s t : Bool) → (s && t) ≡ (t && s)
turned true true = refl
turned true false = refl
turned false true = refl
turned false false = refl

with_true : (s : Bool) → (s && true) ≡ s
with_true true = refl
with_true false = refl

-- the same for a front of each length, whichever places it comes of
module _ (key : IdTriple) where
  abbrev Asks : (s p o : Wanted) → Type 0
  Asks s p o = let asked : Asked = record { s = s; p = p; o = o } in HasPrefix (front_of asked) key ↔ IsTrue (asks_for asked (ids_of_key (index_for asked) key))

  asks : (s p o : Wanted) → (s ≡ Nothing → ⊥) → (p ≡ Nothing → ⊥) → (o ≡ Nothing → ⊥) → Asks s p o
  unfolding front_cmp
  asks Nothing p o ls lp lo = absurd (ls refl)
  asks Any Nothing o ls lp lo = absurd (lp refl)
  asks Any Any Nothing ls lp lo = absurd (lo refl)
  asks Any Any Any ls lp lo = (λ e. refl, λ e. refl)
  asks Any Any (Only c) ls lp lo = one key.s c
  asks Any (Only b) Nothing ls lp lo = absurd (lo refl)
  asks Any (Only b) Any ls lp lo = subst (λ t. (nat_cmp key.s b ≡ Equal) ↔ (t ≡ true)) (sym (with_true (b == key.s))) (one key.s b)
  asks Any (Only b) (Only c) ls lp lo = both (nat_cmp key.s b) (nat_cmp key.p c) (b == key.s) (c == key.p) (one key.s b) (one key.p c)
  asks (Only a) Nothing o ls lp lo = absurd (lp refl)
  asks (Only a) Any Nothing ls lp lo = absurd (lo refl)
  asks (Only a) Any Any ls lp lo = subst (λ t. (nat_cmp key.s a ≡ Equal) ↔ (t ≡ true)) (sym (with_true (a == key.s))) (one key.s a)
  asks (Only a) Any (Only c) ls lp lo =
      subst (λ t. (ordering_then (nat_cmp key.s c) (nat_cmp key.p a) ≡ Equal) ↔ (t ≡ true)) (turned (c == key.s) (a == key.p))
      (both (nat_cmp key.s c) (nat_cmp key.p a) (c == key.s) (a == key.p) (one key.s c) (one key.p a))
  asks (Only a) (Only b) Nothing ls lp lo = absurd (lo refl)
  asks (Only a) (Only b) Any ls lp lo =
      subst (λ t. (ordering_then (nat_cmp key.s a) (nat_cmp key.p b) ≡ Equal) ↔ ((a == key.s && t) ≡ true)) (sym (with_true (b == key.p)))
      (both (nat_cmp key.s a) (nat_cmp key.p b) (a == key.s) (b == key.p) (one key.s a) (one key.p b))
  asks (Only a) (Only b) (Only c) ls lp lo =
      both (nat_cmp key.s a) (ordering_then (nat_cmp key.p b) (nat_cmp key.o c)) (a == key.s) (b == key.p && c == key.o) (one key.s a)
      (both (nat_cmp key.p b) (nat_cmp key.o c) (b == key.p) (c == key.o) (one key.p b) (one key.o c))

-- keys have the front exactly where the ranks are those that are asked for
pub front_asks : (asked : Asked) (key : IdTriple) → (asked.s ≡ Nothing → ⊥) → (asked.p ≡ Nothing → ⊥) → (asked.o ≡ Nothing → ⊥)
    → HasPrefix (front_of asked) key ↔ IsTrue (asks_for asked (ids_of_key (index_for asked) key))
front_asks asked key ls lp lo = asks key asked.s asked.p asked.o ls lp lo

pub refuted : (b : Bool) (P : Type 0) → (b ≡ true → P) × (P → b ≡ true) → b ≡ false → P → ⊥
refuted b P same e p = let f = same.1 p in cc
