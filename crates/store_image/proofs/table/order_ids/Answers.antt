use Rattle.std.proofs.Common.{◌≡◌, List, refl, sym, ap, ◌∙◌, subst, Contains, Bool, Less, Equal, Greater, arith}
use Rattle.std.specs.Prelude.{◌&&◌, ℕ, ◌==◌}
use Rattle.std.specs.Ordering.{eq_by_cmp, nat_cmp, ordering_then, is_eq}
use Rattle.std.specs.declared.cmp.Ordering.{Ordering}
use Rattle.std.specs.Cmp.{eq_by_cmp_equiv}
use Rattle.std.specs.List.Sorted.{IsStrictlySortedBy}
use Rattle.std.specs.List.{dedup}
use Rattle.std.proofs.lemmas.Bool.Decides.{nat_tests}
use Rattle.std.proofs.lemmas.List.Filters.{dedup_is}
use Rattle.std.proofs.lemmas.List.Kept.{IsStrictlySortedBy-dedup, Contains-dedup, Contains-from_dedup}
use Rattle.std.proofs.lemmas.List.Sorted.{Contains-permutation, IsPermutation-sym}
use Rattle.std.proofs.lemmas.Map.Views.{tells_apart}
use Rattle.term_core.specs.declared.pattern.IdTriple.{IdTriple}
use Rattle.term_core.specs.Ids.{id_cmp}
use Rattle.term_core.proofs.IdOrder.{ids_total, same_ids}
use Rattle.store_image.proofs.table.order_ids.Goals as goal

abbrev same : IdTriple → IdTriple → Bool
same x y = (x.s == y.s) && ((x.p == y.p) && (x.o == y.o))

number : (a b : ℕ) → (a == b) ≡ is_eq (nat_cmp a b)
number a b = grind (arith, nat_tests)

both : (a b : Ordering) → (is_eq a && is_eq b) ≡ is_eq (ordering_then a b)
both Less b = refl
both Equal b = refl
both Greater b = refl

ties : (x y : IdTriple) → same x y ≡ eq_by_cmp id_cmp x y
ties x y =
    (λ i. number x.s y.s i && (number x.p y.p i && number x.o y.o i))
    ∙ ap (λ b. is_eq (nat_cmp x.s y.s) && b) (both (nat_cmp x.p y.p) (nat_cmp x.o y.o))
    ∙ both (nat_cmp x.s y.s) (ordering_then (nat_cmp x.p y.p) (nat_cmp x.o y.o))

deduped : (xs : List IdTriple) → dedup same xs ≡ dedup (eq_by_cmp id_cmp) xs
deduped xs = λ i. dedup (λ x y. ties x y i) xs

pub returns-clause-sorted : goal.returns-clause-sorted
returns-clause-sorted c =
    let is = dedup_is same _ _ c.dedup.ensures.filtered ∙ deduped c.sort_unstable.new.self.items in
    subst (IsStrictlySortedBy id_cmp) (sym is)
    (IsStrictlySortedBy-dedup ids_total (λ x y. refl) c.sort_unstable.new.self.items c.sort_unstable.ensures.sorted)

pub returns-clause-same : goal.returns-clause-same
returns-clause-same c t =
    let is = dedup_is same _ _ c.dedup.ensures.filtered ∙ deduped c.sort_unstable.new.self.items in (
      λ h. Contains-permutation _ _ t (IsPermutation-sym _ _ c.sort_unstable.ensures.permutation)
          (Contains-from_dedup (eq_by_cmp id_cmp) c.sort_unstable.new.self.items t (subst (λ l. Contains l t) is h)),
      λ h. subst (λ l. Contains l t) (sym is)
          (Contains-dedup (eq_by_cmp_equiv ids_total) (tells_apart same_ids) c.sort_unstable.new.self.items t (Contains-permutation _ _ t c.sort_unstable.ensures.permutation h)),
    )
