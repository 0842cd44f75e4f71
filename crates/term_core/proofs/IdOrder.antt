-- The order of triples of numbers is total, and only equal ones tie.
use Rattle.std.proofs.Common.{◌≡◌, Equal}
use Rattle.std.specs.Cmp.{IsTotalOrder}
use Rattle.std.specs.FinMap.{nat_cmp-IsAntisymmetric}
use Rattle.std.proofs.lemmas.Cmp.{then_total, on_total, nat_cmp_total}
use Rattle.term_core.specs.declared.pattern.IdTriple.{IdTriple}
use Rattle.term_core.specs.Ids.{id_cmp}
use Rattle.term_core.specs.OrderLaws.{both_tie}

-- the order on triples of numbers is total
pub ids_total : IsTotalOrder id_cmp
ids_total =
    then_total (on_total (λ (t : IdTriple). t.s) nat_cmp_total)
    (then_total (on_total (λ (t : IdTriple). t.p) nat_cmp_total) (on_total (λ (t : IdTriple). t.o) nat_cmp_total))

-- triples of numbers that tie are equal
pub same_ids : (a b : IdTriple) → id_cmp a b ≡ Equal → a ≡ b
same_ids a b e =
    let first = both_tie _ _ e in
    let second = both_tie _ _ first.1 in
    let s = nat_cmp-IsAntisymmetric _ _ first.0 in
    let p = nat_cmp-IsAntisymmetric _ _ second.0 in
    let o = nat_cmp-IsAntisymmetric _ _ second.1 in
    λ i. record { s = s i; p = p i; o = o i }
