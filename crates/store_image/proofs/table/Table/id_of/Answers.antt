use Rattle.std.proofs.Common.{◌≡◌, ◌<◌, ◌≤◌, length, map, Bor, Some, slice_get, sym, ap, ◌∙◌, subst, arith}
use Rattle.std.proofs.lemmas.Option.{slice_get_within}
use Rattle.std.specs.List.Sorted.{IsStrictlySortedBy}
use Rattle.term_core.specs.declared.term.Term.{Term}
use Rattle.term_core.specs.Order.{term_cmp}
use Rattle.term_core.specs.OrderLaws.{terms_total, same_terms}
use Rattle.term_core.specs.Bags.{In}
use Rattle.store_image.specs.Table.{IsFound, terms_in}
use Rattle.store_image.proofs.TableFound.{missing, found, at_ok, at_err}
use Rattle.store_image.proofs.table.Table.id_of.Goals as goal

abbrev now : Bor Term → Term
now t = t.now

pub returns-in-Ok : goal.returns-in-Ok
returns-in-Ok c = λ L t.
    let terms = terms_in c.args.self.now in
    let is = ap (map now) c.deref.ensures.value in
    let there : slice_get terms c.in-Ok.place ≡ Some c.args.term.now =
    sym (ap (λ w. slice_get w c.in-Ok.place) is) ∙ at_ok term_cmp terms_total same_terms now c.deref.result.now c.args.term.now c.in-Ok.place c.in-Ok.ensures.bound c.in-Ok.ensures.position in
    let within : c.in-Ok.place < length terms = slice_get_within terms c.in-Ok.place c.args.term.now there in
    let few : length terms ≤ 12582909 = t.few in
    subst (IsFound terms c.args.term.now) (sym (c.number_of.ensures (omega arith)))
    (found term_cmp terms_total terms c.args.term.now c.in-Ok.place t.rising there)

pub returns-in-Err : goal.returns-in-Err
returns-in-Err c = λ L t.
    let is = ap (map now) c.deref.ensures.value in
    missing (terms_in c.args.self.now) c.args.term.now (λ i.
    at_err term_cmp terms_total same_terms now c.deref.result.now c.args.term.now c.in-Err.field-0 (subst (IsStrictlySortedBy term_cmp) (sym is) t.rising)
    c.in-Err.ensures.position (subst (λ w. In w c.args.term.now) (sym is) i))
