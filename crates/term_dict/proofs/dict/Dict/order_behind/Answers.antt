use Rattle.std.proofs.Common.{◌≡◌, ◌+◌, ◌-◌, ◌++◌, ◌∙◌, List, ℕ, Ok, ap, sym, arith, length, subst}
use Rattle.sage_outside.specs.Areas.{part_of, part_at}
use Rattle.sage_outside.proofs.Joins.{part_ok, bytes_joined}
use Rattle.term_dict.specs.Fronts.{IsDecided}
use Rattle.term_dict.specs.Layout.{record_area}
use Rattle.sage_outside.proofs.Answered.{if_some}
use Rattle.term_dict.proofs.Behind.{front_compares, in_span, span_broken}
use Rattle.term_dict.proofs.Faults.{image_ok, passed_image, refused_order}
use Rattle.term_dict.proofs.dict.Dict.order_behind.Goals as goal

pub returns-in-Some-clause-found : goal.returns-in-Some-clause-found
returns-in-Some-clause-found g c = λ image tells front.
    let d = c.args.self.now in
    let area = record_area d in
    let near = length c.args.front.items in
    let rest : List ℕ = part_of area (c.args.from + near) (c.args.count - near) image in
    let here = (part_ok area c.args.from near image c.args.front.items front).1 in
    let whole : c.args.front.items ++ rest ≡ part_of area c.args.from c.args.count image = ap (λ xs. xs ++ rest) (sym here) ∙ bytes_joined area c.args.from near c.args.count image (omega arith) in
    let told = if_some c.order_of_front.result c.in-Some.order (λ order. IsDecided c.as_slice.result.now rest c.args.t.now order) c.in-Some.is (c.order_of_front.ensures rest) in
    let is = subst (λ xs. IsDecided xs rest c.args.t.now c.in-Some.order) c.as_slice.ensures.value told in
    front_compares d c.args.from (c.args.from + c.args.count) image c.args.front.items rest c.args.t.now c.in-Some.order
    (whole ∙ ap (λ n. part_of area c.args.from n image) (omega arith)) is

pub returns-in_ok-bytes-in-None-clause-found : goal.returns-in_ok-bytes-in-None-clause-found
returns-in_ok-bytes-in-None-clause-found g c = λ image tells front.
    let d = c.args.self.now in
    let bytes = c.in_ok-bytes-in-None.bytes in
    let read = image_ok _ c.record_behind.result bytes _ c.in_ok-bytes-in-None.was (c.record_behind.ensures.found image tells front) in
    in_span d c.args.from (c.args.from + c.args.count) image c.as_slice-in-None.result.now c.args.t.now c.order_in.result
    (ap (λ n. part_at (record_area d) c.args.from n image) (omega arith) ∙ read ∙ ap Ok (sym c.as_slice-in-None.ensures.value))
    c.order_in.ensures.found

pub returns-in_err-bytes-in-None-clause-found : goal.returns-in_err-bytes-in-None-clause-found
returns-in_err-bytes-in-None-clause-found g c = λ image tells front.
    let d = c.args.self.now in
    refused_order _ c.args.t.now c.record_behind.result c.from_residual.result c.in_err-bytes-in-None.field-0.0 _ _ _ c.in_err-bytes-in-None.was (passed_image c.from_residual.result c.in_err-bytes-in-None.field-0.0 c.from_residual.ensures)
    (λ b e. span_broken d c.args.from (c.args.from + c.args.count) image b (ap (λ n. part_at (record_area d) c.args.from n image) (omega arith) ∙ e))
    (c.record_behind.ensures.found image tells front)
