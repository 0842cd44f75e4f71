use Rattle.std.proofs.Common.{◌≡◌, ◌+◌, ◌-◌, ◌*◌, ◌%◌, ◌/◌, ◌≤◌, ◌∙◌, min, Ok, sym, ap, arith, length, subst}
use Rattle.std.proofs.lemmas.Grind.{common_steps}
use Rattle.sage_outside.specs.Areas.{part_at, touched}
use Rattle.sage_outside.proofs.Joins.{front_broken}
use Rattle.term_dict.proofs.Behind.{in_span, span_broken}
use Rattle.term_dict.proofs.Faults.{image_ok, passed_image, refused_order}
use Rattle.term_dict.specs.Layout.{record_area, record_in, raw_record_in}
use Rattle.term_dict.specs.Ranks.{Compares}
use Rattle.sage_outside.proofs.Answered.{if_ok, still}
use Rattle.sage_outside.proofs.Touched.{front_touched, rest_touched}
use Rattle.term_dict.proofs.dict.Dict.order_in_span.Goals as goal

pub order_behind-requires-clause-front : goal.order_behind-requires-clause-front
order_behind-requires-clause-front g c =
    let full = if_ok c.record.result c.in_ok-front.front (λ x. length x.items ≡ c.min-near.result) c.in_ok-front.was c.record.ensures.full in
    full ∙ grind (arith, common_steps, c.min-near.ensures, c.if-near-end.true)

pub order_behind-requires-clause-behind : goal.order_behind-requires-clause-behind
order_behind-requires-clause-behind g c =
    let full = if_ok c.record.result c.in_ok-front.front (λ x. length x.items ≡ c.min-near.result) c.in_ok-front.was c.record.ensures.full in
    omega (arith, full, c.if-near-end.true)

pub returns-then-near-end-clause-read : goal.returns-then-near-end-clause-read
returns-then-near-end-clause-read g c =
    let p = c.args.self.now.payload in
    let near = c.min-near.result in
    let count = c.args.end - c.args.from in
    let full = if_ok c.record.result c.in_ok-front.front (λ x. length x.items ≡ near) c.in_ok-front.was c.record.ensures.full in
    let is : near ≡ min (2 * p - c.args.from % p) count = grind (arith, common_steps, c.min-near.ensures) in
    let first = front_touched p c.args.from near count c.requires.stands.payload is in
    let rest = rest_touched p c.args.from near count c.requires.stands.payload is c.if-near-end.true in
    let second : touched p (c.args.from + length c.in_ok-front.front.items) (count - length c.in_ok-front.front.items) ≤ count / 4080 =
    subst (λ n. touched p (c.args.from + n) (count - n) ≤ count / 4080) (sym full) rest in
    record {
      image = cc;
      count = cc;
      later = omega arith;
      risen = omega arith;
      cost = omega (arith, first, second, c.record.ensures.read.cost, c.order_behind.ensures.read.cost);
    }

pub returns-then-near-end-clause-found : goal.returns-then-near-end-clause-found
returns-then-near-end-clause-found g c = λ image tells.
    let d = c.args.self.now in
    let items = c.in_ok-front.front.items in
    let full = if_ok c.record.result c.in_ok-front.front (λ x. length x.items ≡ c.min-near.result) c.in_ok-front.was c.record.ensures.full in
    let read = image_ok _ c.record.result c.in_ok-front.front _ c.in_ok-front.was (c.record.ensures.found image tells) in
    let front = ap (λ n. part_at (record_area d) c.args.from n image) full ∙ read in
    let told = c.order_behind.ensures.found image (still _ _ image c.record.ensures.read.image tells) front in
    let e : c.args.from + (c.args.end - c.args.from) ≡ c.args.end = omega arith in
    subst (λ end. Compares c.args.t.now c.order_behind.result (raw_record_in d (Ok (c.args.from, end)) image) (record_in d (Ok (c.args.from, end)) image)) e told

pub returns-else-near-end-clause-found : goal.returns-else-near-end-clause-found
returns-else-near-end-clause-found g c = λ image tells.
    let d = c.args.self.now in
    let near = c.min-near.result in
    let count = c.args.end - c.args.from in
    let is : near ≡ count = grind (arith, c.min-near.ensures, c.if-near-end.false) in
    let read = image_ok _ c.record.result c.in_ok-front.front _ c.in_ok-front.was (c.record.ensures.found image tells) in
    in_span d c.args.from c.args.end image c.as_slice.result.now c.args.t.now c.order_in.result
    (ap (λ n. part_at (record_area d) c.args.from n image) (sym is) ∙ read ∙ ap Ok (sym c.as_slice.ensures.value))
    c.order_in.ensures.found

pub returns-in_err-front-clause-found : goal.returns-in_err-front-clause-found
returns-in_err-front-clause-found g c = λ image tells.
    let d = c.args.self.now in
    let near = c.min-near.result in
    let count = c.args.end - c.args.from in
    let le : near ≤ count = grind (arith, c.min-near.ensures) in
    refused_order _ c.args.t.now c.record.result c.from_residual.result c.in_err-front.field-0.0 _ _ _ c.in_err-front.was (passed_image c.from_residual.result c.in_err-front.field-0.0 c.from_residual.ensures)
    (λ b e. span_broken d c.args.from c.args.end image b (front_broken (record_area d) c.args.from near count image b c.requires.stands.payload le e))
    (c.record.ensures.found image tells)
