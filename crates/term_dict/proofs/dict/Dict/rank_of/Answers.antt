use Rattle.std.proofs.Common.{◌+◌, ◌-◌, ◌/◌, ◌≤◌, arith, ◌≡◌, ◌∙◌, sym, ap, Some}
use Rattle.term_dict.specs.Layout.{longest_record}
use Rattle.sage_outside.proofs.Answered.{still}
use Rattle.term_dict.proofs.Held.{no_longer}
use Rattle.term_dict.proofs.Ranks.{place_is_rank}
use Rattle.term_dict.proofs.Halves.{halved}
use Rattle.term_dict.proofs.Halves.{narrow_less, narrow_greater, nowhere, ended, few_steps, cost_step, compared_here, compared_held, lower_here, tie_at, damaged_at, few_more, four_more}
use Rattle.term_core.specs.OrderLaws.{same_terms}
use Rattle.term_dict.proofs.dict.Dict.rank_of.Goals.{in-Less, in-Greater}
use Rattle.term_dict.proofs.dict.Dict.rank_of.Goals as goal

pub loop-step-preserved : goal.loop-step-preserved
loop-step-preserved g c = record {
  image = cc;
  count = cc;
  later = omega arith;
  risen = omega arith;
  cost = cost_step _ (g.B.Blocks.device c.loop-step.blocks).reads _ c.loop-step.step (4 + c.args.self.now.bytes / 4080) c.loop-step.invariant.cost c.order_at.ensures.read.cost;
  few_reads = λ image tells.
      let m = c.loop-step.low + (c.loop-step.high - c.loop-step.low) / 2 in
      let more : (g.B.Blocks.device c.order_at.new.blocks).reads ≤ (g.B.Blocks.device c.loop-step.blocks).reads + (4 + longest_record c.args.self.now image / 4080) =
      omega (arith, no_longer c.args.self.now image m (omega arith), c.order_at.ensures.few_reads image (still _ _ image c.loop-step.invariant.image tells)) in
      cost_step _ (g.B.Blocks.device c.loop-step.blocks).reads _ c.loop-step.step (4 + longest_record c.args.self.now image / 4080) (c.loop-step.invariant.few_reads image tells) more;
  few_steps = λ few. omega (arith, few_steps (c.loop-step.high - c.loop-step.low) c.loop-step.step _ (omega arith) c.loop-step.invariant.small few);
  ordered = elim c.match-order.branch [ in-Less w ↦ omega arith | in-Greater w ↦ omega arith ];
  lower = λ image tells k e.
      let m = c.loop-step.low + (c.loop-step.high - c.loop-step.low) / 2 in
      let here = compared_here c.args.self.now image m c.args.t.now c.order_at.result c.in-Ok.order c.in-Ok.is
      (c.order_at.ensures.found image (still _ _ image c.loop-step.invariant.image tells)) in
      elim c.match-order.branch [
        | in-Less w ↦ lower_here c.args.self.now c.args.t.now image m k here.0 (omega arith) here.1 (here.2 ∙ w.in-Less.is)
        | in-Greater w ↦ c.loop-step.invariant.lower image tells k (e ∙ w.low-is)
      ];
  upper = λ image tells lt.
      let m = c.loop-step.low + (c.loop-step.high - c.loop-step.low) / 2 in
      let here = compared_here c.args.self.now image m c.args.t.now c.order_at.result c.in-Ok.order c.in-Ok.is
      (c.order_at.ensures.found image (still _ _ image c.loop-step.invariant.image tells)) in
      elim c.match-order.branch [
        | in-Less w ↦ rw w.high-is (c.loop-step.invariant.upper image tells (omega arith))
        | in-Greater w ↦ rw w.high-is (here.0, here.1, here.2 ∙ w.in-Greater.is)
      ];
  high = elim c.match-order.branch [ in-Less w ↦ omega arith | in-Greater w ↦ omega arith ];
  small = elim c.match-order.branch [ in-Less w ↦ halved _ _ _ _ (omega arith) c.loop-step.invariant.small | in-Greater w ↦ halved _ _ _ _ (omega arith) c.loop-step.invariant.small ];
  between = λ ts image tells holds.
      let m = c.loop-step.low + (c.loop-step.high - c.loop-step.low) / 2 in
      let here = compared_here c.args.self.now image m c.args.t.now c.order_at.result c.in-Ok.order c.in-Ok.is
      (c.order_at.ensures.found image (still _ _ image c.loop-step.invariant.image tells)) in
      let at = compared_held c.args.self.now ts image m c.args.t.now here.0 c.in-Ok.order holds (omega arith) here.1 here.2 in
      let between = c.loop-step.invariant.between ts image tells holds in
      elim c.match-order.branch [
        | in-Less w ↦ rw (w.low-is, w.high-is) (narrow_less ts c.args.t.now holds.sorted c.loop-step.low c.loop-step.high m here.0 between at (here.2 ∙ w.in-Less.is))
        | in-Greater w ↦ rw (w.low-is, w.high-is) (narrow_greater ts c.args.t.now holds.sorted c.loop-step.low c.loop-step.high m here.0 between at (here.2 ∙ w.in-Greater.is))
      ];
}

pub returns-then-low-high-clause-found : goal.returns-then-low-high-clause-found
returns-then-low-high-clause-found g c = λ ts image tells holds.
    nowhere ts c.args.t.now c.loop-step.low c.loop-step.high (c.loop-step.invariant.between ts image tells holds) c.if-low-high.true

pub returns-clause-found : goal.returns-clause-found
returns-clause-found g c = λ ts image tells holds.
    let none : c.loop-step.high - c.loop-step.low ≡ 0 = ended _ c.loop-step.step c.args.self.now.terms (omega arith) c.loop-step.invariant.small (omega arith) in
    nowhere ts c.args.t.now c.loop-step.low c.loop-step.high (c.loop-step.invariant.between ts image tells holds) (omega arith)

pub returns-in-Err-clause-few_reads : goal.returns-in-Err-clause-few_reads
returns-in-Err-clause-few_reads g c = λ image tells few.
    let m = c.loop-step.low + (c.loop-step.high - c.loop-step.low) / 2 in
    few_more _ (g.B.Blocks.device c.loop-step.blocks).reads _ c.loop-step.step (4 + longest_record c.args.self.now image / 4080) _
    (c.loop-step.invariant.few_reads image tells) (c.order_at.ensures.few_reads image (still _ _ image c.loop-step.invariant.image tells))
    (four_more _ _ (no_longer c.args.self.now image m (omega arith)))
    (few_steps (c.loop-step.high - c.loop-step.low) c.loop-step.step _ (omega arith) c.loop-step.invariant.small few)

pub returns-in-Equal-clause-few_reads : goal.returns-in-Equal-clause-few_reads
returns-in-Equal-clause-few_reads g c = λ image tells few.
    let m = c.loop-step.low + (c.loop-step.high - c.loop-step.low) / 2 in
    few_more _ (g.B.Blocks.device c.loop-step.blocks).reads _ c.loop-step.step (4 + longest_record c.args.self.now image / 4080) _
    (c.loop-step.invariant.few_reads image tells) (c.order_at.ensures.few_reads image (still _ _ image c.loop-step.invariant.image tells))
    (four_more _ _ (no_longer c.args.self.now image m (omega arith)))
    (few_steps (c.loop-step.high - c.loop-step.low) c.loop-step.step _ (omega arith) c.loop-step.invariant.small few)

pub returns-in-Err-clause-damaged : goal.returns-in-Err-clause-damaged
returns-in-Err-clause-damaged g c = λ image block tells e.
    let m = c.loop-step.low + (c.loop-step.high - c.loop-step.low) / 2 in (
      m,
      omega arith,
      damaged_at c.args.self.now image m c.args.t.now c.order_at.result c.in-Err.fault block c.in-Err.is (cc)
          (c.order_at.ensures.found image (still _ _ image c.loop-step.invariant.image tells)),
    )

pub returns-in-Equal-clause-found : goal.returns-in-Equal-clause-found
returns-in-Equal-clause-found g c = λ ts image tells holds.
    let m = c.loop-step.low + (c.loop-step.high - c.loop-step.low) / 2 in
    let here = compared_here c.args.self.now image m c.args.t.now c.order_at.result c.in-Ok.order c.in-Ok.is
    (c.order_at.ensures.found image (still _ _ image c.loop-step.invariant.image tells)) in
    let place = compared_held c.args.self.now ts image m c.args.t.now here.0 c.in-Ok.order holds (omega arith) here.1 here.2 in
    let at = place ∙ ap Some (same_terms here.0 c.args.t.now (here.2 ∙ c.in-Equal.is)) in
    (at, place_is_rank ts c.args.t.now m holds.sorted at)

pub returns-in-Equal-clause-there : goal.returns-in-Equal-clause-there
returns-in-Equal-clause-there g c = λ image k tells e.
    let m = c.loop-step.low + (c.loop-step.high - c.loop-step.low) / 2 in
    let same : m ≡ k = cc in (
      omega arith,
      rw (sym same) (tie_at c.args.self.now image m c.args.t.now c.order_at.result c.in-Ok.order c.in-Ok.is c.in-Equal.is
          (c.order_at.ensures.found image (still _ _ image c.loop-step.invariant.image tells))),
    )

pub returns-then-low-high-clause-absent : goal.returns-then-low-high-clause-absent
returns-then-low-high-clause-absent g c = λ image tells e. record {
  place = c.loop-step.high;
  within = c.loop-step.invariant.high;
  below = λ k at. c.loop-step.invariant.lower image tells k (omega (arith, at, c.loop-step.invariant.ordered, c.if-low-high.true));
  above = c.loop-step.invariant.upper image tells;
}

pub returns-clause-absent : goal.returns-clause-absent
returns-clause-absent g c = λ image tells e.
    let none : c.loop-step.high - c.loop-step.low ≡ 0 = ended _ c.loop-step.step c.args.self.now.terms (omega arith) c.loop-step.invariant.small (omega arith) in
    record {
      place = c.loop-step.high;
      within = c.loop-step.invariant.high;
      below = λ k at. c.loop-step.invariant.lower image tells k (omega (arith, at, none, c.loop-step.invariant.ordered));
      above = c.loop-step.invariant.upper image tells;
    }
