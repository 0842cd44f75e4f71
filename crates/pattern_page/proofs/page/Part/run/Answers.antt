use Rattle.std.proofs.Common.{◌≡◌, sym, subst, arith}
use Rattle.triple_store.specs.Stores.{IsKept}
use Rattle.pattern_page.specs.PagesOf.{part_seen, IsAt, IsStretchFrom}
use Rattle.pattern_page.proofs.PageRun.{none_yet, one_more, stopped, full}
use Rattle.pattern_page.proofs.Refusals.{kept_none, kept_twice, still_within, still_seen, refused_later}
use Rattle.pattern_page.proofs.page.Part.run.Goals as goal
use Rattle.pattern_page.proofs.page.Part.run.Goals.{else-steps-test, then-steps-test+in_ok-extend+then-not-branch}

pub steps-init : goal.steps-init
steps-init g c = record {
  kept = kept_none c.args.store.now;
  at = c.requires.within;
  few = omega arith;
  way = λ terms ids s. none_yet c.args.store.now c.args.self.now terms ids c.args.start c.new.result s c.requires.within c.new.ensures;
}

pub extend-requires-clause-range : goal.extend-requires-clause-range
extend-requires-clause-range g c = still_within c.args.store.now c.steps.store c.args.self.now.range c.steps.invariant.kept c.requires.range

pub extend-requires-clause-within : goal.extend-requires-clause-within
extend-requires-clause-within g c = c.steps.invariant.at

pub extend-requires-clause-room : goal.extend-requires-clause-room
extend-requires-clause-room g c = omega (arith, c.steps.invariant.few, c.steps-test.true, c.ranges.quantum.fits)

pub returns-in_err-extend-clause-kept : goal.returns-in_err-extend-clause-kept
returns-in_err-extend-clause-kept g c = kept_twice c.args.store.now c.steps.store c.extend.new.store c.steps.invariant.kept c.extend.ensures.kept

pub returns-in_err-extend-clause-refused : goal.returns-in_err-extend-clause-refused
returns-in_err-extend-clause-refused g c =
    refused_later c.from_residual.result c.in_err-extend.field-0.0 c.args.store.now c.steps.store c.extend.new.store c.from_residual.ensures c.steps.invariant.kept c.in_err-extend.ensures.refused

pub steps-preserved : goal.steps-preserved
steps-preserved g c = record {
  kept = kept_twice c.args.store.now c.steps.store c.extend.new.store c.steps.invariant.kept c.extend.ensures.kept;
  at = c.in_ok-extend.ensures.within;
  few = omega (arith, c.steps.invariant.few, c.in_ok-extend.ensures.counted);
  way = λ terms ids s.
      one_more (part_seen c.args.self.now terms ids) c.args.start c.steps.stretch c.extend.new.stretch c.steps.counter c.in_ok-extend.field-0 (c.steps.invariant.way terms ids s)
      (c.in_ok-extend.ensures.found terms ids (still_seen c.args.store.now c.steps.store c.args.self.now terms ids c.steps.invariant.kept s)) c.if-not-branch.false;
}

pub returns-clause-kept : goal.returns-clause-kept
returns-clause-kept g c =
    elim c.steps-test.branch [
      | else-steps-test w ↦ subst (IsKept c.args.store.now) (sym w.store-is) c.steps.invariant.kept
      | then-steps-test+in_ok-extend+then-not-branch w ↦ subst (IsKept c.args.store.now) (sym w.store-is)
          (kept_twice c.args.store.now c.steps.store w.extend.new.store c.steps.invariant.kept w.extend.ensures.kept)
    ]

pub returns-clause-within : goal.returns-clause-within
returns-clause-within g c =
    elim c.steps-test.branch [
      | else-steps-test w ↦ subst (λ stretch. IsAt c.args.self.now stretch.cursor) (sym w.stretch-is) c.steps.invariant.at
      | then-steps-test+in_ok-extend+then-not-branch w ↦ subst (λ stretch. IsAt c.args.self.now stretch.cursor) (sym w.stretch-is) w.in_ok-extend.ensures.within
    ]

pub returns-clause-found : goal.returns-clause-found
returns-clause-found g c = λ terms ids s.
    let part = part_seen c.args.self.now terms ids in
    elim c.steps-test.branch [
      | else-steps-test w ↦ subst (IsStretchFrom part c.args.start c.args.quantum) (sym w.stretch-is)
          (full part c.args.start c.args.quantum c.steps.counter c.steps.stretch (c.steps.invariant.way terms ids s) c.steps.auto.counter-end w.steps-test.false)
      | then-steps-test+in_ok-extend+then-not-branch w ↦ subst (IsStretchFrom part c.args.start c.args.quantum) (sym w.stretch-is)
          (stopped part c.args.start c.args.quantum c.steps.counter c.steps.stretch w.extend.new.stretch w.in_ok-extend.field-0 (c.steps.invariant.way terms ids s) c.steps.auto.counter-end
          (w.in_ok-extend.ensures.found terms ids (still_seen c.args.store.now c.steps.store c.args.self.now terms ids c.steps.invariant.kept s)) w.if-not-branch.true)
    ]
