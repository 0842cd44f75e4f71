use Rattle.std.proofs.Common.{[], List, ℕ, sym, subst}
use Rattle.plan_course.specs.Meanings.{AreNamed, none_named}
use Rattle.plan_course.proofs.Grows.{grown_itself, grown_twice}
use Rattle.plan_course.proofs.Loops.{named_next}
use Rattle.plan_course.proofs.numbering.Numbering.slots_of.Goals as goal

pub loop-name-init : goal.loop-name-init
loop-name-init c = record {
  grown = grown_itself c.requires.tells;
  named = subst (λ (w : List ℕ). AreNamed c.args.self.now.names w []) (sym c.new-slots.ensures) none_named;
}

pub loop-name-preserved : goal.loop-name-preserved
loop-name-preserved c = record {
  grown = grown_twice c.loop-name.invariant.grown c.in_ok-slot_of.ensures.grown;
  named = named_next c.args.names.now c.loop-name.name-index c.name-item.result c.loop-name.slots c.push.new.self c.in_ok-slot_of.field-0 c.loop-name-test.true c.name-item.is c.in_ok-push.ensures.ok
      c.in_ok-slot_of.ensures.grown c.loop-name.invariant.named c.in_ok-slot_of.ensures.slot;
}
