use Rattle.plan_course.proofs.Loops.{marks_next, set_width}
use Rattle.plan_course.proofs.kept.marks_of.Goals as goal

pub loop-slot-preserved : goal.loop-slot-preserved
loop-slot-preserved c = record {
  width = set_width c.loop-slot.kept.items _ c.args.width c.loop-slot.invariant.width;
  marked = marks_next c.args.slots.now c.loop-slot.slot-index c.args.width c.loop-slot.kept.items c.loop-slot-test.true c.requires.below c.loop-slot.invariant.width c.loop-slot.invariant.marked;
}
