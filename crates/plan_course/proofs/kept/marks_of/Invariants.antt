use Rattle.std.proofs.Common.{◌≡◌, length, take}
use Rattle.plan_course.specs.Meanings.{AreMarked}
use Rattle.plan_course.proofs.kept.marks_of.Given as goal

-- the numbers so far are marked
abbrev pub invariant-loop-slot : goal.invariant-loop-slot
invariant-loop-slot l = record {
  width : length l.kept.items ≡ l.width;
  marked : AreMarked (take l.slot-index l.slots) l.kept.items;
}
