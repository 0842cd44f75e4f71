use Rattle.std.proofs.Common.{take}
use Rattle.plan_course.specs.Meanings.{Grown, AreNamed}
use Rattle.plan_course.proofs.numbering.Numbering.slots_of.Given as goal

-- the names so far have these numbers
abbrev pub invariant-loop-name : goal.invariant-loop-name
invariant-loop-name l = record {
  grown : Grown l.fn.self l.self;
  named : AreNamed l.self.names l.slots (take l.name-index l.names);
}
