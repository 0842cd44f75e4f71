use Rattle.std.proofs.Common.{◌≡◌, Some, arith}
use Rattle.std.specs.BTreeMap.{get_by_text}
use Rattle.std.proofs.lemmas.Grind.{common_steps}
use Rattle.plan_course.proofs.numbering.Numbering.slot_of.Goals as goal

pub returns-in-Some-clause-slot : goal.returns-in-Some-clause-slot
returns-in-Some-clause-slot c =
    let got : get_by_text c.args.self.now.slots c.args.name.now ≡ Some c.in-Some.slot.now = grind (arith, common_steps) in
    c.requires.tells.named c.args.name.now c.in-Some.slot.now got
