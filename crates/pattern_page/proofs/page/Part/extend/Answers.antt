use Rattle.std.proofs.Common.{refl, subst}
use Rattle.pattern_page.specs.PagesOf.{part_seen, GivesStep}
use Rattle.pattern_page.proofs.page.Part.extend.Goals as goal

pub returns-in-None-clause-found : goal.returns-in-None-clause-found
returns-in-None-clause-found g c = λ terms ids s.
    (subst (GivesStep (part_seen c.args.self.now terms ids) c.args.stretch.now.cursor) c.in-None.is (c.in_ok-step.ensures.found terms ids s), refl)

pub returns-in_ok-push_row-in-Some-clause-found : goal.returns-in_ok-push_row-in-Some-clause-found
returns-in_ok-push_row-in-Some-clause-found g c = λ terms ids s.
    let given = subst (GivesStep (part_seen c.args.self.now terms ids) c.args.stretch.now.cursor) c.in-Some.is (c.in_ok-step.ensures.found terms ids s) in
    (c.in-Some.step.row, given.0, given.1, c.in_ok-push_row-in-Some.ensures, refl)
