use Rattle.std.proofs.Common.{sym, subst, refl}
use Rattle.row_cells.specs.Cells.{AreSlots}
use Rattle.row_cells.specs.Owns.{words_of}
use Rattle.preempt_join.proofs.Found.{shown_stays, is_shown, opened_at}
use Rattle.preempt_join.proofs.step.open_scan.Goals as goal

pub returns-in-Ok-of-clause-opened : goal.returns-in-Ok-of-clause-opened
returns-in-Ok-of-clause-opened g c = λ names D shown sought once width.
    let there = is_shown c.asked.new.store D (shown_stays c.args.store.now c.asked.new.store D c.asked.ensures.kept shown) in
    opened_at names D (words_of D.terms c.args.own.now) c.args.pattern.now c.args.row.now c.in-Ok.asked c.in-Ok-of.scan refl once
    (subst (λ w. AreSlots w c.args.pattern.now) (sym width) c.requires.slots) (c.in-Ok.ensures.asked D shown sought)
    (λ asks. c.in-Ok-of.ensures.found D.triples D.terms D.ids _ _ D.table there asks) (c.in-Ok-of.ensures.given D.terms D.ids there)
