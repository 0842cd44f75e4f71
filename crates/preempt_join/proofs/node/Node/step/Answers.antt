use Rattle.std.proofs.Common.{length, refl, sym, ap, ◌∙◌, subst, arith}
use Rattle.sage_outside.specs.Blocks.{Tells}
use Rattle.store_image.specs.declared.header.Header.{Header}
use Rattle.row_cells.specs.Data.{record_reads}
use Rattle.row_cells.specs.Laws.{IsOnce}
use Rattle.plan_course.specs.Courses.{course_of, makes, IsNumbered}
use Rattle.preempt_join.specs.Steps.{IsGivenIn}
use Rattle.preempt_join.specs.declared.cursor.Signal.TheVariants.{End, NotYet, Row as ARow}
use Rattle.preempt_join.proofs.Arms.{written_whole, makes_few}
use Rattle.preempt_join.proofs.Calls.{given_to}
use Rattle.preempt_join.proofs.Found.{shown_stays}
use Rattle.preempt_join.proofs.Rooted.{stepped_at, row_shown, row_reads, few_at, none_damaged}
use Rattle.preempt_join.proofs.node.Node.step.Goals as goal

pub whole_row-requires : goal.whole_row-requires
whole_row-requires g c = record {
  within =
      given_to c.args.store.now.header.terms _ (length c.args.self.now.own.given) _ (length c.args.self.now.own.made.items) _ _ ARow c.advance.new.out _ (ap (λ (h : Header). h.terms) c.in-Ok-Row.ensures.kept.header)
      (ap length c.in-Ok-Row.ensures.own.given) c.in-Ok-Row.ensures.own.made (makes_few (length c.args.self.now.names) (length c.args.self.now.own.given) (length c.args.self.now.own.made.items) (course_of c.args.self.now.course) c.requires.fits.wide)
      (c.as_slice-in-Ok-Row-2.ensures.value ∙ sym (written_whole c.advance.new.out c.args.self.now.row.items c.args.self.now.row.len (sym c.args.self.now.row.ok.0) (c.in-Ok-Row.ensures.width ∙ ap length c.as_mut_slice.ensures.value)))
      (subst (λ t. IsGivenIn t c.args.store.now.header.terms (length c.args.self.now.own.given) (makes (course_of c.args.self.now.course)) c.advance.new.out) c.in-Ok-Row.field-0-is c.in-Ok-Row.ensures.within);
}

pub returns-in-Err-clause-whole : goal.returns-in-Err-clause-whole
returns-in-Err-clause-whole g c = λ D block shown e.
    none_damaged c.args.store.now.header c.args.store.now.device.image D block c.in-Err.fault c.step_fault.result shown c.in-Err.ensures.damaged (c.step_fault.ensures.damaged block) e

pub returns-in-Err-clause-few : goal.returns-in-Err-clause-few
returns-in-Err-clause-few g c = λ image told few. few_at _ _ _ c.args.self.now few (omega (arith, c.in-Err.ensures.reads image told))

pub returns-in-Ok-End-clause-few : goal.returns-in-Ok-End-clause-few
returns-in-Ok-End-clause-few g c = λ image told few. few_at _ _ _ c.args.self.now few (omega (arith, c.in-Ok-End.ensures.reads image told))

pub returns-in-Ok-End-clause-gives : goal.returns-in-Ok-End-clause-gives
returns-in-Ok-End-clause-gives g c = λ D n shown there.
    let once = subst IsOnce (sym c.as_slice.ensures) c.requires.fits.once in
    let numbered = subst (λ w. IsNumbered w (course_of c.args.self.now.course)) (sym c.as_slice.ensures) c.requires.fits.numbered in
    let r = stepped_at c.args.self.now.names _ D c.args.self.now.own.given c.advance.new.own.given (course_of c.args.self.now.course) _ _ _ c.advance.new.at c.advance.new.out c.in-Ok-End.field-0 End
    c.as_slice.ensures c.in-Ok-End.ensures.own.given c.in-Ok-End.field-0-is (c.in-Ok-End.ensures.turn D shown there.sought once numbered) n there.at in
    (r.0, record { going = refl; sought = c.in-Ok-End.ensures.sought D shown there.sought; at = r.1 })

pub returns-in-Ok-NotYet-clause-few : goal.returns-in-Ok-NotYet-clause-few
returns-in-Ok-NotYet-clause-few g c = λ image told few. few_at _ _ _ c.args.self.now few (omega (arith, c.in-Ok-NotYet.ensures.reads image told))

pub returns-in-Ok-NotYet-clause-gives : goal.returns-in-Ok-NotYet-clause-gives
returns-in-Ok-NotYet-clause-gives g c = λ D n shown there.
    let once = subst IsOnce (sym c.as_slice.ensures) c.requires.fits.once in
    let numbered = subst (λ w. IsNumbered w (course_of c.args.self.now.course)) (sym c.as_slice.ensures) c.requires.fits.numbered in
    let r = stepped_at c.args.self.now.names _ D c.args.self.now.own.given c.advance.new.own.given (course_of c.args.self.now.course) _ _ _ c.advance.new.at c.advance.new.out c.in-Ok-NotYet.field-0 NotYet
    c.as_slice.ensures c.in-Ok-NotYet.ensures.own.given c.in-Ok-NotYet.field-0-is (c.in-Ok-NotYet.ensures.turn D shown there.sought once numbered) n there.at in
    (r.0, record { going = refl; sought = c.in-Ok-NotYet.ensures.sought D shown there.sought; at = r.1 })

pub returns-in-Err-whole_row-clause-whole : goal.returns-in-Err-whole_row-clause-whole
returns-in-Err-whole_row-clause-whole g c = λ D block shown e.
    none_damaged c.advance.new.store.header c.advance.new.store.device.image D block c.in-Err-whole_row.fault c.step_fault-in-Err-whole_row.result
    (shown_stays c.args.store.now c.advance.new.store D c.in-Ok-Row.ensures.kept shown) c.in-Err-whole_row.ensures.damaged (c.step_fault-in-Err-whole_row.ensures.damaged block) e

pub returns-in-Err-whole_row-clause-few : goal.returns-in-Err-whole_row-clause-few
returns-in-Err-whole_row-clause-few g c = λ image told few.
    few_at _ _ _ c.args.self.now few
    (row_reads c.args.store.now c.advance.new.store image _ _ c.args.self.now c.in-Ok-Row.ensures.kept c.as_slice-in-Ok-Row.ensures (c.in-Ok-Row.ensures.reads image told)
    (c.in-Err-whole_row.ensures.reads image (subst (λ w. Tells w image) (sym c.in-Ok-Row.ensures.kept.image) told)))

pub returns-in-Ok-clause-few : goal.returns-in-Ok-clause-few
returns-in-Ok-clause-few g c = λ image told few.
    few_at _ _ _ c.args.self.now few
    (row_reads c.args.store.now c.advance.new.store image _ _ c.args.self.now c.in-Ok-Row.ensures.kept c.as_slice-in-Ok-Row.ensures (c.in-Ok-Row.ensures.reads image told)
    (c.in-Ok.ensures.reads image (subst (λ w. Tells w image) (sym c.in-Ok-Row.ensures.kept.image) told)))

pub returns-in-Ok-clause-gives : goal.returns-in-Ok-clause-gives
returns-in-Ok-clause-gives g c = λ D n shown there.
    let once = subst IsOnce (sym c.as_slice.ensures) c.requires.fits.once in
    let numbered = subst (λ w. IsNumbered w (course_of c.args.self.now.course)) (sym c.as_slice.ensures) c.requires.fits.numbered in
    let r = stepped_at c.args.self.now.names _ D c.args.self.now.own.given c.advance.new.own.given (course_of c.args.self.now.course) _ _ _ c.advance.new.at c.advance.new.out c.in-Ok-Row.field-0 ARow
    c.as_slice.ensures c.in-Ok-Row.ensures.own.given c.in-Ok-Row.field-0-is (c.in-Ok-Row.ensures.turn D shown there.sought once numbered) n there.at in
    let cells = c.as_slice-in-Ok-Row-2.ensures.value ∙ sym (written_whole c.advance.new.out c.args.self.now.row.items c.args.self.now.row.len (sym c.args.self.now.row.ok.0) (c.in-Ok-Row.ensures.width ∙ ap length c.as_mut_slice.ensures.value)) in
    let is = c.in-Ok.ensures.whole D (shown_stays c.args.store.now c.advance.new.store D c.in-Ok-Row.ensures.kept shown) in (
      row_shown c.args.self.now.names _ D c.args.self.now.own.given c.advance.new.own.given _ c.advance.new.out _ c.in-Ok.row _ c.as_slice-in-Ok-Row.ensures c.in-Ok-Row.ensures.own.given cells is r.0,
      record { going = refl; sought = c.in-Ok-Row.ensures.sought D shown there.sought; at = r.1 },
    )
