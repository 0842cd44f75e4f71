use Rattle.std.proofs.Common.{ap}
use Rattle.term_core.specs.Patterns.{label_name, position_of}
use Rattle.plan_course.proofs.Operators.{slot_means, term_means}
use Rattle.plan_course.proofs.pattern.number_place.Goals as goal

pub returns-in_ok-slot_of-in-Var-clause-position : goal.returns-in_ok-slot_of-in-Var-clause-position
returns-in_ok-slot_of-in-Var-clause-position c = slot_means c.in_ok-slot_of-in-Var.field-0 c.in-Var.name _ (ap position_of c.in-Var.is) c.in_ok-slot_of-in-Var.ensures.slot

pub returns-in_ok-slot_of_label-in-Blank-clause-position : goal.returns-in_ok-slot_of_label-in-Blank-clause-position
returns-in_ok-slot_of_label-in-Blank-clause-position c =
    slot_means c.in_ok-slot_of_label-in-Blank.field-0 (label_name c.in-Blank.label) _ (ap position_of c.in-Blank.is) c.in_ok-slot_of_label-in-Blank.ensures.slot

pub returns-in_ok-number_term-in-Term-clause-position : goal.returns-in_ok-number_term-in-Term-clause-position
returns-in_ok-number_term-in-Term-clause-position c = term_means c.in_ok-number_term-in-Term.field-0 c.in-Term.term _ (ap position_of c.in-Term.is) c.in_ok-number_term-in-Term.ensures.given
