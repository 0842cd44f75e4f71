use Rattle.std.proofs.Common.{arith, sym, ap, ◌∙◌}
use Rattle.std.specs.Prelude.{drop}
use Rattle.plan_tree.specs.Trees.{plan_in, state_in}
use Rattle.plan_bytes.specs.Reading.{whole_at}
use Rattle.plan_bytes.proofs.Read.{spells, spells_none}
use Rattle.plan_bytes.proofs.reading.parse.Goals as goal

pub returns-in-Err-clause-refused : goal.returns-in-Err-clause-refused
returns-in-Err-clause-refused c =
    c.head_fault.ensures (plan_in c.args.plan.now) c.args.bytes.now c.args.data_id.now c.args.query.now c.in-Err.ensures

pub returns-in-Ok-None-clause-refused : goal.returns-in-Ok-None-clause-refused
returns-in-Ok-None-clause-refused c = (
  c.in_default.ensures,
  λ state w e.
      spells_none (plan_in c.args.plan.now) (drop 65 c.args.bytes.now) state c.requires.rows
      (sym (ap (whole_at (plan_in c.args.plan.now)) c.skip.ensures) ∙ c.in-Ok-None.ensures.none c.in-Ok-None.field-0-is) w e,
)

pub returns-in-Ok-Some-clause-state : goal.returns-in-Ok-Some-clause-state
returns-in-Ok-Some-clause-state c =
    spells c.args.bytes.now c.args.data_id.now c.args.query.now (plan_in c.args.plan.now) (state_in c.in-Ok-Some.state)
    (λ i. omega (arith, c.type_inv.bytes i)) c.in_default.ensures
    (sym (ap (whole_at (plan_in c.args.plan.now)) c.skip.ensures) ∙ c.in-Ok-Some.ensures.state c.in-Ok-Some.state c.in-Ok-Some.field-0-is)
