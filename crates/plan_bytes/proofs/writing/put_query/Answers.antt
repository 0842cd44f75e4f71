use Rattle.std.proofs.Common.{ℕ, sym, ap, ◌∙◌, drop}
use Rattle.plan_bytes.proofs.Write.{part_put}
use Rattle.plan_bytes.proofs.writing.put_query.Goals as goal

pub returns-clause-bytes : goal.returns-clause-bytes
returns-clause-bytes c =
    part_put c.args.out.now c.args.query.now _ c.copy_from_slice.new.self c.put_state.new.out c.split_at_mut-name.result.1.now (c.copy_from_slice.ensures.after ∙ c.as_slice.ensures) (c.split_at_mut-name.ensures.back ∙ ap (λ (n : ℕ). drop n c.args.out.now) (sym c.told-query)) c.put_state.ensures.bytes
