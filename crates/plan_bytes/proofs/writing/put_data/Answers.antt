use Rattle.std.proofs.Common.{ℕ, sym, ap, ◌∙◌, drop}
use Rattle.plan_bytes.proofs.Write.{part_put}
use Rattle.plan_bytes.proofs.writing.put_data.Goals as goal

pub returns-clause-bytes : goal.returns-clause-bytes
returns-clause-bytes c =
    part_put c.args.out.now c.args.data_id.now _ c.copy_from_slice.new.self c.put_query.new.out c.split_at_mut-name.result.1.now (c.copy_from_slice.ensures.after ∙ c.as_slice.ensures) (c.split_at_mut-name.ensures.back ∙ ap (λ (n : ℕ). drop n c.args.out.now) (sym c.told-data_id)) c.put_query.ensures.bytes
