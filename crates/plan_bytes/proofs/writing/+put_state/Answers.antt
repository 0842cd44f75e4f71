use Rattle.std.proofs.Common.{sym, ap, ◌∙◌, ◌++◌, length, subst, ◌≡◌, ◌≤◌}
use Rattle.std.specs.Prelude.{drop}
use Rattle.plan_tree.specs.States.{State, join_state}
use Rattle.plan_tree.specs.Spelling.{state_bytes, inner_bytes}
use Rattle.plan_tree.specs.Trees.{state_in, inner_in}
use Rattle.plan_bytes.proofs.Write.{join_put}
use Rattle.plan_bytes.proofs.writing.+put_state.Goals as goal

pub returns-in-Join-clause-bytes : goal.returns-in-Join-clause-bytes
unfolding state_in
returns-in-Join-clause-bytes t c =
    let e = ap state_in c.in-Join.is ∙ ap (λ l. join_state (state_in l) (inner_in c.in-Join.inner)) (sym c.deref.ensures) in
    let room = subst (λ (s : State). length (state_bytes s) ≤ length c.args.out.now) e c.requires in
    subst (λ (s : State). c.put_inner_at.new.out ≡ state_bytes s ++ drop (length (state_bytes s)) c.args.out.now) (sym e)
    (join_put c.args.out.now (state_bytes (state_in c.deref.result.now)) (inner_bytes (inner_in c.in-Join.inner)) c.put_state-used.new.out c.put_inner_at.new.out c.put_state-used.result room c.put_state-used.ensures.count c.put_state-used.ensures.bytes c.put_inner_at.ensures.bytes)
