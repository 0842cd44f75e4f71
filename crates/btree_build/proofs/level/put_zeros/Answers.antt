use Rattle.std.proofs.Common.{◌≡◌, ◌++◌, ◌∷◌, [], arith}
use Rattle.btree_build.proofs.Filling.{on_ok, zeros_more}
use Rattle.btree_build.proofs.level.put_zeros.Goals as goal

pub loop-place-preserved : goal.loop-place-preserved
loop-place-preserved c =
    let new = on_ok c.push_zero.result _ (c.push_zero.new.out.items ≡ c.loop-place.out.items ++ 0 ∷ []) c.in_ok-push_zero.was c.push_zero.ensures in
    record { done = zeros_more c.loop-place.out.items c.push_zero.new.out.items _ c.args.count c.loop-place.place (omega arith) new c.loop-place.invariant.done }
