use Rattle.std.proofs.Common.{◌≡◌, ◌++◌}
use Rattle.std.specs.Int.{w32, to_be_bytes}
use Rattle.btree_build.specs.Trees.{entry_bytes}
use Rattle.btree_build.proofs.Filling.{on_ok, on_ok_then, three_behind}
use Rattle.btree_build.proofs.level.push_entry.Goals as goal

pub returns : goal.returns
unfolding entry_bytes
returns c =
    let e = c.args.entry.now in
    let old = c.args.out.now.items in
    let first = on_ok c.push_id.result _ (c.push_id.new.out.items ≡ old ++ to_be_bytes w32 e.s) c.in_ok-push_id.was c.push_id.ensures in
    let second = on_ok c.push_id-2.result _ (c.push_id-2.new.out.items ≡ c.push_id.new.out.items ++ to_be_bytes w32 e.p) c.in_ok-push_id-2.was c.push_id-2.ensures in
    on_ok_then c.push_id-3.result (c.push_id-3.new.out.items ≡ c.push_id-2.new.out.items ++ to_be_bytes w32 e.o) _
    (λ third. three_behind old c.push_id.new.out.items c.push_id-2.new.out.items c.push_id-3.new.out.items (to_be_bytes w32 e.s) (to_be_bytes w32 e.p) (to_be_bytes w32 e.o) first second third) c.push_id-3.ensures
