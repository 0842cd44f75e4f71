use Rattle.std.proofs.Common.{arith, rules}
use Rattle.sage_outside.specs.declared.sink.Failed.{Failed}
use Rattle.sage_outside.proofs.Doors.{first_is_new, rest_is_new, new_is_fresh, hands_first}
use Rattle.sage_outside.proofs.door_in_memory.MemDoorDoor.next_conn.Goals as goal

pub invariant_of-self-2 : goal.invariant_of-self-2
invariant_of-self-2 c = record {
  returned = omega arith;
  handed = omega arith;
  fresh = rest_is_new _ _ _ c.replace_conn-conn.ensures.first c.self.invariant.fresh;
}

pub returns-clause-fresh : goal.returns-clause-fresh
returns-clause-fresh c = new_is_fresh _ (first_is_new _ _ _ c.replace_conn-conn.ensures.first c.self.invariant.fresh)

pub returns-clause-hands_out : goal.returns-clause-hands_out
returns-clause-hands_out c = hands_first Failed _ _ _ _ (search rules) c.replace_conn-conn.ensures.first (first_is_new _ _ _ c.replace_conn-conn.ensures.first c.self.invariant.fresh)
