-- How a door in memory keeps its connections: those that came back, then free places for those
-- handed out, then those to come.
use Rattle.std.specs.Prelude.{◌-◌, ◌≤◌, length, take, drop, map, All}
use Rattle.sage_outside.specs.declared.door_in_memory.MemDoor.TheInside.{Inside}
use Rattle.sage_outside.specs.DoorState.{DoorState}
use Rattle.sage_outside.specs.Peers.{conn_coming, served_of, IsNewConn}

-- the door as it is seen
abbrev pub state_of : Inside → DoorState
state_of door = record {
  calls = door.calls;
  coming = map conn_coming (drop door.handed door.conns.items);
  served = map served_of (take door.returned door.conns.items);
  out = door.handed - door.returned;
}

-- no more came back than were handed out, and those to come are new
pub record IsOrdered (door : Inside) : Type 0 where
  pub returned : door.returned ≤ door.handed
  pub handed : door.handed ≤ length door.conns.items
  pub fresh : All IsNewConn (drop door.handed door.conns.items)
