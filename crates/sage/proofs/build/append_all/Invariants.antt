use Rattle.std.proofs.Common.{◌≤◌, ◌-◌, Option, length, take}
use Rattle.sage_outside.specs.Shelf.{Files}
use Rattle.sage.specs.StoreFiles.{IsWritten}
use Rattle.sage.proofs.build.append_all.Given as goal

abbrev pub invariant-pieces : goal.invariant-pieces
invariant-pieces g l = record {
  later : g.S.Shelf.faults l.fn.shelf ≤ g.S.Shelf.faults l.shelf;
  fits : l.done ≤ length l.bytes;
  written : (base : Option Files) → IsWritten base (g.S.Shelf.files l.fn.shelf) l.name (take 0 l.bytes) → IsWritten base (g.S.Shelf.files l.shelf) l.name (take l.done l.bytes);
}

abbrev pub decreases-pieces : goal.decreases-pieces
decreases-pieces g l = length l.bytes - l.done
