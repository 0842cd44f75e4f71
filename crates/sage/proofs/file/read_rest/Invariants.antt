use Rattle.std.proofs.Common.{◌≡◌, ◌≤◌, ◌<◌, ◌-◌, ℕ, List, length, take}
use Rattle.sage.specs.Told.{TellsFile}
use Rattle.sage.proofs.file.read_rest.Given as goal

abbrev pub invariant-pieces : goal.invariant-pieces
invariant-pieces g l = record {
  same : g.S.Shelf.files l.shelf ≡ g.S.Shelf.files l.fn.shelf;
  later : g.S.Shelf.faults l.fn.shelf ≤ g.S.Shelf.faults l.shelf;
  prefix : (file : List ℕ) → TellsFile (g.S.Shelf.files l.fn.shelf) l.name file → l.fn.bytes.items ≡ take (length l.fn.bytes.items) file → l.bytes.items ≡ take (length l.bytes.items) file;
  fits : length l.bytes.items ≤ l.wanted;
  room : 0 < length l.buffer;
}

abbrev pub decreases-pieces : goal.decreases-pieces
decreases-pieces g l = l.wanted - length l.bytes.items
