use Rattle.std.proofs.Common.{◌≡◌, ◌≤◌, ◌-◌, ℕ, List, take, length}
use Rattle.sage_outside.specs.Blocks.{Tells}
use Rattle.sage_outside.specs.Areas.{part_of, block_of}
use Rattle.sage_outside.proofs.Runs.{Early, Sane}
use Rattle.sage_outside.proofs.area.read_area.Given as goal

abbrev pub invariant-pieces : goal.invariant-pieces
invariant-pieces g l = record {
  image : (g.B.Blocks.device l.blocks).image ≡ (g.B.Blocks.device l.initial.blocks).image;
  count : (g.B.Blocks.device l.blocks).count ≡ (g.B.Blocks.device l.initial.blocks).count;
  later : (g.B.Blocks.device l.initial.blocks).faults ≤ (g.B.Blocks.device l.blocks).faults;
  cost : Early l.area.payload l.at l.done (length l.initial.buf) (g.B.Blocks.device l.initial.blocks).reads (g.B.Blocks.device l.blocks).reads;
  front : (image : List ℕ) → Tells (g.B.Blocks.device l.initial.blocks).image image → take l.done l.buf ≡ part_of l.area l.at l.done image;
  sane : (image : List ℕ) → Tells (g.B.Blocks.device l.initial.blocks).image image → Sane l.area.payload (block_of l.area l.at) l.at l.done (length l.initial.buf) image;
}

abbrev pub decreases-pieces : goal.decreases-pieces
decreases-pieces g l = length l.initial.buf - l.done
