use Rattle.std.proofs.Common.{◌≡◌, take}
use Rattle.term_core.proofs.items.Items.copy.Given as goal

-- the copy holds the items that were gone over
abbrev pub invariant-loop-item : goal.invariant-loop-item
invariant-loop-item g l = l.copy ≡ take l.item-index l.self
