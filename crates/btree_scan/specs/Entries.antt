-- The entries of a tree, level by level.
use Rattle.std.specs.Prelude.{◌≡◌, ℕ, ◌+◌, ◌*◌, ◌≤◌, ◌<◌, Bool, true, false, List, take, drop, Result, Ok, Err}
use Rattle.std.specs.Int.{w32, from_be_bytes}
use Rattle.sage_outside.specs.Blocks.{block_at}
use Rattle.sage_outside.specs.Parts.{is_sound}
use Rattle.sage_outside.specs.declared.fault.ReadFault.{ReadFault}
use Rattle.sage_outside.specs.declared.fault.ReadFault.TheVariants as faults
use Rattle.term_core.specs.declared.pattern.IdTriple.{IdTriple}

-- the entry that twelve bytes spell: three ids in four bytes each, the highest first
unfoldable pub entry_in : List ℕ → IdTriple
entry_in bytes = record {
  s = from_be_bytes w32 (take 4 bytes);
  p = from_be_bytes w32 (take 4 (drop 4 bytes));
  o = from_be_bytes w32 (take 4 (drop 8 bytes));
}

-- the entry at a place in bytes
abbrev pub entry_of : List ℕ → ℕ → IdTriple
entry_of bytes k = entry_in (take 12 (drop (12 * k) bytes))

-- a place up to a count, in front of which a test holds, and at which it does not
pub record IsEdgeOf (test : ℕ → Bool) (low high place : ℕ) : Type 0 where
  pub from : low ≤ place
  pub within : place ≤ high
  pub below : (k : ℕ) → low ≤ k → k + 1 ≡ place → test k ≡ true
  pub above : place < high → test place ≡ false

-- what a search in one block answers: an edge, or the block, where its tag does not agree
abbrev pub Searched : ℕ → ℕ → (IdTriple → Bool) → ℕ → List ℕ → Result ℕ ReadFault → Type 0
Searched p n test count image (Ok place) = (is_sound p n (block_at n image) ≡ true) × IsEdgeOf (λ k. test (entry_of (block_at n image) k)) 0 count place
Searched p n test count image (Err (faults.Damaged block)) = (is_sound p n (block_at n image) ≡ false) × (block ≡ n)
Searched p n test count image (Err faults.Blocks) = Unit {0}
