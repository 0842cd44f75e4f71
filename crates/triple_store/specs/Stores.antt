-- An opened store: the header that was read, and its blocks.
use Rattle.std.specs.Prelude.{◌≡◌, ℕ, ◌^◌, ◌<◌, ◌≤◌, List, length, ◌⊎◌}
use Rattle.term_core.specs.declared.term.Term.{Term}
use Rattle.term_core.specs.declared.term.Triple.{Triple}
use Rattle.term_core.specs.declared.pattern.IdTriple.{IdTriple}
use Rattle.sage_outside.specs.Blocks.{Device, Tells}
use Rattle.term_core.specs.Data.{data_id}
use Rattle.term_dict.specs.Built.{longest_of}
use Rattle.store_image.specs.Table.{IsTable}
use Rattle.store_image.specs.declared.header.Header.{Header}
use Rattle.store_image.specs.Header.{IsHeader, IsBroken, AreWithinFile}
use Rattle.store_image.specs.Holds.{Shows}
use Rattle.triple_store.specs.declared.store.OpenFault.{OpenFault}
use Rattle.triple_store.specs.declared.store.OpenFault.TheVariants as faults

-- what is seen of an opened store
pub record View : Type 0 where
  pub header : Header
  pub device : Device

-- the header's numbers are within their limits, and its areas within so many blocks, which a number of 32 bits counts
pub record IsOpened (h : Header) (count : ℕ) : Type 0 where
  pub fits : count < 2 ^ 32
  pub within : AreWithinFile h count

-- header, image and number of blocks are as they were, and no count fell
pub record IsKept (before now : View) : Type 0 where
  pub header : now.header ≡ before.header
  pub image : now.device.image ≡ before.device.image
  pub count : now.device.count ≡ before.device.count
  pub later : before.device.faults ≤ now.device.faults
  pub risen : before.device.reads ≤ now.device.reads

-- its blocks tell an image that shows these terms by rank, and these triples of ranks in each order
pub record IsShown (store : View) (terms : List Term) (ids : List IdTriple) : Type 0 where
  pub image : List ℕ
  pub told : Tells store.device.image image
  pub shows : Shows store.header terms ids image

-- the first of so many blocks is of no store: it is no header, and no damaged one
pub record IsNoStore (block : List ℕ) (count : ℕ) : Type 0 where
  pub whole : IsBroken block → ⊥
  pub none : (h : Header) → IsHeader block count h → ⊥

-- why blocks were not opened, by the first of them and their number
abbrev pub IsCause : List ℕ → ℕ → OpenFault → Type 0
IsCause block count faults.NotAStore = IsNoStore block count
IsCause block count (faults.Damaged n) = (n ≡ 0) × IsBroken block
IsCause block count faults.Blocks = Unit {0}
IsCause block count faults.Memory = Unit {0}

-- a fault that tells nothing of the blocks' contents
pub record IsOutside (fault : OpenFault) : Type 0 where
  pub is : (fault ≡ faults.Blocks) ⊎ (fault ≡ faults.Memory)

-- the store is of these data, a set of triples: it shows the table of their terms and triples, and tells their name and
-- how many terms and triples they are
pub record IsStoreOf (store : View) (L : List Triple) : Type 0 where
  pub terms : List Term
  pub ids : List IdTriple
  pub table : IsTable L terms ids
  pub shown : IsShown store terms ids
  pub term_count : store.header.terms ≡ length terms
  pub triple_count : store.header.triples ≡ length ids
  pub longest : store.header.longest ≡ longest_of terms
  pub data_name : store.header.data_id ≡ data_id L
