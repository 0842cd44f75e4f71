-- The triples of a scan, and how far it has come.
use Rattle.std.specs.Prelude.{◌≡◌, ℕ, ◌+◌, ◌≤◌, false, List, [], length, map, filter, slice_get, count_by, Option, Some, None}
use Rattle.std.specs.Ordering.{is_eq}
use Rattle.term_core.specs.declared.term.Term.{Term}
use Rattle.term_core.specs.declared.term.Triple.{Triple}
use Rattle.term_core.specs.declared.pattern.IdTriple.{IdTriple}
use Rattle.term_core.specs.Bags.{In}
use Rattle.term_core.specs.Mappings.{Row}
use Rattle.term_core.specs.Patterns.{Pattern}
use Rattle.term_core.specs.Index.{index_of}
use Rattle.term_core.specs.Index as indexes
use Rattle.btree_scan.specs.declared.prefix.Prefix.{Prefix}
use Rattle.btree_scan.specs.Cuts.{prefix_cmp, stands_before}
use Rattle.store_image.specs.Table.{decode, IsBelow, AreBelow}
use Rattle.store_image.specs.Keys.{index_numbered, ids_of_key, keys_by}
use Rattle.preempt_scan.specs.declared.scan.Scan.{Scan}
use Rattle.preempt_scan.specs.declared.scan.Found.{Found}
use Rattle.preempt_scan.specs.declared.scan.Found.TheVariants.{Triple as ATriple, End}

-- a front has at most three ids
abbrev pub LengthIs : Option Prefix → Type 0
LengthIs None = Unit {0}
LengthIs (Some prefix) = prefix.len ≤ 3

-- the scan is of one of the three orders, over so many triples: its place is one of theirs or their end
pub record IsScanIn (triples : ℕ) (scan : Scan) : Type 0 where
  pub order : scan.order ≤ 2
  pub len : LengthIs scan.prefix
  pub within : scan.place ≤ triples

-- the keys that begin with a front, in order; none without a front
abbrev pub keys_with : Option Prefix → List IdTriple → List IdTriple
keys_with None keys = []
keys_with (Some prefix) keys = filter (λ key. is_eq (prefix_cmp prefix key)) keys

-- how many keys stand before those
abbrev pub keys_before : Option Prefix → List IdTriple → ℕ
keys_before None keys = 0
keys_before (Some prefix) keys = count_by (stands_before false prefix) keys

-- the triples of an order's list whose keys begin with a front
abbrev pub triples_with : ℕ → Option Prefix → List IdTriple → List IdTriple
triples_with order prefix ids = map (ids_of_key (index_numbered order)) (keys_with prefix (keys_by (index_numbered order) ids))

-- the triples that a scan gives from its start to its end
abbrev pub scanned : List IdTriple → Scan → List IdTriple
scanned ids scan = triples_with scan.order scan.prefix ids

-- a scan has given the first k of its triples
pub record HasGiven (ids : List IdTriple) (scan : Scan) (k : ℕ) : Type 0 where
  pub place : scan.place ≡ keys_before scan.prefix (keys_by (index_numbered scan.order) ids) + k
  pub within : k ≤ length (scanned ids scan)

-- the next triple of a scan that has given k, or the end; the scan stands behind what is given
abbrev pub Finds : List IdTriple → Scan → Scan → ℕ → Found → Type 0
Finds ids old new k (ATriple t) = (slice_get (scanned ids old) k ≡ Some t) × HasGiven ids new (k + 1)
Finds ids old new k End = (k ≡ length (scanned ids old)) × (new ≡ old)

-- what was found is a triple of ids below a number
abbrev pub FoundBelow : ℕ → Found → Type 0
FoundBelow n (ATriple t) = IsBelow n t
FoundBelow n End = Unit {0}

-- a scan that goes on behind a triple, or nothing where it is not one of these triples
abbrev pub GoesOnBehind : List IdTriple → ℕ → Prefix → IdTriple → Option Scan → Type 0
GoesOnBehind ids order prefix t None = In (triples_with order (Some prefix) ids) t → ⊥
GoesOnBehind ids order prefix t (Some scan) = (scan.order ≡ order) × (scan.prefix ≡ Some prefix) × (k : ℕ) × (slice_get (scanned ids scan) k ≡ Some t) × HasGiven ids scan (k + 1)

-- a scan of the triples that agree with a pattern under a row, in the order of the pattern's index
pub record IsScanOf (L : List Triple) (terms : List Term) (ids : List IdTriple) (p : Pattern) (row : Row) (scan : Scan) : Type 0 where
  pub index : index_numbered scan.order ≡ index_of p row
  pub below : AreBelow (length terms) (scanned ids scan)
  pub triples : map (decode terms) (scanned ids scan) ≡ indexes.range L p row

-- a scan that goes on behind a triple of a pattern's range under a row, or nothing where the triple is not there
abbrev pub GoesOnIn : List Triple → List Term → List IdTriple → Pattern → Row → IdTriple → Option Scan → Type 0
GoesOnIn L terms ids p row t None = (scan : Scan) → IsScanOf L terms ids p row scan → In (scanned ids scan) t → ⊥
GoesOnIn L terms ids p row t (Some scan) = IsScanOf L terms ids p row scan × (k : ℕ) × (slice_get (scanned ids scan) k ≡ Some t) × HasGiven ids scan (k + 1)
