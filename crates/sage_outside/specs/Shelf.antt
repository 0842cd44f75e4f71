-- Named files, as far as a shelf tells them, and what its calls answer.
use Rattle.std.specs.Prelude.{◌≡◌, ℕ, ◌≤◌, ◌↔◌, ◌⊎◌, ◌++◌, List, [], length, take, drop, Option, Some, None, Result, Ok, Err, OnErr, IfSome, IsSomeAnd}
use Rattle.std.specs.Ordering.{nat_cmp}
use Rattle.std.specs.Cmp.Lexicographic.{slice_cmp}
use Rattle.std.specs.FinMap as map
use Rattle.sage_outside.specs.declared.shelf.ShelfFault.{ShelfFault}
use Rattle.sage_outside.specs.declared.shelf.ShelfFault.TheVariants.{Missing, Failed}
use Rattle.sage_outside.specs.Causes.{Rose}

-- the bytes of each name
abbrev pub Files : Type 0
Files = map.FinMap (slice_cmp nat_cmp) (List ℕ)

-- a told map has no such name
abbrev pub Lacks : Option Files → List ℕ → Type 0
Lacks None name = ⊥
Lacks (Some files) name = map.get files name ≡ None

-- the count does not fall, `Failed` comes only where it rose, and `Missing` only where it rose or
-- the told map lacks the name
pub record HasCause {T : Type 0} (files : Option Files) (name : List ℕ) (before now : ℕ)
    (result : Result T ShelfFault) : Type 0 where
  pub later : before ≤ now
  pub failed : result ≡ Err Failed → Rose before now
  pub refused : OnErr result (Lacks files name ⊎ Rose before now)

-- what a call answers of a told file: `Missing` exactly where there is none, and else a value that
-- has P with the bytes
abbrev pub Finds : {T : Type 0} → (List ℕ → T → Type 0) → Option (List ℕ)
    → Result T ShelfFault → Type 0
Finds P None (Ok x) = ⊥
Finds P None (Err Missing) = Unit {0}
Finds P None (Err Failed) = ⊥
Finds P (Some bytes) (Ok x) = P bytes x
Finds P (Some bytes) (Err Missing) = ⊥
Finds P (Some bytes) (Err Failed) = Unit {0}

-- the same of the file of a name, where the files are told
abbrev pub FindsIn : {T : Type 0} → (List ℕ → T → Type 0) → Option Files → List ℕ
    → Result T ShelfFault → Type 0
FindsIn P None name result = Unit {0}
FindsIn P (Some files) name result = Finds P (map.get files name) result

-- n bytes from that place stand at the buffer's front, and none exactly at or past the end
pub record FillsFrom (at : ℕ) (old new : List ℕ) (bytes : List ℕ) (n : ℕ) : Type 0 where
  pub within : n ≤ length old
  pub filled : take n new ≡ take n (drop at bytes)
  pub exact : n ≤ length (drop at bytes)
  pub end : (n ≡ 0) ↔ (length bytes ≤ at)

-- after `start` the told file is empty; after a failed one it may also be as it was
abbrev pub Started : {T : Type 0} → Option Files → Option Files → List ℕ
    → Result T ShelfFault → Type 0
Started None new name result = new ≡ None
Started (Some files) new name (Ok x) = new ≡ Some (map.insert files name [])
Started (Some files) new name (Err e) = (new ≡ Some files) ⊎ (new ≡ Some (map.insert files name []))

-- a told file grows by the piece; after a failed call by a front of it
abbrev pub Grown : {T : Type 0} → Option Files → Option Files → List ℕ → List ℕ
    → Result T ShelfFault → Type 0
Grown None new name piece result = new ≡ None
Grown (Some files) new name piece (Ok x) =
    IfSome (map.get files name) (λ bytes. new ≡ Some (map.insert files name (bytes ++ piece)))
Grown (Some files) new name piece (Err e) =
    (new ≡ Some files) ⊎ ((n : ℕ) × (n ≤ length piece)
    × IsSomeAnd (map.get files name) (λ bytes. new ≡ Some (map.insert files name (bytes ++ take n piece))))
