-- Hashes of rows, and indexes by them.
use Rattle.std.specs.Prelude.{◌≡◌, ℕ, List, [], ◌∷◌, ◌++◌, ◌==◌, map, filter, flat_map, fold, Option, Some, None, nat_eq}
use Rattle.std.specs.Hash as fed
use Rattle.std.specs.Hash.FoldHasher as folding
use Rattle.std.specs.Borrow.{Bor}
use Rattle.std.specs.FinMap as finmap
use Rattle.std.specs.HashMap.{HashMap, get}
use Rattle.std.specs.declared.vec.Vec.{Vec}
use Rattle.std.specs.declared.alloc.Global.{Global}
use Rattle.term_core.specs.declared.term.Term.{Term}
use Rattle.term_core.specs.Mappings.{Name, Row, value}
use Rattle.term_core.specs.OrderLaws.{hash_writes}

-- what a hasher is given of the values at some names
abbrev pub fed_values : List Name → Row → fed.HashWrites
fed_values names row = flat_map (λ name. fed.option hash_writes (value row name)) names

-- the hash of a row's values at some names
unfoldable pub hash_at : List Name → Row → ℕ
hash_at names row = folding.finish (fold folding.write folding.initial (fed_values names row))

-- what a hasher is given of an entry
abbrev pub fed_entry : Name × Term → fed.HashWrites
fed_entry entry = fed.str entry.0 ++ hash_writes entry.1

-- what a hasher is given of entries
abbrev pub fed_entries : List (Name × Term) → fed.HashWrites
fed_entries entries = flat_map fed_entry entries

-- the hash of a whole row
unfoldable pub whole_hash : Row → ℕ
whole_hash row = folding.finish (fold folding.write folding.initial (fed_entries (finmap.entries row)))

-- the rows of a hash
abbrev pub of_hash : (Row → ℕ) → ℕ → List Row → List Row
of_hash hash code rows = filter (λ row. hash row == code) rows

-- the rows of a bucket, which may be missing
abbrev pub rows_at : Option (Vec (Bor Row) Global) → List Row
rows_at None = []
rows_at (Some rows) = map (λ r. r.now) rows.items

-- the bucket of each hash has the rows of that hash, in their order
abbrev pub Indexes : {S : Type 0} → (Row → ℕ) → List Row → HashMap ℕ (Vec (Bor Row) Global) S → Type 0
Indexes hash rows index = (code : ℕ) → rows_at (get nat_eq index code) ≡ of_hash hash code rows
