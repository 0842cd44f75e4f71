-- The front of the keys of the triples that are asked for.
use Rattle.std.specs.Prelude.{ℕ, ◌+◌}
use Rattle.term_core.specs.declared.pattern.IdTriple.{IdTriple}
use Rattle.btree_scan.specs.declared.prefix.Prefix.{Prefix}
use Rattle.store_image.specs.Keys.{key_in}
use Rattle.triple_store.specs.declared.asked.Wanted.{Wanted}
use Rattle.triple_store.specs.declared.asked.Wanted.TheVariants.{Any, Only, Nothing}
use Rattle.triple_store.specs.declared.asked.Asked.{Asked}
use Rattle.triple_store.specs.Asked.{index_for}

-- the rank that is wanted, and 0 where there is not one
abbrev pub wanted_number : Wanted → ℕ
wanted_number Any = 0
wanted_number (Only other) = other
wanted_number Nothing = 0

-- the ranks that are asked for
abbrev pub numbers_of : Asked → IdTriple
numbers_of asked = record { s = wanted_number asked.s; p = wanted_number asked.p; o = wanted_number asked.o }

-- how many ranks are wanted
abbrev pub width_of : Wanted → ℕ
width_of Any = 0
width_of (Only other) = 1
width_of Nothing = 1

-- the front of the keys of the triples that are asked for
abbrev pub front_of : Asked → Prefix
front_of asked =
    let key = key_in (index_for asked) (numbers_of asked) in
    record { len = width_of asked.s + width_of asked.p + width_of asked.o; a = key.s; b = key.p; c = key.o }
