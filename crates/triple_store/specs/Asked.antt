-- The ranks that a pattern asks for.
use Rattle.std.specs.Prelude.{ℕ, ◌==◌, ◌&&◌, Bool, true, false, Option, Some, None}
use Rattle.term_core.specs.declared.pattern.IdTriple.{IdTriple}
use Rattle.term_core.specs.Index.{Index, index_at}
use Rattle.triple_store.specs.declared.asked.Wanted.{Wanted}
use Rattle.triple_store.specs.declared.asked.Wanted.TheVariants.{Any, Only, Nothing}
use Rattle.triple_store.specs.declared.asked.Asked.{Asked}

-- what is wanted of a term by its rank, if it has one
abbrev pub wanted_of : Option ℕ → Wanted
wanted_of (Some id) = Only id
wanted_of None = Nothing

-- whether a rank may stand where one is wanted
abbrev pub admits : Wanted → ℕ → Bool
admits Any id = true
admits (Only other) id = other == id
admits Nothing id = false

-- whether a triple may stand where ranks are wanted
abbrev pub asks_for : Asked → IdTriple → Bool
asks_for asked ids = admits asked.s ids.s && (admits asked.p ids.p && admits asked.o ids.o)

-- whether there is a term where a rank is wanted
abbrev pub is_bound : Wanted → Bool
is_bound Any = false
is_bound (Only other) = true
is_bound Nothing = true

-- the index in which the triples that are asked for stand side by side
abbrev pub index_for : Asked → Index
index_for asked = index_at (is_bound asked.s) (is_bound asked.p) (is_bound asked.o)
