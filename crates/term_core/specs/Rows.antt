-- A row is a finite map from names to terms (SPARQL 1.1, section 18.1.8), kept as entries in the byte order of the names.
use Rattle.std.specs.Prelude.{◌≡◌, ℕ, ◌<◌, ◌≤◌, List, map, length, slice_set, Result, Ok, Err, insert, T, string_bytes}
use Rattle.std.specs.BTreeMap.{BTreeMap}
use Rattle.std.specs.FinMap.{FinMap, from_entries, put, is_sorted}
use Rattle.std.specs.Global.{Global}
use Rattle.std.specs.declared.string.String.{String}
use Rattle.term_core.specs.declared.term.Term.{Term}
use Rattle.term_core.specs.Order.{bytes_cmp}

-- names, each with its term
abbrev pub RowEntries : Type 0
RowEntries = List (List ℕ × Term)

-- in the order of the names, each of which stands once
abbrev pub AreSorted : RowEntries → Type 0
AreSorted es = T (is_sorted bytes_cmp es)

-- a place where the name stands, so that setting it there puts it; or one where it goes in, if it stands nowhere
abbrev pub IsRowPlace : Result ℕ ℕ → RowEntries → List ℕ → Type 0
IsRowPlace (Ok at) es name = (at < length es) × ((v : Term) → put bytes_cmp name v es ≡ slice_set es at (name, v))
IsRowPlace (Err at) es name = (at ≤ length es) × ((v : Term) → put bytes_cmp name v es ≡ insert es at (name, v))

-- an entry by its name's bytes
abbrev pub named_term : String Global × Term → List ℕ × Term
named_term entry = (string_bytes entry.0, entry.1)

-- the row of a tree of names
abbrev pub row_of : BTreeMap (String Global) Term → FinMap bytes_cmp Term
row_of terms = from_entries (map named_term terms.entries)
