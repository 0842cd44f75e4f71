-- Triples of numbers: their order, by subject, then predicate, then object, and their bytes.
use Rattle.std.specs.Prelude.{ℕ, List, ◌++◌}
use Rattle.std.specs.Int.{w32, to_be_bytes}
use Rattle.std.specs.Ordering.{nat_cmp, ordering_then}
use Rattle.std.specs.declared.cmp.Ordering.{Ordering}
use Rattle.term_core.specs.declared.pattern.IdTriple.{IdTriple}

-- the first of the three numbers that differs decides
abbrev pub id_cmp : IdTriple → IdTriple → Ordering
id_cmp a b = ordering_then (nat_cmp a.s b.s) (ordering_then (nat_cmp a.p b.p) (nat_cmp a.o b.o))

-- a number in four bytes, the highest first
abbrev pub number_bytes : ℕ → List ℕ
number_bytes n = to_be_bytes w32 n

-- the three numbers, subject first
abbrev pub ids_bytes : IdTriple → List ℕ
ids_bytes ids = number_bytes ids.s ++ (number_bytes ids.p ++ number_bytes ids.o)
