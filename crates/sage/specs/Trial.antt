-- The generated data of a trial: of each number below n the one that is next to it, and a value.
use Rattle.std.specs.Prelude.{ℕ, zero, suc, ◌+◌, ◌*◌, ◌%◌, ◌++◌, List, [], ◌∷◌, codes}
use Rattle.std.specs.Fmt.{decimal}
use Rattle.term_core.specs.declared.term.Term.{Term}
use Rattle.term_core.specs.declared.term.Term.TheVariants.{Iri, Literal}
use Rattle.term_core.specs.declared.term.Triple.{Triple}
use Rattle.term_core.specs.Numbers.{xsd_integer}

-- the IRI of a number
abbrev pub trial_node : ℕ → Term
trial_node i = Iri (codes "http://t.example/n" ++ decimal i)

-- number i has the next number (7 i + 1) mod n
unfoldable pub next_triple : ℕ → ℕ → Triple
next_triple n i = record { subject = trial_node i; predicate = Iri (codes "http://t.example/next"); object = trial_node ((7 * i + 1) % n) }

-- and the value i mod 10
unfoldable pub value_triple : ℕ → Triple
value_triple i = record { subject = trial_node i; predicate = Iri (codes "http://t.example/val"); object = Literal (decimal (i % 10)) xsd_integer [] }

-- the triples of the first k numbers
abbrev pub trial_front : ℕ → ℕ → List Triple
trial_front n zero = []
trial_front n (suc k) = trial_front n k ++ (next_triple n k ∷ value_triple k ∷ [])

-- the triples of the n numbers
abbrev pub trial_data : ℕ → List Triple
trial_data n = trial_front n n
