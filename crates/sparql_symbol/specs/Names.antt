-- What a map from prefixes to IRIs means.
use Rattle.std.specs.Prelude.{ℕ, List}
use Rattle.std.specs.Borrow.{Bor}
use Rattle.std.specs.BTreeMap.{BTreeMap, get_by}
use Rattle.std.specs.Cmp.Lexicographic.{slice_cmp}
use Rattle.std.specs.Ordering.{nat_cmp}
use Rattle.sparql_tree.specs.Symbols.{Prefixes}
use Rattle.sparql_tree.specs.Prologue.{Declaration}

-- the IRI of the prefix of these bytes
abbrev pub iri_of : BTreeMap (Bor (List ℕ)) (List ℕ) → Prefixes
iri_of m prefix = get_by (λ k. slice_cmp nat_cmp prefix k.now) m

-- a prefix and its IRI
abbrev pub declaration : List ℕ → List ℕ → Declaration
declaration prefix iri = record { prefix = prefix; iri = iri }
