-- The answer of a query that selects variables, without modifiers (SPARQL 1.1, sections 18.2.5 and 18.5).
use Rattle.std.specs.Prelude.{◌≡◌, List, map}
use Rattle.std.specs.List.Sorted.{IsPermutation}
use Rattle.term_core.specs.Mappings.{Name, Row, restricted}

-- the rows are the solutions that were found, in some order, each restricted to the names (SPARQL 1.1, 18.5, Project)
pub record IsAnswer (found : List Row) (names : List Name) (rows : List Row) : Type 0 where
  pub order : List Row
  pub rearranged : IsPermutation found order
  pub projected : rows ≡ map (restricted names) order
