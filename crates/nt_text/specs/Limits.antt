-- How large a document may be.
use Rattle.std.specs.Prelude.{ℕ, ◌≤◌, List, length, All}
use Rattle.term_core.specs.declared.term.Triple.{Triple}
use Rattle.term_core.specs.Order.{size_of}

-- no term is above 262,144 bytes
pub record HasShortTerms (triple : Triple) : Type 0 where
  pub subject : size_of triple.subject ≤ 262144
  pub predicate : size_of triple.predicate ≤ 262144
  pub object : size_of triple.object ≤ 262144

-- at most 4,194,303 triples, repeats counted, of short terms
pub record AreWithinLimits (triples : List Triple) : Type 0 where
  pub terms : All HasShortTerms triples
  pub number : length triples ≤ 4194303

-- at most 268,435,456 bytes, and triples within their limits
pub record IsWithinLimits (bytes : List ℕ) (triples : List Triple) : Type 0 where
  pub bytes_fit : length bytes ≤ 268435456
  pub triples_fit : AreWithinLimits triples
