use Rattle.std.proofs.Common.{subst, Option, Some, None}
use Rattle.sparql_tree.specs.Algebra as algebra
use Rattle.sparql_tree.specs.Algebra.{Algebra}
use Rattle.sparql_translation.specs.Measures.{IsMeasure, IsUnited, union_with}
use Rattle.sparql_translation.specs.declared.measure.Measure.{Measure}
use Rattle.sparql_translation.proofs.measuring.also.Goals as goal

more : (m next result : Measure) (o : Option Algebra) (a : Algebra) → ((x y : Algebra) → IsMeasure m x → IsMeasure next y → IsMeasure result (algebra.Union x y)) → IsUnited (Some m) o → IsMeasure next a → IsMeasure result (union_with o a)
more m next result None a f h k = absurd h
more m next result (Some b) a f h k = f b a h k

pub returns-in-Some : goal.returns-in-Some
returns-in-Some c = λ o a h k. more _ _ _ o a c.of_union.ensures (subst (λ s. IsUnited s o) c.in-Some.is h) k
