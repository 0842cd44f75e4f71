-- The three orders of triples, and which of them a pattern reads.
use Rattle.std.specs.Prelude.{List, [], ◌∷◌, Option, Some, None, Bool, true, false, is_some, filter}
use Rattle.std.specs.Ordering.{ordering_then}
use Rattle.std.specs.declared.cmp.Ordering.{Ordering}
use Rattle.std.specs.declared.cmp.Ordering.TheVariants.{Less, Equal, Greater}
use Rattle.term_core.specs.declared.term.Term.{Term}
use Rattle.term_core.specs.declared.term.Triple.{Triple}
use Rattle.term_core.specs.Order.{term_cmp}
use Rattle.term_core.specs.Mappings.{Row}
use Rattle.term_core.specs.Patterns.{Pattern, filled, agrees}

-- an index lists triples by subject, predicate, object; by predicate, object, subject; or by object, subject, predicate
pub data Index : Type 0 where
  by_subject : Index
  by_predicate : Index
  by_object : Index

-- the index in which the triples with given terms at the bound positions stand side by side
abbrev pub index_at : (subject predicate object : Bool) → Index
index_at false true object = by_predicate
index_at false false true = by_object
index_at true false true = by_object
index_at false false false = by_subject
index_at true false false = by_subject
index_at true true object = by_subject

-- a position is bound where it is a term, or a name that has a value in the row
abbrev pub index_of : Pattern → Row → Index
index_of p row = index_at (is_some (filled row p.subject)) (is_some (filled row p.predicate)) (is_some (filled row p.object))

-- by the first two terms, then the next two, then the last two
abbrev pub three_cmp : (a b c d e f : Term) → Ordering
three_cmp a b c d e f = ordering_then (term_cmp a b) (ordering_then (term_cmp c d) (term_cmp e f))

-- the order of an index
abbrev pub triple_cmp : Index → Triple → Triple → Ordering
triple_cmp by_subject a b = three_cmp a.subject b.subject a.predicate b.predicate a.object b.object
triple_cmp by_predicate a b = three_cmp a.predicate b.predicate a.object b.object a.subject b.subject
triple_cmp by_object a b = three_cmp a.object b.object a.subject b.subject a.predicate b.predicate

-- the order in which a pattern's triples come under a row
abbrev pub index_cmp : Pattern → Row → Triple → Triple → Ordering
index_cmp p row = triple_cmp (index_of p row)

-- how a term stands to the value at a position; a free position is level with every term
abbrev pub side_at : Option Term → Term → Ordering
side_at None term = Equal
side_at (Some bound) term = term_cmp term bound

-- how a triple's terms stand to the values at the three positions, in the order of an index
abbrev pub sides : Index → (subject predicate object : Option Term) → Triple → Ordering
sides by_subject s p o t = ordering_then (side_at s t.subject) (ordering_then (side_at p t.predicate) (side_at o t.object))
sides by_predicate s p o t = ordering_then (side_at p t.predicate) (ordering_then (side_at o t.object) (side_at s t.subject))
sides by_object s p o t = ordering_then (side_at o t.object) (ordering_then (side_at s t.subject) (side_at p t.predicate))

-- whether a triple stands before, among or after those that agree with a pattern under a row
abbrev pub side : Pattern → Row → Triple → Ordering
side p row t = sides (index_of p row) (filled row p.subject) (filled row p.predicate) (filled row p.object) t

-- one of three, by how two values compare
abbrev pub by_order : {X : Type 0} → Ordering → (less equal greater : X) → X
by_order Less less equal greater = less
by_order Equal less equal greater = equal
by_order Greater less equal greater = greater

-- a list in order with one value more, unless the value stands there
abbrev pub put_in : {X : Type 0} → (X → X → Ordering) → X → List X → List X
put_in R x [] = x ∷ []
put_in R x (y ∷ ys) = by_order (R x y) (x ∷ y ∷ ys) (y ∷ ys) (y ∷ put_in R x ys)

-- the values of a list in order, each once
abbrev pub in_order : {X : Type 0} → (X → X → Ordering) → List X → List X
in_order R [] = []
in_order R (x ∷ xs) = put_in R x (in_order R xs)

-- the triples of the data that agree, in the order of the pattern's index
abbrev pub range : List Triple → Pattern → Row → List Triple
range D p row = filter (agrees p row) (in_order (index_cmp p row) D)
