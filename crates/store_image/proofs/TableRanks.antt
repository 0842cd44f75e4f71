-- What the numbers of a table are in the data.
use Rattle.std.proofs.Common.{◌≡◌, ℕ, ◌<◌, List, [], length, Some, slice_get}
use Rattle.std.specs.Prelude.{flat_map}
use Rattle.std.proofs.lemmas.Option.{slice_get-get_or}
use Rattle.term_core.specs.declared.term.Term.{Term}
use Rattle.term_core.specs.declared.term.Term.TheVariants.{Iri}
use Rattle.term_core.specs.declared.term.Triple.{Triple}
use Rattle.term_core.specs.declared.pattern.IdTriple.{IdTriple}
use Rattle.term_core.specs.Mappings.{same_term}
use Rattle.term_core.proofs.Merges.{terms_same, term_itself}
use Rattle.term_core.proofs.Distinct.{In-distinct, from_In-distinct}
use Rattle.term_core.specs.Data.{parts, terms_of, rank, ids_of}
use Rattle.term_core.specs.Bags.{HaveSame}
use Rattle.store_image.specs.Table.{term_numbered, decode, IsBelow, IsTable}

-- a table has the terms of the data
pub has_terms_of : (L : List Triple) (terms : List Term) (ids : List IdTriple) → IsTable L terms ids → HaveSame terms (terms_of L)
has_terms_of L terms ids t = record {
  to = λ u i. In-distinct same_term terms_same term_itself (flat_map parts L) u (t.to u i);
  from = λ u i. t.from u (from_In-distinct same_term terms_same term_itself (flat_map parts L) u i);
}

-- a table's numbers are the ranks of its terms
pub numbers_are : (L : List Triple) (terms : List Term) (ids : IdTriple) → ((k : ℕ) (t : Term) → slice_get terms k ≡ Some t → rank L t ≡ k) → IsBelow (length terms) ids → ids_of L (decode terms ids) ≡ ids
numbers_are L terms ids ranks b =
    let at : (k : ℕ) → k < length terms → rank L (term_numbered terms k) ≡ k = λ k h. ranks k (term_numbered terms k) (slice_get-get_or terms k (Iri []) h) in
    λ i. record { s = at ids.s b.s i; p = at ids.p b.p i; o = at ids.o b.o i }
