-- A list of triples stands for the set of them (RDF 1.1 Concepts, section 3): its terms, their numbers, its name.
use Rattle.std.specs.Prelude.{ℕ, List, [], ◌∷◌, length, filter, flat_map}
use Rattle.std.specs.Ordering.{is_lt}
use Rattle.sha2.specs.Sha256.{sha256}
use Rattle.term_core.specs.declared.term.Term.{Term}
use Rattle.term_core.specs.declared.term.Triple.{Triple}
use Rattle.term_core.specs.declared.pattern.IdTriple.{IdTriple}
use Rattle.term_core.specs.Order.{term_cmp}
use Rattle.term_core.specs.Bags.{distinct}
use Rattle.term_core.specs.Mappings.{same_term}
use Rattle.term_core.specs.Texts.{triple_text}
use Rattle.term_core.specs.Index.{by_subject, triple_cmp, in_order}

-- the three terms of a triple
abbrev pub parts : Triple → List Term
parts t = t.subject ∷ t.predicate ∷ t.object ∷ []

-- the terms of the data, each once (SPARQL 1.1, 18.1.1)
abbrev pub terms_of : List Triple → List Term
terms_of D = distinct same_term (flat_map parts D)

-- a term's rank: how many terms of the data stand below it
abbrev pub rank : List Triple → Term → ℕ
rank D t = length (filter (λ u. is_lt (term_cmp u t)) (terms_of D))

-- a triple by the ranks of its terms
abbrev pub ids_of : List Triple → Triple → IdTriple
ids_of D t = record { s = rank D t.subject; p = rank D t.predicate; o = rank D t.object }

-- the name of the data: SHA-256 (FIPS 180-4) of the lines of its triples, ordered by subject, predicate and object
abbrev pub data_id : List Triple → List ℕ
data_id D = sha256 (flat_map triple_text (in_order (triple_cmp by_subject) D))
