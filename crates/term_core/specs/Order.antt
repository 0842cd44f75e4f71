-- The order on terms, their size, and which triples are allowed (RDF 1.1 Concepts, section 3).
use Rattle.std.specs.Prelude.{ℕ, ◌+◌, List, [], length}
use Rattle.std.specs.Ordering.{nat_cmp, ordering_then}
use Rattle.std.specs.Cmp.Lexicographic.{slice_cmp}
use Rattle.std.specs.declared.cmp.Ordering.{Ordering}
use Rattle.term_core.specs.declared.term.Term.{Term}
use Rattle.term_core.specs.declared.term.Term.TheVariants.{Iri, Blank, Literal}
use Rattle.term_core.specs.declared.term.Triple.{Triple}

-- blank nodes come first, then IRIs, then literals (SPARQL 1.1, section 15.1)
abbrev pub rank_of : Term → ℕ
rank_of (Blank label) = 0
rank_of (Iri iri) = 1
rank_of (Literal lexical datatype lang) = 2

-- the label, the IRI or the lexical form (RDF 1.1 Concepts, sections 3.2 to 3.4)
abbrev pub text_of : Term → List ℕ
text_of (Blank label) = label
text_of (Iri iri) = iri
text_of (Literal lexical datatype lang) = lexical

-- a literal's datatype IRI, else nothing (RDF 1.1 Concepts, section 3.3)
abbrev pub datatype_of : Term → List ℕ
datatype_of (Blank label) = []
datatype_of (Iri iri) = []
datatype_of (Literal lexical datatype lang) = datatype

-- a literal's language tag, else nothing (RDF 1.1 Concepts, section 3.3)
abbrev pub lang_of : Term → List ℕ
lang_of (Blank label) = []
lang_of (Iri iri) = []
lang_of (Literal lexical datatype lang) = lang

-- by the first byte that differs, a prefix being less: on UTF-8 the order of code points (RFC 3629, section 1)
abbrev pub bytes_cmp : List ℕ → List ℕ → Ordering
bytes_cmp a b = slice_cmp nat_cmp a b

-- by kind, then by the text, the datatype and the tag
abbrev pub term_cmp : Term → Term → Ordering
term_cmp a b =
    ordering_then (nat_cmp (rank_of a) (rank_of b)) (ordering_then (bytes_cmp (text_of a) (text_of b))
    (ordering_then (bytes_cmp (datatype_of a) (datatype_of b)) (bytes_cmp (lang_of a) (lang_of b))))

-- bytes of the text, or of all three texts of a literal
abbrev pub size_of : Term → ℕ
size_of t = length (text_of t) + length (datatype_of t) + length (lang_of t)

-- the subject is an IRI or a blank node (RDF 1.1 Concepts, section 3.1)
abbrev pub MayBeSubject : Term → Type 0
MayBeSubject (Iri iri) = Unit {0}
MayBeSubject (Blank label) = Unit {0}
MayBeSubject (Literal lexical datatype lang) = ⊥

-- the predicate is an IRI (RDF 1.1 Concepts, section 3.1)
abbrev pub MayBePredicate : Term → Type 0
MayBePredicate (Iri iri) = Unit {0}
MayBePredicate (Blank label) = ⊥
MayBePredicate (Literal lexical datatype lang) = ⊥

-- an RDF triple (RDF 1.1 Concepts, section 3.1)
pub record IsAllowed (t : Triple) : Type 0 where
  pub subject : MayBeSubject t.subject
  pub predicate : MayBePredicate t.predicate
