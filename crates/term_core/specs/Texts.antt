-- Terms and triples as text (RDF 1.1 N-Triples, section 2).
use Rattle.std.specs.Prelude.{ℕ, List, [], ◌∷◌, ◌++◌, ◌==◌, flat_map, if◌then◌else◌, codes}
use Rattle.std.specs.Str.{bytes_eq}
use Rattle.term_core.specs.declared.term.Term.{Term}
use Rattle.term_core.specs.declared.term.Term.TheVariants.{Iri, Blank, Literal}
use Rattle.term_core.specs.declared.term.Triple.{Triple}

-- the datatype of plain strings (XML Schema 1.1 Datatypes, section 3.3.1)
abbrev pub xsd_string : List ℕ
xsd_string = codes "http://www.w3.org/2001/XMLSchema#string"

-- the datatype of truth values (XML Schema 1.1 Datatypes, section 3.3.2)
abbrev pub xsd_boolean : List ℕ
xsd_boolean = codes "http://www.w3.org/2001/XMLSchema#boolean"

-- a byte of a string: a backslash, a quote, a line feed and a carriage return are escaped (N-Triples, ECHAR)
abbrev pub escaped : ℕ → List ℕ
escaped b = if b == 92 then 92 ∷ 92 ∷ [] else if b == 34 then 92 ∷ 34 ∷ [] else if b == 10 then 92 ∷ 110 ∷ [] else if b == 13 then 92 ∷ 114 ∷ [] else b ∷ []

-- the tag after its sign, or else the datatype, which is left out where it is that of plain strings
abbrev pub kind_text : List ℕ → List ℕ → List ℕ
kind_text datatype [] = if bytes_eq datatype xsd_string then [] else 94 ∷ 94 ∷ 60 ∷ (datatype ++ 62 ∷ [])
kind_text datatype (b ∷ tag) = 64 ∷ b ∷ tag

-- <IRI>, _:label, or "lexical form" with its tag or datatype
abbrev pub term_text : Term → List ℕ
term_text (Iri iri) = 60 ∷ (iri ++ 62 ∷ [])
term_text (Blank label) = 95 ∷ 58 ∷ label
term_text (Literal lexical datatype lang) = 34 ∷ (flat_map escaped lexical ++ 34 ∷ kind_text datatype lang)

-- the three terms with a blank between, a blank, a dot and a line feed
abbrev pub triple_text : Triple → List ℕ
triple_text t = term_text t.subject ++ 32 ∷ (term_text t.predicate ++ 32 ∷ (term_text t.object ++ 32 ∷ 46 ∷ 10 ∷ []))
