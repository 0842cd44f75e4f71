-- Which terms can be written in N-Triples (RDF 1.1 Concepts, section 3; RDF 1.1 N-Triples 7).
use Rattle.std.specs.Prelude.{◌≡◌, ◌≢◌, ◌⊎◌, ℕ, true, codes, List, [], map}
use Rattle.std.specs.Char.{to_ascii_lowercase}
use Rattle.std.specs.Str.{IsUtf8}
use Rattle.term_core.specs.Characters.{is_iri, AreAll, IsTextOf}
use Rattle.term_core.specs.Names.{has_scheme, IsLabel, IsTag}
use Rattle.term_core.specs.declared.term.Term.{Term}
use Rattle.term_core.specs.declared.term.Term.TheVariants.{Iri, Blank, Literal}
use Rattle.term_core.specs.declared.term.Triple.{Triple}

-- the datatype of strings with a language tag (RDF 1.1 Concepts 3.3)
abbrev pub lang_string : List ℕ
lang_string = codes "http://www.w3.org/1999/02/22-rdf-syntax-ns#langString"

-- the UTF-8 of an IRI with a scheme (RDF 1.1 N-Triples 7, IRIREF)
pub record IsSpelledIri (iri : List ℕ) : Type 0 where
  pub characters : List ℕ
  pub is_text : IsTextOf characters iri
  pub of_class : AreAll is_iri characters
  pub scheme : has_scheme characters ≡ true

-- the UTF-8 of a label (RDF 1.1 N-Triples 7, BLANK_NODE_LABEL)
pub record IsSpelledLabel (label : List ℕ) : Type 0 where
  pub characters : List ℕ
  pub is_text : IsTextOf characters label
  pub is_label : IsLabel characters

-- a language tag in lower case (RDF 1.1 Concepts 3.3)
pub record IsSpelledTag (tag : List ℕ) : Type 0 where
  pub is_tag : IsTag tag
  pub lower : map to_ascii_lowercase tag ≡ tag

-- no tag and another datatype, or a tag and that of strings with a tag (RDF 1.1 Concepts 3.3)
abbrev pub IsSpelledKind : List ℕ → List ℕ → Type 0
IsSpelledKind datatype lang = ((lang ≡ []) × IsSpelledIri datatype × (datatype ≢ lang_string)) ⊎ (IsSpelledTag lang × (datatype ≡ lang_string))

-- a term that N-Triples can spell
abbrev pub IsSpelled : Term → Type 0
IsSpelled (Iri iri) = IsSpelledIri iri
IsSpelled (Blank label) = IsSpelledLabel label
IsSpelled (Literal lexical datatype lang) = IsUtf8 lexical × IsSpelledKind datatype lang

-- a triple of such terms
pub record AreSpelled (t : Triple) : Type 0 where
  pub subject : IsSpelled t.subject
  pub predicate : IsSpelled t.predicate
  pub object : IsSpelled t.object
