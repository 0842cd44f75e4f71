-- The grammar of a document: how each part of a text is spelled, apart from how it is read. A text is a list of
-- characters, and the texts of terms are lists of bytes. `IsX text x rest`: the text begins with x and goes on with rest.
use Rattle.std.specs.Prelude.{◌≡◌, ◌≢◌, ◌⊎◌, ◌++◌, ◌≤◌, ℕ, true, false, codes, ◌==◌, List, [], ◌∷◌, length, map}
use Rattle.std.specs.Char.{to_ascii_lowercase}
use Rattle.std.specs.Str.{encode_utf8_all}
use Rattle.term_core.specs.Texts.{xsd_string}
use Rattle.term_core.specs.Spelling.{lang_string}
use Rattle.term_core.specs.Characters.{is_plain, begins, AreAll, IsTextOf}
use Rattle.term_core.specs.Escapes.{IsIriBody, IsEscaped, IsStringEscape}
use Rattle.term_core.specs.Names.{has_scheme, IsLabel, IsTag}
use Rattle.term_core.specs.declared.term.Term.{Term}
use Rattle.term_core.specs.declared.term.Term.TheVariants as terms
use Rattle.term_core.specs.declared.term.Triple.{Triple}
use Rattle.nt_text.specs.Characters.{is_blank, is_line}

-- an IRI: < characters and escapes >, with a scheme; as > is none of them, this is the longest (RDF 1.1 N-Triples 7, IRIREF)
pub record IsIriAt (text iri rest : List ℕ) : Type 0 where
  pub body : List ℕ
  pub characters : List ℕ
  pub spelled : text ≡ 60 ∷ (body ++ 62 ∷ rest)
  pub reads : IsIriBody body characters
  pub scheme : has_scheme characters ≡ true
  pub bytes : iri ≡ encode_utf8_all characters

-- a string: " characters and escapes "; as " is none of them, this is the longest (RDF 1.1 N-Triples 7, STRING_LITERAL_QUOTE)
pub record IsStringAt (text lexical rest : List ℕ) : Type 0 where
  pub body : List ℕ
  pub characters : List ℕ
  pub spelled : text ≡ 34 ∷ (body ++ 34 ∷ rest)
  pub reads : IsEscaped is_plain IsStringEscape body characters
  pub bytes : lexical ≡ encode_utf8_all characters

-- nothing longer at the front of the text is of this kind
abbrev pub IsLongestFront : (List ℕ → Type 0) → List ℕ → List ℕ → Type 0
IsLongestFront Is text found = (longer behind : List ℕ) → Is longer → text ≡ longer ++ behind → length longer ≤ length found

-- a label of a blank node behind _: and the longest there (RDF 1.1 N-Triples 7, BLANK_NODE_LABEL)
pub record IsBlankNode (text label rest : List ℕ) : Type 0 where
  pub characters : List ℕ
  pub spelled : text ≡ 95 ∷ 58 ∷ (characters ++ rest)
  pub is_label : IsLabel characters
  pub longest : IsLongestFront IsLabel (characters ++ rest) characters
  pub bytes : label ≡ encode_utf8_all characters

-- a tag behind @, the longest there, put in lower case (RDF 1.1 N-Triples 7, LANGTAG; RDF 1.1 Concepts 3.3)
pub record IsLang (text lang rest : List ℕ) : Type 0 where
  pub tag : List ℕ
  pub spelled : text ≡ 64 ∷ (tag ++ rest)
  pub is_tag : IsTag tag
  pub longest : IsLongestFront IsTag (tag ++ rest) tag
  pub lower : lang ≡ map to_ascii_lowercase tag

-- blanks, all that there are: the rest begins with none (RDF 1.1 N-Triples 7)
pub record IsSpaced (text rest : List ℕ) : Type 0 where
  pub blanks : List ℕ
  pub spelled : text ≡ blanks ++ rest
  pub are_blank : AreAll is_blank blanks
  pub longest : begins is_blank rest ≡ false

-- a string with a tag, which has the datatype of such strings (RDF 1.1 N-Triples 2.3)
pub record IsTagged (text lexical datatype lang rest : List ℕ) : Type 0 where
  pub behind : List ℕ
  pub to_tag : List ℕ
  pub string : IsStringAt text lexical behind
  pub space : IsSpaced behind to_tag
  pub tag : IsLang to_tag lang rest
  pub datatype_is : datatype ≡ lang_string

-- a string with ^^ and a datatype, which is not that of strings with a tag (RDF 1.1 N-Triples 2.3; RDF 1.1 Concepts 3.3)
pub record IsTyped (text lexical datatype lang rest : List ℕ) : Type 0 where
  pub behind : List ℕ
  pub to_sign : List ℕ
  pub after_sign : List ℕ
  pub to_iri : List ℕ
  pub string : IsStringAt text lexical behind
  pub space : IsSpaced behind to_sign
  pub sign : to_sign ≡ 94 ∷ 94 ∷ after_sign
  pub space_behind : IsSpaced after_sign to_iri
  pub iri : IsIriAt to_iri datatype rest
  pub no_tag : lang ≡ []
  pub other : datatype ≢ lang_string

-- a string alone, which has the datatype of plain strings (RDF 1.1 N-Triples 2.3)
pub record IsPlain (text lexical datatype lang rest : List ℕ) : Type 0 where
  pub string : IsStringAt text lexical rest
  pub datatype_is : datatype ≡ xsd_string
  pub no_tag : lang ≡ []

-- a literal (RDF 1.1 N-Triples 2.3)
abbrev pub IsLiteral : List ℕ → List ℕ → List ℕ → List ℕ → List ℕ → Type 0
IsLiteral text lexical datatype lang rest =
    IsTagged text lexical datatype lang rest ⊎ IsTyped text lexical datatype lang rest ⊎ IsPlain text lexical datatype lang rest

-- a subject: an IRI or a blank node (RDF 1.1 N-Triples 2.1)
abbrev pub IsSubject : List ℕ → Term → List ℕ → Type 0
IsSubject text (terms.Iri iri) rest = IsIriAt text iri rest
IsSubject text (terms.Blank label) rest = IsBlankNode text label rest
IsSubject text (terms.Literal lexical datatype lang) rest = ⊥

-- a predicate: an IRI (RDF 1.1 N-Triples 2.1)
abbrev pub IsPredicate : List ℕ → Term → List ℕ → Type 0
IsPredicate text (terms.Iri iri) rest = IsIriAt text iri rest
IsPredicate text (terms.Blank label) rest = ⊥
IsPredicate text (terms.Literal lexical datatype lang) rest = ⊥

-- an object: an IRI, a blank node or a literal (RDF 1.1 N-Triples 2.1)
abbrev pub IsObjectAt : List ℕ → Term → List ℕ → Type 0
IsObjectAt text (terms.Iri iri) rest = IsIriAt text iri rest
IsObjectAt text (terms.Blank label) rest = IsBlankNode text label rest
IsObjectAt text (terms.Literal lexical datatype lang) rest = IsLiteral text lexical datatype lang rest

-- a subject, a predicate, an object and a dot, with blanks between (RDF 1.1 N-Triples 2.1)
pub record IsTriple (text : List ℕ) (triple : Triple) (rest : List ℕ) : Type 0 where
  pub after_subject : List ℕ
  pub to_predicate : List ℕ
  pub after_predicate : List ℕ
  pub to_object : List ℕ
  pub after_object : List ℕ
  pub to_dot : List ℕ
  pub subject : IsSubject text triple.subject after_subject
  pub space_1 : IsSpaced after_subject to_predicate
  pub predicate : IsPredicate to_predicate triple.predicate after_predicate
  pub space_2 : IsSpaced after_predicate to_object
  pub object : IsObjectAt to_object triple.object after_object
  pub space_3 : IsSpaced after_object to_dot
  pub dot : to_dot ≡ 46 ∷ rest

-- nothing, or a comment, which goes on to the end of the line (RDF 1.1 N-Triples 7)
abbrev pub IsEnd : List ℕ → Type 0
IsEnd text = (text ≡ []) ⊎ ((comment : List ℕ) × (text ≡ 35 ∷ comment))

-- a line that spells a triple (RDF 1.1 N-Triples 7, ntriplesDoc)
pub record IsTripleLine (line : List ℕ) (triple : Triple) : Type 0 where
  pub text : List ℕ
  pub rest : List ℕ
  pub end : List ℕ
  pub space : IsSpaced line text
  pub reads : IsTriple text triple rest
  pub last_space : IsSpaced rest end
  pub is_end : IsEnd end

-- a line with no triple or with one (RDF 1.1 N-Triples 7, ntriplesDoc)
abbrev pub IsLine : List ℕ → List Triple → Type 0
IsLine line [] = (text : List ℕ) × IsSpaced line text × IsEnd text
IsLine line (triple ∷ []) = IsTripleLine line triple
IsLine line (triple ∷ second ∷ more) = ⊥

-- the triples of the lines, in order (RDF 1.1 N-Triples 2)
abbrev pub AreLines : List (List ℕ) → List Triple → Type 0
AreLines [] triples = triples ≡ []
AreLines (line ∷ lines) triples =
    (first : List Triple) × (others : List Triple) × (triples ≡ first ++ others)
    × IsLine line first × AreLines lines others

-- the end of a line: CR LF, LF, or a CR that no LF follows (RDF 1.1 N-Triples 7, EOL)
abbrev pub IsLineEnd : List ℕ → List ℕ → Type 0
IsLineEnd text rest = (text ≡ codes "\r\n" ++ rest) ⊎ (text ≡ codes "\n" ++ rest)
    ⊎ ((text ≡ codes "\r" ++ rest) × (begins (λ c. c == 10) rest ≡ false))

-- a line that has an end: the text is the line, its end, and the rest (RDF 1.1 N-Triples 7, EOL)
pub record IsEndedLine (text line rest : List ℕ) : Type 0 where
  pub behind : List ℕ
  pub spelled : text ≡ line ++ behind
  pub in_line : AreAll is_line line
  pub ended : IsLineEnd behind rest

-- the lines of a text: each has its end but the last, which has none (RDF 1.1 N-Triples 7, ntriplesDoc)
abbrev pub AreLinesOf : List ℕ → List (List ℕ) → Type 0
AreLinesOf text [] = ⊥
AreLinesOf text (line ∷ []) = (text ≡ line) × AreAll is_line line
AreLinesOf text (line ∷ next ∷ lines) = (rest : List ℕ) × IsEndedLine text line rest × AreLinesOf rest (next ∷ lines)

-- a document: the UTF-8 of characters whose lines have these triples (RDF 1.1 N-Triples 2)
pub record IsDocument (bytes : List ℕ) (triples : List Triple) : Type 0 where
  pub characters : List ℕ
  pub is_text : IsTextOf characters bytes
  pub lines : List (List ℕ)
  pub are_its : AreLinesOf characters lines
  pub reads : AreLines lines triples
