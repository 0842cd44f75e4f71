-- How a record spells a term, and how it is read: a kind, then the text, or the lengths of a literal's datatype
-- and language tag, and its three texts (the parts of RDF 1.1 Concepts, sections 3.2 to 3.4).
use Rattle.std.specs.Prelude.{◌≡◌, ℕ, ◌++◌, ◌==◌, List, [], ◌∷◌, length, take, drop, nat_lt, Option, Some, None, Result, Ok, Err, if◌then◌else◌}
use Rattle.std.specs.Int.{w32, to_be_bytes, from_be_bytes}
use Rattle.std.specs.Str.{is_utf8}
use Rattle.term_core.specs.declared.term.Term.{Term}
use Rattle.term_core.specs.declared.term.Term.TheVariants as terms
use Rattle.term_core.specs.Order.{term_cmp}
use Rattle.std.specs.declared.cmp.Ordering.{Ordering}
use Rattle.term_dict.specs.declared.record.RecordFault.{RecordFault}
use Rattle.term_dict.specs.declared.record.RecordFault.TheVariants as faults

infixl 10 ◌>>=◌
abbrev pub ◌>>=◌ : {A B : Type 0} → Option A → (A → Option B) → Option B
(Some x) >>= f = f x
None >>= f = None

-- a reader gives what reading the bytes gives, `Form` where they spell nothing, or finds no memory
abbrev pub Decodes : {X Y : Type 0} → (X → Y) → Result X RecordFault → Option Y → Type 0
Decodes view (Ok x) read = read ≡ Some (view x)
Decodes view (Err faults.Form) read = read ≡ None
Decodes view (Err faults.Memory) read = Unit {0}

-- the bytes of a term's record
abbrev pub record_of : Term → List ℕ
record_of (terms.Blank label) = 0 ∷ label
record_of (terms.Iri iri) = 1 ∷ iri
record_of (terms.Literal lexical datatype lang) =
    2 ∷ (to_be_bytes w32 (length datatype) ++ (to_be_bytes w32 (length lang) ++ (datatype ++ (lang ++ lexical))))

-- the bytes, if they are UTF-8 (RFC 3629, section 4)
unfoldable pub text_in : List ℕ → Option (List ℕ)
text_in bytes = if is_utf8 bytes then Some bytes else None

-- a number of four bytes, the highest first, and what is behind it
unfoldable pub number_front : List ℕ → Option (ℕ × List ℕ)
number_front (a ∷ b ∷ c ∷ d ∷ rest) = Some (from_be_bytes w32 (a ∷ b ∷ c ∷ d ∷ []), rest)
number_front _ = None

-- so many bytes, and what is behind them
unfoldable pub cut_at : ℕ → List ℕ → Option (List ℕ × List ℕ)
cut_at n bytes = if nat_lt (length bytes) n then None else Some (take n bytes, drop n bytes)

-- a literal: two lengths, then datatype, language tag and lexical form
unfoldable pub literal_in : List ℕ → Option Term
literal_in bytes = do
  n ← number_front bytes
  m ← number_front n.1
  front ← cut_at n.0 m.1
  datatype ← text_in front.0
  middle ← cut_at m.0 front.1
  lang ← text_in middle.0
  lexical ← text_in middle.1
  Some (terms.Literal lexical datatype lang)

-- the term that a record spells: kind 0 is a blank node, 1 an IRI, 2 a literal
abbrev pub term_in : List ℕ → Option Term
term_in [] = None
term_in (kind ∷ rest) =
    if kind == 0 then (text_in rest >>= λ label. Some (terms.Blank label))
    else if kind == 1 then (text_in rest >>= λ iri. Some (terms.Iri iri))
    else if kind == 2 then literal_in rest else None

-- a literal's three texts, whether they are UTF-8 or not
unfoldable pub raw_literal_at : List ℕ → Option Term
raw_literal_at bytes = do
  n ← number_front bytes
  m ← number_front n.1
  front ← cut_at n.0 m.1
  middle ← cut_at m.0 front.1
  Some (terms.Literal middle.1 front.0 middle.0)

-- the texts that a record spells, whether they are UTF-8 or not
abbrev pub raw_in : List ℕ → Option Term
raw_in [] = None
raw_in (kind ∷ rest) =
    if kind == 0 then Some (terms.Blank rest) else if kind == 1 then Some (terms.Iri rest)
    else if kind == 2 then raw_literal_at rest else None

-- how the texts that bytes spell stand to a term
abbrev pub raw_order : Term → Option Term → Option Ordering
raw_order t (Some u) = Some (term_cmp u t)
raw_order t None = None
