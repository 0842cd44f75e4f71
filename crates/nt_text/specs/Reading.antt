-- Reading a text from left to right, character by character. Nothing is read where the text is not of the grammar.
use Rattle.std.specs.Prelude.{◌≡◌, ◌++◌, ◌+◌, ◌-◌, ◌*◌, ℕ, zero, suc, Bool, true, false, not, List, [], ◌∷◌, Option, Some, None, Result, Ok, Err, ◌==◌, ◌&&◌, ◌||◌, nat_lt, nat_le, if◌then◌else◌, length, take, map}
use Rattle.std.specs.Char.{digit_value, to_ascii_lowercase}
use Rattle.std.specs.Str.{chars, encode_utf8_all, is_utf8, bytes_eq}
use Rattle.std.specs.Str.Lossy.{utf8_valid_len}
use Rattle.term_core.specs.Order.{size_of}
use Rattle.term_core.specs.Texts.{xsd_string}
use Rattle.term_core.specs.Spelling.{lang_string}
use Rattle.term_core.specs.Characters.{is_hex, is_iri, is_letter, front, after, begins, is_scalar}
use Rattle.term_core.specs.Escapes.{echar_value}
use Rattle.term_core.specs.Names.{has_scheme, is_label_first, is_label_part, is_alphanumeric}
use Rattle.term_core.specs.declared.term.Term.{Term}
use Rattle.term_core.specs.declared.term.Term.TheVariants as terms
use Rattle.term_core.specs.declared.term.Triple.{Triple}
use Rattle.nt_text.specs.declared.fault.DataFault.{DataFault}
use Rattle.nt_text.specs.declared.fault.DataFault.TheVariants as faults
use Rattle.nt_text.specs.declared.fault.Unread.{Unread}
use Rattle.nt_text.specs.declared.fault.Unread.TheVariants as unreads
use Rattle.nt_text.specs.declared.escapes.Quoted.{Quoted}
use Rattle.nt_text.specs.declared.escapes.Quoted.TheVariants as quoted
use Rattle.nt_text.specs.declared.classes.Class.TheVariants as classes
use Rattle.nt_text.specs.Characters.{is_in, is_blank, is_line}

-- a step, and where it read something the next
infixl 10 ◌>>=◌
abbrev pub ◌>>=◌ : {A B : Type 0} → Option A → (A → Option B) → Option B
(Some x) >>= f = f x
None >>= f = None

-- A reader gives what reading gives, unless memory ran out: `Form` comes exactly where nothing is read.
abbrev pub Gives : {X Y : Type 0} → (X → Y) → Result X Unread → Option Y → Type 0
Gives view (Ok x) read = read ≡ Some (view x)
Gives view (Err unreads.Form) read = read ≡ None
Gives view (Err unreads.Memory) read = Unit {0}

-- the first character, and what is behind it
abbrev pub head_at : List ℕ → Option (ℕ × List ℕ)
head_at [] = None
head_at (c ∷ rest) = Some (c, rest)

-- a character, and what is behind it
abbrev pub expect : ℕ → List ℕ → Option (List ℕ)
expect b [] = None
expect b (c ∷ rest) = if c == b then Some rest else None

-- ---- escapes

-- the value of a hexadecimal digit, and what is behind it (RDF 1.1 N-Triples 7, HEX)
abbrev pub digit_at : List ℕ → Option (ℕ × List ℕ)
digit_at [] = None
digit_at (c ∷ rest) = if is_hex c then Some (digit_value c, rest) else None

-- the number of four hexadecimal digits, and what is behind them
unfoldable pub four_at : List ℕ → Option (ℕ × List ℕ)
four_at text = do
  a ← digit_at text
  b ← digit_at a.1
  c ← digit_at b.1
  d ← digit_at c.1
  Some (((a.0 * 16 + b.0) * 16 + c.0) * 16 + d.0, d.1)

-- the character of a number, if it has one
abbrev pub scalar_of : ℕ × List ℕ → Option (ℕ × List ℕ)
scalar_of number = if is_scalar number.0 then Some number else None

-- the character of \U and eight hexadecimal digits, read behind the U
unfoldable pub eight_at : List ℕ → Option (ℕ × List ℕ)
eight_at text = do
  high ← four_at text
  low ← four_at high.1
  Some (high.0 * 65536 + low.0, low.1)

-- the character behind a backslash and this letter (RDF 1.1 N-Triples 7, UCHAR)
abbrev pub uchar_by : ℕ → List ℕ → Option (ℕ × List ℕ)
uchar_by letter rest = if letter == 117 then (four_at rest >>= scalar_of) else if letter == 85 then (eight_at rest >>= scalar_of) else None

-- the character behind a backslash in an IRI (RDF 1.1 N-Triples 7, IRIREF)
abbrev pub iri_escape : ℕ → List ℕ → Option (ℕ × List ℕ)
iri_escape letter rest = uchar_by letter rest >>= λ c. if is_iri c.0 then Some c else None

-- the character of a letter, or of the digits behind it (RDF 1.1 N-Triples 7, STRING_LITERAL_QUOTE)
abbrev pub echar_or : Option ℕ → ℕ → List ℕ → Option (ℕ × List ℕ)
echar_or (Some c) letter rest = Some (c, rest)
echar_or None letter rest = uchar_by letter rest

-- the character behind a backslash and this letter
abbrev pub escape_by : Quoted → ℕ → List ℕ → Option (ℕ × List ℕ)
escape_by quoted.Iri letter rest = iri_escape letter rest
escape_by quoted.String letter rest = echar_or (echar_value letter) letter rest

-- the character of an escape, and what is behind it
unfoldable pub escape_at : Quoted → List ℕ → Option (ℕ × List ℕ)
escape_at q text = do
  body ← expect 92 text
  letter ← head_at body
  escape_by q letter.0 letter.1

-- what may stand there as it is
abbrev pub plain_in : Quoted → ℕ → Bool
plain_in quoted.Iri c = is_in classes.Iri c
plain_in quoted.String c = is_in classes.Plain c

-- characters, and what is behind them
abbrev pub onto : List ℕ → List ℕ × List ℕ → List ℕ × List ℕ
onto front read = (front ++ read.0, read.1)

-- the character of an escape and what is read behind it, or nothing where there is no escape
abbrev pub spelled_on : (List ℕ → List ℕ × List ℕ) → List ℕ → Option (ℕ × List ℕ) → List ℕ × List ℕ
spelled_on go text None = ([], text)
spelled_on go text (Some c) = onto (c.0 ∷ []) (go c.1)

-- what a text spells, up to a character that neither stands for itself nor begins an escape, and what is behind
unfoldable pub spelled_in : ℕ → Quoted → List ℕ → List ℕ × List ℕ
spelled_in zero q text = ([], text)
spelled_in (suc room) q text = onto (front (plain_in q) text) (spelled_on (spelled_in room q) (after (plain_in q) text) (escape_at q (after (plain_in q) text)))

-- with room for all of it: each escape takes two characters or more
abbrev pub spelled_at : Quoted → List ℕ → List ℕ × List ℕ
spelled_at q text = spelled_in (suc (length text)) q text

-- ---- terminals

-- an IRI, and what is behind it (RDF 1.1 N-Triples 7, IRIREF)
unfoldable pub iri_at : List ℕ → Option (List ℕ × List ℕ)
iri_at text = do
  body ← expect 60 text
  rest ← expect 62 (spelled_at quoted.Iri body).1
  if has_scheme (encode_utf8_all (spelled_at quoted.Iri body).0) then Some (encode_utf8_all (spelled_at quoted.Iri body).0, rest) else None

-- a string's characters, and what is behind it (RDF 1.1 N-Triples 7, STRING_LITERAL_QUOTE)
unfoldable pub string_at : List ℕ → Option (List ℕ × List ℕ)
string_at text = do
  body ← expect 34 text
  rest ← expect 34 (spelled_at quoted.String body).1
  Some (encode_utf8_all (spelled_at quoted.String body).0, rest)

-- what is behind the longest front of name characters and dots that ends with no dot; `end` is behind the last such so far
abbrev pub past_name : List ℕ → List ℕ → List ℕ
past_name end [] = end
past_name end (c ∷ text) = if is_label_part c then past_name text text else (if c == 46 then past_name end text else end)

-- the front of a text that a rest is behind
abbrev pub front_before : List ℕ → List ℕ → List ℕ
front_before text rest = take (length text - length rest) text

-- a name, and what is behind it (RDF 1.1 N-Triples 7, BLANK_NODE_LABEL)
unfoldable pub name_at : List ℕ → Option (List ℕ × List ℕ)
name_at text = do
  first ← head_at text
  if is_label_first first.0 then Some (encode_utf8_all (front_before text (past_name first.1 first.1)), past_name first.1 first.1) else None

-- a label behind _: and what is behind it (RDF 1.1 N-Triples 7, BLANK_NODE_LABEL)
unfoldable pub label_at : List ℕ → Option (List ℕ × List ℕ)
label_at text = do
  mark ← expect 95 text
  name ← expect 58 mark
  name_at name

-- what is behind the subtags: letters and digits behind a hyphen, one or more; `end` is behind the last such so far
abbrev pub past_subtags : List ℕ → Bool → List ℕ → List ℕ
past_subtags end hyphen [] = end
past_subtags end hyphen (c ∷ text) = if is_alphanumeric c then past_subtags text false text else (if not hyphen && c == 45 then past_subtags end true text else end)

-- what is behind the subtags of a tag: nothing but a hyphen may follow its first letters
abbrev pub past_tag : List ℕ → List ℕ
past_tag [] = []
past_tag (c ∷ text) = if c == 45 then past_subtags (c ∷ text) true text else c ∷ text

-- a tag behind @ in lower case, and what is behind it (RDF 1.1 N-Triples 7, LANGTAG)
unfoldable pub lang_at : List ℕ → Option (List ℕ × List ℕ)
lang_at text = do
  body ← expect 64 text
  first ← head_at body
  if is_letter first.0 then Some (map to_ascii_lowercase (encode_utf8_all (front_before body (past_tag (after is_letter body)))), past_tag (after is_letter body)) else None

-- ---- terms

-- ^^ and a datatype that is not that of strings with a tag, and what is behind it (RDF 1.1 N-Triples 2.3)
unfoldable pub datatype_at : List ℕ → Option (List ℕ × List ℕ)
datatype_at text = do
  sign ← expect 94 text
  rest ← expect 94 sign
  iri ← iri_at (after is_blank rest)
  if bytes_eq iri.0 lang_string then None else Some iri

-- the literal of a string: with the tag or the datatype that the text goes on with (from the first list), or plain, and then `rest` is behind it
abbrev pub literal_by : List ℕ → List ℕ → List ℕ → Option (Term × List ℕ)
literal_by lexical rest [] = Some (terms.Literal lexical xsd_string [], rest)
literal_by lexical rest (c ∷ text) =
    if c == 64 then (lang_at (c ∷ text) >>= λ tag. Some (terms.Literal lexical lang_string tag.0, tag.1))
    else if c == 94 then (datatype_at (c ∷ text) >>= λ iri. Some (terms.Literal lexical iri.0 [], iri.1))
    else Some (terms.Literal lexical xsd_string [], rest)

-- a literal, and what is behind it (RDF 1.1 N-Triples 2.3)
unfoldable pub literal_at : List ℕ → Option (Term × List ℕ)
literal_at text = string_at text >>= λ string. literal_by string.0 string.1 (after is_blank string.1)

-- an IRI or a blank node, and what is behind it (RDF 1.1 N-Triples 2.1)
abbrev pub subject_at : List ℕ → Option (Term × List ℕ)
subject_at [] = None
subject_at (c ∷ rest) = if c == 95
    then (label_at (c ∷ rest) >>= λ label. Some (terms.Blank label.0, label.1))
    else (iri_at (c ∷ rest) >>= λ iri. Some (terms.Iri iri.0, iri.1))

-- an object, and what is behind it (RDF 1.1 N-Triples 2.1)
abbrev pub object_at : List ℕ → Option (Term × List ℕ)
object_at [] = None
object_at (c ∷ rest) = if c == 34 then literal_at (c ∷ rest) else subject_at (c ∷ rest)

-- a triple with its dot, and what is behind it (RDF 1.1 N-Triples 2.1)
unfoldable pub triple_at : List ℕ → Option (Triple × List ℕ)
triple_at text = do
  subject ← subject_at text
  predicate ← iri_at (after is_blank subject.1)
  object ← object_at (after is_blank predicate.1)
  rest ← expect 46 (after is_blank object.1)
  Some (record { subject = subject.0; predicate = terms.Iri predicate.0; object = object.0 }, rest)

-- ---- lines

-- nothing, or a comment (RDF 1.1 N-Triples 7)
abbrev pub ends : List ℕ → Bool
ends [] = true
ends (c ∷ rest) = c == 35

-- a line's triple, or none (RDF 1.1 N-Triples 7, ntriplesDoc)
unfoldable pub line_at : List ℕ → Option (List Triple)
line_at line = let text = after is_blank line in
    if ends text
    then Some []
    else (triple_at text >>= λ t. if ends (after is_blank t.1) then Some (t.0 ∷ []) else None)

-- a character in front of the first line
abbrev pub onto_first : ℕ → List (List ℕ) → List (List ℕ)
onto_first c [] = (c ∷ []) ∷ []
onto_first c (line ∷ lines) = (c ∷ line) ∷ lines

-- the lines of a text, cut at each LF and CR; a CR before an LF is a part of its cut (RDF 1.1 N-Triples 7, EOL)
abbrev pub lines_of : List ℕ → List (List ℕ)
lines_of [] = [] ∷ []
lines_of (c ∷ rest) = if is_line c
    then onto_first c (lines_of rest)
    else (if c == 13 && begins (λ d. d == 10) rest then lines_of rest else ([] ∷ lines_of rest))

-- what is behind the line end at the front, if one is there
abbrev pub behind_end : List ℕ → Option (List ℕ)
behind_end [] = None
behind_end (c ∷ []) = Some []
behind_end (c ∷ d ∷ rest) = if c == 13 && d == 10 then Some rest else Some (d ∷ rest)

-- the lines of what is left to read
abbrev pub lines_left : Option (List ℕ) → List (List ℕ)
lines_left None = []
lines_left (Some rest) = lines_of rest

-- ---- documents

-- no term is too long
abbrev pub has_short_terms : Triple → Bool
has_short_terms t = nat_le (size_of t.subject) 262144 && nat_le (size_of t.predicate) 262144 && nat_le (size_of t.object) 262144

-- the triples with those of a line, or why the line is refused
abbrev pub with_line : ℕ → List Triple → Option (List Triple) → Result (List Triple) DataFault
with_line number triples None = Err (faults.BadLine number)
with_line number triples (Some []) = Ok triples
with_line number triples (Some (t ∷ more)) = if has_short_terms t
    then (if nat_lt (length triples) 4194303 then Ok (triples ++ t ∷ more) else Err (faults.TooMany number))
    else Err (faults.TermTooLong number)

-- and then, unless it is refused
abbrev pub unless_refused : Result (List Triple) DataFault → (List Triple → Result (List Triple) DataFault) → Result (List Triple) DataFault
unless_refused (Ok triples) f = f triples
unless_refused (Err fault) f = Err fault

-- these triples and those of the lines, of which the first has this number, or the first that is refused
unfoldable pub judged : ℕ → List Triple → List (List ℕ) → Result (List Triple) DataFault
judged number triples [] = Ok triples
judged number triples (line ∷ lines) = unless_refused (with_line number triples (line_at line)) (λ all. judged (number + 1) all lines)

-- the triples of a document, or why it is refused (RDF 1.1 N-Triples 2)
unfoldable pub document_of : List ℕ → Result (List Triple) DataFault
document_of bytes = if nat_lt 268435456 (length bytes)
    then Err faults.TooLong
    else (if is_utf8 bytes then judged 1 [] (lines_of (chars bytes)) else Err (faults.NotUtf8 (utf8_valid_len bytes)))

-- the answer is that, unless memory ran out
abbrev pub IsOutcome : Result (List Triple) DataFault → Result (List Triple) DataFault → Type 0
IsOutcome (Err faults.Memory) outcome = Unit {0}
IsOutcome (Ok triples) outcome = outcome ≡ Ok triples
IsOutcome (Err fault) outcome = outcome ≡ Err fault

-- the triples became that, unless memory ran out
abbrev pub Becomes : Result (Unit {0}) DataFault → List Triple → Result (List Triple) DataFault → Type 0
Becomes (Err faults.Memory) new outcome = Unit {0}
Becomes (Ok x) new outcome = outcome ≡ Ok new
Becomes (Err fault) new outcome = outcome ≡ Err fault
