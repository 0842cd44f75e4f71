-- The terms of a document are terms that N-Triples can spell, and its triples are triples of RDF.
use Rattle.std.proofs.Common.{◌≡◌, ◌≢◌, cond, Option, Some, None, ℕ, Bool, true, false, inl, inr, List, [], ◌∷◌, ◌++◌, length, map, eqb, refl, sym, ap, ◌∙◌, subst, arith, Result, Ok, Err, IfOk}
use Rattle.std.proofs.lemmas.Bool.{and_parts}
use Rattle.std.proofs.lemmas.Bool.Decides.{nat_tests}
use Rattle.std.proofs.lemmas.List.Elements.{All-nil, All-cons, All-append, All-head, All-tail}
use Rattle.std.specs.List.{All}
use Rattle.std.specs.Char.{IsScalar, to_ascii_lowercase}
use Rattle.std.specs.Str.{IsUtf8, all_scalars}
use Rattle.term_core.specs.Texts.{xsd_string}
use Rattle.term_core.specs.Spelling.{lang_string, IsSpelledIri, IsSpelledLabel, IsSpelledTag, IsSpelled, AreSpelled}
use Rattle.term_core.specs.Order.{IsAllowed}
use Rattle.term_core.specs.Order as order
use Rattle.term_core.specs.Characters.{is_letter, AreAll}
use Rattle.term_core.specs.Escapes.{IsEscaped, IsStringEscape, echar_value}
use Rattle.term_core.specs.Escapes.IsEscaped.{nothing, character, escape}
use Rattle.term_core.specs.Names.{IsTag, AreSubtags, is_alphanumeric}
use Rattle.term_core.specs.Names.AreSubtags.{no_subtag, subtag}
use Rattle.term_core.specs.declared.term.Term.{Term}
use Rattle.term_core.specs.declared.term.Term.TheVariants as terms
use Rattle.term_core.specs.declared.term.Triple.{Triple}
use Rattle.nt_text.specs.declared.fault.DataFault.{DataFault}
use Rattle.nt_text.specs.Grammar.{IsIriAt, IsStringAt, IsBlankNode, IsLang, IsSpaced, IsLiteral, IsSubject, IsPredicate, IsObjectAt, IsTriple, IsLine, AreLines, IsLineEnd, AreLinesOf, IsDocument}
use Rattle.nt_text.specs.Reading.{document_of, IsOutcome}
use Rattle.nt_text.proofs.EscapeLaws.{all_parts}
use Rattle.nt_text.proofs.TagLaws.{small_encoded}
use Rattle.nt_text.proofs.Judged.{found}

abbrev Outcome : Type 0
Outcome = Result (List Triple) DataFault

-- ---- texts of scalar values

pub scalars_parts : (c : ℕ) (text : List ℕ) → all_scalars (c ∷ text) ≡ true → IsScalar c × (all_scalars text ≡ true)
scalars_parts c text h = and_parts _ (all_scalars text) h

pub scalars_both : (xs ys : List ℕ) → all_scalars xs ≡ true → all_scalars ys ≡ true → all_scalars (xs ++ ys) ≡ true
scalars_both [] ys hx hy = hy
scalars_both (x ∷ xs) ys hx hy = let a = scalars_parts x xs hx in rw a.0 (scalars_both xs ys a.1 hy)

scalars_front : (xs ys : List ℕ) → all_scalars (xs ++ ys) ≡ true → (all_scalars xs ≡ true) × (all_scalars ys ≡ true)
scalars_front [] ys h = (refl, h)
scalars_front (x ∷ xs) ys h = let a = scalars_parts x (xs ++ ys) h in let b = scalars_front xs ys a.1 in (rw a.0 b.0, b.1)

scalars_of : (text front rest : List ℕ) → text ≡ front ++ rest → all_scalars text ≡ true → (all_scalars front ≡ true) × (all_scalars rest ≡ true)
scalars_of text front rest e h = scalars_front front rest (ap all_scalars (sym e) ∙ h)

-- what holds of the character that there may be
abbrev Maybe : (ℕ → Type 0) → Option ℕ → Type 0
Maybe P None = Unit {0}
Maybe P (Some c) = P c

either : (P : ℕ → Type 0) (b : Bool) (x y : Option ℕ) → Maybe P x → Maybe P y → Maybe P (cond b x y)
either P true x y hx hy = hx
either P false x y hx hy = hy

echar_scalars : (letter : ℕ) → Maybe IsScalar (echar_value letter)
echar_scalars letter =
    either IsScalar (eqb letter 116) _ _ refl (either IsScalar (eqb letter 98) _ _ refl (either IsScalar (eqb letter 110) _ _ refl (either IsScalar (eqb letter 114) _ _ refl
    (either IsScalar (eqb letter 102) _ _ refl (either IsScalar (eqb letter 34) _ _ refl (either IsScalar (eqb letter 39) _ _ refl (either IsScalar (eqb letter 92) _ _ refl tt)))))))

pub string_escape_scalar : (text : List ℕ) (c : ℕ) → IsStringEscape text c → IsScalar c
string_escape_scalar text c (inl uchar) = uchar.scalar
string_escape_scalar text c (inr echar) = subst (Maybe IsScalar) echar.value (echar_scalars echar.letter)

-- what a text with escapes spells is of scalar values
pub spelled_scalars : {plain : ℕ → Bool} {IsEscape : List ℕ → ℕ → Type 0} {text value : List ℕ} → ((e : List ℕ) (c : ℕ) → IsEscape e c → IsScalar c) → all_scalars text ≡ true → IsEscaped plain IsEscape text value
    → all_scalars value ≡ true
spelled_scalars escapes scalars nothing = refl
spelled_scalars escapes scalars (character {c} {text} {value} plain more) = let a = scalars_parts c text scalars in rw a.0 (spelled_scalars escapes a.1 more)
spelled_scalars escapes scalars (escape {c} {escape = e} {text} {value} is more) =
    let a = scalars_front e text scalars in rw (escapes e c is) (spelled_scalars escapes a.1 more)

-- and of the class that its escapes keep to
pub spelled_class : {plain : ℕ → Bool} {IsEscape : List ℕ → ℕ → Type 0} {text value : List ℕ} → ((e : List ℕ) (c : ℕ) → IsEscape e c → plain c ≡ true) → IsEscaped plain IsEscape text value → AreAll plain value
spelled_class escapes nothing = refl
spelled_class escapes (character {c} {text} {value} plain more) = rw plain (spelled_class escapes more)
spelled_class escapes (escape {c} {escape = e} {text} {value} is more) = rw (escapes e c is) (spelled_class escapes more)

-- ---- terms, and what is behind them

-- a text of scalar values
abbrev IsScalars : List ℕ → Type 0
IsScalars text = all_scalars text ≡ true

iri_parts : (text iri rest : List ℕ) → IsScalars text → IsIriAt text iri rest → IsSpelledIri iri × IsScalars rest
iri_parts text iri rest scalars h =
    let a = scalars_of text (60 ∷ []) (h.body ++ 62 ∷ rest) h.spelled scalars in
    let b = scalars_front h.body (62 ∷ rest) a.1 in
    let c = scalars_parts 62 rest b.1 in (
      record {
        characters = h.characters;
        is_text = record { scalars = spelled_scalars (λ e c is. is.uchar.scalar) b.0 h.reads; encoded = sym h.bytes };
        of_class = spelled_class (λ e c is. is.allowed) h.reads;
        scheme = h.scheme;
      },
      c.1,
    )

string_parts : (text lexical rest : List ℕ) → IsScalars text → IsStringAt text lexical rest → IsUtf8 lexical × IsScalars rest
string_parts text lexical rest scalars h =
    let a = scalars_of text (34 ∷ []) (h.body ++ 34 ∷ rest) h.spelled scalars in
    let b = scalars_front h.body (34 ∷ rest) a.1 in
    let c = scalars_parts 34 rest b.1 in
    ((h.characters, (spelled_scalars string_escape_scalar b.0 h.reads, sym h.bytes)), c.1)

label_parts : (text label rest : List ℕ) → IsScalars text → IsBlankNode text label rest → IsSpelledLabel label × IsScalars rest
label_parts text label rest scalars h =
    let a = scalars_of text (95 ∷ 58 ∷ []) (h.characters ++ rest) h.spelled scalars in
    let b = scalars_front h.characters rest a.1 in
    (record { characters = h.characters; is_text = record { scalars = b.0; encoded = sym h.bytes }; is_label = h.is_label }, b.1)

space_rest : (text rest : List ℕ) → IsScalars text → IsSpaced text rest → IsScalars rest
space_rest text rest scalars h = (scalars_of text h.blanks rest h.spelled scalars).1

-- ---- tags in lower case

lower_letter : (c : ℕ) → is_letter c ≡ true → is_letter (to_ascii_lowercase c) ≡ true
lower_letter c h = grind (arith, nat_tests)

lower_alphanumeric : (c : ℕ) → is_alphanumeric c ≡ true → is_alphanumeric (to_ascii_lowercase c) ≡ true
lower_alphanumeric c h = grind (arith, nat_tests)

lower_all : (p : ℕ → Bool) → ((c : ℕ) → p c ≡ true → p (to_ascii_lowercase c) ≡ true) → (text : List ℕ) → AreAll p text → AreAll p (map to_ascii_lowercase text)
lower_all p keeps [] all = refl
lower_all p keeps (c ∷ text) all = let a = all_parts p c text all in rw (keeps c a.0) (lower_all p keeps text a.1)

lower_some : (text : List ℕ) → text ≢ [] → map to_ascii_lowercase text ≢ []
lower_some [] some = absurd (some refl)
lower_some (c ∷ text) some = λ e. absurd cc

lower_append : (xs ys : List ℕ) → map to_ascii_lowercase (xs ++ ys) ≡ map to_ascii_lowercase xs ++ map to_ascii_lowercase ys
lower_append [] ys = refl
lower_append (x ∷ xs) ys = ap (λ t. to_ascii_lowercase x ∷ t) (lower_append xs ys)

lower_subtags : {text : List ℕ} → AreSubtags text → AreSubtags (map to_ascii_lowercase text)
lower_subtags no_subtag = no_subtag
lower_subtags (subtag {tag} {rest} some all more) =
    subst (λ t. AreSubtags (45 ∷ t)) (sym (lower_append tag rest)) (subtag (lower_some tag some) (lower_all is_alphanumeric lower_alphanumeric tag all) (lower_subtags more))

pub lower_tag : (tag : List ℕ) → IsTag tag → IsTag (map to_ascii_lowercase tag)
lower_tag tag h = record {
  primary = map to_ascii_lowercase h.primary;
  subtags = map to_ascii_lowercase h.subtags;
  spelled = ap (map to_ascii_lowercase) h.spelled ∙ lower_append h.primary h.subtags;
  some = lower_some h.primary h.some;
  letters = lower_all is_letter lower_letter h.primary h.letters;
  are_subtags = lower_subtags h.are_subtags;
}

lower_once : (c : ℕ) → to_ascii_lowercase (to_ascii_lowercase c) ≡ to_ascii_lowercase c
lower_once c = grind (arith, nat_tests)

pub lower_twice : (text : List ℕ) → map to_ascii_lowercase (map to_ascii_lowercase text) ≡ map to_ascii_lowercase text
lower_twice [] = refl
lower_twice (c ∷ text) = λ i. lower_once c i ∷ lower_twice text i

lang_parts : (text lang rest : List ℕ) → IsScalars text → IsLang text lang rest → IsSpelledTag lang × IsScalars rest
lang_parts text lang rest scalars h =
    let a = scalars_of text (64 ∷ []) (h.tag ++ rest) h.spelled scalars in
    let b = scalars_front h.tag rest a.1 in (
      record {
        is_tag = subst IsTag (sym h.lower) (lower_tag h.tag h.is_tag);
        lower = ap (map to_ascii_lowercase) h.lower ∙ lower_twice h.tag ∙ sym h.lower;
      },
      b.1,
    )

-- ---- literals and triples

-- the datatype of plain strings is an IRI
pub string_is_iri : IsSpelledIri xsd_string
string_is_iri = record { characters = xsd_string; is_text = record { scalars = refl; encoded = small_encoded xsd_string refl }; of_class = refl; scheme = refl }

pub string_is_plain : xsd_string ≢ lang_string
string_is_plain = λ e. absurd (omega (arith, ap length e))

literal_parts : (text lexical datatype lang rest : List ℕ) → IsScalars text → IsLiteral text lexical datatype lang rest → IsSpelled (terms.Literal lexical datatype lang) × IsScalars rest
literal_parts text lexical datatype lang rest scalars (inl h) =
    let s = string_parts text lexical h.behind scalars h.string in
    let l = lang_parts h.to_tag lang rest (space_rest h.behind h.to_tag s.1 h.space) h.tag in
    ((s.0, inr (l.0, h.datatype_is)), l.1)
literal_parts text lexical datatype lang rest scalars (inr (inl h)) =
    let s = string_parts text lexical h.behind scalars h.string in
    let sign = scalars_of h.to_sign (94 ∷ 94 ∷ []) h.after_sign h.sign (space_rest h.behind h.to_sign s.1 h.space) in
    let i = iri_parts h.to_iri datatype rest (space_rest h.after_sign h.to_iri sign.1 h.space_behind) h.iri in
    ((s.0, inl (h.no_tag, i.0, h.other)), i.1)
literal_parts text lexical datatype lang rest scalars (inr (inr h)) =
    let s = string_parts text lexical rest scalars h.string in
    ((s.0, inl (h.no_tag, subst IsSpelledIri (sym h.datatype_is) string_is_iri, λ e. string_is_plain (sym h.datatype_is ∙ e))), s.1)

object_parts : (text : List ℕ) (t : Term) (rest : List ℕ) → IsScalars text → IsObjectAt text t rest → IsSpelled t × IsScalars rest
object_parts text (terms.Iri iri) rest scalars h = iri_parts text iri rest scalars h
object_parts text (terms.Blank label) rest scalars h = label_parts text label rest scalars h
object_parts text (terms.Literal lexical datatype lang) rest scalars h = literal_parts text lexical datatype lang rest scalars h

subject_parts : (text : List ℕ) (t : Term) (rest : List ℕ) → IsScalars text → IsSubject text t rest → IsSpelled t × IsScalars rest × order.MayBeSubject t
subject_parts text (terms.Iri iri) rest scalars h = let p = iri_parts text iri rest scalars h in (p.0, p.1, tt)
subject_parts text (terms.Blank label) rest scalars h = let p = label_parts text label rest scalars h in (p.0, p.1, tt)
subject_parts text (terms.Literal lexical datatype lang) rest scalars h = absurd h

predicate_parts : (text : List ℕ) (t : Term) (rest : List ℕ) → IsScalars text → IsPredicate text t rest → IsSpelled t × IsScalars rest × order.MayBePredicate t
predicate_parts text (terms.Iri iri) rest scalars h = let p = iri_parts text iri rest scalars h in (p.0, p.1, tt)
predicate_parts text (terms.Blank label) rest scalars h = absurd h
predicate_parts text (terms.Literal lexical datatype lang) rest scalars h = absurd h

-- a triple of RDF that N-Triples can spell
pub record IsGood (t : Triple) : Type 0 where
  pub allowed : IsAllowed t
  pub spelled : AreSpelled t

triple_good : (text : List ℕ) (t : Triple) (rest : List ℕ) → IsScalars text → IsTriple text t rest → IsGood t
triple_good text t rest scalars h =
    let s = subject_parts text t.subject h.after_subject scalars h.subject in
    let p = predicate_parts h.to_predicate t.predicate h.after_predicate (space_rest h.after_subject h.to_predicate s.1 h.space_1) h.predicate in
    let o = object_parts h.to_object t.object h.after_object (space_rest h.after_predicate h.to_object p.1 h.space_2) h.object in
    record { allowed = record { subject = s.2; predicate = p.2 }; spelled = record { subject = s.0; predicate = p.0; object = o.0 } }

-- ---- lines

line_good : (line : List ℕ) (ts : List Triple) → IsScalars line → IsLine line ts → All IsGood ts
line_good line [] scalars h = All-nil IsGood
line_good line (t ∷ []) scalars h = All-cons IsGood t [] (triple_good h.text t h.rest (space_rest line h.text scalars h.space) h.reads) (All-nil IsGood)
line_good line (t ∷ u ∷ ts) scalars h = absurd h

-- the lines of a text of scalar values are such texts
abbrev AreScalars : List (List ℕ) → Type 0
AreScalars [] = Unit {0}
AreScalars (line ∷ lines) = IsScalars line × AreScalars lines

end_rest : (text rest : List ℕ) → IsScalars text → IsLineEnd text rest → IsScalars rest
end_rest text rest scalars (inl h) = (scalars_of text (13 ∷ 10 ∷ []) rest h scalars).1
end_rest text rest scalars (inr (inl h)) = (scalars_of text (10 ∷ []) rest h scalars).1
end_rest text rest scalars (inr (inr h)) = (scalars_of text (13 ∷ []) rest h.0 scalars).1

lines_scalars : (lines : List (List ℕ)) (text : List ℕ) → IsScalars text → AreLinesOf text lines → AreScalars lines
lines_scalars [] text scalars h = absurd h
lines_scalars (line ∷ []) text scalars (same, all) = (ap all_scalars (sym same) ∙ scalars, tt)
lines_scalars (line ∷ next ∷ lines) text scalars (rest, ended, more) =
    let a = scalars_of text line ended.behind ended.spelled scalars in
    (a.0, lines_scalars (next ∷ lines) rest (end_rest ended.behind rest a.1 ended.ended) more)

lines_good : (lines : List (List ℕ)) (ts : List Triple) → AreScalars lines → AreLines lines ts → All IsGood ts
lines_good [] ts scalars is = subst (All IsGood) (sym is) (All-nil IsGood)
lines_good (line ∷ lines) ts (here, more) (first, others, is, reads, are) =
    subst (All IsGood) (sym is) (All-append IsGood first others (line_good line first here reads) (lines_good lines others more are))

pub document_good : (bytes : List ℕ) (ts : List Triple) → IsDocument bytes ts → All IsGood ts
document_good bytes ts h = lines_good h.lines ts (lines_scalars h.lines h.characters h.is_text.scalars h.are_its) h.reads

weaker : (P Q : Triple → Type 0) → ((t : Triple) → P t → Q t) → (ts : List Triple) → All P ts → All Q ts
weaker P Q f [] all = All-nil Q
weaker P Q f (t ∷ ts) all = All-cons Q t ts (f t (All-head P t ts all)) (weaker P Q f ts (All-tail P t ts all))

-- ---- what an answer says

pub allowed : (bytes : List ℕ) (r : Outcome) → IsOutcome r (document_of bytes) → IfOk r (All IsAllowed)
allowed bytes (Ok ts) is = weaker IsGood IsAllowed (λ t h. h.allowed) ts (document_good bytes ts (found bytes (Ok ts) is))
allowed bytes (Err fault) is = tt

pub spelled : (bytes : List ℕ) (r : Outcome) → IsOutcome r (document_of bytes) → IfOk r (All AreSpelled)
spelled bytes (Ok ts) is = weaker IsGood AreSpelled (λ t h. h.spelled) ts (document_good bytes ts (found bytes (Ok ts) is))
spelled bytes (Err fault) is = tt
