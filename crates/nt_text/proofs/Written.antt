-- What is written reads back: the line of a triple is a document with that triple.
use Rattle.std.proofs.Common.{◌≡◌, ◌≢◌, ◌≤◌, ℕ, Bool, true, false, ◌||◌, not, List, [], ◌∷◌, ◌++◌, inl, inr, length, eqb, refl, sym, ap, ◌∙◌, subst, arith, append_assoc}
use Rattle.std.proofs.lemmas.Bool.{eqb-true}
use Rattle.std.proofs.lemmas.List.{append-nil}
use Rattle.std.proofs.lemmas.Slice.Eq.{bytes_eq-Decides}
use Rattle.std.specs.Prelude.{flat_map}
use Rattle.std.specs.Str.{bytes_eq}
use Rattle.term_core.specs.Texts.{xsd_string, escaped, kind_text, term_text, triple_text}
use Rattle.term_core.specs.Spelling.{lang_string, IsSpelledIri, IsSpelledLabel, IsSpelledTag, IsSpelledKind, IsSpelled, AreSpelled}
use Rattle.term_core.specs.Order.{IsAllowed}
use Rattle.term_core.specs.Order as order
use Rattle.term_core.specs.Characters.{is_iri, is_plain, is_letter, is_pn, is_pn_u, is_pn_base, begins, AreAll, IsTextOf}
use Rattle.term_core.specs.Escapes.{IsEscaped, IsStringEscape}
use Rattle.term_core.specs.Escapes.IsEscaped.{nothing, character, escape}
use Rattle.term_core.specs.Names.{IsDotted, IsLabel, is_label_first, is_label_part, IsTag, AreSubtags, is_alphanumeric}
use Rattle.term_core.specs.Names.AreSubtags.{no_subtag, subtag}
use Rattle.term_core.specs.declared.term.Term.{Term}
use Rattle.term_core.specs.declared.term.Term.TheVariants as terms
use Rattle.term_core.specs.declared.term.Triple.{Triple}
use Rattle.nt_text.specs.Characters.{is_blank, is_line}
use Rattle.nt_text.specs.Grammar.{IsIriAt, IsStringAt, IsLongestFront, IsSpaced, IsLiteral, IsSubject, IsPredicate, IsObjectAt, IsTriple, AreLinesOf, IsDocument}
use Rattle.nt_text.proofs.EscapeLaws.{all_parts, all_both}
use Rattle.nt_text.proofs.TagLaws.{is_small, weaker, tag_small}
use Rattle.nt_text.proofs.WrittenText.{IsWrittenAs, written_as, text_both, text_small, text_escaped}
use Rattle.nt_text.proofs.WrittenText.IsWrittenAs.{backslash, quote, feed, return, itself}

-- ---- classes

no_both : {A : Type 0} → true ≡ false → A
no_both e = absurd cc

-- a class that has neither LF nor CR
line_of : (p : ℕ → Bool) → p 10 ≡ false → p 13 ≡ false → (c : ℕ) → p c ≡ true → is_line c ≡ true
line_of p no_feed no_return c h =
    elim (eqb c 10) as (λ t. eqb c 10 ≡ t → not (t || (eqb c 13 || false)) ≡ true) [
      | true ↦ λ e. no_both (sym h ∙ ap p (eqb-true c 10 e) ∙ no_feed)
      | false ↦ λ other. elim (eqb c 13) as (λ t. eqb c 13 ≡ t → not (t || false) ≡ true) [
        | true ↦ λ e. no_both (sym h ∙ ap p (eqb-true c 13 e) ∙ no_return)
        | false ↦ λ other. refl
      ] refl
    ] refl

lines_of : (p : ℕ → Bool) → p 10 ≡ false → p 13 ≡ false → (text : List ℕ) → AreAll p text → AreAll is_line text
lines_of p no_feed no_return text all = weaker p is_line (line_of p no_feed no_return) text all

-- where the class ends no text of it goes on
no_longer : (p : ℕ → Bool) (front rest longer behind : List ℕ) → begins p rest ≡ false → AreAll p longer → front ++ rest ≡ longer ++ behind → length longer ≤ length front
no_longer p front rest [] behind other all e = omega arith
no_longer p [] rest (d ∷ longer) behind other all e =
    let a = all_parts p d longer all in
    no_both (sym (ap (begins p) e ∙ a.0) ∙ other)
no_longer p (c ∷ front) rest (d ∷ longer) behind other all e =
    let a = all_parts p d longer all in
    let more : front ++ rest ≡ longer ++ behind = cc e in
    omega (arith, no_longer p front rest longer behind other a.1 more)

-- ---- IRIs

itself_all : {plain : ℕ → Bool} {IsEscape : List ℕ → ℕ → Type 0} (text : List ℕ) → AreAll plain text → IsEscaped plain IsEscape text text
itself_all [] all = nothing
itself_all {plain} (c ∷ text) all = let a = all_parts plain c text all in character a.0 (itself_all text a.1)

-- ---- labels

-- what may stand in a label
abbrev stands : ℕ → Bool
stands c = is_label_first c || (is_label_part c || eqb c 46)

stands_blank : stands 32 ≡ false
unfolding is_pn is_pn_u is_pn_base
stands_blank = refl

stands_feed : stands 10 ≡ false
unfolding is_pn is_pn_u is_pn_base
stands_feed = refl

stands_return : stands 13 ≡ false
unfolding is_pn is_pn_u is_pn_base
stands_return = refl

second : (a b : Bool) → b ≡ true → (a || b) ≡ true
second true b h = refl
second false b h = h

part_stands : (c : ℕ) → is_label_part c ≡ true → stands c ≡ true
part_stands c h = second (is_label_first c) (is_label_part c || eqb c 46) (rw h refl)

first_stands : (c : ℕ) → is_label_first c ≡ true → stands c ≡ true
first_stands c h = rw h refl

dotted_stands : (text : List ℕ) → IsDotted is_label_part text → AreAll stands text
dotted_stands [] dotted = refl
dotted_stands (c ∷ []) part = rw (part_stands c part) refl
dotted_stands (c ∷ d ∷ text) (here, more) = rw (second (is_label_first c) (is_label_part c || eqb c 46) here) (dotted_stands (d ∷ text) more)

label_stands : (text : List ℕ) → IsLabel text → AreAll stands text
label_stands [] is = absurd is
label_stands (c ∷ text) (first, dotted) = rw (first_stands c first) (dotted_stands text dotted)

label_longest : (label more : List ℕ) → IsLongestFront IsLabel (label ++ 32 ∷ more) label
label_longest label more longer behind is e = no_longer stands label (32 ∷ more) longer behind stands_blank (label_stands longer is) e

-- ---- tags

-- what may stand in a tag
abbrev is_of_tag : ℕ → Bool
is_of_tag c = eqb c 45 || is_alphanumeric c

subtags_of : {text : List ℕ} → AreSubtags text → AreAll is_of_tag text
subtags_of no_subtag = refl
subtags_of (subtag {tag} {rest} some all more) = all_both is_of_tag tag rest (weaker is_alphanumeric is_of_tag (λ c h. second (eqb c 45) (is_alphanumeric c) h) tag all) (subtags_of more)

letter_of : (c : ℕ) → is_letter c ≡ true → is_of_tag c ≡ true
letter_of c h = second (eqb c 45) (is_alphanumeric c) (rw h refl)

tag_of : (tag : List ℕ) → IsTag tag → AreAll is_of_tag tag
tag_of tag is = subst (AreAll is_of_tag) (sym is.spelled) (all_both is_of_tag is.primary is.subtags (weaker is_letter is_of_tag letter_of is.primary is.letters) (subtags_of is.are_subtags))

tag_longest : (tag more : List ℕ) → IsLongestFront IsTag (tag ++ 32 ∷ more) tag
tag_longest tag more longer behind is e = no_longer is_of_tag tag (32 ∷ more) longer behind refl (tag_of longer is) e

-- ---- lexical forms

escaped_spells : (cs : List ℕ) → IsEscaped is_plain IsStringEscape (flat_map escaped cs) cs
escaped_spells [] = nothing
escaped_spells (c ∷ cs) = by_case cs (written_as c) (escaped_spells cs)
  where
    by_case : {c : ℕ} (cs : List ℕ) → IsWrittenAs c → IsEscaped is_plain IsStringEscape (flat_map escaped cs) cs → IsEscaped is_plain IsStringEscape (escaped c ++ flat_map escaped cs) (c ∷ cs)
    by_case cs backslash more = escape {escape = 92 ∷ 92 ∷ []} (inr (record { letter = 92; spelled = refl; value = refl })) more
    by_case cs quote more = escape {escape = 92 ∷ 34 ∷ []} (inr (record { letter = 34; spelled = refl; value = refl })) more
    by_case cs feed more = escape {escape = 92 ∷ 110 ∷ []} (inr (record { letter = 110; spelled = refl; value = refl })) more
    by_case cs return more = escape {escape = 92 ∷ 114 ∷ []} (inr (record { letter = 114; spelled = refl; value = refl })) more
    by_case cs (itself {c} same plain) more = subst (λ t. IsEscaped is_plain IsStringEscape (t ++ flat_map escaped cs) (c ∷ cs)) (sym same) (character plain more)

escaped_in_line : (cs : List ℕ) → AreAll is_line (flat_map escaped cs)
escaped_in_line [] = refl
escaped_in_line (c ∷ cs) = all_both is_line (escaped c) (flat_map escaped cs) (by_case (written_as c)) (escaped_in_line cs)
  where
    by_case : {c : ℕ} → IsWrittenAs c → AreAll is_line (escaped c)
    by_case backslash = refl
    by_case quote = refl
    by_case feed = refl
    by_case return = refl
    by_case (itself {c} same plain) = subst (AreAll is_line) (sym same) (rw (line_of is_plain refl refl c plain) refl)

-- ---- terms

-- a text of characters, none of which ends a line
record IsLineText (characters bytes : List ℕ) : Type 0 where
  is_text : IsTextOf characters bytes
  in_line : AreAll is_line characters

line_both : (cs ds xs ys : List ℕ) → IsLineText cs xs → IsLineText ds ys → IsLineText (cs ++ ds) (xs ++ ys)
line_both cs ds xs ys hx hy = record {
  is_text = text_both cs ds xs ys hx.is_text hy.is_text;
  in_line = all_both is_line cs ds hx.in_line hy.in_line;
}

line_small : (xs : List ℕ) → AreAll is_small xs → AreAll is_line xs → IsLineText xs xs
line_small xs small all = record { is_text = text_small xs small; in_line = all }

-- the characters of a term, which are read as the term before a blank
record IsWritten (t : Term) : Type 0 where
  characters : List ℕ
  text : IsLineText characters (term_text t)
  begun : (more : List ℕ) → begins is_blank (characters ++ more) ≡ false
  reads : (more : List ℕ) → IsObjectAt (characters ++ 32 ∷ more) t (32 ∷ more)

iri_text : (iri : List ℕ) (is : IsSpelledIri iri) → IsLineText (60 ∷ (is.characters ++ 62 ∷ [])) (60 ∷ (iri ++ 62 ∷ []))
iri_text iri is =
    let body : IsLineText is.characters iri = record { is_text = is.is_text; in_line = lines_of is_iri refl refl is.characters is.of_class } in
    line_both (60 ∷ []) (is.characters ++ 62 ∷ []) (60 ∷ []) (iri ++ 62 ∷ []) (line_small (60 ∷ []) refl refl)
    (line_both is.characters (62 ∷ []) iri (62 ∷ []) body (line_small (62 ∷ []) refl refl))

iri_reads : (iri : List ℕ) (is : IsSpelledIri iri) (more : List ℕ) → IsIriAt ((60 ∷ (is.characters ++ 62 ∷ [])) ++ more) iri more
iri_reads iri is more = record {
  body = is.characters;
  characters = is.characters;
  spelled = ap (λ t. 60 ∷ t) (append_assoc is.characters (62 ∷ []) more);
  reads = itself_all is.characters is.of_class;
  scheme = is.scheme;
  bytes = sym is.is_text.encoded;
}

iri_written : (iri : List ℕ) → IsSpelledIri iri → IsWritten (terms.Iri iri)
iri_written iri is = record {
  characters = 60 ∷ (is.characters ++ 62 ∷ []);
  text = iri_text iri is;
  begun = λ more. refl;
  reads = λ more. iri_reads iri is (32 ∷ more);
}

label_written : (label : List ℕ) → IsSpelledLabel label → IsWritten (terms.Blank label)
label_written label is =
    let body : IsLineText is.characters label = record { is_text = is.is_text; in_line = lines_of stands stands_feed stands_return is.characters (label_stands is.characters is.is_label) } in
    record {
      characters = 95 ∷ 58 ∷ is.characters;
      text = line_both (95 ∷ 58 ∷ []) is.characters (95 ∷ 58 ∷ []) label (line_small (95 ∷ 58 ∷ []) refl refl) body;
      begun = λ more. refl;
      reads = λ more. record {
        characters = is.characters;
        spelled = refl;
        is_label = is.is_label;
        longest = label_longest is.characters more;
        bytes = sym is.is_text.encoded;
      };
    }

-- ---- literals

-- the characters of a datatype or tag, which are read with the string before them
record IsKindWritten (datatype lang : List ℕ) : Type 0 where
  characters : List ℕ
  text : IsLineText characters (kind_text datatype lang)
  reads : (text lexical more : List ℕ) → IsStringAt text lexical (characters ++ 32 ∷ more) → IsLiteral text lexical datatype lang (32 ∷ more)

no_space : (text : List ℕ) → begins is_blank text ≡ false → IsSpaced text text
no_space text other = record { blanks = []; spelled = refl; are_blank = refl; longest = other }

typed_reads : (datatype : List ℕ) (is : IsSpelledIri datatype) → datatype ≢ lang_string → (text lexical more : List ℕ)
    → IsStringAt text lexical ((94 ∷ 94 ∷ 60 ∷ (is.characters ++ 62 ∷ [])) ++ 32 ∷ more) → IsLiteral text lexical datatype [] (32 ∷ more)
typed_reads datatype is other text lexical more string = inr (inl (record {
  behind = (94 ∷ 94 ∷ 60 ∷ (is.characters ++ 62 ∷ [])) ++ 32 ∷ more;
  to_sign = (94 ∷ 94 ∷ 60 ∷ (is.characters ++ 62 ∷ [])) ++ 32 ∷ more;
  after_sign = (60 ∷ (is.characters ++ 62 ∷ [])) ++ 32 ∷ more;
  to_iri = (60 ∷ (is.characters ++ 62 ∷ [])) ++ 32 ∷ more;
  string = string;
  space = no_space ((94 ∷ 94 ∷ 60 ∷ (is.characters ++ 62 ∷ [])) ++ 32 ∷ more) refl;
  sign = refl;
  space_behind = no_space ((60 ∷ (is.characters ++ 62 ∷ [])) ++ 32 ∷ more) refl;
  iri = iri_reads datatype is (32 ∷ more);
  no_tag = refl;
  other = other;
}))

plain_written : (datatype : List ℕ) → bytes_eq datatype xsd_string ≡ true → IsKindWritten datatype []
plain_written datatype same = record {
  characters = [];
  text = subst (IsLineText []) (sym (rw same refl)) (line_small [] refl refl);
  reads = λ text lexical more string. inr (inr (record { string = string; datatype_is = (bytes_eq-Decides datatype xsd_string).0 same; no_tag = refl }));
}

typed_written : (datatype : List ℕ) → IsSpelledIri datatype → datatype ≢ lang_string → bytes_eq datatype xsd_string ≡ false → IsKindWritten datatype []
typed_written datatype is apart other =
    let written : kind_text datatype [] ≡ 94 ∷ 94 ∷ 60 ∷ (datatype ++ 62 ∷ []) = rw other refl in
    record {
      characters = 94 ∷ 94 ∷ 60 ∷ (is.characters ++ 62 ∷ []);
      text = subst (IsLineText (94 ∷ 94 ∷ 60 ∷ (is.characters ++ 62 ∷ []))) (sym written)
          (line_both (94 ∷ 94 ∷ []) (60 ∷ (is.characters ++ 62 ∷ [])) (94 ∷ 94 ∷ []) (60 ∷ (datatype ++ 62 ∷ [])) (line_small (94 ∷ 94 ∷ []) refl refl) (iri_text datatype is));
      reads = typed_reads datatype is apart;
    }

untagged_written : (datatype : List ℕ) → IsSpelledIri datatype → datatype ≢ lang_string → IsKindWritten datatype []
untagged_written datatype is apart = elim (bytes_eq datatype xsd_string) as (λ t. bytes_eq datatype xsd_string ≡ t → IsKindWritten datatype []) [
  | true ↦ λ same. plain_written datatype same
  | false ↦ λ other. typed_written datatype is apart other
] refl

tag_some : (tag : List ℕ) → IsTag tag → tag ≢ []
tag_some tag is none = by_primary is.primary is.subtags is.some (sym is.spelled ∙ none)
  where
    by_primary : (primary rest : List ℕ) → primary ≢ [] → primary ++ rest ≡ [] → ⊥
    by_primary [] rest some e = some refl
    by_primary (c ∷ primary) rest some e = absurd cc

tag_text : (datatype lang : List ℕ) → lang ≢ [] → kind_text datatype lang ≡ 64 ∷ lang
tag_text datatype [] some = absurd (some refl)
tag_text datatype (c ∷ tag) some = refl

tag_reads : (datatype lang : List ℕ) → IsSpelledTag lang → datatype ≡ lang_string → (text lexical more : List ℕ)
    → IsStringAt text lexical ((64 ∷ lang) ++ 32 ∷ more) → IsLiteral text lexical datatype lang (32 ∷ more)
tag_reads datatype lang is same text lexical more string = inl (record {
  behind = (64 ∷ lang) ++ 32 ∷ more;
  to_tag = (64 ∷ lang) ++ 32 ∷ more;
  string = string;
  space = no_space ((64 ∷ lang) ++ 32 ∷ more) refl;
  tag = record { tag = lang; spelled = refl; is_tag = is.is_tag; longest = tag_longest lang more; lower = sym is.lower };
  datatype_is = same;
})

tagged_written : (datatype lang : List ℕ) → IsSpelledTag lang → datatype ≡ lang_string → IsKindWritten datatype lang
tagged_written datatype lang is same =
    let body : IsLineText lang lang = line_small lang (tag_small lang is.is_tag) (lines_of is_of_tag refl refl lang (tag_of lang is.is_tag)) in
    record {
      characters = 64 ∷ lang;
      text = subst (IsLineText (64 ∷ lang)) (sym (tag_text datatype lang (tag_some lang is.is_tag))) (line_both (64 ∷ []) lang (64 ∷ []) lang (line_small (64 ∷ []) refl refl) body);
      reads = tag_reads datatype lang is same;
    }

kind_written : (datatype lang : List ℕ) → IsSpelledKind datatype lang → IsKindWritten datatype lang
kind_written datatype lang (inl (none, is, apart)) = subst (IsKindWritten datatype) (sym none) (untagged_written datatype is apart)
kind_written datatype lang (inr (is, same)) = tagged_written datatype lang is same

string_reads : (cs lexical rest : List ℕ) → IsTextOf cs lexical → IsStringAt (34 ∷ (flat_map escaped cs ++ 34 ∷ rest)) lexical rest
string_reads cs lexical rest is = record { body = flat_map escaped cs; characters = cs; spelled = refl; reads = escaped_spells cs; bytes = sym is.encoded }

literal_written : (lexical datatype lang cs : List ℕ) → IsTextOf cs lexical → IsKindWritten datatype lang → IsWritten (terms.Literal lexical datatype lang)
literal_written lexical datatype lang cs is kind =
    let body : IsLineText (flat_map escaped cs) (flat_map escaped lexical) = record { is_text = text_escaped cs lexical is; in_line = escaped_in_line cs } in
    let quoted = line_both (34 ∷ []) kind.characters (34 ∷ []) (kind_text datatype lang) (line_small (34 ∷ []) refl refl) kind.text in
    let behind = line_both (flat_map escaped cs) (34 ∷ kind.characters) (flat_map escaped lexical) (34 ∷ kind_text datatype lang) body quoted in
    record {
      characters = 34 ∷ (flat_map escaped cs ++ 34 ∷ kind.characters);
      text = line_both (34 ∷ []) (flat_map escaped cs ++ 34 ∷ kind.characters) (34 ∷ []) (flat_map escaped lexical ++ 34 ∷ kind_text datatype lang) (line_small (34 ∷ []) refl refl) behind;
      begun = λ more. refl;
      reads = λ more. subst (λ t. IsLiteral t lexical datatype lang (32 ∷ more)) (sym (ap (λ t. 34 ∷ t) (append_assoc (flat_map escaped cs) (34 ∷ kind.characters) (32 ∷ more))))
          (kind.reads (34 ∷ (flat_map escaped cs ++ 34 ∷ (kind.characters ++ 32 ∷ more))) lexical more (string_reads cs lexical (kind.characters ++ 32 ∷ more) is));
    }

term_written : (t : Term) → IsSpelled t → IsWritten t
term_written (terms.Iri iri) is = iri_written iri is
term_written (terms.Blank label) is = label_written label is
term_written (terms.Literal lexical datatype lang) ((cs, (scalars, encoded)), kind) = literal_written lexical datatype lang cs (record { scalars = scalars; encoded = encoded }) (kind_written datatype lang kind)

-- ---- triples

subject_of : (text : List ℕ) (t : Term) (rest : List ℕ) → order.MayBeSubject t → IsObjectAt text t rest → IsSubject text t rest
subject_of text (terms.Iri iri) rest allowed h = h
subject_of text (terms.Blank label) rest allowed h = h
subject_of text (terms.Literal lexical datatype lang) rest allowed h = absurd allowed

predicate_of : (text : List ℕ) (t : Term) (rest : List ℕ) → order.MayBePredicate t → IsObjectAt text t rest → IsPredicate text t rest
predicate_of text (terms.Iri iri) rest allowed h = h
predicate_of text (terms.Blank label) rest allowed h = absurd allowed
predicate_of text (terms.Literal lexical datatype lang) rest allowed h = absurd allowed

one_blank : (text : List ℕ) → begins is_blank text ≡ false → IsSpaced (32 ∷ text) text
one_blank text other = record { blanks = 32 ∷ []; spelled = refl; are_blank = refl; longest = other }

-- three terms with a blank between, and what is behind a blank
abbrev in_line_of : List ℕ → List ℕ → List ℕ → List ℕ → List ℕ
in_line_of a b c end = a ++ 32 ∷ (b ++ 32 ∷ (c ++ 32 ∷ end))

triple_reads : (t : Triple) → IsAllowed t → (s : IsWritten t.subject) (p : IsWritten t.predicate) (o : IsWritten t.object) → IsTriple (in_line_of s.characters p.characters o.characters (46 ∷ [])) t []
triple_reads t allowed s p o =
    let to_dot : List ℕ = 46 ∷ [] in
    let to_object : List ℕ = o.characters ++ 32 ∷ to_dot in
    let to_predicate : List ℕ = p.characters ++ 32 ∷ to_object in
    record {
      after_subject = 32 ∷ to_predicate;
      to_predicate = to_predicate;
      after_predicate = 32 ∷ to_object;
      to_object = to_object;
      after_object = 32 ∷ to_dot;
      to_dot = to_dot;
      subject = subject_of (s.characters ++ 32 ∷ to_predicate) t.subject (32 ∷ to_predicate) allowed.subject (s.reads to_predicate);
      space_1 = one_blank to_predicate (p.begun (32 ∷ to_object));
      predicate = predicate_of to_predicate t.predicate (32 ∷ to_object) allowed.predicate (p.reads to_object);
      space_2 = one_blank to_object (o.begun (32 ∷ to_dot));
      object = o.reads to_dot;
      space_3 = one_blank to_dot refl;
      dot = refl;
    }

triple_line : (a b c end xs ys zs : List ℕ) → IsLineText a xs → IsLineText b ys → IsLineText c zs → IsLineText end end → IsLineText (in_line_of a b c end) (in_line_of xs ys zs end)
triple_line a b c end xs ys zs ha hb hc hend =
    let blank = line_small (32 ∷ []) refl refl in
    let behind = line_both (32 ∷ []) end (32 ∷ []) end blank hend in
    let third = line_both (32 ∷ []) (c ++ 32 ∷ end) (32 ∷ []) (zs ++ 32 ∷ end) blank (line_both c (32 ∷ end) zs (32 ∷ end) hc behind) in
    let second = line_both (32 ∷ []) (b ++ 32 ∷ (c ++ 32 ∷ end)) (32 ∷ []) (ys ++ 32 ∷ (zs ++ 32 ∷ end)) blank (line_both b (32 ∷ (c ++ 32 ∷ end)) ys (32 ∷ (zs ++ 32 ∷ end)) hb third) in
    line_both a (32 ∷ (b ++ 32 ∷ (c ++ 32 ∷ end))) xs (32 ∷ (ys ++ 32 ∷ (zs ++ 32 ∷ end))) ha second

-- the line end is behind all of it
behind_all : (a b c end : List ℕ) → in_line_of a b c end ++ 10 ∷ [] ≡ in_line_of a b c (end ++ 10 ∷ [])
behind_all a b c end =
    append_assoc a (32 ∷ (b ++ 32 ∷ (c ++ 32 ∷ end))) (10 ∷ [])
    ∙ ap (λ t. a ++ 32 ∷ t) (append_assoc b (32 ∷ (c ++ 32 ∷ end)) (10 ∷ []) ∙ ap (λ t. b ++ 32 ∷ t) (append_assoc c (32 ∷ end) (10 ∷ [])))

-- no triple is written as no text
pub nothing_written : IsDocument [] []
nothing_written = record {
  characters = [];
  is_text = text_small [] refl;
  lines = [] ∷ [];
  are_its = (refl, refl);
  reads = ([], [], refl, ([], no_space [] refl, inl refl), refl);
}

-- the line of a triple in front of a document
written_before : (t : Triple) (more : List ℕ) (ts : List Triple) → IsAllowed t → (s : IsWritten t.subject) (p : IsWritten t.predicate) (o : IsWritten t.object)
    → IsDocument more ts → IsDocument (triple_text t ++ more) (t ∷ ts)
written_before t more ts allowed s p o d =
    let line : List ℕ = in_line_of s.characters p.characters o.characters (46 ∷ []) in
    let bytes : List ℕ = in_line_of (term_text t.subject) (term_text t.predicate) (term_text t.object) (46 ∷ []) in
    let text = triple_line s.characters p.characters o.characters (46 ∷ []) (term_text t.subject) (term_text t.predicate) (term_text t.object) s.text p.text o.text (line_small (46 ∷ []) refl refl) in
    let reads = triple_reads t allowed s p o in
    let nothing_left : IsSpaced [] [] = no_space [] refl in
    let all = sym (append_assoc bytes (10 ∷ []) more) ∙ ap (λ t. t ++ more) (behind_all (term_text t.subject) (term_text t.predicate) (term_text t.object) (46 ∷ [])) in
    let behind = text_both (10 ∷ []) d.characters (10 ∷ []) more (text_small (10 ∷ []) refl) d.is_text in
    record {
      characters = line ++ 10 ∷ d.characters;
      is_text = subst (IsTextOf (line ++ 10 ∷ d.characters)) all (text_both line (10 ∷ d.characters) bytes (10 ∷ more) text.is_text behind);
      lines = line ∷ d.lines;
      are_its = ended line d.characters d.lines text.in_line d.are_its;
      reads = (
        t ∷ [],
        ts,
        refl,
        record { text = line; rest = []; end = []; space = no_space line (s.begun (32 ∷ (p.characters ++ 32 ∷ (o.characters ++ 32 ∷ 46 ∷ [])))); reads = reads; last_space = nothing_left; is_end = inl refl },
        d.reads,
      );
    }
  where
    ended : (line cs : List ℕ) (lines : List (List ℕ)) → AreAll is_line line → AreLinesOf cs lines → AreLinesOf (line ++ 10 ∷ cs) (line ∷ lines)
    ended line cs [] all are = absurd are
    ended line cs (next ∷ lines) all are = (cs, record { behind = 10 ∷ cs; spelled = refl; in_line = all; ended = inr (inl refl) }, are)

pub line_before : (t : Triple) (more : List ℕ) (ts : List Triple) → IsAllowed t → AreSpelled t → IsDocument more ts → IsDocument (triple_text t ++ more) (t ∷ ts)
line_before t more ts allowed is d = written_before t more ts allowed (term_written t.subject is.subject) (term_written t.predicate is.predicate) (term_written t.object is.object) d

pub written : (t : Triple) → IsAllowed t → AreSpelled t → IsDocument (triple_text t) (t ∷ [])
written t allowed is = subst (λ bytes. IsDocument bytes (t ∷ [])) (append-nil (triple_text t)) (line_before t [] [] allowed is nothing_written)
