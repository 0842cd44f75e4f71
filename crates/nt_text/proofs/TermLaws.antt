-- IRIs, strings, blank nodes and literals: what is read is of the grammar, and what is of the grammar is read.
use Rattle.std.proofs.Common.{◌≡◌, ◌≢◌, ℕ, Bool, true, false, cond, List, [], ◌∷◌, ◌++◌, inl, inr, Option, Some, None, eqb, refl, sym, ap, ◌∙◌, subst}
use Rattle.std.proofs.lemmas.Bool.{false_from_ne_true}
use Rattle.std.proofs.lemmas.Bool.Decides.{not_from_Decides}
use Rattle.std.proofs.lemmas.Slice.Eq.{bytes_eq-Decides}
use Rattle.std.specs.Str.{encode_utf8_all, bytes_eq}
use Rattle.term_core.specs.Texts.{xsd_string}
use Rattle.term_core.specs.Spelling.{lang_string}
use Rattle.term_core.specs.Characters.{after, begins}
use Rattle.term_core.specs.Names.{has_scheme}
use Rattle.term_core.specs.declared.term.Term.{Term}
use Rattle.term_core.specs.declared.term.Term.TheVariants as terms
use Rattle.nt_text.specs.declared.escapes.Quoted.TheVariants as quoted
use Rattle.nt_text.specs.Characters.{is_blank}
use Rattle.nt_text.specs.Grammar.{IsIriAt, IsStringAt, IsBlankNode, IsSpaced, IsLiteral, IsSubject, IsObjectAt}
use Rattle.nt_text.specs.Reading.{◌>>=◌, expect, spelled_at, iri_at, string_at, name_at, label_at, lang_at, datatype_at, literal_by, literal_at, subject_at, object_at}
use Rattle.nt_text.proofs.Cut.{scheme_encoded}
use Rattle.nt_text.proofs.Steps.{bind_some, guard_some, some_is, expect_is, spaced_after, skipped}
use Rattle.nt_text.proofs.SpelledLaws.{spelled_sound, spelled_complete}
use Rattle.nt_text.proofs.NameLaws.{name_sound, name_complete}
use Rattle.nt_text.proofs.TagLaws.{lang_sound, lang_complete}

abbrev Read : Type 0
Read = List ℕ × List ℕ

-- ---- IRIs

abbrev iri_of : List ℕ → List ℕ → Option Read
iri_of body rest = cond (has_scheme (encode_utf8_all (spelled_at quoted.Iri body).0)) (Some (encode_utf8_all (spelled_at quoted.Iri body).0, rest)) None

pub iri_sound : (text iri rest : List ℕ) → iri_at text ≡ Some (iri, rest) → IsIriAt text iri rest
unfolding iri_at
iri_sound text iri rest e =
    let a = bind_some (expect 60 text) (λ body. expect 62 (spelled_at quoted.Iri body).1 >>= iri_of body) (iri, rest) e in
    let b = bind_some (expect 62 (spelled_at quoted.Iri a.0).1) (iri_of a.0) (iri, rest) a.2 in
    let read : Read = (encode_utf8_all (spelled_at quoted.Iri a.0).0, b.0) in
    let wanted : Read = (iri, rest) in
    let g = guard_some (has_scheme (encode_utf8_all (spelled_at quoted.Iri a.0).0)) read wanted b.2 in
    let s = spelled_sound quoted.Iri a.0 in
    let behind : (spelled_at quoted.Iri a.0).1 ≡ 62 ∷ rest = expect_is 62 (spelled_at quoted.Iri a.0).1 b.0 b.1 ∙ ap (λ (r : Read). 62 ∷ r.1) g.1 in
    record {
      body = s.0;
      characters = (spelled_at quoted.Iri a.0).0;
      spelled = expect_is 60 text a.0 a.1 ∙ ap (λ t. 60 ∷ t) (s.1 ∙ ap (λ t. s.0 ++ t) behind);
      reads = s.2;
      scheme = sym (scheme_encoded (spelled_at quoted.Iri a.0).0) ∙ g.0;
      bytes = sym (ap (λ (r : Read). r.0) g.1);
    }

pub iri_complete : (text iri rest : List ℕ) → IsIriAt text iri rest → iri_at text ≡ Some (iri, rest)
unfolding iri_at
iri_complete text iri rest h =
    let s = spelled_complete quoted.Iri 62 rest h.reads refl refl in
    let scheme = scheme_encoded h.characters ∙ h.scheme in
    ap iri_at h.spelled ∙ rw (s, scheme, h.bytes) refl

-- ---- strings

abbrev string_of : List ℕ → List ℕ → Option Read
string_of body rest = Some (encode_utf8_all (spelled_at quoted.String body).0, rest)

pub string_sound : (text lexical rest : List ℕ) → string_at text ≡ Some (lexical, rest) → IsStringAt text lexical rest
unfolding string_at
string_sound text lexical rest e =
    let a = bind_some (expect 34 text) (λ body. expect 34 (spelled_at quoted.String body).1 >>= string_of body) (lexical, rest) e in
    let b = bind_some (expect 34 (spelled_at quoted.String a.0).1) (string_of a.0) (lexical, rest) a.2 in
    let read : Read = (encode_utf8_all (spelled_at quoted.String a.0).0, b.0) in
    let wanted : Read = (lexical, rest) in
    let same = some_is read wanted b.2 in
    let s = spelled_sound quoted.String a.0 in
    let behind : (spelled_at quoted.String a.0).1 ≡ 34 ∷ rest = expect_is 34 (spelled_at quoted.String a.0).1 b.0 b.1 ∙ ap (λ (r : Read). 34 ∷ r.1) same in
    record {
      body = s.0;
      characters = (spelled_at quoted.String a.0).0;
      spelled = expect_is 34 text a.0 a.1 ∙ ap (λ t. 34 ∷ t) (s.1 ∙ ap (λ t. s.0 ++ t) behind);
      reads = s.2;
      bytes = sym (ap (λ (r : Read). r.0) same);
    }

pub string_complete : (text lexical rest : List ℕ) → IsStringAt text lexical rest → string_at text ≡ Some (lexical, rest)
unfolding string_at
string_complete text lexical rest h =
    let s = spelled_complete quoted.String 34 rest h.reads refl refl in
    ap string_at h.spelled ∙ rw (s, h.bytes) refl

-- ---- blank nodes

pub label_sound : (text label rest : List ℕ) → label_at text ≡ Some (label, rest) → IsBlankNode text label rest
unfolding label_at
label_sound text label rest e =
    let a = bind_some (expect 95 text) (λ mark. expect 58 mark >>= name_at) (label, rest) e in
    let b = bind_some (expect 58 a.0) name_at (label, rest) a.2 in
    let n = name_sound b.0 label rest b.2 in
    record {
      characters = n.characters;
      spelled = expect_is 95 text a.0 a.1 ∙ ap (λ t. 95 ∷ t) (expect_is 58 a.0 b.0 b.1 ∙ ap (λ t. 58 ∷ t) n.spelled);
      is_label = n.is_label;
      longest = n.longest;
      bytes = n.bytes;
    }

pub label_complete : (text label rest : List ℕ) → IsBlankNode text label rest → label_at text ≡ Some (label, rest)
unfolding label_at
label_complete text label rest h = ap label_at h.spelled ∙ name_complete h.characters rest h.is_label h.longest ∙ ap (λ l. Some (l, rest)) (sym h.bytes)

-- ---- literals

bytes_eq_other : (a b : List ℕ) → bytes_eq a b ≡ false → a ≢ b
bytes_eq_other a b h = not_from_Decides (bytes_eq a b) (bytes_eq-Decides a b) h

abbrev unless_lang : Read → Option Read
unless_lang iri = cond (bytes_eq iri.0 lang_string) None (Some iri)

guard_none : {A : Type 0} (b : Bool) (x y : A) → cond b None (Some x) ≡ Some y → (b ≡ false) × (x ≡ y)
guard_none true x y e = absurd cc
guard_none false x y e = (refl, cc)

-- a datatype behind ^^ that is read stands there
record IsDatatype (text datatype rest : List ℕ) : Type 0 where
  after_sign : List ℕ
  to_iri : List ℕ
  sign : text ≡ 94 ∷ 94 ∷ after_sign
  space : IsSpaced after_sign to_iri
  iri : IsIriAt to_iri datatype rest
  other : datatype ≢ lang_string

datatype_sound : (text datatype rest : List ℕ) → datatype_at text ≡ Some (datatype, rest) → IsDatatype text datatype rest
unfolding datatype_at
datatype_sound text datatype rest e =
    let a = bind_some (expect 94 text) (λ sign. expect 94 sign >>= λ behind. iri_at (after is_blank behind) >>= unless_lang) (datatype, rest) e in
    let b = bind_some (expect 94 a.0) (λ behind. iri_at (after is_blank behind) >>= unless_lang) (datatype, rest) a.2 in
    let c = bind_some (iri_at (after is_blank b.0)) unless_lang (datatype, rest) b.2 in
    let wanted : Read = (datatype, rest) in
    let g = guard_none (bytes_eq c.0.0 lang_string) c.0 wanted c.2 in
    record {
      after_sign = b.0;
      to_iri = after is_blank b.0;
      sign = expect_is 94 text a.0 a.1 ∙ ap (λ t. 94 ∷ t) (expect_is 94 a.0 b.0 b.1);
      space = spaced_after b.0;
      iri = iri_sound (after is_blank b.0) datatype rest (c.1 ∙ ap Some g.1);
      other = bytes_eq_other datatype lang_string (ap (λ (r : Read). bytes_eq r.0 lang_string) (sym g.1) ∙ g.0);
    }

bytes_eq_apart : (a b : List ℕ) → a ≢ b → bytes_eq a b ≡ false
bytes_eq_apart a b apart = false_from_ne_true (bytes_eq a b) (λ h. apart ((bytes_eq-Decides a b).0 h))

datatype_complete : (text datatype rest : List ℕ) → IsDatatype text datatype rest → datatype_at text ≡ Some (datatype, rest)
unfolding datatype_at
datatype_complete text datatype rest h =
    let i = iri_complete h.to_iri datatype rest h.iri in
    let space = skipped h.after_sign h.to_iri h.space in
    ap datatype_at h.sign ∙ rw (space, i, bytes_eq_apart datatype lang_string h.other) refl

-- ---- literals, behind their strings

abbrev Term_read : Type 0
Term_read = Term × List ℕ

abbrev tagged_by : List ℕ → Read → Option Term_read
tagged_by lexical tag = Some (terms.Literal lexical lang_string tag.0, tag.1)

abbrev typed_by : List ℕ → Read → Option Term_read
typed_by lexical iri = Some (terms.Literal lexical iri.0 [], iri.1)

-- a literal as it is read, with all that its string is given by
abbrev IsLiteralTerm : List ℕ → Term → List ℕ → Type 0
IsLiteralTerm text (terms.Iri iri) rest = ⊥
IsLiteralTerm text (terms.Blank label) rest = ⊥
IsLiteralTerm text (terms.Literal lexical datatype lang) rest = IsLiteral text lexical datatype lang rest

made_is : (text : List ℕ) (made : Term_read) (t : Term) (rest : List ℕ) → (let r : Option Term_read = Some made in r ≡ Some (t, rest)) → IsLiteralTerm text made.0 made.1 → IsLiteralTerm text t rest
made_is text made t rest e h = let wanted : Term_read = (t, rest) in subst (λ (p : Term_read). IsLiteralTerm text p.0 p.1) (some_is made wanted e) h

plain_made : (text lexical behind : List ℕ) (t : Term) (rest : List ℕ) → IsStringAt text lexical behind → (let made : Term_read = (terms.Literal lexical xsd_string [], behind) in Some made ≡ Some (t, rest)) → IsLiteralTerm text t rest
plain_made text lexical behind t rest string e =
    made_is text (terms.Literal lexical xsd_string [], behind) t rest e (inr (inr (record { string = string; datatype_is = refl; no_tag = refl })))

-- a literal that is read behind its string stands there
literal_from : (text lexical behind next : List ℕ) (t : Term) (rest : List ℕ) → IsStringAt text lexical behind → IsSpaced behind next → literal_by lexical behind next ≡ Some (t, rest) → IsLiteralTerm text t rest
literal_from text lexical behind [] t rest string space e = plain_made text lexical behind t rest string e
literal_from text lexical behind (c ∷ next) t rest string space e = by_at (eqb c 64) e
  where
    by_sign : (q : Bool) → cond q (datatype_at (c ∷ next) >>= typed_by lexical) (Some (terms.Literal lexical xsd_string [], behind)) ≡ Some (t, rest) → IsLiteralTerm text t rest
    by_sign true h =
        let a = bind_some (datatype_at (c ∷ next)) (typed_by lexical) (t, rest) h in
        let d = datatype_sound (c ∷ next) a.0.0 a.0.1 a.1 in
        made_is text (terms.Literal lexical a.0.0 [], a.0.1) t rest a.2 (inr (inl (record {
          behind = behind;
          to_sign = c ∷ next;
          after_sign = d.after_sign;
          to_iri = d.to_iri;
          string = string;
          space = space;
          sign = d.sign;
          space_behind = d.space;
          iri = d.iri;
          no_tag = refl;
          other = d.other;
        })))
    by_sign false h = plain_made text lexical behind t rest string h

    by_at : (q : Bool) → cond q (lang_at (c ∷ next) >>= tagged_by lexical) (cond (eqb c 94) (datatype_at (c ∷ next) >>= typed_by lexical) (Some (terms.Literal lexical xsd_string [], behind))) ≡ Some (t, rest)
        → IsLiteralTerm text t rest
    by_at true h =
        let a = bind_some (lang_at (c ∷ next)) (tagged_by lexical) (t, rest) h in
        made_is text (terms.Literal lexical lang_string a.0.0, a.0.1) t rest a.2 (inl (record {
          behind = behind;
          to_tag = c ∷ next;
          string = string;
          space = space;
          tag = lang_sound (c ∷ next) a.0.0 a.0.1 a.1;
          datatype_is = refl;
        }))
    by_at false h = by_sign (eqb c 94) h

literal_sound : (text : List ℕ) (t : Term) (rest : List ℕ) → literal_at text ≡ Some (t, rest) → IsLiteralTerm text t rest
unfolding literal_at
literal_sound text t rest e =
    let a = bind_some (string_at text) (λ string. literal_by string.0 string.1 (after is_blank string.1)) (t, rest) e in
    literal_from text a.0.0 a.0.1 (after is_blank a.0.1) t rest (string_sound text a.0.0 a.0.1 a.1) (spaced_after a.0.1) a.2

-- neither a tag nor a datatype goes on there, but for blanks
abbrev pub Stops : List ℕ → Type 0
Stops rest = (begins (λ c. eqb c 64) (after is_blank rest) ≡ false) × (begins (λ c. eqb c 94) (after is_blank rest) ≡ false)

plain_stops : (lexical rest next : List ℕ) → begins (λ c. eqb c 64) next ≡ false → begins (λ c. eqb c 94) next ≡ false → literal_by lexical rest next ≡ Some (terms.Literal lexical xsd_string [], rest)
plain_stops lexical rest [] at sign = refl
plain_stops lexical rest (c ∷ next) at sign = rw (at, sign) refl

literal_complete : (text lexical datatype lang rest : List ℕ) → IsLiteral text lexical datatype lang rest → Stops rest → literal_at text ≡ Some (terms.Literal lexical datatype lang, rest)
unfolding literal_at
literal_complete text lexical datatype lang rest (inl h) stop =
    let s = string_complete text lexical h.behind h.string in
    let space = skipped h.behind h.to_tag h.space in
    let l = lang_complete h.to_tag lang rest h.tag in
    let there : literal_by lexical h.behind h.to_tag ≡ Some (terms.Literal lexical lang_string lang, rest) =
    ap (literal_by lexical h.behind) h.tag.spelled ∙ rw (ap lang_at (sym h.tag.spelled) ∙ l) refl in
    rw (s, space, there, h.datatype_is) refl
literal_complete text lexical datatype lang rest (inr (inl h)) stop =
    let s = string_complete text lexical h.behind h.string in
    let space = skipped h.behind h.to_sign h.space in
    let d = datatype_complete h.to_sign datatype rest (record { after_sign = h.after_sign; to_iri = h.to_iri; sign = h.sign; space = h.space_behind; iri = h.iri; other = h.other }) in
    let there : literal_by lexical h.behind h.to_sign ≡ Some (terms.Literal lexical datatype [], rest) =
    ap (literal_by lexical h.behind) h.sign ∙ rw (ap datatype_at (sym h.sign) ∙ d) refl in
    rw (s, space, there, h.no_tag) refl
literal_complete text lexical datatype lang rest (inr (inr h)) stop =
    let s = string_complete text lexical rest h.string in
    rw (s, plain_stops lexical rest (after is_blank rest) stop.0 stop.1, h.datatype_is, h.no_tag) refl

-- ---- subjects and objects

abbrev blank_by : Read → Option Term_read
blank_by label = Some (terms.Blank label.0, label.1)

abbrev iri_by : Read → Option Term_read
iri_by iri = Some (terms.Iri iri.0, iri.1)

pub subject_sound : (text : List ℕ) (t : Term) (rest : List ℕ) → subject_at text ≡ Some (t, rest) → IsSubject text t rest
subject_sound [] t rest e = absurd cc
subject_sound (c ∷ text) t rest e = by_sign (eqb c 95) e
  where
    by_sign : (q : Bool) → cond q (label_at (c ∷ text) >>= blank_by) (iri_at (c ∷ text) >>= iri_by) ≡ Some (t, rest) → IsSubject (c ∷ text) t rest
    by_sign true h =
        let a = bind_some (label_at (c ∷ text)) blank_by (t, rest) h in
        let made : Term_read = (terms.Blank a.0.0, a.0.1) in
        let wanted : Term_read = (t, rest) in
        subst (λ (p : Term_read). IsSubject (c ∷ text) p.0 p.1) (some_is made wanted a.2) (label_sound (c ∷ text) a.0.0 a.0.1 a.1)
    by_sign false h =
        let a = bind_some (iri_at (c ∷ text)) iri_by (t, rest) h in
        let made : Term_read = (terms.Iri a.0.0, a.0.1) in
        let wanted : Term_read = (t, rest) in
        subst (λ (p : Term_read). IsSubject (c ∷ text) p.0 p.1) (some_is made wanted a.2) (iri_sound (c ∷ text) a.0.0 a.0.1 a.1)

pub subject_complete : (text : List ℕ) (t : Term) (rest : List ℕ) → IsSubject text t rest → subject_at text ≡ Some (t, rest)
subject_complete text (terms.Iri iri) rest h = ap subject_at h.spelled ∙ rw (ap iri_at (sym h.spelled) ∙ iri_complete text iri rest h) refl
subject_complete text (terms.Blank label) rest h = ap subject_at h.spelled ∙ rw (ap label_at (sym h.spelled) ∙ label_complete text label rest h) refl
subject_complete text (terms.Literal lexical datatype lang) rest h = absurd h

-- a subject is an object
subject_object : (text : List ℕ) (t : Term) (rest : List ℕ) → IsSubject text t rest → IsObjectAt text t rest
subject_object text (terms.Iri iri) rest h = h
subject_object text (terms.Blank label) rest h = h
subject_object text (terms.Literal lexical datatype lang) rest h = absurd h

literal_object : (text : List ℕ) (t : Term) (rest : List ℕ) → IsLiteralTerm text t rest → IsObjectAt text t rest
literal_object text (terms.Iri iri) rest h = absurd h
literal_object text (terms.Blank label) rest h = absurd h
literal_object text (terms.Literal lexical datatype lang) rest h = h

pub object_sound : (text : List ℕ) (t : Term) (rest : List ℕ) → object_at text ≡ Some (t, rest) → IsObjectAt text t rest
object_sound [] t rest e = absurd cc
object_sound (c ∷ text) t rest e = by_sign (eqb c 34) e
  where
    by_sign : (q : Bool) → cond q (literal_at (c ∷ text)) (subject_at (c ∷ text)) ≡ Some (t, rest) → IsObjectAt (c ∷ text) t rest
    by_sign true h = literal_object (c ∷ text) t rest (literal_sound (c ∷ text) t rest h)
    by_sign false h = subject_object (c ∷ text) t rest (subject_sound (c ∷ text) t rest h)

-- a literal begins with a quote
literal_begins : (text lexical datatype lang rest : List ℕ) → IsLiteral text lexical datatype lang rest → (more : List ℕ) × (text ≡ 34 ∷ more)
literal_begins text lexical datatype lang rest (inl h) = (h.string.body ++ 34 ∷ h.behind, h.string.spelled)
literal_begins text lexical datatype lang rest (inr (inl h)) = (h.string.body ++ 34 ∷ h.behind, h.string.spelled)
literal_begins text lexical datatype lang rest (inr (inr h)) = (h.string.body ++ 34 ∷ rest, h.string.spelled)

pub object_complete : (text : List ℕ) (t : Term) (rest : List ℕ) → IsObjectAt text t rest → Stops rest → object_at text ≡ Some (t, rest)
object_complete text (terms.Iri iri) rest h stop = ap object_at h.spelled ∙ ap subject_at (sym h.spelled) ∙ subject_complete text (terms.Iri iri) rest h
object_complete text (terms.Blank label) rest h stop = ap object_at h.spelled ∙ ap subject_at (sym h.spelled) ∙ subject_complete text (terms.Blank label) rest h
object_complete text (terms.Literal lexical datatype lang) rest h stop =
    let b = literal_begins text lexical datatype lang rest h in
    ap object_at b.1 ∙ ap literal_at (sym b.1) ∙ literal_complete text lexical datatype lang rest h stop
