-- The symbols of variables and terms.
use Rattle.std.proofs.Common.{◌≡◌, ℕ, Bool, true, false, cond, List, [], ◌∷◌, ◌++◌, None, refl, sym, subst, ap, ◌∙◌, inl, inr, append_assoc, chars, map, encode_utf8_all}
use Rattle.std.specs.Prelude.{flat_map, ◌==◌}
use Rattle.std.specs.Char.{to_ascii_lowercase}
use Rattle.std.proofs.lemmas.Str.{chars-encodes}
use Rattle.term_core.specs.Characters.{is_pn, is_pn_u, is_pn_base, is_plain, AreAll, IsTextOf}
use Rattle.term_core.specs.Escapes.{IsEscaped, IsStringEscape}
use Rattle.term_core.specs.Escapes.IsEscaped.{nothing, character, escape}
use Rattle.term_core.specs.Spelling.{IsSpelledIri, IsSpelledTag}
use Rattle.term_core.specs.Terminals.{IsIri, IsVariable, IsShortString, IsLanguage, is_plain_in}
use Rattle.term_core.specs.Texts.{escaped}
use Rattle.term_core.specs.declared.token.Kind.TheVariants as kinds
use Rattle.sparql_lex.specs.declared.state.State.{State}
use Rattle.sparql_lex.specs.declared.state.State.TheVariants as states
use Rattle.sparql_lex.specs.declared.state.Quoted.TheVariants as quoted
use Rattle.sparql_lex.specs.declared.state.Body.TheVariants as bodies
use Rattle.sparql_lex.specs.Steps.{step}
use Rattle.sparql_lex.proofs.Reading.{reads}
use Rattle.sparql_tree.specs.declared.symbol.Shape.TheVariants as s
use Rattle.sparql_tree.specs.declared.symbol.Symbol.{Symbol}
use Rattle.sparql_tree.specs.Symbols.{symbol, iri_symbol, IsStringSymbol}
use Rattle.nt_text.proofs.Cut.{scheme_encoded}
use Rattle.nt_text.proofs.EscapeLaws.{all_parts}
use Rattle.nt_text.proofs.TagLaws.{tag_small, tag_encoded}
use Rattle.nt_text.proofs.WrittenText.{IsWrittenAs, written_as, text_small, text_both, text_escaped}
use Rattle.nt_text.proofs.WrittenText.IsWrittenAs.{backslash, quote, feed, return, itself}
use Rattle.sparql_print.specs.Spelled.{IsSpelledName}
use Rattle.sparql_print.proofs.Separate.{Separate, longest-separate, longest-by}
use Rattle.sparql_print.proofs.Gives.{IsShown, Gives, done, piece}

-- a fact of the characters is one of those behind their bytes
of_bytes : (P : List ℕ → Type 0) (cs bytes : List ℕ) → IsTextOf cs bytes → P cs → P (chars (encode_utf8_all cs))
of_bytes P cs bytes is h = subst P (sym (chars-encodes cs is.scalars)) h

-- ---- variables

pub name-shown : (name : List ℕ) → IsSpelledName name → IsShown (63 ∷ name) (λ ss. symbol s.Var name ∷ ss)
name-shown name h =
    let cs : List ℕ = 63 ∷ h.first ∷ h.more in
    let is : IsTextOf cs (63 ∷ name) = text_both (63 ∷ []) (h.first ∷ h.more) (63 ∷ []) name (text_small (63 ∷ []) refl) h.is_text in
    let variable : IsVariable cs = record { mark = 63; first = h.first; more = h.more; is_mark = refl; is_first = h.is_first; are_parts = h.are_parts; spelled = refl } in
    record {
      characters = cs;
      is_text = is;
      gives = λ rest ss sep.
          piece {kind = kinds.Var} (longest-separate kinds.Var cs rest (λ e. absurd (cc)) (λ e. absurd (cc)) variable sep)
          (λ prefixes. of_bytes (λ t. (v : IsVariable t) × (symbol s.Var name ≡ symbol s.Var (encode_utf8_all (v.first ∷ v.more)))) cs (63 ∷ name) is (variable, ap (symbol s.Var) (sym h.is_text.encoded)))
          (λ select count. refl) done;
    }

-- ---- IRIs

itself_all : {plain : ℕ → Bool} {IsEscape : List ℕ → ℕ → Type 0} (text : List ℕ) → AreAll plain text → IsEscaped plain IsEscape text text
itself_all [] all = nothing
itself_all {plain} (c ∷ text) all = let a = all_parts plain c text all in character a.0 (itself_all text a.1)

iri-symbol : (cs iri : List ℕ) → encode_utf8_all cs ≡ iri → (t : Bool) → t ≡ true → symbol s.Iri iri ≡ cond t (symbol s.Iri (encode_utf8_all cs)) (symbol s.Other [])
iri-symbol cs iri e t h = rw h (ap (symbol s.Iri) (sym e))

abbrev pub iri_text : List ℕ → List ℕ
iri_text iri = 60 ∷ (iri ++ 62 ∷ [])

pub iri-is_text : (cs iri : List ℕ) → IsTextOf cs iri → IsTextOf (iri_text cs) (iri_text iri)
iri-is_text cs iri h = text_both (60 ∷ []) (cs ++ 62 ∷ []) (60 ∷ []) (iri ++ 62 ∷ []) (text_small (60 ∷ []) refl) (text_both cs (62 ∷ []) iri (62 ∷ []) h (text_small (62 ∷ []) refl))

pub iri-gives : (iri : List ℕ) → (h : IsSpelledIri iri) → (rest : List ℕ) (ss : List Symbol) → Separate rest → Gives (iri_text h.characters ++ rest) (symbol s.Iri iri ∷ ss) rest ss
iri-gives iri h rest ss sep =
    let cs = iri_text h.characters in
    let token : IsIri cs = record { body = h.characters; iri = h.characters; is_body = itself_all h.characters h.of_class; spelled = refl } in
    piece {kind = kinds.Iri} (longest-separate kinds.Iri cs rest (λ e. absurd (cc)) (λ e. absurd (cc)) token sep)
    (λ prefixes. of_bytes (λ t. (v : IsIri t) × (symbol s.Iri iri ≡ iri_symbol (encode_utf8_all v.iri))) cs (iri_text iri) (iri-is_text h.characters iri h.is_text)
    (token, iri-symbol h.characters iri h.is_text.encoded _ (scheme_encoded h.characters ∙ h.scheme)))
    (λ select count. refl) done

pub iri-shown : (iri : List ℕ) → IsSpelledIri iri → IsShown (iri_text iri) (λ ss. symbol s.Iri iri ∷ ss)
iri-shown iri h = record { characters = iri_text h.characters; is_text = iri-is_text h.characters iri h.is_text; gives = iri-gives iri h }

-- ---- tags

pub tag-is_text : (tag : List ℕ) → IsSpelledTag tag → IsTextOf (64 ∷ tag) (64 ∷ tag)
tag-is_text tag h = text_both (64 ∷ []) tag (64 ∷ []) tag (text_small (64 ∷ []) refl) (text_small tag (tag_small tag h.is_tag))

pub tag-gives : (tag : List ℕ) → IsSpelledTag tag → (rest : List ℕ) (ss : List Symbol) → Separate rest → Gives ((64 ∷ tag) ++ rest) (symbol s.Tag tag ∷ ss) rest ss
tag-gives tag h rest ss sep =
    let token : IsLanguage (64 ∷ tag) = record { tag = tag; is_tag = h.is_tag; spelled = refl } in
    piece {kind = kinds.Lang} (longest-separate kinds.Lang (64 ∷ tag) rest (λ e. absurd (cc)) (λ e. absurd (cc)) token sep)
    (λ prefixes. of_bytes (λ t. (v : IsLanguage t) × (symbol s.Tag tag ≡ symbol s.Tag (map to_ascii_lowercase (encode_utf8_all v.tag)))) (64 ∷ tag) (64 ∷ tag) (tag-is_text tag h)
    (token, ap (symbol s.Tag) (sym (ap (map to_ascii_lowercase) (tag_encoded tag h.is_tag) ∙ h.lower))))
    (λ select count. refl) done

-- ---- strings

abbrev inside : State
inside = states.Quoted (quoted.Inside (bodies.Short 34))

abbrev opened : State
opened = states.Quoted (quoted.Quote 34)

plain-step : (c : ℕ) (t : List ℕ) → is_plain c ≡ true → (reads (c ∷ t) inside ≡ reads t inside) × (reads (c ∷ t) opened ≡ reads t inside)
unfolding step
plain-step c t h = (rw h refl, rw h refl)

escaped-step : {c : ℕ} (t : List ℕ) → IsWrittenAs c → (reads (escaped c ++ t) inside ≡ reads t inside) × (reads (escaped c ++ t) opened ≡ reads t inside)
unfolding step
escaped-step t backslash = (refl, refl)
escaped-step t quote = (refl, refl)
escaped-step t feed = (refl, refl)
escaped-step t return = (refl, refl)
escaped-step t (itself {c} same plain) =
    let p = plain-step c t plain in
    (ap (λ e. reads (e ++ t) inside) same ∙ p.0, ap (λ e. reads (e ++ t) opened) same ∙ p.1)

body-steps : (cs t : List ℕ) → reads (flat_map escaped cs ++ t) inside ≡ reads t inside
body-steps [] t = refl
body-steps (c ∷ cs) t =
    ap (λ u. reads u inside) (append_assoc (escaped c) (flat_map escaped cs) t) ∙ ((escaped-step (flat_map escaped cs ++ t) (written_as c)).0 ∙ body-steps cs t)

closed-stops : (d : ℕ) (x : List ℕ) → reads (34 ∷ d ∷ x) inside ≡ None
unfolding step
closed-stops d x = refl

empty-stops : (d : ℕ) (x : List ℕ) → (d == 34) ≡ false → reads (34 ∷ 34 ∷ d ∷ x) states.Start ≡ None
unfolding step is_pn is_pn_u is_pn_base
empty-stops d x h = rw h refl

start-quote : (t : List ℕ) → reads (34 ∷ t) states.Start ≡ reads t opened
unfolding step is_pn is_pn_u is_pn_base
start-quote t = refl

string-stops : (cs : List ℕ) (d : ℕ) (x : List ℕ) → (d == 34) ≡ false → reads ((34 ∷ (flat_map escaped cs ++ 34 ∷ [])) ++ d ∷ x) states.Start ≡ None
string-stops [] d x h = empty-stops d x h
string-stops (c ∷ cs) d x h =
    start-quote (((escaped c ++ flat_map escaped cs) ++ 34 ∷ []) ++ d ∷ x)
    ∙ (ap (λ u. reads u opened) (append_assoc (escaped c ++ flat_map escaped cs) (34 ∷ []) (d ∷ x) ∙ append_assoc (escaped c) (flat_map escaped cs) (34 ∷ d ∷ x))
    ∙ ((escaped-step (flat_map escaped cs ++ 34 ∷ d ∷ x) (written_as c)).1 ∙ (body-steps cs (34 ∷ d ∷ x) ∙ closed-stops d x)))

escaped-spells : (cs : List ℕ) → IsEscaped (is_plain_in 34) IsStringEscape (flat_map escaped cs) cs
escaped-spells [] = nothing
escaped-spells (c ∷ cs) = by_case cs (written_as c) (escaped-spells cs)
  where
    by_case : {c : ℕ} (cs : List ℕ) → IsWrittenAs c → IsEscaped (is_plain_in 34) IsStringEscape (flat_map escaped cs) cs → IsEscaped (is_plain_in 34) IsStringEscape (escaped c ++ flat_map escaped cs) (c ∷ cs)
    by_case cs backslash more = escape {escape = 92 ∷ 92 ∷ []} (inr (record { letter = 92; spelled = refl; value = refl })) more
    by_case cs quote more = escape {escape = 92 ∷ 34 ∷ []} (inr (record { letter = 34; spelled = refl; value = refl })) more
    by_case cs feed more = escape {escape = 92 ∷ 110 ∷ []} (inr (record { letter = 110; spelled = refl; value = refl })) more
    by_case cs return more = escape {escape = 92 ∷ 114 ∷ []} (inr (record { letter = 114; spelled = refl; value = refl })) more
    by_case cs (itself {c} same plain) more = subst (λ t. IsEscaped (is_plain_in 34) IsStringEscape (t ++ flat_map escaped cs) (c ∷ cs)) (sym same) (character plain more)

abbrev pub quoted_text : List ℕ → List ℕ
quoted_text text = 34 ∷ (flat_map escaped text ++ 34 ∷ [])

pub quoted-is_text : (cs lexical : List ℕ) → IsTextOf cs lexical → IsTextOf (quoted_text cs) (quoted_text lexical)
quoted-is_text cs lexical h = text_both (34 ∷ []) (flat_map escaped cs ++ 34 ∷ []) (34 ∷ []) (flat_map escaped lexical ++ 34 ∷ []) (text_small (34 ∷ []) refl)
    (text_both (flat_map escaped cs) (34 ∷ []) (flat_map escaped lexical) (34 ∷ []) (text_escaped cs lexical h) (text_small (34 ∷ []) refl))

-- a string before anything but a quote
pub string-gives : (cs lexical rest : List ℕ) (ss : List Symbol) → IsTextOf cs lexical → ((d : ℕ) (behind : List ℕ) → rest ≡ d ∷ behind → (d == 34) ≡ false)
    → Gives (quoted_text cs ++ rest) (symbol s.Quoted lexical ∷ ss) rest ss
string-gives cs lexical rest ss h other =
    let token : IsShortString (quoted_text cs) = record { quote = 34; body = flat_map escaped cs; value = cs; quotes = refl; is_body = escaped-spells cs; spelled = refl } in
    piece {kind = kinds.String} (longest-by kinds.String (quoted_text cs) rest (inl token) (λ d x behind e. string-stops cs d x (other d behind e)))
    (λ prefixes. of_bytes (λ t. IsStringSymbol t (symbol s.Quoted lexical)) (quoted_text cs) (quoted_text lexical) (quoted-is_text cs lexical h) (inl (token, ap (symbol s.Quoted) (sym h.encoded))))
    (λ select count. refl) done
