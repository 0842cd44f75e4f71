-- The symbols of literals: a string, and its tag or its datatype behind it.
use Rattle.std.proofs.Common.{◌≡◌, ℕ, Bool, true, false, List, [], ◌∷◌, ◌++◌, None, refl, sym, subst, ap, ◌∙◌, inl, inr, append_assoc}
use Rattle.std.specs.Prelude.{flat_map, ◌==◌}
use Rattle.std.specs.Str.{bytes_eq}
use Rattle.term_core.specs.Characters.{is_pn, is_pn_u, is_pn_base, IsTextOf}
use Rattle.term_core.specs.Spelling.{IsSpelledIri, IsSpelledTag}
use Rattle.term_core.specs.Texts.{xsd_string, escaped, term_text}
use Rattle.term_core.specs.declared.term.Term.{Term}
use Rattle.term_core.specs.declared.term.Term.TheVariants as terms
use Rattle.term_core.specs.declared.token.Kind.TheVariants as kinds
use Rattle.sparql_lex.specs.declared.state.State.TheVariants as states
use Rattle.sparql_lex.specs.Steps.{step}
use Rattle.sparql_lex.proofs.Reading.{reads}
use Rattle.sparql_lex.proofs.KindStates.{read-token}
use Rattle.sparql_tree.specs.declared.symbol.Shape.TheVariants as s
use Rattle.sparql_tree.specs.declared.symbol.Symbol.{Symbol}
use Rattle.sparql_tree.specs.Symbols.{symbol, bare}
use Rattle.sparql_print.proofs.ExprSymbols.{term_symbols}
use Rattle.sparql_print.specs.Spelled.{IsConstant}
use Rattle.sparql_print.proofs.Separate.{Separate, longest-by}
use Rattle.sparql_print.proofs.Gives.{IsShown, Gives, done, piece, gives-then}
use Rattle.sparql_print.proofs.ReadsBack.{tag_some}
use Rattle.sparql_print.proofs.TermPieces.{iri_text, iri-is_text, iri-gives, iri-shown, tag-is_text, tag-gives, quoted_text, quoted-is_text, string-gives}
use Rattle.nt_text.proofs.WrittenText.{text_small, text_both}

-- what stands behind a string begins with no quote
abbrev Unquoted : List ℕ → Type 0
Unquoted text = (d : ℕ) (behind : List ℕ) → text ≡ d ∷ behind → (d == 34) ≡ false

-- a text that begins with this character, which is no quote
unquoted : (c : ℕ) (text : List ℕ) → (c == 34) ≡ false → Unquoted (c ∷ text)
unquoted c text h d behind e = let same : c ≡ d = cc in ap (λ v. v == 34) (sym same) ∙ h

separate-unquoted : (rest : List ℕ) → Separate rest → Unquoted rest
separate-unquoted [] h d behind e = absurd (cc)
separate-unquoted (c ∷ rest) h d behind e = unquoted c rest (ap (λ v. v == 34) h) d behind e

literal-shown : (cs lexical kind kind_bytes : List ℕ) (add : List Symbol → List Symbol) → IsTextOf cs lexical → IsTextOf kind kind_bytes
    → ((rest : List ℕ) → Separate rest → Unquoted (kind ++ rest)) → ((rest : List ℕ) (ss : List Symbol) → Separate rest → Gives (kind ++ rest) (add ss) rest ss)
    → IsShown (34 ∷ (flat_map escaped lexical ++ 34 ∷ kind_bytes)) (λ ss. symbol s.Quoted lexical ∷ add ss)
literal-shown cs lexical kind kind_bytes add is kind_is other gives = record {
  characters = quoted_text cs ++ kind;
  is_text = subst (IsTextOf (quoted_text cs ++ kind)) (ap (λ t. 34 ∷ t) (append_assoc (flat_map escaped lexical) (34 ∷ []) kind_bytes))
      (text_both (quoted_text cs) kind (quoted_text lexical) kind_bytes (quoted-is_text cs lexical is) kind_is);
  gives = λ rest ss sep.
      subst (λ t. Gives t (symbol s.Quoted lexical ∷ add ss) rest ss) (sym (append_assoc (quoted_text cs) kind rest))
      (gives-then (string-gives cs lexical (kind ++ rest) (add ss) is (other rest sep)) (gives rest ss sep));
}

plain-shown : (cs lexical : List ℕ) → IsTextOf cs lexical → IsShown (34 ∷ (flat_map escaped lexical ++ 34 ∷ [])) (λ ss. symbol s.Quoted lexical ∷ ss)
plain-shown cs lexical is = literal-shown cs lexical [] [] (λ ss. ss) is (text_small [] refl) separate-unquoted (λ rest ss sep. done)

tagged-shown : (cs lexical tag : List ℕ) → IsTextOf cs lexical → IsSpelledTag tag
    → IsShown (34 ∷ (flat_map escaped lexical ++ 34 ∷ 64 ∷ tag)) (λ ss. symbol s.Quoted lexical ∷ symbol s.Tag tag ∷ ss)
tagged-shown cs lexical tag is h =
    literal-shown cs lexical (64 ∷ tag) (64 ∷ tag) (λ ss. symbol s.Tag tag ∷ ss) is (tag-is_text tag h) (λ rest sep. unquoted 64 (tag ++ rest) refl) (tag-gives tag h)

-- no token begins with ^^<
typed-stops : (d : ℕ) (x : List ℕ) → d ≡ 60 → reads (94 ∷ 94 ∷ d ∷ x) states.Start ≡ None
unfolding step is_pn is_pn_u is_pn_base
typed-stops d x e = subst (λ v. reads (94 ∷ 94 ∷ v ∷ x) states.Start ≡ None) (sym e) refl

typed-gives : (iri : List ℕ) → (h : IsSpelledIri iri) → (rest : List ℕ) (ss : List Symbol) → Separate rest
    → Gives ((94 ∷ 94 ∷ iri_text h.characters) ++ rest) (bare s.Typed ∷ symbol s.Iri iri ∷ ss) rest ss
unfolding step is_pn is_pn_u is_pn_base lib.Utf8.encode
typed-gives iri h rest ss sep =
    piece {kind = kinds.Sign} {front = 94 ∷ 94 ∷ []} {text = iri_text h.characters ++ rest}
    (longest-by kinds.Sign (94 ∷ 94 ∷ []) (iri_text h.characters ++ rest) (read-token (94 ∷ 94 ∷ []) kinds.Sign refl)
    (λ d x behind e. typed-stops d x (let same : 60 ≡ d = cc in sym same)))
    (λ prefixes. refl) (λ select count. refl) (iri-gives iri h rest ss sep)

typed-shown : (cs lexical iri : List ℕ) → IsTextOf cs lexical → IsSpelledIri iri
    → IsShown (34 ∷ (flat_map escaped lexical ++ 34 ∷ 94 ∷ 94 ∷ iri_text iri)) (λ ss. symbol s.Quoted lexical ∷ bare s.Typed ∷ symbol s.Iri iri ∷ ss)
typed-shown cs lexical iri is h =
    literal-shown cs lexical (94 ∷ 94 ∷ iri_text h.characters) (94 ∷ 94 ∷ iri_text iri) (λ ss. bare s.Typed ∷ symbol s.Iri iri ∷ ss) is
    (text_both (94 ∷ 94 ∷ []) (iri_text h.characters) (94 ∷ 94 ∷ []) (iri_text iri) (text_small (94 ∷ 94 ∷ []) refl) (iri-is_text h.characters iri h.is_text))
    (λ rest sep. unquoted 94 ((94 ∷ iri_text h.characters) ++ rest) refl) (typed-gives iri h)

-- without a tag: the datatype, unless it is that of plain strings
by_type : (cs lexical datatype : List ℕ) → IsTextOf cs lexical → IsSpelledIri datatype → (t : Bool) → bytes_eq datatype xsd_string ≡ t
    → IsShown (term_text (terms.Literal lexical datatype [])) (λ ss. term_symbols (terms.Literal lexical datatype []) ss)
by_type cs lexical datatype is h true e = rw e (plain-shown cs lexical is)
by_type cs lexical datatype is h false e = rw e (typed-shown cs lexical datatype is h)

pub constant-shown : (term : Term) → IsConstant term → IsShown (term_text term) (λ ss. term_symbols term ss)
constant-shown (terms.Iri iri) h = iri-shown iri h
constant-shown (terms.Blank label) h = absurd h
constant-shown (terms.Literal lexical datatype []) (utf8, inl h) =
    by_type utf8.0 lexical datatype (record { scalars = utf8.1.0; encoded = utf8.1.1 }) h.1 (bytes_eq datatype xsd_string) refl
constant-shown (terms.Literal lexical datatype []) (utf8, inr h) = absurd (tag_some h.0)
constant-shown (terms.Literal lexical datatype (b ∷ tag)) (utf8, inl h) = absurd (cc)
constant-shown (terms.Literal lexical datatype (b ∷ tag)) (utf8, inr h) =
    tagged-shown utf8.0 lexical (b ∷ tag) (record { scalars = utf8.1.0; encoded = utf8.1.1 }) h.0
