-- A text is a token of a kind exactly where the states read it as one.
use Rattle.std.proofs.Common.{◌≡◌, ◌⊎◌, inl, inr, ℕ, Bool, true, false, List, [], ◌∷◌, Some, refl, sym, subst, ap, ◌∙◌}
use Rattle.std.specs.Prelude.{codes}
use Rattle.term_core.specs.Bags.{In}
use Rattle.term_core.specs.Characters.{is_among, is_letter}
use Rattle.term_core.specs.Terminals.{IsToken, IsPrefixedName, IsBlank, IsVariable, IsLanguage, IsShortString, IsLongString, is_quote, signs}
use Rattle.term_core.specs.declared.token.Kind.{Kind}
use Rattle.term_core.specs.declared.token.Kind.TheVariants as kinds
use Rattle.sparql_lex.specs.declared.state.State.TheVariants as states
use Rattle.sparql_lex.specs.declared.state.Mark.TheVariants as marks
use Rattle.sparql_lex.specs.declared.state.Name.TheVariants as names
use Rattle.sparql_lex.specs.declared.state.Label.TheVariants as labels
use Rattle.sparql_lex.specs.declared.state.Variable.TheVariants as variables
use Rattle.sparql_lex.specs.declared.state.Number.TheVariants as numbers
use Rattle.sparql_lex.specs.declared.state.Tag.TheVariants as tags
use Rattle.sparql_lex.specs.declared.state.Quoted.TheVariants as quoted
use Rattle.sparql_lex.specs.Steps.{step, start_rows}
use Rattle.sparql_lex.proofs.Bools.{among}
use Rattle.sparql_lex.proofs.Reading.{reads, read-cases}
use Rattle.sparql_lex.proofs.NameStates.{put, NameTail, name-sound, name-token, prefix-token, colon-token, word-read, prefixed_name-read}
use Rattle.sparql_lex.proofs.LabelStates.{VariableTail, label-sound, blank-read, variable-sound, variable-read, variable-token}
use Rattle.sparql_lex.proofs.TagStates.{tag-sound, language-read, language-token}
use Rattle.sparql_lex.proofs.MarkStates.{MarkTail, is_sign, sign-read, mark-sound, mark-token}
use Rattle.sparql_lex.proofs.NumberStates.{of_kind, one-digit, number-sound, integer-read, decimal-read, double-read}
use Rattle.sparql_lex.proofs.QuotedTails.{QuotedTail, ShortTail, LongBehind, quoted-sound}
use Rattle.sparql_lex.proofs.QuotedStates.{iri-read, short-read, long-read}

pub token-read : (kind : Kind) (text : List ℕ) → IsToken kind text → reads text states.Start ≡ Some kind
token-read kinds.Iri text h = iri-read text h
token-read kinds.PName text h = prefixed_name-read text h
token-read kinds.Blank text h = blank-read text h
token-read kinds.Var text h = variable-read text h
token-read kinds.String text (inl h) = short-read text h
token-read kinds.String text (inr h) = long-read text h
token-read kinds.Lang text h = language-read text h
token-read kinds.Integer text h = integer-read text h
token-read kinds.Decimal text h = decimal-read text h
token-read kinds.Double text h = double-read text h
token-read kinds.Word text h = word-read text h
token-read kinds.Sign text h = sign-read text h

word-or-name : (c : ℕ) (text : List ℕ) (kind : Kind) → is_letter c ≡ true → NameTail names.Word kind text → IsToken kind (c ∷ text)
word-or-name c text kind h t = elim (name-token c text kind h t) as (λ _. IsToken kind (c ∷ text))
    [ inl w ↦ of_kind kind kinds.Word (c ∷ text) w.0 w.1 | inr p ↦ of_kind kind kinds.PName (c ∷ text) p.0 p.1 ]

sign-or-variable : (text : List ℕ) (kind : Kind) → VariableTail variables.Question kind text → IsToken kind (63 ∷ text)
sign-or-variable text kind (inl s) = of_kind kind kinds.Sign (63 ∷ text) s.0 (subst (λ v. In signs (63 ∷ v)) (sym s.1) (is_sign (63 ∷ []) refl))
sign-or-variable text kind (inr v) = of_kind kind kinds.Var (63 ∷ text) v.0 (variable-token 63 text refl v.1)

less-or-iri : (text : List ℕ) (kind : Kind) → QuotedTail quoted.Less kind text → IsToken kind (60 ∷ text)
less-or-iri text kind (inl (s, inl e)) = of_kind kind kinds.Sign (60 ∷ text) s (subst (λ v. In signs (60 ∷ v)) (sym e) (is_sign (60 ∷ []) refl))
less-or-iri text kind (inl (s, inr e)) = of_kind kind kinds.Sign (60 ∷ text) s (subst (λ v. In signs (60 ∷ v)) (sym e) (is_sign (60 ∷ 61 ∷ []) refl))
less-or-iri text kind (inr t) = let i = t.1 in
    of_kind kind kinds.Iri (60 ∷ text) t.0 (record { body = i.body; iri = i.iri; is_body = i.is_body; spelled = ap (λ v. 60 ∷ v) i.spelled })

string-token : (c : ℕ) (text : List ℕ) → is_quote c ≡ true → ShortTail c text ⊎ ((rest : List ℕ) × LongBehind c rest × (text ≡ c ∷ rest)) → IsShortString (c ∷ text) ⊎ IsLongString (c ∷ text)
string-token c text q (inl s) = inl (record { quote = c; body = s.body; value = s.value; quotes = q; is_body = s.is_body; spelled = ap (λ v. c ∷ v) s.spelled })
string-token c text q (inr (rest, b, e)) = let t = b.tail in
    inr (record {
      quote = c;
      body = t.body;
      value = t.value;
      quotes = q;
      is_body = t.is_body;
      spelled = ap (λ v. c ∷ v) (e ∙ ap (λ v. c ∷ v) (b.spelled ∙ ap (λ v. c ∷ v) t.spelled));
    })

one-sign : (c : ℕ) (text : List ℕ) → is_among (codes "{}()[],;=+-*/") c ≡ true → text ≡ [] → In signs (c ∷ text)
one-sign c text h e = subst (λ v. In signs (c ∷ v)) (sym e) (among (λ v. In signs (v ∷ [])) (codes "{}()[],;=+-*/") c (is_sign (123 ∷ []) refl, (is_sign (125 ∷ []) refl, (is_sign (40 ∷ []) refl, (is_sign (41 ∷ []) refl, (is_sign (91 ∷ []) refl, (is_sign (93 ∷ []) refl, (is_sign (44 ∷ []) refl, (is_sign (59 ∷ []) refl, (is_sign (61 ∷ []) refl, (is_sign (43 ∷ []) refl, (is_sign (45 ∷ []) refl, (is_sign (42 ∷ []) refl, (is_sign (47 ∷ []) refl, (tt)))))))))))))) h)

marked : (c second : ℕ) (alone : Bool) (text : List ℕ) (kind : Kind) → (alone ≡ true → In signs (c ∷ [])) → In signs (c ∷ second ∷ [])
    → MarkTail (marks.First alone second) kind text → IsToken kind (c ∷ text)
marked c second alone text kind one two t = of_kind kind kinds.Sign (c ∷ text) t.0 (mark-token c second alone text one two t.1)

before-equal : (c : ℕ) (text : List ℕ) (kind : Kind) → is_among (codes "!>") c ≡ true → MarkTail (marks.First true 61) kind text → IsToken kind (c ∷ text)
before-equal c text kind h t = among (λ v. IsToken kind (v ∷ text)) (codes "!>") c (
  marked 33 61 true text kind (λ _. is_sign (33 ∷ []) refl) (is_sign (33 ∷ 61 ∷ []) refl) t,
  (marked 62 61 true text kind (λ _. is_sign (62 ∷ []) refl) (is_sign (62 ∷ 61 ∷ []) refl) t, tt),
) h

no-single : (false ≡ true) → In signs (38 ∷ [])
no-single h = absurd (cc)

pub read-token : (text : List ℕ) (kind : Kind) → reads text states.Start ≡ Some kind → IsToken kind text
unfolding step
read-token [] kind h = absurd (cc)
read-token (c ∷ text) kind h =
    let P : List ℕ → Type 0 = IsToken kind in
    read-cases (start_rows c) text kind (IsToken kind (c ∷ text)) (
      λ t r. word-or-name c text kind t (name-sound text names.Word kind r),
      (
        λ t r. let p = name-sound text names.Prefix kind r in of_kind kind kinds.PName (c ∷ text) p.0 (prefix-token c text t p.1),
        (
          λ t r. number-sound text numbers.Integer kind r (c ∷ []) (one-digit c t),
          (
            λ t r. let p = name-sound text names.Colon kind r in of_kind kind kinds.PName (c ∷ text) p.0 (put IsPrefixedName c 58 text t (colon-token text p.1)),
            (
              λ t r. let p = label-sound text labels.Underscore kind r in of_kind kind kinds.Blank (c ∷ text) p.0 (put IsBlank c 95 text t p.1),
              (
                λ t r. put P c 63 text t (sign-or-variable text kind (variable-sound text variables.Question kind r)),
                (
                  λ t r. let p = variable-sound text variables.Dollar kind r in of_kind kind kinds.Var (c ∷ text) p.0 (put IsVariable c 36 text t (variable-token 36 text refl p.1)),
                  (
                    λ t r. let p = tag-sound text tags.At kind r in of_kind kind kinds.Lang (c ∷ text) p.0 (put IsLanguage c 64 text t (language-token text p.1)),
                    (
                      λ t r. put P c 46 text t (number-sound text numbers.Dot kind r),
                      (
                        λ t r. put P c 60 text t (less-or-iri text kind (quoted-sound text quoted.Less kind r)),
                        (
                          λ t r. let s = quoted-sound text (quoted.Quote c) kind r in of_kind kind kinds.String (c ∷ text) s.0 (string-token c text t s.1),
                          (
                            λ t r. put P c 94 text t (marked 94 94 true text kind (λ _. is_sign (94 ∷ []) refl) (is_sign (94 ∷ 94 ∷ []) refl) (mark-sound text (marks.First true 94) kind r)),
                            (
                              λ t r. put P c 38 text t (marked 38 38 false text kind no-single (is_sign (38 ∷ 38 ∷ []) refl) (mark-sound text (marks.First false 38) kind r)),
                              (
                                λ t r. put P c 124 text t (marked 124 124 true text kind (λ _. is_sign (124 ∷ []) refl) (is_sign (124 ∷ 124 ∷ []) refl) (mark-sound text (marks.First true 124) kind r)),
                                (
                                  λ t r. before-equal c text kind t (mark-sound text (marks.First true 61) kind r),
                                  (λ t r. let m = mark-sound text marks.End kind r in of_kind kind kinds.Sign (c ∷ text) m.0 (one-sign c text t m.1), tt),
                                ),
                              ),
                            ),
                          ),
                        ),
                      ),
                    ),
                  ),
                ),
              ),
            ),
          ),
        ),
      ),
    ) h
