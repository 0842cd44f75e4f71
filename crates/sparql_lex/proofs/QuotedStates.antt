-- The states of IRIs and strings read each IRI and each string.
use Rattle.std.proofs.Common.{◌≡◌, inl, inr, ℕ, zero, suc, ◌+◌, ◌*◌, ◌-◌, ◌<◌, ◌≤◌, Bool, true, false, List, [], ◌∷◌, ◌++◌, length, append_assoc, Option, Some, refl, sym, subst, ◌∙◌, arith}
use Rattle.std.specs.Prelude.{◌==◌, nat_lt, codes}
use Rattle.std.specs.Char.{digit_value}
use Rattle.std.proofs.lemmas.Bool.Decides.{nat_tests}
use lib.Utf8.{scalar}
use Rattle.term_core.specs.declared.token.Kind.{Kind}
use Rattle.term_core.specs.declared.token.Kind.TheVariants as kinds
use Rattle.sparql_lex.specs.declared.state.State.{State}
use Rattle.sparql_lex.specs.declared.state.State.TheVariants as states
use Rattle.sparql_lex.specs.declared.state.Body.{Body}
use Rattle.sparql_lex.specs.declared.state.Body.TheVariants as bodies
use Rattle.sparql_lex.specs.declared.state.Quoted.TheVariants as quoted
use Rattle.term_core.specs.Characters.{is_hex, is_iri, is_pn_base, is_among, AreAll}
use Rattle.term_core.specs.Escapes.{hex_onto, hex_number, IsUchar, IsEchar, echar_value, IsEscaped, IsIriEscape, IsStringEscape, IsIriBody}
use Rattle.term_core.specs.Escapes as escapes
use Rattle.term_core.specs.Terminals.{IsIri, IsShortString, IsLongString, IsLongBody, is_quote, is_plain_in, is_long_plain}
use Rattle.term_core.specs.Terminals as terminals
use Rattle.sparql_lex.specs.Steps.{step, may_spell, with_digit, is_next}
use Rattle.sparql_lex.proofs.Bools.{both, same, among, all-first}
use Rattle.sparql_lex.proofs.Reading.{reads}

by_quote : (P : ℕ → Type 0) (quote : ℕ) → is_quote quote ≡ true → P 34 → P 39 → P quote
by_quote P quote h a b = among P (codes "\"'") quote (a, (b, tt)) h

echar-letter : (c value : ℕ) → echar_value c ≡ Some value → is_among (codes "tbnrf\"'\\") c ≡ true
echar-letter c value h = grind (arith, nat_tests)

-- digits spell no less than the first of them
onto-grows : (digits : List ℕ) (value : ℕ) → value ≤ hex_onto value digits
onto-grows [] value = omega arith
onto-grows (c ∷ digits) value = omega (arith, onto-grows digits (value * 16 + digit_value c))

scalar-small : (c : ℕ) → scalar c ≡ true → c < 0x110000
scalar-small c h = grind (arith, nat_tests)

may-scalar : (body : Body) (c : ℕ) → may_spell body c ≡ true → scalar c ≡ true
may-scalar bodies.Iri c h = let b = both (scalar c) (is_iri c) h in b.0
may-scalar (bodies.Short quote) c h = h
may-scalar (bodies.Long quote) c h = h

digit-step : (body : Body) (left value c : ℕ) (rest : List ℕ) → is_next value c ≡ true → nat_lt 1 left ≡ true
    → reads (c ∷ rest) (states.Quoted (quoted.Digits body left value)) ≡ reads rest (states.Quoted (quoted.Digits body (left - 1) (with_digit value c)))
unfolding step
digit-step body left value c rest h k = rw (h, k) refl

last-step : (body : Body) (left value c : ℕ) (rest : List ℕ) → is_next value c ≡ true → nat_lt 1 left ≡ false → may_spell body (with_digit value c) ≡ true
    → reads (c ∷ rest) (states.Quoted (quoted.Digits body left value)) ≡ reads rest (states.Quoted (quoted.Inside body))
unfolding step
last-step body left value c rest h k m = rw (h, k, m) refl

next-digit : (value c : ℕ) → is_hex c ≡ true → value < 0x110000 → is_next value c ≡ true
next-digit value c h k = let small : nat_lt value 0x110000 ≡ true = grind (arith, nat_tests) in rw (h, small) refl

digits-read : (body : Body) (digits rest : List ℕ) (left value : ℕ) → length digits ≡ left → 0 < left → AreAll is_hex digits → may_spell body (hex_onto value digits) ≡ true
    → reads (digits ++ rest) (states.Quoted (quoted.Digits body left value)) ≡ reads rest (states.Quoted (quoted.Inside body))
digits-read body [] rest left value count some h m = absurd (omega arith)
digits-read body (c ∷ []) rest left value count some h m =
    let first = all-first is_hex c [] h in
    let small : value < 0x110000 = omega (arith, onto-grows (c ∷ []) value, scalar-small (hex_onto value (c ∷ [])) (may-scalar body (hex_onto value (c ∷ [])) m)) in
    let one : nat_lt 1 left ≡ false = grind (arith, nat_tests) in
    last-step body left value c rest (next-digit value c first.0 small) one m
digits-read body (c ∷ d ∷ digits) rest left value count some h m =
    let first = all-first is_hex c (d ∷ digits) h in
    let small : value < 0x110000 = omega (arith, onto-grows (c ∷ d ∷ digits) value, scalar-small (hex_onto value (c ∷ d ∷ digits)) (may-scalar body (hex_onto value (c ∷ d ∷ digits)) m)) in
    let two : nat_lt 1 left ≡ true = grind (arith, nat_tests) in
    digit-step body left value c (d ∷ (digits ++ rest)) (next-digit value c first.0 small) two
    ∙ digits-read body (d ∷ digits) rest (left - 1) (with_digit value c) (omega arith) (omega arith) first.1 m

-- an escape is a backslash and what leads back into the body
pub record Escapes (body : Body) (escape rest : List ℕ) : Type 0 where
  pub letters : List ℕ
  pub spelled : escape ≡ 92 ∷ letters
  pub read : reads (letters ++ rest) (states.Quoted (quoted.Backslash body)) ≡ reads rest (states.Quoted (quoted.Inside body))

u-step : (body : Body) (text : List ℕ) → (reads (117 ∷ text) (states.Quoted (quoted.Backslash body)) ≡ reads text (states.Quoted (quoted.Digits body 4 0)))
    × (reads (85 ∷ text) (states.Quoted (quoted.Backslash body)) ≡ reads text (states.Quoted (quoted.Digits body 8 0)))
unfolding step
u-step body text = (refl, refl)

uchar-escapes : (body : Body) (escape : List ℕ) (c : ℕ) (rest : List ℕ) → IsUchar escape c → may_spell body c ≡ true → Escapes body escape rest
uchar-escapes body escape c rest u m =
    let may : may_spell body (hex_number u.digits) ≡ true = subst (λ v. may_spell body v ≡ true) u.value m in
    elim u.spelled as (λ _. Escapes body escape rest) [
      | inl s ↦ record { letters = 117 ∷ u.digits; spelled = s.0; read = (u-step body (u.digits ++ rest)).0 ∙ digits-read body u.digits rest 4 0 s.1 (omega arith) u.are_hex may }
      | inr s ↦ record { letters = 85 ∷ u.digits; spelled = s.0; read = (u-step body (u.digits ++ rest)).1 ∙ digits-read body u.digits rest 8 0 s.1 (omega arith) u.are_hex may }
    ]

letter-short : (quote c : ℕ) (rest : List ℕ) → is_among (codes "tbnrf\"'\\") c ≡ true
    → reads (c ∷ rest) (states.Quoted (quoted.Backslash (bodies.Short quote))) ≡ reads rest (states.Quoted (quoted.Inside (bodies.Short quote)))
unfolding step
letter-short quote c rest h = among (λ v. reads (v ∷ rest) (states.Quoted (quoted.Backslash (bodies.Short quote))) ≡ reads rest (states.Quoted (quoted.Inside (bodies.Short quote))))
    (codes "tbnrf\"'\\") c (refl, (refl, (refl, (refl, (refl, (refl, (refl, (refl, tt)))))))) h

letter-long : (quote c : ℕ) (rest : List ℕ) → is_among (codes "tbnrf\"'\\") c ≡ true
    → reads (c ∷ rest) (states.Quoted (quoted.Backslash (bodies.Long quote))) ≡ reads rest (states.Quoted (quoted.Inside (bodies.Long quote)))
unfolding step
letter-long quote c rest h = among (λ v. reads (v ∷ rest) (states.Quoted (quoted.Backslash (bodies.Long quote))) ≡ reads rest (states.Quoted (quoted.Inside (bodies.Long quote))))
    (codes "tbnrf\"'\\") c (refl, (refl, (refl, (refl, (refl, (refl, (refl, (refl, tt)))))))) h

short-escapes : (quote : ℕ) (escape : List ℕ) (c : ℕ) (rest : List ℕ) → IsStringEscape escape c → Escapes (bodies.Short quote) escape rest
short-escapes quote escape c rest (inl u) = uchar-escapes (bodies.Short quote) escape c rest u u.scalar
short-escapes quote escape c rest (inr e) = record { letters = e.letter ∷ []; spelled = e.spelled; read = letter-short quote e.letter rest (echar-letter e.letter c e.value) }

long-escapes : (quote : ℕ) (escape : List ℕ) (c : ℕ) (rest : List ℕ) → IsStringEscape escape c → Escapes (bodies.Long quote) escape rest
long-escapes quote escape c rest (inl u) = uchar-escapes (bodies.Long quote) escape c rest u u.scalar
long-escapes quote escape c rest (inr e) = record { letters = e.letter ∷ []; spelled = e.spelled; read = letter-long quote e.letter rest (echar-letter e.letter c e.value) }

iri-escapes : (escape : List ℕ) (c : ℕ) (rest : List ℕ) → IsIriEscape escape c → Escapes bodies.Iri escape rest
iri-escapes escape c rest e = let scalar_value = e.uchar.scalar in let allowed = e.allowed in
    uchar-escapes bodies.Iri escape c rest e.uchar (rw (scalar_value, allowed) refl)

-- a state from which a backslash leads into an escape of the body
by-escape : (body : Body) (state : State) (escape text : List ℕ) → Escapes body escape text
    → ((more : List ℕ) → reads (92 ∷ more) state ≡ reads more (states.Quoted (quoted.Backslash body)))
    → reads (escape ++ text) state ≡ reads text (states.Quoted (quoted.Inside body))
by-escape body state escape text e lead =
    subst (λ v. reads (v ++ text) state ≡ reads text (states.Quoted (quoted.Inside body))) (sym e.spelled) (lead (e.letters ++ text) ∙ e.read)

append-escape : (escape text rest : List ℕ) (state : State) (o : Option Kind) → reads (escape ++ (text ++ rest)) state ≡ o → reads ((escape ++ text) ++ rest) state ≡ o
append-escape escape text rest state o h = rw append_assoc h

-- IRIs
iri-backslash : (more : List ℕ) → reads (92 ∷ more) (states.Quoted (quoted.Inside bodies.Iri)) ≡ reads more (states.Quoted (quoted.Backslash bodies.Iri))
unfolding step
iri-backslash more = refl

iri-step : (c : ℕ) (text : List ℕ) → is_iri c ≡ true → reads (c ∷ text) (states.Quoted (quoted.Inside bodies.Iri)) ≡ reads text (states.Quoted (quoted.Inside bodies.Iri))
unfolding step
iri-step c text h = rw h refl

iri-body : {body iri : List ℕ} (rest : List ℕ) → IsIriBody body iri → reads (body ++ rest) (states.Quoted (quoted.Inside bodies.Iri)) ≡ reads rest (states.Quoted (quoted.Inside bodies.Iri))
iri-body rest escapes.nothing = refl
iri-body rest (escapes.character {c} {text} h k) = iri-step c (text ++ rest) h ∙ iri-body rest k
iri-body rest (escapes.escape {c} {escape} {text} e k) =
    append-escape escape text rest (states.Quoted (quoted.Inside bodies.Iri)) (reads rest (states.Quoted (quoted.Inside bodies.Iri)))
    (by-escape bodies.Iri (states.Quoted (quoted.Inside bodies.Iri)) escape (text ++ rest) (iri-escapes escape c (text ++ rest) e) iri-backslash ∙ iri-body rest k)

less-same : (c d : ℕ) (text : List ℕ) → reads (c ∷ d ∷ text) (states.Quoted quoted.Less) ≡ reads (c ∷ d ∷ text) (states.Quoted (quoted.Inside bodies.Iri))
unfolding step
less-same c d text = go (c == 61) refl
  where
    go : (t : Bool) → (c == 61) ≡ t → reads (c ∷ d ∷ text) (states.Quoted quoted.Less) ≡ reads (c ∷ d ∷ text) (states.Quoted (quoted.Inside bodies.Iri))
    go true e = let first : c ≡ 61 = same c 61 e in rw first refl
    go false e = rw e refl

iri-less : (body : List ℕ) → reads (body ++ 62 ∷ []) (states.Quoted (quoted.Inside bodies.Iri)) ≡ Some kinds.Iri → reads (body ++ 62 ∷ []) (states.Quoted quoted.Less) ≡ Some kinds.Iri
unfolding step
iri-less [] h = refl
iri-less (c ∷ []) h = less-same c 62 [] ∙ h
iri-less (c ∷ d ∷ body) h = less-same c d (body ++ 62 ∷ []) ∙ h

iri-ends : reads (62 ∷ []) (states.Quoted (quoted.Inside bodies.Iri)) ≡ Some kinds.Iri
unfolding step
iri-ends = refl

iri-start : (text : List ℕ) → reads (60 ∷ text) states.Start ≡ reads text (states.Quoted quoted.Less)
unfolding step is_pn_base
iri-start text = refl

pub iri-read : (text : List ℕ) → IsIri text → reads text states.Start ≡ Some kinds.Iri
iri-read text h = subst (λ v. reads v states.Start ≡ Some kinds.Iri) (sym h.spelled)
    (iri-start (h.body ++ 62 ∷ []) ∙ iri-less h.body (iri-body (62 ∷ []) h.is_body ∙ iri-ends))

-- strings between two quotes
abbrev in_short : ℕ → State
in_short quote = states.Quoted (quoted.Inside (bodies.Short quote))

short-backslash : (quote : ℕ) → is_quote quote ≡ true → (more : List ℕ) → (reads (92 ∷ more) (in_short quote) ≡ reads more (states.Quoted (quoted.Backslash (bodies.Short quote))))
    × (reads (92 ∷ more) (states.Quoted (quoted.Quote quote)) ≡ reads more (states.Quoted (quoted.Backslash (bodies.Short quote))))
unfolding step
short-backslash quote q more = by_quote (λ v. (reads (92 ∷ more) (in_short v) ≡ reads more (states.Quoted (quoted.Backslash (bodies.Short v))))
    × (reads (92 ∷ more) (states.Quoted (quoted.Quote v)) ≡ reads more (states.Quoted (quoted.Backslash (bodies.Short v))))) quote q (refl, refl) (refl, refl)

short-step : (quote c : ℕ) (text : List ℕ) → is_plain_in quote c ≡ true → (reads (c ∷ text) (in_short quote) ≡ reads text (in_short quote)) × (reads (c ∷ text) (states.Quoted (quoted.Quote quote)) ≡ reads text (in_short quote))
unfolding step
short-step quote c text h = (rw h refl, rw h refl)

short-ends : (quote : ℕ) → is_quote quote ≡ true → (reads (quote ∷ []) (in_short quote) ≡ Some kinds.String) × (reads (quote ∷ []) (states.Quoted (quoted.Quote quote)) ≡ Some kinds.String)
unfolding step
short-ends quote q = by_quote (λ v. (reads (v ∷ []) (in_short v) ≡ Some kinds.String) × (reads (v ∷ []) (states.Quoted (quoted.Quote v)) ≡ Some kinds.String)) quote q (refl, refl) (refl, refl)

short-body : (quote : ℕ) {body value : List ℕ} (rest : List ℕ) → is_quote quote ≡ true → IsEscaped (is_plain_in quote) IsStringEscape body value
    → reads (body ++ rest) (in_short quote) ≡ reads rest (in_short quote)
short-body quote rest q escapes.nothing = refl
short-body quote rest q (escapes.character {c} {text} h k) = (short-step quote c (text ++ rest) h).0 ∙ short-body quote rest q k
short-body quote rest q (escapes.escape {c} {escape} {text} e k) =
    append-escape escape text rest (in_short quote) (reads rest (in_short quote))
    (by-escape (bodies.Short quote) (in_short quote) escape (text ++ rest) (short-escapes quote escape c (text ++ rest) e) (λ more. (short-backslash quote q more).0) ∙ short-body quote rest q k)

short-begins : {body value : List ℕ} (quote : ℕ) → is_quote quote ≡ true → IsEscaped (is_plain_in quote) IsStringEscape body value
    → reads (body ++ quote ∷ []) (states.Quoted (quoted.Quote quote)) ≡ Some kinds.String
short-begins quote q escapes.nothing = (short-ends quote q).1
short-begins quote q (escapes.character {c} {text} h k) = (short-step quote c (text ++ quote ∷ []) h).1 ∙ (short-body quote (quote ∷ []) q k ∙ (short-ends quote q).0)
short-begins quote q (escapes.escape {c} {escape} {text} e k) =
    append-escape escape text (quote ∷ []) (states.Quoted (quoted.Quote quote)) (Some kinds.String)
    (by-escape (bodies.Short quote) (states.Quoted (quoted.Quote quote)) escape (text ++ quote ∷ []) (short-escapes quote escape c (text ++ quote ∷ []) e) (λ more. (short-backslash quote q more).1)
    ∙ (short-body quote (quote ∷ []) q k ∙ (short-ends quote q).0))

quote-start : (quote : ℕ) (text : List ℕ) → is_quote quote ≡ true → (reads (quote ∷ text) states.Start ≡ reads text (states.Quoted (quoted.Quote quote)))
    × (reads (quote ∷ quote ∷ quote ∷ text) states.Start ≡ reads text (states.Quoted (quoted.Inside (bodies.Long quote))))
unfolding step is_pn_base
quote-start quote text q = by_quote (λ v. (reads (v ∷ text) states.Start ≡ reads text (states.Quoted (quoted.Quote v)))
    × (reads (v ∷ v ∷ v ∷ text) states.Start ≡ reads text (states.Quoted (quoted.Inside (bodies.Long v))))) quote q (refl, refl) (refl, refl)

pub short-read : (text : List ℕ) → IsShortString text → reads text states.Start ≡ Some kinds.String
short-read text h = subst (λ v. reads v states.Start ≡ Some kinds.String) (sym h.spelled)
    ((quote-start h.quote (h.body ++ h.quote ∷ []) h.quotes).0 ∙ short-begins h.quote h.quotes h.is_body)

-- long strings
abbrev row_state : ℕ → ℕ → State
row_state quote zero = states.Quoted (quoted.Inside (bodies.Long quote))
row_state quote (suc zero) = states.Quoted (quoted.OneInside quote)
row_state quote (suc (suc n)) = states.Quoted (quoted.TwoInside quote)

row-quote : (quote n : ℕ) (text : List ℕ) → is_quote quote ≡ true → n < 2 → reads (quote ∷ text) (row_state quote n) ≡ reads text (row_state quote (suc n))
unfolding step
row-quote quote zero text q h = by_quote (λ v. reads (v ∷ text) (row_state v 0) ≡ reads text (row_state v 1)) quote q refl refl
row-quote quote (suc zero) text q h = by_quote (λ v. reads (v ∷ text) (row_state v 1) ≡ reads text (row_state v 2)) quote q refl refl
row-quote quote (suc (suc n)) text q h = absurd (omega arith)

row-plain : (quote n c : ℕ) (text : List ℕ) → is_long_plain quote c ≡ true → reads (c ∷ text) (row_state quote n) ≡ reads text (row_state quote 0)
unfolding step
row-plain quote zero c text h = rw h refl
row-plain quote (suc zero) c text h = rw h refl
row-plain quote (suc (suc n)) c text h = rw h refl

row-backslash : (quote n : ℕ) (text : List ℕ) → is_quote quote ≡ true → reads (92 ∷ text) (row_state quote n) ≡ reads text (states.Quoted (quoted.Backslash (bodies.Long quote)))
unfolding step
row-backslash quote zero text q = by_quote (λ v. reads (92 ∷ text) (row_state v 0) ≡ reads text (states.Quoted (quoted.Backslash (bodies.Long v)))) quote q refl refl
row-backslash quote (suc zero) text q = by_quote (λ v. reads (92 ∷ text) (row_state v 1) ≡ reads text (states.Quoted (quoted.Backslash (bodies.Long v)))) quote q refl refl
row-backslash quote (suc (suc n)) text q = by_quote (λ v. reads (92 ∷ text) (row_state v (suc (suc n))) ≡ reads text (states.Quoted (quoted.Backslash (bodies.Long v)))) quote q refl refl

long-ends : (quote : ℕ) → is_quote quote ≡ true → reads (quote ∷ quote ∷ quote ∷ []) (row_state quote 0) ≡ Some kinds.String
unfolding step
long-ends quote q = by_quote (λ v. reads (v ∷ v ∷ v ∷ []) (row_state v 0) ≡ Some kinds.String) quote q refl refl

long-body : (quote : ℕ) {n : ℕ} {body value : List ℕ} → is_quote quote ≡ true → IsLongBody quote n body value
    → reads (body ++ quote ∷ quote ∷ quote ∷ []) (row_state quote n) ≡ Some kinds.String
long-body quote q terminals.nothing = long-ends quote q
long-body quote q (terminals.one_quote {row} {text} h k) = row-quote quote row (text ++ quote ∷ quote ∷ quote ∷ []) q h ∙ long-body quote q k
long-body quote q (terminals.character {row} {c} {text} h k) = row-plain quote row c (text ++ quote ∷ quote ∷ quote ∷ []) h ∙ long-body quote q k
long-body quote q (terminals.escape {row} {c} {escape} {text} e k) =
    append-escape escape text (quote ∷ quote ∷ quote ∷ []) (row_state quote row) (Some kinds.String)
    (by-escape (bodies.Long quote) (row_state quote row) escape (text ++ quote ∷ quote ∷ quote ∷ []) (long-escapes quote escape c (text ++ quote ∷ quote ∷ quote ∷ []) e)
    (λ more. row-backslash quote row more q) ∙ long-body quote q k)

pub long-read : (text : List ℕ) → IsLongString text → reads text states.Start ≡ Some kinds.String
long-read text h = subst (λ v. reads v states.Start ≡ Some kinds.String) (sym h.spelled)
    ((quote-start h.quote (h.body ++ h.quote ∷ h.quote ∷ h.quote ∷ []) h.quotes).1 ∙ long-body h.quote h.quotes h.is_body)
