-- What is written with escapes is what the reading of escapes gives.
use Rattle.std.proofs.Common.{◌≡◌, ◌∙◌, ◌<◌, ◌≤◌, ◌+◌, ◌-◌, ◌*◌, ℕ, Bool, true, false, nat_le, eqb, List, [], ◌∷◌, ◌++◌, inl, inr, length, Some, None, refl, sym, ap, subst, arith}
use Rattle.std.proofs.lemmas.Bool.{and_parts, eqb-true}
use Rattle.std.proofs.lemmas.Bool.Decides.{nat_tests}
use Rattle.std.proofs.Math.Utf8.{scalar_cases}
use Rattle.std.specs.List.{list_all}
use Rattle.std.specs.Char.{IsScalar, digit_value}
use Rattle.term_core.specs.Characters.{is_hex, is_iri, AreAll, is_scalar}
use Rattle.term_core.specs.Escapes.{IsUchar, IsStringEscape, IsIriBody, IsEscaped, nothing, character, escape, echar_value, hex_onto}
use Rattle.std.specs.Prelude.{codes}
use Rattle.term_core.specs.Terminals.{is_plain_in, is_long_plain, is_quote, IsLongBody}
use Rattle.term_core.specs.Terminals as long
use Rattle.sparql_lex.proofs.Bools.{among}
use Rattle.sparql_symbol.specs.declared.undoing.Place.TheVariants as places
use Rattle.sparql_symbol.specs.Undoing.{undone, with_hex_digit, hex_value}

-- each number on the way is no greater than the last
hex_onto-grows : (number : ℕ) (digits : List ℕ) → number ≤ hex_onto number digits
hex_onto-grows number [] = omega arith
hex_onto-grows number (d ∷ digits) = let more = hex_onto-grows (number * 16 + digit_value d) digits in omega arith

scalar-small : (n : ℕ) → IsScalar n → n < 1114112
scalar-small n h = elim (scalar_cases n h) [ inl low ↦ omega (arith, low) | inr high ↦ high.1 ]

scalar-is : (n : ℕ) → IsScalar n → is_scalar n ≡ true
scalar-is n h = elim (scalar_cases n h) [
  | inl low ↦ grind (arith, nat_tests)
  | inr high ↦ let least : 57344 ≤ n = high.0 in let most : n < 1114112 = high.1 in grind (arith, nat_tests)
]

hex-small : (d : ℕ) → is_hex d ≡ true → digit_value d < 16
hex-small d h = grind (arith, nat_tests)

hex-value : (d : ℕ) → is_hex d ≡ true → hex_value d ≡ digit_value d
hex-value d h = let small = hex-small d h in grind (arith, nat_tests)

-- a number with one more digit, where it has room
digit-added : (number d : ℕ) → is_hex d ≡ true → number * 16 + digit_value d < 1114112 → with_hex_digit number d ≡ number * 16 + digit_value d
digit-added number d h small = let value = hex-value d h in omega (arith, value)

-- the digits of an escape
digits-undone : (digits rest : List ℕ) (number left : ℕ) → length digits ≡ left → 0 < left → AreAll is_hex digits → IsScalar (hex_onto number digits)
    → undone (places.Digits left number) (digits ++ rest) ≡ hex_onto number digits ∷ undone places.Plain rest
digits-undone [] rest number left e some hex scalar = absurd (omega arith)
digits-undone (d ∷ []) rest number left e some hex scalar =
    let parts = and_parts (is_hex d) (list_all is_hex []) hex in
    let added = digit-added number d parts.0 (scalar-small (number * 16 + digit_value d) scalar) in
    let last : nat_le left 1 ≡ true = grind (arith, nat_tests) in
    let test = scalar-is (number * 16 + digit_value d) scalar in
    rw (last, added, test) refl
digits-undone (d ∷ f ∷ digits) rest number left e some hex scalar =
    let parts = and_parts (is_hex d) (list_all is_hex (f ∷ digits)) hex in
    let more = hex_onto-grows (number * 16 + digit_value d) (f ∷ digits) in
    let small : hex_onto (number * 16 + digit_value d) (f ∷ digits) < 1114112 = scalar-small (hex_onto (number * 16 + digit_value d) (f ∷ digits)) scalar in
    let added = digit-added number d parts.0 (omega (arith, more, small)) in
    let last : nat_le left 1 ≡ false = grind (arith, nat_tests) in
    rw (last, added) (digits-undone (f ∷ digits) rest (number * 16 + digit_value d) (left - 1) (omega arith) (omega arith) parts.1 scalar)

uchar-undone : (text rest : List ℕ) (c : ℕ) → IsUchar text c → undone places.Plain (text ++ rest) ≡ c ∷ undone places.Plain rest
uchar-undone text rest c h = elim h.spelled [
  | inl short ↦ ap (λ t. undone places.Plain (t ++ rest)) short.0 ∙ (digits-undone h.digits rest 0 4 short.1 (omega arith) h.are_hex (subst IsScalar h.value h.scalar) ∙ ap (λ n. n ∷ undone places.Plain rest) (sym h.value))
  | inr long ↦ ap (λ t. undone places.Plain (t ++ rest)) long.0 ∙ (digits-undone h.digits rest 0 8 long.1 (omega arith) h.are_hex (subst IsScalar h.value h.scalar) ∙ ap (λ n. n ∷ undone places.Plain rest) (sym h.value))
]

-- a letter that stands for a character is neither u nor U
letter-undone : (letter c : ℕ) (rest : List ℕ) → echar_value letter ≡ Some c → undone places.Letter (letter ∷ rest) ≡ c ∷ undone places.Plain rest
letter-undone letter c rest e = go (eqb letter 117) refl (eqb letter 85) refl
  where
    never : (n : ℕ) → letter ≡ n → echar_value n ≡ None → ⊥
    never n same none = let no : Some c ≡ None = sym e ∙ (ap echar_value same ∙ none) in absurd cc

    go : (t : Bool) → eqb letter 117 ≡ t → (u : Bool) → eqb letter 85 ≡ u → undone places.Letter (letter ∷ rest) ≡ c ∷ undone places.Plain rest
    go true is u other = absurd (never 117 (eqb-true letter 117 is) refl)
    go false is true other = absurd (never 85 (eqb-true letter 85 other) refl)
    go false is false other = rw (is, other, e) refl

pub escape-undone : (text rest : List ℕ) (c : ℕ) → IsStringEscape text c → undone places.Plain (text ++ rest) ≡ c ∷ undone places.Plain rest
escape-undone text rest c (inl h) = uchar-undone text rest c h
escape-undone text rest c (inr h) = ap (λ t. undone places.Plain (t ++ rest)) h.spelled ∙ letter-undone h.letter c rest h.value

-- a character that stands for itself
pub plain-undone : (c : ℕ) (rest : List ℕ) → (c ≡ 92 → ⊥) → undone places.Plain (c ∷ rest) ≡ c ∷ undone places.Plain rest
plain-undone c rest h = let other : (eqb c 92) ≡ false = grind (arith, nat_tests) in rw other refl

-- a text with escapes, where no backslash stands for itself
pub escaped-undone : {plain : ℕ → Bool} {IsEscape : List ℕ → ℕ → Type 0} {text value : List ℕ}
    → ((c : ℕ) → plain c ≡ true → c ≡ 92 → ⊥) → ((e : List ℕ) (c : ℕ) → IsEscape e c → IsStringEscape e c)
    → IsEscaped plain IsEscape text value → undone places.Plain text ≡ value
escaped-undone apart strings nothing = refl
escaped-undone apart strings (character {c} {text} p h) = plain-undone c text (apart c p) ∙ ap (λ t. c ∷ t) (escaped-undone apart strings h)
escaped-undone apart strings (escape {c} {escape = e} {text} p h) = escape-undone e text c (strings e c p) ∙ ap (λ t. c ∷ t) (escaped-undone apart strings h)

iri-plain : (c : ℕ) → is_iri c ≡ true → c ≡ 92 → ⊥
iri-plain c h e = let no : is_iri 92 ≡ true = ap is_iri (sym e) ∙ h in absurd cc

-- an IRI behind its escapes
pub iri-undone : {text iri : List ℕ} → IsIriBody text iri → undone places.Plain text ≡ iri
iri-undone h = escaped-undone iri-plain (λ e c p. inl p.uchar) h

-- ---- strings

-- a test that fails at a backslash
apart : (p : ℕ → Bool) → p 92 ≡ false → (c : ℕ) → p c ≡ true → c ≡ 92 → ⊥
apart p out c h e = let no : true ≡ false = sym h ∙ (ap p e ∙ out) in absurd cc

short-plain : (quote : ℕ) → is_quote quote ≡ true → is_plain_in quote 92 ≡ false
short-plain quote h = among (λ v. is_plain_in v 92 ≡ false) (codes "\"'") quote (refl, (refl, tt)) h

long-plain : (quote : ℕ) → is_quote quote ≡ true → is_long_plain quote 92 ≡ false
long-plain quote h = among (λ v. is_long_plain v 92 ≡ false) (codes "\"'") quote (refl, (refl, tt)) h

quote-other : (quote : ℕ) → is_quote quote ≡ true → quote ≡ 92 → ⊥
quote-other quote h = apart is_quote refl quote h

-- a short string's characters behind its escapes
pub short-undone : (quote : ℕ) {text value : List ℕ} → is_quote quote ≡ true → IsEscaped (is_plain_in quote) IsStringEscape text value
    → undone places.Plain text ≡ value
short-undone quote q h = escaped-undone (apart (is_plain_in quote) (short-plain quote q)) (λ e c p. p) h

-- a long string's characters behind its escapes
pub long-undone : (quote : ℕ) {row : ℕ} {text value : List ℕ} → is_quote quote ≡ true → IsLongBody quote row text value
    → undone places.Plain text ≡ value
long-undone quote q long.nothing = refl
long-undone quote q (long.one_quote {text = text} p h) = plain-undone quote text (quote-other quote q) ∙ ap (λ t. quote ∷ t) (long-undone quote q h)
long-undone quote q (long.character {c = c} {text = text} p h) =
    plain-undone c text (apart (is_long_plain quote) (long-plain quote q) c p) ∙ ap (λ t. c ∷ t) (long-undone quote q h)
long-undone quote q (long.escape {c = c} {escape = e} {text = text} p h) = escape-undone e text c p ∙ ap (λ t. c ∷ t) (long-undone quote q h)
