-- What the states of numbers read.
use Rattle.std.proofs.Common.{◌≡◌, ◌⊎◌, inl, inr, ℕ, true, List, [], ◌∷◌, ◌++◌, append_assoc, Some, refl, sym, subst, ap, ◌∙◌}
use Rattle.std.specs.Prelude.{◌==◌, codes}
use Rattle.std.proofs.lemmas.List.{append-nil}
use Rattle.term_core.specs.declared.token.Kind.{Kind}
use Rattle.term_core.specs.declared.token.Kind.TheVariants as kinds
use Rattle.sparql_lex.specs.declared.state.State.TheVariants as states
use Rattle.term_core.specs.Characters.{is_digit, is_pn_base, is_among, AreAll}
use Rattle.term_core.specs.Terminals.{IsInteger, IsDecimal, IsPointed, IsExponent, IsDouble, IsToken}
use Rattle.sparql_lex.specs.declared.state.Number.{Number}
use Rattle.sparql_lex.specs.declared.state.Number.TheVariants as numbers
use Rattle.sparql_lex.specs.Steps.{step, number_rows, is_exponent}
use Rattle.sparql_lex.proofs.Bools.{same, among, all-first, all-one, all-append, digit-no_letter, digit-no_pn_base}
use Rattle.sparql_lex.proofs.MarkStates.{is_sign}
use Rattle.sparql_lex.proofs.NameStates.{some_kind, not-empty}
use Rattle.sparql_lex.proofs.Reading.{reads, read-cases}

-- what may follow in each state, up to a token of the kind: with any digits that may stand before
abbrev pub NumberTail : Number → Kind → List ℕ → Type 0
NumberTail numbers.Dot kind text = IsToken kind (46 ∷ text)
NumberTail numbers.Integer kind text = (digits : List ℕ) → IsInteger digits → IsToken kind (digits ++ text)
NumberTail numbers.Point kind text = (digits : List ℕ) → IsInteger digits → IsToken kind (digits ++ 46 ∷ text)
NumberTail numbers.Decimal kind text = (whole part : List ℕ) → AreAll is_digit whole → IsInteger part → IsToken kind (whole ++ 46 ∷ (part ++ text))
NumberTail numbers.Exponent kind text = (kind ≡ kinds.Double) × ((c : ℕ) → is_exponent c ≡ true → IsExponent (c ∷ text))
NumberTail numbers.ExponentSign kind text = (kind ≡ kinds.Double) × ((c sign : ℕ) → is_exponent c ≡ true → is_among (codes "+-") sign ≡ true → IsExponent (c ∷ sign ∷ text))
NumberTail numbers.Double kind text = (kind ≡ kinds.Double) × AreAll is_digit text

pub one-digit : (c : ℕ) → is_digit c ≡ true → IsInteger (c ∷ [])
one-digit c h = record { some = not-empty c []; digits = all-one is_digit c [] h refl }

first-digit : (c : ℕ) (text : List ℕ) → is_digit c ≡ true → AreAll is_digit text → IsInteger (c ∷ text)
first-digit c text h k = record { some = not-empty c text; digits = all-one is_digit c text h k }

more-digits : (digits : List ℕ) (c : ℕ) → IsInteger digits → is_digit c ≡ true → IsInteger (digits ++ c ∷ [])
more-digits [] c h k = absurd (h.some refl)
more-digits (d ∷ digits) c h k = record { some = not-empty d (digits ++ c ∷ []); digits = all-append is_digit (d ∷ digits) (c ∷ []) h.digits (all-one is_digit c [] k refl) }

pub of_kind : (kind other : Kind) (text : List ℕ) → kind ≡ other → IsToken other text → IsToken kind text
of_kind kind other text e h = subst (λ k. IsToken k text) (sym e) h

ends-integer : (kind : Kind) → kind ≡ kinds.Integer → NumberTail numbers.Integer kind []
ends-integer kind e digits h = of_kind kind kinds.Integer (digits ++ []) e (subst IsInteger (sym (append-nil digits)) h)

ends-decimal : (kind : Kind) → kind ≡ kinds.Decimal → NumberTail numbers.Decimal kind []
ends-decimal kind e whole part w p =
    of_kind kind kinds.Decimal (whole ++ 46 ∷ (part ++ [])) e (record { whole = whole; part = part; are_digits = w; is_part = p; spelled = ap (λ v. whole ++ 46 ∷ v) (append-nil part) })

integer-digit : (c : ℕ) (text : List ℕ) (kind : Kind) → is_digit c ≡ true → NumberTail numbers.Integer kind text → NumberTail numbers.Integer kind (c ∷ text)
integer-digit c text kind t r digits h = subst (IsToken kind) (append_assoc digits (c ∷ []) text) (r (digits ++ c ∷ []) (more-digits digits c h t))

integer-point : (c : ℕ) (text : List ℕ) (kind : Kind) → (c == 46) ≡ true → NumberTail numbers.Point kind text → NumberTail numbers.Integer kind (c ∷ text)
integer-point c text kind t r digits h = subst (λ v. IsToken kind (digits ++ v ∷ text)) (sym (same c 46 t)) (r digits h)

integer-exponent : (c : ℕ) (text : List ℕ) (kind : Kind) → is_exponent c ≡ true → NumberTail numbers.Exponent kind text → NumberTail numbers.Integer kind (c ∷ text)
integer-exponent c text kind t r digits h =
    of_kind kind kinds.Double (digits ++ c ∷ text) r.0 (record { mantissa = digits; exponent = c ∷ text; is_mantissa = integer h; is_exponent = r.1 c t; spelled = refl })
  where
    integer : IsInteger digits → IsInteger digits ⊎ IsDecimal digits ⊎ IsPointed digits
    integer h = inl h

point-digit : (c : ℕ) (text : List ℕ) (kind : Kind) → is_digit c ≡ true → NumberTail numbers.Decimal kind text → NumberTail numbers.Point kind (c ∷ text)
point-digit c text kind t r digits h = r digits (c ∷ []) h.digits (one-digit c t)

point-exponent : (c : ℕ) (text : List ℕ) (kind : Kind) → is_exponent c ≡ true → NumberTail numbers.Exponent kind text → NumberTail numbers.Point kind (c ∷ text)
point-exponent c text kind t r digits h =
    of_kind kind kinds.Double (digits ++ 46 ∷ c ∷ text) r.0
    (record { mantissa = digits ++ 46 ∷ []; exponent = c ∷ text; is_mantissa = inr (inr (record { whole = digits; is_whole = h; spelled = refl })); is_exponent = r.1 c t; spelled = sym (append_assoc digits (46 ∷ []) (c ∷ text)) })

decimal-digit : (c : ℕ) (text : List ℕ) (kind : Kind) → is_digit c ≡ true → NumberTail numbers.Decimal kind text → NumberTail numbers.Decimal kind (c ∷ text)
decimal-digit c text kind t r whole part w p =
    subst (λ v. IsToken kind (whole ++ 46 ∷ v)) (append_assoc part (c ∷ []) text) (r whole (part ++ c ∷ []) w (more-digits part c p t))

decimal-exponent : (c : ℕ) (text : List ℕ) (kind : Kind) → is_exponent c ≡ true → NumberTail numbers.Exponent kind text → NumberTail numbers.Decimal kind (c ∷ text)
decimal-exponent c text kind t r whole part w p =
    of_kind kind kinds.Double (whole ++ 46 ∷ (part ++ c ∷ text)) r.0
    (record { mantissa = whole ++ 46 ∷ part; exponent = c ∷ text; is_mantissa = inr (inl (record { whole = whole; part = part; are_digits = w; is_part = p; spelled = refl })); is_exponent = r.1 c t; spelled = sym (append_assoc whole (46 ∷ part) (c ∷ text)) })

exponent-digit : (c : ℕ) (text : List ℕ) (kind : Kind) → is_digit c ≡ true → NumberTail numbers.Double kind text → NumberTail numbers.Exponent kind (c ∷ text)
exponent-digit c text kind t r = (r.0, λ e h. record { letter = e; digits = c ∷ text; is_letter = h; are_digits = first-digit c text t r.1; spelled = inl refl })

exponent-sign : (c : ℕ) (text : List ℕ) (kind : Kind) → is_among (codes "+-") c ≡ true → NumberTail numbers.ExponentSign kind text → NumberTail numbers.Exponent kind (c ∷ text)
exponent-sign c text kind t r = (r.0, λ e h. r.1 e c h t)

sign-digit : (c : ℕ) (text : List ℕ) (kind : Kind) → is_digit c ≡ true → NumberTail numbers.Double kind text → NumberTail numbers.ExponentSign kind (c ∷ text)
sign-digit c text kind t r = (r.0, λ e sign h s. record { letter = e; digits = c ∷ text; is_letter = h; are_digits = first-digit c text t r.1; spelled = inr (sign, s, refl) })

pub number-sound : (text : List ℕ) (number : Number) (kind : Kind) → reads text (states.Number number) ≡ Some kind → NumberTail number kind text
unfolding step
number-sound [] numbers.Dot kind h = of_kind kind kinds.Sign (46 ∷ []) (some_kind kinds.Sign kind h) (is_sign (46 ∷ []) refl)
number-sound [] numbers.Integer kind h = ends-integer kind (some_kind kinds.Integer kind h)
number-sound [] numbers.Decimal kind h = ends-decimal kind (some_kind kinds.Decimal kind h)
number-sound [] numbers.Double kind h = (some_kind kinds.Double kind h, refl)
number-sound [] numbers.Point kind h = absurd (cc)
number-sound [] numbers.Exponent kind h = absurd (cc)
number-sound [] numbers.ExponentSign kind h = absurd (cc)
number-sound (c ∷ text) numbers.Dot kind h =
    read-cases (number_rows numbers.Dot c) text kind (NumberTail numbers.Dot kind (c ∷ text))
    (λ t r. number-sound text numbers.Decimal kind r [] (c ∷ []) refl (one-digit c t), tt) h
number-sound (c ∷ text) numbers.Integer kind h =
    read-cases (number_rows numbers.Integer c) text kind (NumberTail numbers.Integer kind (c ∷ text)) (
      λ t r. integer-digit c text kind t (number-sound text numbers.Integer kind r),
      (
        λ t r. integer-point c text kind t (number-sound text numbers.Point kind r),
        (λ t r. integer-exponent c text kind t (number-sound text numbers.Exponent kind r), tt),
      ),
    ) h
number-sound (c ∷ text) numbers.Point kind h =
    read-cases (number_rows numbers.Point c) text kind (NumberTail numbers.Point kind (c ∷ text)) (
      λ t r. point-digit c text kind t (number-sound text numbers.Decimal kind r),
      (λ t r. point-exponent c text kind t (number-sound text numbers.Exponent kind r), tt),
    ) h
number-sound (c ∷ text) numbers.Decimal kind h =
    read-cases (number_rows numbers.Decimal c) text kind (NumberTail numbers.Decimal kind (c ∷ text)) (
      λ t r. decimal-digit c text kind t (number-sound text numbers.Decimal kind r),
      (λ t r. decimal-exponent c text kind t (number-sound text numbers.Exponent kind r), tt),
    ) h
number-sound (c ∷ text) numbers.Exponent kind h =
    read-cases (number_rows numbers.Exponent c) text kind (NumberTail numbers.Exponent kind (c ∷ text)) (
      λ t r. exponent-digit c text kind t (number-sound text numbers.Double kind r),
      (λ t r. exponent-sign c text kind t (number-sound text numbers.ExponentSign kind r), tt),
    ) h
number-sound (c ∷ text) numbers.ExponentSign kind h =
    read-cases (number_rows numbers.ExponentSign c) text kind (NumberTail numbers.ExponentSign kind (c ∷ text))
    (λ t r. sign-digit c text kind t (number-sound text numbers.Double kind r), tt) h
number-sound (c ∷ text) numbers.Double kind h =
    read-cases (number_rows numbers.Double c) text kind (NumberTail numbers.Double kind (c ∷ text))
    (λ t r. let d = number-sound text numbers.Double kind r in (d.0, all-one is_digit c text t d.1), tt) h

-- a digit leads on
start-digit : (c : ℕ) (text : List ℕ) → is_digit c ≡ true → reads (c ∷ text) states.Start ≡ reads text (states.Number numbers.Integer)
unfolding step
start-digit c text h = rw (digit-no_letter c h, digit-no_pn_base c h, h) refl

abbrev after_digit : Number → Number
after_digit numbers.Integer = numbers.Integer
after_digit numbers.Dot = numbers.Decimal
after_digit numbers.Point = numbers.Decimal
after_digit numbers.Decimal = numbers.Decimal
after_digit _ = numbers.Double

abbrev LeadsTo : Number → Number → Type 0
LeadsTo from to = after_digit from ≡ to

digit-step : (from to : Number) (c : ℕ) (text : List ℕ) → is_digit c ≡ true → LeadsTo from to → reads (c ∷ text) (states.Number from) ≡ reads text (states.Number to)
unfolding step
digit-step numbers.Dot to c text h e = rw h (ap (λ v. reads text (states.Number v)) e)
digit-step numbers.Integer to c text h e = rw h (ap (λ v. reads text (states.Number v)) e)
digit-step numbers.Point to c text h e = rw h (ap (λ v. reads text (states.Number v)) e)
digit-step numbers.Decimal to c text h e = rw h (ap (λ v. reads text (states.Number v)) e)
digit-step numbers.Exponent to c text h e = rw h (ap (λ v. reads text (states.Number v)) e)
digit-step numbers.ExponentSign to c text h e = rw h (ap (λ v. reads text (states.Number v)) e)
digit-step numbers.Double to c text h e = rw h (ap (λ v. reads text (states.Number v)) e)

-- digits lead on, and stay in the state
stays : (from to : Number) (digits rest : List ℕ) → LeadsTo from to → LeadsTo to to → IsInteger digits
    → reads (digits ++ rest) (states.Number from) ≡ reads rest (states.Number to)
stays from to [] rest e f h = absurd (h.some refl)
stays from to (c ∷ digits) rest e f h =
    let d = all-first is_digit c digits h.digits in
    digit-step from to c (digits ++ rest) d.0 e ∙ all digits d.1
  where
    all : (digits : List ℕ) → AreAll is_digit digits → reads (digits ++ rest) (states.Number to) ≡ reads rest (states.Number to)
    all [] k = refl
    all (c ∷ digits) k = let d = all-first is_digit c digits k in digit-step to to c (digits ++ rest) d.0 f ∙ all digits d.1

integer-start : (digits rest : List ℕ) → IsInteger digits → reads (digits ++ rest) states.Start ≡ reads rest (states.Number numbers.Integer)
integer-start [] rest h = absurd (h.some refl)
integer-start (c ∷ []) rest h = let d = all-first is_digit c [] h.digits in start-digit c rest d.0
integer-start (c ∷ e ∷ digits) rest h =
    let d = all-first is_digit c (e ∷ digits) h.digits in
    start-digit c (e ∷ (digits ++ rest)) d.0 ∙ stays numbers.Integer numbers.Integer (e ∷ digits) rest refl refl (record { some = not-empty e digits; digits = d.1 })

decimal-start : (whole part rest : List ℕ) → AreAll is_digit whole → IsInteger part
    → reads (whole ++ 46 ∷ (part ++ rest)) states.Start ≡ reads rest (states.Number numbers.Decimal)
unfolding step is_pn_base
decimal-start [] part rest h p = stays numbers.Dot numbers.Decimal part rest refl refl p
decimal-start (c ∷ whole) part rest h p =
    integer-start (c ∷ whole) (46 ∷ (part ++ rest)) (record { some = not-empty c whole; digits = h }) ∙ stays numbers.Point numbers.Decimal part rest refl refl p

pub integer-read : (text : List ℕ) → IsInteger text → reads text states.Start ≡ Some kinds.Integer
integer-read text h = subst (λ v. reads v states.Start ≡ Some kinds.Integer) (append-nil text) (integer-start text [] h)

pub decimal-read : (text : List ℕ) → IsDecimal text → reads text states.Start ≡ Some kinds.Decimal
decimal-read text h =
    let e : text ≡ h.whole ++ 46 ∷ (h.part ++ []) = h.spelled ∙ sym (ap (λ v. h.whole ++ 46 ∷ v) (append-nil h.part)) in
    subst (λ v. reads v states.Start ≡ Some kinds.Decimal) (sym e) (decimal-start h.whole h.part [] h.are_digits h.is_part)

abbrev AllRead : List ℕ → Type 0
AllRead text = (reads text (states.Number numbers.Integer) ≡ Some kinds.Double) × (reads text (states.Number numbers.Point) ≡ Some kinds.Double) × (reads text (states.Number numbers.Decimal) ≡ Some kinds.Double)

digits-end : (from : Number) (digits : List ℕ) → LeadsTo from numbers.Double → IsInteger digits → reads digits (states.Number from) ≡ Some kinds.Double
digits-end from digits e h = subst (λ v. reads v (states.Number from) ≡ Some kinds.Double) (append-nil digits) (stays from numbers.Double digits [] e refl h)

exponent-same : (text : List ℕ) (c : ℕ) → is_among (codes "eE") c ≡ true → reads text (states.Number numbers.Exponent) ≡ Some kinds.Double → AllRead (c ∷ text)
unfolding step
exponent-same text c h r = among (λ v. AllRead (v ∷ text)) (codes "eE") c ((r, r, r), ((r, r, r), tt)) h

sign-same : (text : List ℕ) (c : ℕ) → is_among (codes "+-") c ≡ true → reads text (states.Number numbers.ExponentSign) ≡ Some kinds.Double
    → reads (c ∷ text) (states.Number numbers.Exponent) ≡ Some kinds.Double
unfolding step
sign-same text c h r = among (λ v. reads (v ∷ text) (states.Number numbers.Exponent) ≡ Some kinds.Double) (codes "+-") c (r, (r, tt)) h

exponent-read : (text : List ℕ) → IsExponent text → AllRead text
exponent-read text h = elim h.spelled as (λ _. AllRead text) [
  | inl e ↦ subst AllRead (sym e) (exponent-same h.digits h.letter h.is_letter (digits-end numbers.Exponent h.digits refl h.are_digits))
  | inr s ↦ subst AllRead (sym s.2) (exponent-same (s.0 ∷ h.digits) h.letter h.is_letter
      (sign-same h.digits s.0 s.1 (digits-end numbers.ExponentSign h.digits refl h.are_digits)))
]

point-same : (text : List ℕ) → reads (46 ∷ text) (states.Number numbers.Integer) ≡ reads text (states.Number numbers.Point)
unfolding step
point-same text = refl

mantissa-read : (mantissa exponent : List ℕ) → IsInteger mantissa ⊎ IsDecimal mantissa ⊎ IsPointed mantissa → AllRead exponent
    → reads (mantissa ++ exponent) states.Start ≡ Some kinds.Double
mantissa-read mantissa exponent (inl h) r = integer-start mantissa exponent h ∙ r.0
mantissa-read mantissa exponent (inr (inl h)) r =
    let e : mantissa ++ exponent ≡ h.whole ++ 46 ∷ (h.part ++ exponent) = ap (λ v. v ++ exponent) h.spelled ∙ append_assoc h.whole (46 ∷ h.part) exponent in
    subst (λ v. reads v states.Start ≡ Some kinds.Double) (sym e) (decimal-start h.whole h.part exponent h.are_digits h.is_part ∙ r.2)
mantissa-read mantissa exponent (inr (inr h)) r =
    let e : mantissa ++ exponent ≡ h.whole ++ 46 ∷ exponent = ap (λ v. v ++ exponent) h.spelled ∙ append_assoc h.whole (46 ∷ []) exponent in
    subst (λ v. reads v states.Start ≡ Some kinds.Double) (sym e) (integer-start h.whole (46 ∷ exponent) h.is_whole ∙ (point-same exponent ∙ r.1))

pub double-read : (text : List ℕ) → IsDouble text → reads text states.Start ≡ Some kinds.Double
double-read text h = subst (λ v. reads v states.Start ≡ Some kinds.Double) (sym h.spelled) (mantissa-read h.mantissa h.exponent h.is_mantissa (exponent-read h.exponent h.is_exponent))
