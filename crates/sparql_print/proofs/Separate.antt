-- A token before a space or the end is the longest there.
use Rattle.std.proofs.Common.{◌≡◌, ◌≢◌, ◌⊎◌, inl, inr, ℕ, ◌≤◌, true, false, List, [], ◌∷◌, ◌++◌, length, Option, Some, None, refl, sym, subst, ap, ◌∙◌, arith}
use Rattle.term_core.specs.Characters.{is_pn, is_pn_u, is_pn_base}
use Rattle.term_core.specs.Terminals.{IsToken}
use Rattle.term_core.specs.Tokens.{IsLongest}
use Rattle.term_core.specs.declared.token.Kind.{Kind}
use Rattle.term_core.specs.declared.token.Kind.TheVariants as kinds
use Rattle.sparql_lex.specs.declared.state.State.{State}
use Rattle.sparql_lex.specs.declared.state.State.TheVariants as states
use Rattle.sparql_lex.specs.declared.state.Mark.TheVariants as marks
use Rattle.sparql_lex.specs.declared.state.Name.TheVariants as names
use Rattle.sparql_lex.specs.declared.state.Label.TheVariants as labels
use Rattle.sparql_lex.specs.declared.state.Variable.TheVariants as variables
use Rattle.sparql_lex.specs.declared.state.Number.TheVariants as numbers
use Rattle.sparql_lex.specs.declared.state.Tag.TheVariants as tags
use Rattle.sparql_lex.specs.declared.state.Quoted.TheVariants as quoted
use Rattle.sparql_lex.specs.Steps.{kind_of, step}
use Rattle.sparql_lex.proofs.Reading.{reads, read_next}
use Rattle.sparql_lex.proofs.KindStates.{token-read}

-- a text that ends, or goes on with a space
abbrev pub Separate : List ℕ → Type 0
Separate [] = Unit {0}
Separate (c ∷ rest) = c ≡ 32

-- no longer, or longer by what the rest begins with
pub record Longer (front rest longer : List ℕ) : Type 0 where
  pub first : ℕ
  pub more : List ℕ
  pub behind : List ℕ
  pub spelled : longer ≡ front ++ first ∷ more
  pub rest_is : rest ≡ first ∷ behind

longer-or : (front rest longer behind : List ℕ) → longer ++ behind ≡ front ++ rest → (length longer ≤ length front) ⊎ Longer front rest longer
longer-or front rest [] behind e = inl (omega arith)
longer-or [] rest (d ∷ longer) behind e = inr (record { first = d; more = longer; behind = longer ++ behind; spelled = refl; rest_is = sym e })
longer-or (c ∷ front) rest (d ∷ longer) behind e =
    let first : d ≡ c = cc e in
    let more : longer ++ behind ≡ front ++ rest = cc e in
    elim (longer-or front rest longer behind more) [
      | inl h ↦ inl (omega (arith, h))
      | inr h ↦ inr (record { first = h.first; more = h.more; behind = h.behind; spelled = ap (λ v. v ∷ longer) first ∙ ap (λ v. c ∷ v) h.spelled; rest_is = h.rest_is })
    ]

-- where no token goes on so, the token is the longest
pub longest-by : (kind : Kind) (front rest : List ℕ) → IsToken kind front
    → ((d : ℕ) (x behind : List ℕ) → rest ≡ d ∷ behind → reads (front ++ d ∷ x) states.Start ≡ None) → IsLongest kind front rest
longest-by kind front rest token none = record { token = token; longest = go }
  where
    go : (other : Kind) (longer behind : List ℕ) → IsToken other longer → longer ++ behind ≡ front ++ rest → length longer ≤ length front
    go other longer behind t e = elim (longer-or front rest longer behind e) [
      | inl h ↦ h
      | inr h ↦ let r = sym (none h.first h.more h.behind h.rest_is) ∙ (ap (λ v. reads v states.Start) (sym h.spelled) ∙ token-read other longer t) in absurd (cc)
    ]

-- tokens that are neither signs nor strings do not go on with a space
no_more : (state : State) (kind : Kind) → kind ≢ kinds.Sign → kind ≢ kinds.String → kind_of state ≡ Some kind → step state 32 ≡ None
unfolding step is_pn is_pn_u is_pn_base
no_more states.Start kind s t e = absurd (cc)
no_more (states.Mark (marks.First true second)) kind s t e = absurd (s (cc))
no_more (states.Mark (marks.First false second)) kind s t e = absurd (cc)
no_more (states.Mark marks.End) kind s t e = refl
no_more (states.Name names.Word) kind s t e = refl
no_more (states.Name names.Prefix) kind s t e = refl
no_more (states.Name names.PrefixDot) kind s t e = refl
no_more (states.Name names.Colon) kind s t e = refl
no_more (states.Name names.Local) kind s t e = refl
no_more (states.Name names.LocalDot) kind s t e = refl
no_more (states.Name names.Percent) kind s t e = refl
no_more (states.Name names.PercentDigit) kind s t e = refl
no_more (states.Name names.Backslash) kind s t e = refl
no_more (states.Label labels.Underscore) kind s t e = refl
no_more (states.Label labels.Colon) kind s t e = refl
no_more (states.Label labels.Part) kind s t e = refl
no_more (states.Label labels.Dot) kind s t e = refl
no_more (states.Variable variables.Question) kind s t e = refl
no_more (states.Variable variables.Dollar) kind s t e = refl
no_more (states.Variable variables.Part) kind s t e = refl
no_more (states.Number numbers.Dot) kind s t e = refl
no_more (states.Number numbers.Integer) kind s t e = refl
no_more (states.Number numbers.Exponent) kind s t e = refl
no_more (states.Number numbers.ExponentSign) kind s t e = refl
no_more (states.Number _) kind s t e = refl
no_more (states.Tag tags.At) kind s t e = refl
no_more (states.Tag tags.Primary) kind s t e = refl
no_more (states.Tag tags.Hyphen) kind s t e = refl
no_more (states.Tag tags.Subtag) kind s t e = refl
no_more (states.Quoted quoted.Less) kind s t e = refl
no_more (states.Quoted quoted.LessEqual) kind s t e = refl
no_more (states.Quoted (quoted.TwoQuotes quote)) kind s t e = absurd (t (cc))
no_more (states.Quoted (quoted.End k)) kind s t e = refl
no_more (states.Quoted _) kind s t e = absurd (cc)

space-stops : (front x : List ℕ) (state : State) (kind : Kind) → kind ≢ kinds.Sign → kind ≢ kinds.String → reads front state ≡ Some kind → reads (front ++ 32 ∷ x) state ≡ None
space-stops [] x state kind s t e = ap (λ o. read_next o (λ next. reads x next)) (no_more state kind s t e)
space-stops (c ∷ front) x state kind s t e = go (step state c) e (λ next h. space-stops front x next kind s t h)
  where
    go : (o : Option State) → read_next o (λ next. reads front next) ≡ Some kind → ((next : State) → reads front next ≡ Some kind → reads (front ++ 32 ∷ x) next ≡ None)
        → read_next o (λ next. reads (front ++ 32 ∷ x) next) ≡ None
    go None h more = absurd (cc)
    go (Some next) h more = more next h

-- such a token before a space or the end
pub longest-separate : (kind : Kind) (front rest : List ℕ) → kind ≢ kinds.Sign → kind ≢ kinds.String → IsToken kind front → Separate rest → IsLongest kind front rest
longest-separate kind front rest s t token h = longest-by kind front rest token (by_rest rest h)
  where
    by_rest : (rest : List ℕ) → Separate rest → (d : ℕ) (x behind : List ℕ) → rest ≡ d ∷ behind → reads (front ++ d ∷ x) states.Start ≡ None
    by_rest [] h d x behind e = absurd (cc)
    by_rest (c ∷ rest) h d x behind e =
        let is : 32 ≡ d = sym h ∙ cc e in
        subst (λ v. reads (front ++ v ∷ x) states.Start ≡ None) is (space-stops front x states.Start kind s t (token-read kind front token))

-- a sign before a space or the end
pub sign-longest : (front rest : List ℕ) → IsToken kinds.Sign front → ((x : List ℕ) → reads (front ++ 32 ∷ x) states.Start ≡ None) → Separate rest → IsLongest kinds.Sign front rest
sign-longest front rest token none h = longest-by kinds.Sign front rest token (by_rest rest h)
  where
    by_rest : (rest : List ℕ) → Separate rest → (d : ℕ) (x behind : List ℕ) → rest ≡ d ∷ behind → reads (front ++ d ∷ x) states.Start ≡ None
    by_rest [] h d x behind e = absurd (cc)
    by_rest (c ∷ rest) h d x behind e = let is : 32 ≡ d = sym h ∙ cc e in subst (λ v. reads (front ++ v ∷ x) states.Start ≡ None) is (none x)
