-- What the states of words and prefixed names read.
use Rattle.std.proofs.Common.{◌≡◌, ◌≢◌, ◌⊎◌, inl, inr, ℕ, Bool, true, false, List, [], ◌∷◌, ◌++◌, Some, refl, sym, subst, ap, ◌∙◌}
use Rattle.std.specs.Prelude.{◌==◌, ◌||◌}
use Rattle.term_core.specs.Characters.{is_letter, is_hex, is_pn, is_pn_u, is_pn_base, AreAll}
use Rattle.term_core.specs.Names.{IsDotted}
use Rattle.term_core.specs.Terminals.{IsPrefix, IsLocal, IsPrefixedName, IsWord, AreLocalParts, no_part, part, dot, percent, backslash, is_local_first, is_query_label_first, is_word_part}
use Rattle.term_core.specs.declared.token.Kind.{Kind}
use Rattle.term_core.specs.declared.token.Kind.TheVariants as kinds
use Rattle.sparql_lex.specs.declared.state.State.TheVariants as states
use Rattle.sparql_lex.specs.declared.state.Name.{Name}
use Rattle.sparql_lex.specs.declared.state.Name.TheVariants as names
use Rattle.sparql_lex.specs.Steps.{step, name_rows}
use Rattle.sparql_lex.proofs.Bools.{either, all-first, holds_left, holds_right, same, other_than, letter-pn_base, word-pn, label_first-local, label_first-local_first, local_first-part, pn-dot, pn-colon, pn-percent, pn-backslash, pn_u-dot, pn_u-percent, pn_u-backslash}
use Rattle.sparql_lex.proofs.Reading.{reads, read-cases}

-- behind the first character of a prefix, or behind a dot: the rest of the prefix, the colon and a local name
pub record PrefixTail (behind_name : Bool) (text : List ℕ) : Type 0 where
  pub more : List ℕ
  pub local : List ℕ
  pub dotted : IsDotted is_pn more
  pub some : behind_name ≡ false → more ≢ []
  pub is_local : IsLocal local
  pub spelled : text ≡ more ++ 58 ∷ local

-- what may follow in each state, up to a token of the kind
abbrev pub NameTail : Name → Kind → List ℕ → Type 0
NameTail names.Word kind text = ((kind ≡ kinds.Word) × AreAll is_word_part text) ⊎ ((kind ≡ kinds.PName) × PrefixTail true text)
NameTail names.Prefix kind text = (kind ≡ kinds.PName) × PrefixTail true text
NameTail names.PrefixDot kind text = (kind ≡ kinds.PName) × PrefixTail false text
NameTail names.Colon kind text = (kind ≡ kinds.PName) × IsLocal text
NameTail names.Local kind text = (kind ≡ kinds.PName) × AreLocalParts text
NameTail names.LocalDot kind text = (kind ≡ kinds.PName) × (text ≢ []) × AreLocalParts text
NameTail names.Percent kind text = (kind ≡ kinds.PName) × AreLocalParts (37 ∷ text)
NameTail names.PercentDigit kind text = (kind ≡ kinds.PName) × ((c : ℕ) → is_hex c ≡ true → AreLocalParts (37 ∷ c ∷ text))
NameTail names.Backslash kind text = (kind ≡ kinds.PName) × AreLocalParts (92 ∷ text)

pub some_kind : (a b : Kind) → Some a ≡ Some b → b ≡ a
some_kind a b h = cc

pub dotted-part : (c : ℕ) (more : List ℕ) → is_pn c ≡ true → IsDotted is_pn more → IsDotted is_pn (c ∷ more)
dotted-part c [] h d = h
dotted-part c (e ∷ more) h d = (holds_left (is_pn c) (c == 46) h, d)

pub dotted-dot : (c : ℕ) (more : List ℕ) → (c == 46) ≡ true → more ≢ [] → IsDotted is_pn more → IsDotted is_pn (c ∷ more)
dotted-dot c [] h some d = absurd (some refl)
dotted-dot c (e ∷ more) h some d = (holds_right (is_pn c) (c == 46) h, d)

prefix-part : (c : ℕ) (text : List ℕ) (b : Bool) → is_pn c ≡ true → PrefixTail true text → PrefixTail b (c ∷ text)
prefix-part c text b h t = record { more = c ∷ t.more; local = t.local; dotted = dotted-part c t.more h t.dotted; some = λ e n. absurd (cc); is_local = t.is_local; spelled = ap (λ v. c ∷ v) t.spelled }

prefix-dot : (c : ℕ) (text : List ℕ) (b : Bool) → (c == 46) ≡ true → PrefixTail false text → PrefixTail b (c ∷ text)
prefix-dot c text b h t = record { more = c ∷ t.more; local = t.local; dotted = dotted-dot c t.more h (t.some refl) t.dotted; some = λ e n. absurd (cc); is_local = t.is_local; spelled = ap (λ v. c ∷ v) t.spelled }

prefix-colon : (c : ℕ) (text : List ℕ) → (c == 58) ≡ true → IsLocal text → PrefixTail true (c ∷ text)
prefix-colon c text h l = record { more = []; local = text; dotted = tt; some = λ e n. absurd (cc); is_local = l; spelled = ap (λ v. v ∷ text) (same c 58 h) }

pub put : (P : List ℕ → Type 0) (c d : ℕ) (text : List ℕ) → (c == d) ≡ true → P (d ∷ text) → P (c ∷ text)
put P c d text h p = subst (λ v. P (v ∷ text)) (sym (same c d h)) p

-- in a word
word-more : (c : ℕ) (text : List ℕ) (kind : Kind) → is_word_part c ≡ true → NameTail names.Word kind text → NameTail names.Word kind (c ∷ text)
word-more c text kind h t = elim t as (λ _. NameTail names.Word kind (c ∷ text))
    [ inl w ↦ inl (w.0, rw h w.1) | inr p ↦ inr (p.0, prefix-part c text true (word-pn c h) p.1) ]

-- how a local name begins
local-part : (c : ℕ) (text : List ℕ) → (is_query_label_first c || (c == 58)) ≡ true → AreLocalParts text → IsLocal (c ∷ text)
local-part c text h p = elim (either (is_query_label_first c) (c == 58) h) as (λ _. IsLocal (c ∷ text)) [
  | inl l ↦ (label_first-local_first c h, part (label_first-local c l) p)
  | inr l ↦ (label_first-local_first c h, part (holds_right (is_pn c) (c == 58) l) p)
]

local-percent : (c : ℕ) (text : List ℕ) → (c == 37) ≡ true → AreLocalParts (37 ∷ text) → IsLocal (c ∷ text)
unfolding is_pn_u is_pn_base
local-percent c text h p = put IsLocal c 37 text h (refl, p)

local-backslash : (c : ℕ) (text : List ℕ) → (c == 92) ≡ true → AreLocalParts (92 ∷ text) → IsLocal (c ∷ text)
unfolding is_pn_u is_pn_base
local-backslash c text h p = put IsLocal c 92 text h (refl, p)

-- in a local name
parts-dot : (c : ℕ) (text : List ℕ) → (c == 46) ≡ true → text ≢ [] → AreLocalParts text → AreLocalParts (c ∷ text)
parts-dot c text h some p = put AreLocalParts c 46 text h (dot some p)

pub not-empty : (c : ℕ) (text : List ℕ) → c ∷ text ≢ []
not-empty c text = λ e. absurd (cc)

pub name-sound : (text : List ℕ) (name : Name) (kind : Kind) → reads text (states.Name name) ≡ Some kind → NameTail name kind text
unfolding step
name-sound [] names.Word kind h = inl (some_kind kinds.Word kind h, refl)
name-sound [] names.Colon kind h = (some_kind kinds.PName kind h, tt)
name-sound [] names.Local kind h = (some_kind kinds.PName kind h, no_part)
name-sound [] names.Prefix kind h = absurd (cc)
name-sound [] names.PrefixDot kind h = absurd (cc)
name-sound [] names.LocalDot kind h = absurd (cc)
name-sound [] names.Percent kind h = absurd (cc)
name-sound [] names.PercentDigit kind h = absurd (cc)
name-sound [] names.Backslash kind h = absurd (cc)
name-sound (c ∷ text) names.Word kind h =
    read-cases (name_rows names.Word c) text kind (NameTail names.Word kind (c ∷ text)) (
      λ t r. word-more c text kind t (name-sound text names.Word kind r),
      (
        λ t r. let l = name-sound text names.Colon kind r in inr (l.0, prefix-colon c text t l.1),
        (
          λ t r. let p = name-sound text names.Prefix kind r in inr (p.0, prefix-part c text true t p.1),
          (λ t r. let p = name-sound text names.PrefixDot kind r in inr (p.0, prefix-dot c text true t p.1), tt),
        ),
      ),
    ) h
name-sound (c ∷ text) names.Prefix kind h =
    read-cases (name_rows names.Prefix c) text kind (NameTail names.Prefix kind (c ∷ text)) (
      λ t r. let l = name-sound text names.Colon kind r in (l.0, prefix-colon c text t l.1),
      (
        λ t r. let p = name-sound text names.Prefix kind r in (p.0, prefix-part c text true t p.1),
        (λ t r. let p = name-sound text names.PrefixDot kind r in (p.0, prefix-dot c text true t p.1), tt),
      ),
    ) h
name-sound (c ∷ text) names.PrefixDot kind h =
    read-cases (name_rows names.PrefixDot c) text kind (NameTail names.PrefixDot kind (c ∷ text)) (
      λ t r. let p = name-sound text names.Prefix kind r in (p.0, prefix-part c text false t p.1),
      (λ t r. let p = name-sound text names.PrefixDot kind r in (p.0, prefix-dot c text false t p.1), tt),
    ) h
name-sound (c ∷ text) names.Colon kind h =
    read-cases (name_rows names.Colon c) text kind (NameTail names.Colon kind (c ∷ text)) (
      λ t r. let p = name-sound text names.Local kind r in (p.0, local-part c text t p.1),
      (
        λ t r. let p = name-sound text names.Percent kind r in (p.0, local-percent c text t p.1),
        (λ t r. let p = name-sound text names.Backslash kind r in (p.0, local-backslash c text t p.1), tt),
      ),
    ) h
name-sound (c ∷ text) names.Local kind h =
    read-cases (name_rows names.Local c) text kind (NameTail names.Local kind (c ∷ text)) (
      λ t r. let p = name-sound text names.Local kind r in (p.0, part t p.1),
      (
        λ t r. let p = name-sound text names.LocalDot kind r in (p.0, parts-dot c text t p.1 p.2),
        (
          λ t r. let p = name-sound text names.Percent kind r in (p.0, put AreLocalParts c 37 text t p.1),
          (λ t r. let p = name-sound text names.Backslash kind r in (p.0, put AreLocalParts c 92 text t p.1), tt),
        ),
      ),
    ) h
name-sound (c ∷ text) names.LocalDot kind h =
    read-cases (name_rows names.LocalDot c) text kind (NameTail names.LocalDot kind (c ∷ text)) (
      λ t r. let p = name-sound text names.Local kind r in (p.0, not-empty c text, part t p.1),
      (
        λ t r. let p = name-sound text names.LocalDot kind r in (p.0, not-empty c text, parts-dot c text t p.1 p.2),
        (
          λ t r. let p = name-sound text names.Percent kind r in (p.0, not-empty c text, put AreLocalParts c 37 text t p.1),
          (λ t r. let p = name-sound text names.Backslash kind r in (p.0, not-empty c text, put AreLocalParts c 92 text t p.1), tt),
        ),
      ),
    ) h
name-sound (c ∷ text) names.Percent kind h =
    read-cases (name_rows names.Percent c) text kind (NameTail names.Percent kind (c ∷ text))
    (λ t r. let p = name-sound text names.PercentDigit kind r in (p.0, p.1 c t), tt) h
name-sound (c ∷ text) names.PercentDigit kind h =
    read-cases (name_rows names.PercentDigit c) text kind (NameTail names.PercentDigit kind (c ∷ text))
    (λ t r. let p = name-sound text names.Local kind r in (p.0, λ d e. percent e t p.1), tt) h
name-sound (c ∷ text) names.Backslash kind h =
    read-cases (name_rows names.Backslash c) text kind (NameTail names.Backslash kind (c ∷ text))
    (λ t r. let p = name-sound text names.Local kind r in (p.0, backslash t p.1), tt) h

-- behind a dot a local name goes on as elsewhere
dot-same : (text : List ℕ) → text ≢ [] → reads text (states.Name names.LocalDot) ≡ reads text (states.Name names.Local)
unfolding step
dot-same [] some = absurd (some refl)
dot-same (c ∷ text) some = refl

parts-read : {text : List ℕ} → AreLocalParts text → reads text (states.Name names.Local) ≡ Some kinds.PName
unfolding step
parts-read no_part = refl
parts-read (part h p) = rw h (parts-read p)
parts-read (dot {text} some p) = rw pn-dot (dot-same text some ∙ parts-read p)
parts-read (percent h k p) = rw (pn-percent, h, k) (parts-read p)
parts-read (backslash h p) = rw (pn-backslash, h) (parts-read p)

first-read : {text : List ℕ} (c : ℕ) (more : List ℕ) → AreLocalParts text → text ≡ c ∷ more → is_local_first c ≡ true → reads text (states.Name names.Colon) ≡ Some kinds.PName
unfolding step
first-read c more no_part e h = absurd (cc)
first-read c more (part {c = d} k p) e h =
    let is : d ≡ c = cc in
    let begins : is_local_first d ≡ true = rw is h in
    rw (local_first-part d begins k) (parts-read p)
first-read c more (dot some p) e h = let is : 46 ≡ c = cc in let wrong = rw (← is, pn_u-dot) at h in absurd (cc)
first-read c more (percent h1 k p) e h = rw (pn_u-percent, h1, k) (parts-read p)
first-read c more (backslash h1 p) e h = rw (pn_u-backslash, h1) (parts-read p)

local-read : (local : List ℕ) → IsLocal local → reads local (states.Name names.Colon) ≡ Some kinds.PName
local-read [] h = refl
local-read (c ∷ more) h = first-read c more h.1 refl h.0

prefix-step : (c : ℕ) (text : List ℕ) → is_pn c ≡ true → reads (c ∷ text) (states.Name names.Prefix) ≡ reads text (states.Name names.Prefix)
unfolding step
prefix-step c text h = let no_colon : (c == 58) ≡ false = other_than is_pn c 58 h pn-colon in rw (no_colon, h) refl

dot-step : (c : ℕ) (text : List ℕ) → is_pn c ≡ true → reads (c ∷ text) (states.Name names.PrefixDot) ≡ reads text (states.Name names.Prefix)
unfolding step
dot-step c text h = rw h refl

-- a character of a name leaves a word, or is of it
word-step : (c : ℕ) (text : List ℕ) → is_pn c ≡ true
    → (reads (c ∷ text) (states.Name names.Word) ≡ reads text (states.Name names.Word)) ⊎ (reads (c ∷ text) (states.Name names.Word) ≡ reads text (states.Name names.Prefix))
unfolding step
word-step c text h = go (is_word_part c) refl
  where
    no_colon : (c == 58) ≡ false
    no_colon = other_than is_pn c 58 h pn-colon

    go : (t : Bool) → is_word_part c ≡ t → (reads (c ∷ text) (states.Name names.Word) ≡ reads text (states.Name names.Word)) ⊎ (reads (c ∷ text) (states.Name names.Word) ≡ reads text (states.Name names.Prefix))
    go true e = inl (rw e refl)
    go false e = inr (rw (e, no_colon, h) refl)

-- the rest of a prefix is read up to its colon
pub record ReadsPrefix (more local : List ℕ) : Type 0 where
  pub prefix : reads (more ++ 58 ∷ local) (states.Name names.Prefix) ≡ reads local (states.Name names.Colon)
  pub word : reads (more ++ 58 ∷ local) (states.Name names.Word) ≡ reads local (states.Name names.Colon)
  pub behind_dot : more ≢ [] → reads (more ++ 58 ∷ local) (states.Name names.PrefixDot) ≡ reads local (states.Name names.Colon)

by-part : (c : ℕ) (more local : List ℕ) → is_pn c ≡ true → ReadsPrefix more local → ReadsPrefix (c ∷ more) local
by-part c more local h r = record {
  prefix = prefix-step c (more ++ 58 ∷ local) h ∙ r.prefix;
  word = elim (word-step c (more ++ 58 ∷ local) h) [ inl e ↦ e ∙ r.word | inr e ↦ e ∙ r.prefix ];
  behind_dot = λ some. dot-step c (more ++ 58 ∷ local) h ∙ r.prefix;
}

by-dot : (more local : List ℕ) → more ≢ [] → ReadsPrefix more local → ReadsPrefix (46 ∷ more) local
unfolding step
by-dot more local some r = record {
  prefix = rw pn-dot (r.behind_dot some);
  word = rw pn-dot (r.behind_dot some);
  behind_dot = λ _. rw pn-dot (r.behind_dot some);
}

dotted-read : (more local : List ℕ) → IsDotted is_pn more → ReadsPrefix more local
unfolding step
dotted-read [] local h = record { prefix = refl; word = refl; behind_dot = λ some. absurd (some refl) }
dotted-read (c ∷ []) local h = by-part c [] local h (dotted-read [] local tt)
dotted-read (c ∷ d ∷ more) local h = elim (either (is_pn c) (c == 46) h.0) as (λ _. ReadsPrefix (c ∷ d ∷ more) local) [
  | inl p ↦ by-part c (d ∷ more) local p (dotted-read (d ∷ more) local h.1)
  | inr p ↦ subst (λ v. ReadsPrefix (v ∷ d ∷ more) local) (sym (same c 46 p)) (by-dot (d ∷ more) local (not-empty d more) (dotted-read (d ∷ more) local h.1))
]

run-read : (text : List ℕ) → AreAll is_word_part text → reads text (states.Name names.Word) ≡ Some kinds.Word
unfolding step
run-read [] h = refl
run-read (c ∷ text) h = let f = all-first is_word_part c text h in let first = f.0 in rw first (run-read text f.1)

pub word-read : (text : List ℕ) → IsWord text → reads text states.Start ≡ Some kinds.Word
unfolding step
word-read [] h = elim h [ ]
word-read (c ∷ text) h = let first = h.0 in rw first (run-read text h.1)

-- a prefix with its first character, the colon and a local name
started : (c : ℕ) (text : List ℕ) → is_pn_base c ≡ true
    → (reads (c ∷ text) states.Start ≡ reads text (states.Name names.Word)) ⊎ (reads (c ∷ text) states.Start ≡ reads text (states.Name names.Prefix))
unfolding step
started c text h = go (is_letter c) refl
  where
    go : (t : Bool) → is_letter c ≡ t → (reads (c ∷ text) states.Start ≡ reads text (states.Name names.Word)) ⊎ (reads (c ∷ text) states.Start ≡ reads text (states.Name names.Prefix))
    go true e = inl (rw e refl)
    go false e = inr (rw (e, h) refl)

prefixed : (c : ℕ) (more local : List ℕ) → (is_pn_base c ≡ true) × IsDotted is_pn more → IsLocal local → reads (c ∷ (more ++ 58 ∷ local)) states.Start ≡ Some kinds.PName
prefixed c more local h k =
    let r = dotted-read more local h.1 in
    elim (started c (more ++ 58 ∷ local) h.0) as (λ _. reads (c ∷ (more ++ 58 ∷ local)) states.Start ≡ Some kinds.PName)
    [ inl e ↦ e ∙ (r.word ∙ local-read local k) | inr e ↦ e ∙ (r.prefix ∙ local-read local k) ]

prefixed-read : (prefix local : List ℕ) → IsPrefix prefix → IsLocal local → reads (prefix ++ 58 ∷ local) states.Start ≡ Some kinds.PName
unfolding step is_pn_base
prefixed-read [] local h k = local-read local k
prefixed-read (c ∷ more) local h k = prefixed c more local h k

pub prefixed_name-read : (text : List ℕ) → IsPrefixedName text → reads text states.Start ≡ Some kinds.PName
prefixed_name-read text h = subst (λ v. reads v states.Start ≡ Some kinds.PName) (sym h.spelled) (prefixed-read h.prefix h.local h.is_prefix h.is_local)

pub prefix-token : (c : ℕ) (text : List ℕ) → is_pn_base c ≡ true → PrefixTail true text → IsPrefixedName (c ∷ text)
prefix-token c text h t = record { prefix = c ∷ t.more; local = t.local; is_prefix = (h, t.dotted); is_local = t.is_local; spelled = ap (λ v. c ∷ v) t.spelled }

-- a word or a prefix, with its first character
pub name-token : (c : ℕ) (text : List ℕ) (kind : Kind) → is_letter c ≡ true → NameTail names.Word kind text → ((kind ≡ kinds.Word) × IsWord (c ∷ text)) ⊎ ((kind ≡ kinds.PName) × IsPrefixedName (c ∷ text))
name-token c text kind h t = elim t [ inl w ↦ inl (w.0, (h, w.1)) | inr p ↦ inr (p.0, prefix-token c text (letter-pn_base c h) p.1) ]

pub colon-token : (text : List ℕ) → IsLocal text → IsPrefixedName (58 ∷ text)
colon-token text h = record { prefix = []; local = text; is_prefix = tt; is_local = h; spelled = refl }
