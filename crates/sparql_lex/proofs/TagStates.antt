-- What the states of language tags read.
use Rattle.std.proofs.Common.{◌≡◌, ◌≢◌, ℕ, Bool, true, List, [], ◌∷◌, ◌++◌, Some, refl, sym, subst, ap, ◌∙◌}
use Rattle.std.specs.Prelude.{◌==◌}
use Rattle.term_core.specs.declared.token.Kind.{Kind}
use Rattle.term_core.specs.declared.token.Kind.TheVariants as kinds
use Rattle.sparql_lex.specs.declared.state.State.TheVariants as states
use Rattle.term_core.specs.Characters.{is_letter, is_pn_base, AreAll}
use Rattle.term_core.specs.Names.{is_alphanumeric, AreSubtags, no_subtag, subtag, IsTag}
use Rattle.term_core.specs.Terminals.{IsLanguage}
use Rattle.sparql_lex.specs.declared.state.Tag.{Tag}
use Rattle.sparql_lex.specs.declared.state.Tag.TheVariants as tags
use Rattle.sparql_lex.specs.Steps.{step, tag_rows}
use Rattle.sparql_lex.proofs.Bools.{all-first, all-one}
use Rattle.sparql_lex.proofs.NameStates.{some_kind, not-empty, put}
use Rattle.sparql_lex.proofs.Reading.{reads, read-cases}

-- characters of the class, and then subtags
pub record TagTail (p : ℕ → Bool) (text : List ℕ) : Type 0 where
  pub front : List ℕ
  pub subtags : List ℕ
  pub all : AreAll p front
  pub are_subtags : AreSubtags subtags
  pub spelled : text ≡ front ++ subtags

abbrev pub Tail : Tag → Kind → List ℕ → Type 0
Tail tags.At kind text = (kind ≡ kinds.Lang) × IsTag text
Tail tags.Primary kind text = (kind ≡ kinds.Lang) × TagTail is_letter text
Tail tags.Hyphen kind text = (kind ≡ kinds.Lang) × AreSubtags (45 ∷ text)
Tail tags.Subtag kind text = (kind ≡ kinds.Lang) × TagTail is_alphanumeric text

ends : (p : ℕ → Bool) → TagTail p []
ends p = record { front = []; subtags = []; all = refl; are_subtags = no_subtag; spelled = refl }

one-more : (p : ℕ → Bool) (c : ℕ) (text : List ℕ) → p c ≡ true → TagTail p text → TagTail p (c ∷ text)
one-more p c text h t = record { front = c ∷ t.front; subtags = t.subtags; all = all-one p c t.front h t.all; are_subtags = t.are_subtags; spelled = ap (λ v. c ∷ v) t.spelled }

hyphened : (p : ℕ → Bool) (c : ℕ) (text : List ℕ) → (c == 45) ≡ true → AreSubtags (45 ∷ text) → TagTail p (c ∷ text)
hyphened p c text h s = record { front = []; subtags = c ∷ text; all = refl; are_subtags = put AreSubtags c 45 text h s; spelled = refl }

tag-first : (c : ℕ) (text : List ℕ) → is_letter c ≡ true → TagTail is_letter text → IsTag (c ∷ text)
tag-first c text h t = record { primary = c ∷ t.front; subtags = t.subtags; spelled = ap (λ v. c ∷ v) t.spelled; some = not-empty c t.front; letters = all-one is_letter c t.front h t.all; are_subtags = t.are_subtags }

subtag-first : (c : ℕ) (text : List ℕ) → is_alphanumeric c ≡ true → TagTail is_alphanumeric text → AreSubtags (45 ∷ c ∷ text)
subtag-first c text h t =
    subst (λ v. AreSubtags (45 ∷ c ∷ v)) (sym t.spelled) (subtag {tag = c ∷ t.front} {rest = t.subtags} (not-empty c t.front) (all-one is_alphanumeric c t.front h t.all) t.are_subtags)

pub tag-sound : (text : List ℕ) (tag : Tag) (kind : Kind) → reads text (states.Tag tag) ≡ Some kind → Tail tag kind text
unfolding step
tag-sound [] tags.At kind h = absurd (cc)
tag-sound [] tags.Primary kind h = (some_kind kinds.Lang kind h, ends is_letter)
tag-sound [] tags.Hyphen kind h = absurd (cc)
tag-sound [] tags.Subtag kind h = (some_kind kinds.Lang kind h, ends is_alphanumeric)
tag-sound (c ∷ text) tags.At kind h =
    read-cases (tag_rows tags.At c) text kind (Tail tags.At kind (c ∷ text))
    (λ t r. let l = tag-sound text tags.Primary kind r in (l.0, tag-first c text t l.1), tt) h
tag-sound (c ∷ text) tags.Primary kind h =
    read-cases (tag_rows tags.Primary c) text kind (Tail tags.Primary kind (c ∷ text)) (
      λ t r. let l = tag-sound text tags.Primary kind r in (l.0, one-more is_letter c text t l.1),
      (λ t r. let l = tag-sound text tags.Hyphen kind r in (l.0, hyphened is_letter c text t l.1), tt),
    ) h
tag-sound (c ∷ text) tags.Hyphen kind h =
    read-cases (tag_rows tags.Hyphen c) text kind (Tail tags.Hyphen kind (c ∷ text))
    (λ t r. let l = tag-sound text tags.Subtag kind r in (l.0, subtag-first c text t l.1), tt) h
tag-sound (c ∷ text) tags.Subtag kind h =
    read-cases (tag_rows tags.Subtag c) text kind (Tail tags.Subtag kind (c ∷ text)) (
      λ t r. let l = tag-sound text tags.Subtag kind r in (l.0, one-more is_alphanumeric c text t l.1),
      (λ t r. let l = tag-sound text tags.Hyphen kind r in (l.0, hyphened is_alphanumeric c text t l.1), tt),
    ) h

letter-step : (c : ℕ) (text : List ℕ) → is_letter c ≡ true → reads (c ∷ text) (states.Tag tags.Primary) ≡ reads text (states.Tag tags.Primary)
unfolding step
letter-step c text h = rw h refl

at-step : (c : ℕ) (text : List ℕ) → is_letter c ≡ true → reads (c ∷ text) (states.Tag tags.At) ≡ reads text (states.Tag tags.Primary)
unfolding step
at-step c text h = rw h refl

hyphen-step : (c : ℕ) (text : List ℕ) → is_alphanumeric c ≡ true → reads (c ∷ text) (states.Tag tags.Hyphen) ≡ reads text (states.Tag tags.Subtag)
unfolding step
hyphen-step c text h = rw h refl

subtag-step : (c : ℕ) (text : List ℕ) → is_alphanumeric c ≡ true → reads (c ∷ text) (states.Tag tags.Subtag) ≡ reads text (states.Tag tags.Subtag)
unfolding step
subtag-step c text h = rw h refl

letters-read : (front rest : List ℕ) → AreAll is_letter front → reads (front ++ rest) (states.Tag tags.Primary) ≡ reads rest (states.Tag tags.Primary)
letters-read [] rest h = refl
letters-read (c ∷ front) rest h = let f = all-first is_letter c front h in letter-step c (front ++ rest) f.0 ∙ letters-read front rest f.1

subtag-read : (front rest : List ℕ) → AreAll is_alphanumeric front → reads (front ++ rest) (states.Tag tags.Subtag) ≡ reads rest (states.Tag tags.Subtag)
subtag-read [] rest h = refl
subtag-read (c ∷ front) rest h = let f = all-first is_alphanumeric c front h in subtag-step c (front ++ rest) f.0 ∙ subtag-read front rest f.1

tag-begins : (tag rest : List ℕ) → tag ≢ [] → AreAll is_alphanumeric tag → reads (tag ++ rest) (states.Tag tags.Hyphen) ≡ reads rest (states.Tag tags.Subtag)
tag-begins [] rest some h = absurd (some refl)
tag-begins (c ∷ tag) rest some h = let f = all-first is_alphanumeric c tag h in hyphen-step c (tag ++ rest) f.0 ∙ subtag-read tag rest f.1

-- a hyphen leads on from letters and from a subtag
hyphen-same : (text : List ℕ) → (reads (45 ∷ text) (states.Tag tags.Primary) ≡ reads text (states.Tag tags.Hyphen)) × (reads (45 ∷ text) (states.Tag tags.Subtag) ≡ reads text (states.Tag tags.Hyphen))
unfolding step
hyphen-same text = (refl, refl)

subtags-read : {text : List ℕ} → AreSubtags text → (reads text (states.Tag tags.Primary) ≡ Some kinds.Lang) × (reads text (states.Tag tags.Subtag) ≡ Some kinds.Lang)
subtags-read no_subtag = (refl, refl)
subtags-read (subtag {tag} {rest} some all more) =
    let r = tag-begins tag rest some all ∙ (subtags-read more).1 in
    let s = hyphen-same (tag ++ rest) in
    (s.0 ∙ r, s.1 ∙ r)

at-begins : (text : List ℕ) → reads (64 ∷ text) states.Start ≡ reads text (states.Tag tags.At)
unfolding step is_pn_base
at-begins text = refl

tag-read : (primary subtags : List ℕ) → primary ≢ [] → AreAll is_letter primary → AreSubtags subtags → reads (primary ++ subtags) (states.Tag tags.At) ≡ Some kinds.Lang
tag-read [] subtags some h s = absurd (some refl)
tag-read (c ∷ primary) subtags some h s =
    let f = all-first is_letter c primary h in
    at-step c (primary ++ subtags) f.0 ∙ (letters-read primary subtags f.1 ∙ (subtags-read s).0)

pub language-read : (text : List ℕ) → IsLanguage text → reads text states.Start ≡ Some kinds.Lang
language-read text h =
    let t = h.is_tag in
    let r = tag-read t.primary t.subtags t.some t.letters t.are_subtags in
    subst (λ v. reads v states.Start ≡ Some kinds.Lang) (sym h.spelled)
    (at-begins h.tag ∙ subst (λ v. reads v (states.Tag tags.At) ≡ Some kinds.Lang) (sym t.spelled) r)

pub language-token : (text : List ℕ) → IsTag text → IsLanguage (64 ∷ text)
language-token text h = record { tag = text; is_tag = h; spelled = refl }
