-- Texts with escapes: what they spell is what is read.
use Rattle.std.proofs.Common.{◌≡◌, ℕ, zero, suc, true, false, List, [], ◌∷◌, ◌++◌, length, Option, Some, None, eqb, refl, sym, ap, ◌∙◌, append_assoc}
use Rattle.term_core.specs.Characters.{front, after, AreAll}
use Rattle.term_core.specs.Escapes.{IsEscaped}
use Rattle.term_core.specs.Escapes.IsEscaped.{nothing, character, escape}
use Rattle.nt_text.specs.declared.escapes.Quoted.{Quoted}
use Rattle.nt_text.specs.declared.escapes.Quoted.TheVariants as quoted
use Rattle.nt_text.specs.Reading.{escape_at, plain_in, onto, spelled_on, spelled_in, spelled_at}
use Rattle.nt_text.proofs.Cut.{parts}
use Rattle.nt_text.proofs.Steps.{passes}
use Rattle.nt_text.proofs.Spelled.{tail_at, spelled_step, tail_step, tail_stop}
use Rattle.nt_text.proofs.EscapeLaws.{IsEscapeIn, escape_sound, escape_complete, escape_begins, no_escape, all_parts}

-- a text with escapes between these signs
abbrev pub Spells : Quoted → List ℕ → List ℕ → Type 0
Spells q text value = IsEscaped (plain_in q) (IsEscapeIn q) text value

-- characters that stand for themselves, in front of a text with escapes
plain_before : (q : Quoted) (xs text value : List ℕ) → AreAll (plain_in q) xs → Spells q text value → Spells q (xs ++ text) (xs ++ value)
plain_before q [] text value all h = h
plain_before q (x ∷ xs) text value all h = let a = all_parts (plain_in q) x xs all in character a.0 (plain_before q xs text value a.1 h)

-- what was read of a text: what stands in front spells it
abbrev pub IsSpelledBy : Quoted → List ℕ → List ℕ × List ℕ → Type 0
IsSpelledBy q text read = (body : List ℕ) × (text ≡ body ++ read.1) × Spells q body read.0

-- what is read is spelled by what stands in front
spelled_sound_in : (room : ℕ) (q : Quoted) (text : List ℕ) → IsSpelledBy q text (spelled_in room q text)
unfolding spelled_in
spelled_sound_in zero q text = ([], refl, nothing)
spelled_sound_in (suc room) q text =
    let rest = on_escape q (after (plain_in q) text) (spelled_in room q) (escape_at q (after (plain_in q) text)) refl (spelled_sound_in room q) in (
      front (plain_in q) text ++ rest.0,
      sym (parts (plain_in q) text) ∙ ap (λ t. front (plain_in q) text ++ t) rest.1 ∙ sym (append_assoc (front (plain_in q) text) rest.0 _),
      plain_before q (front (plain_in q) text) rest.0 _ (passes (plain_in q) text) rest.2,
    )
  where
    on_escape : (q : Quoted) (text : List ℕ) (go : List ℕ → List ℕ × List ℕ) (o : Option (ℕ × List ℕ)) → escape_at q text ≡ o → ((rest : List ℕ) → IsSpelledBy q rest (go rest)) → IsSpelledBy q text (spelled_on go text o)
    on_escape q text go None e more = ([], refl, nothing)
    on_escape q text go (Some c) e more =
        let found = escape_sound q text c.0 c.1 e in
        let rest = more c.1 in
        (found.0 ++ rest.0, found.1 ∙ ap (λ t. found.0 ++ t) rest.1 ∙ sym (append_assoc found.0 rest.0 _), escape found.2 rest.2)

pub spelled_sound : (q : Quoted) (text : List ℕ) → IsSpelledBy q text (spelled_at q text)
spelled_sound q text = spelled_sound_in (suc (length text)) q text

-- a character that stands for itself
plain_step : (q : Quoted) (c : ℕ) (text : List ℕ) → plain_in q c ≡ true → spelled_at q (c ∷ text) ≡ onto (c ∷ []) (spelled_at q text)
plain_step q c text plain =
    let first : front (plain_in q) (c ∷ text) ≡ c ∷ front (plain_in q) text = rw plain refl in
    let behind : after (plain_in q) (c ∷ text) ≡ after (plain_in q) text = rw plain refl in
    spelled_step q (c ∷ text) ∙ (λ i. onto (first i) (tail_at q (behind i))) ∙ ap (onto (c ∷ [])) (sym (spelled_step q text))

-- where no character stands for itself
other_step : (q : Quoted) (c : ℕ) (text : List ℕ) → plain_in q c ≡ false → spelled_at q (c ∷ text) ≡ tail_at q (c ∷ text)
other_step q c text other =
    let first : front (plain_in q) (c ∷ text) ≡ [] = rw other refl in
    let behind : after (plain_in q) (c ∷ text) ≡ c ∷ text = rw other refl in
    spelled_step q (c ∷ text) ∙ (λ i. onto (first i) (tail_at q (behind i)))

backslash_other : (q : Quoted) → plain_in q 92 ≡ false
backslash_other quoted.Iri = refl
backslash_other quoted.String = refl

-- an escape, and what is read behind it
escape_then : (q : Quoted) (spelled : List ℕ) (c : ℕ) (text : List ℕ) → IsEscapeIn q spelled c → spelled_at q (spelled ++ text) ≡ onto (c ∷ []) (spelled_at q text)
escape_then q spelled c text h =
    let b = escape_begins q spelled c h in
    let read : escape_at q (92 ∷ (b.0 ++ text)) ≡ Some (c, text) = ap (λ e. escape_at q (e ++ text)) (sym b.1) ∙ escape_complete q spelled c text h in
    ap (λ e. spelled_at q (e ++ text)) b.1 ∙ other_step q 92 (b.0 ++ text) (backslash_other q) ∙ tail_step q (92 ∷ (b.0 ++ text)) c text read
    ∙ ap (onto (c ∷ [])) (sym (spelled_step q text))

-- what is spelled in front of the closing sign is read
pub spelled_complete : (q : Quoted) {body value : List ℕ} (sign : ℕ) (rest : List ℕ) → Spells q body value → plain_in q sign ≡ false → eqb sign 92 ≡ false → spelled_at q (body ++ sign ∷ rest) ≡ (value, sign ∷ rest)
spelled_complete q sign rest nothing other apart = other_step q sign rest other ∙ tail_stop q (sign ∷ rest) (no_escape q sign rest apart)
spelled_complete q sign rest (character {c} {text} {value} plain more) other apart =
    plain_step q c (text ++ sign ∷ rest) plain ∙ ap (onto (c ∷ [])) (spelled_complete q sign rest more other apart)
spelled_complete q sign rest (escape {c} {escape = spelled} {text} {value} is more) other apart =
    ap (spelled_at q) (append_assoc spelled text (sign ∷ rest)) ∙ escape_then q spelled c (text ++ sign ∷ rest) is ∙ ap (onto (c ∷ [])) (spelled_complete q sign rest more other apart)
