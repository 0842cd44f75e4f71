-- What a reader leaves of a name or a tag is the end of the text.
use Rattle.std.proofs.Common.{◌≡◌, ℕ, Bool, true, false, ◌&&◌, not, cond, List, [], ◌∷◌, ◌++◌, eqb, sym, ap, ◌∙◌, append_assoc, Some, subst}
use Rattle.term_core.specs.Characters.{is_letter, front, after}
use Rattle.term_core.specs.Names.{is_label_part, is_alphanumeric}
use Rattle.nt_text.specs.Reading.{head_at, past_name, past_subtags, past_tag}
use Rattle.nt_text.proofs.Cut.{parts}
use Rattle.nt_text.proofs.Steps.{some_is}

-- the end of a text, with something in front of it
abbrev pub IsEndOf : List ℕ → List ℕ → Type 0
IsEndOf whole end = (front : List ℕ) × (whole ≡ front ++ end)

-- behind one character more
one_more : (whole text : List ℕ) (c : ℕ) → IsEndOf whole (c ∷ text) → IsEndOf whole text
one_more whole text c (front, e) = (front ++ c ∷ [], e ∙ sym (append_assoc front (c ∷ []) text))

name_from : (whole end text : List ℕ) → IsEndOf whole end → IsEndOf whole text → IsEndOf whole (past_name end text)
name_from whole end [] e t = e
name_from whole end (c ∷ text) e t =
    let next = one_more whole text c t in
    elim (is_label_part c) as (λ q. IsEndOf whole (cond q (past_name text text) (cond (eqb c 46) (past_name end text) end))) [
      | true ↦ name_from whole text text next next
      | false ↦ elim (eqb c 46) as (λ q. IsEndOf whole (cond q (past_name end text) end)) [ true ↦ name_from whole end text e next | false ↦ e ]
    ]

subtags_from : (whole end : List ℕ) (hyphen : Bool) (text : List ℕ) → IsEndOf whole end → IsEndOf whole text → IsEndOf whole (past_subtags end hyphen text)
subtags_from whole end hyphen [] e t = e
subtags_from whole end hyphen (c ∷ text) e t =
    let next = one_more whole text c t in
    elim (is_alphanumeric c) as (λ q. IsEndOf whole (cond q (past_subtags text false text) (cond (not hyphen && eqb c 45) (past_subtags end true text) end))) [
      | true ↦ subtags_from whole text false text next next
      | false ↦ elim (not hyphen && eqb c 45) as (λ q. IsEndOf whole (cond q (past_subtags end true text) end)) [ true ↦ subtags_from whole end true text e next | false ↦ e ]
    ]

-- what is behind a name
pub name_end : (whole text : List ℕ) → IsEndOf whole text → IsEndOf whole (past_name text text)
name_end whole text e = name_from whole text text e e

-- what is behind a tag
pub tag_end : (whole text : List ℕ) → IsEndOf whole text → IsEndOf whole (past_tag text)
tag_end whole [] e = e
tag_end whole (c ∷ text) e =
    elim (eqb c 45) as (λ q. IsEndOf whole (cond q (past_subtags (c ∷ text) true text) (c ∷ text))) [
      | true ↦ subtags_from whole (c ∷ text) true text e (one_more whole text c e)
      | false ↦ e
    ]

-- what is behind a front of a class
pub after_end : (p : ℕ → Bool) (text : List ℕ) → IsEndOf text (after p text)
after_end p text = (front p text, sym (parts p text))

-- what is behind a name that begins with this character
pub after_name : (whole more rest : List ℕ) (c : ℕ) → head_at whole ≡ Some (c, more) → rest ≡ past_name more more → IsEndOf whole rest
after_name [] more rest c e is = absurd cc
after_name (d ∷ text) more rest c e is =
    let same : text ≡ more = ap (λ (p : ℕ × List ℕ). p.1) (some_is (d, text) (c, more) e) in
    subst (IsEndOf (d ∷ text)) (sym is) (name_end (d ∷ text) more (d ∷ [], ap (λ r. d ∷ r) same))

-- what is behind a tag, from its letters on
pub after_tag : (whole letters rest : List ℕ) → letters ≡ after is_letter whole → rest ≡ past_tag letters → IsEndOf whole rest
after_tag whole letters rest is end = subst (IsEndOf whole) (sym end) (tag_end whole letters (subst (IsEndOf whole) (sym is) (after_end is_letter whole)))
