-- Labels: the longest that stands at the front of a text is the one that is read.
use Rattle.std.proofs.Common.{◌≡◌, ℕ, ◌≤◌, ◌-◌, Bool, true, false, cond, ◌||◌, List, [], ◌∷◌, ◌++◌, length, take, drop, Some, eqb, refl, sym, ap, ◌∙◌, subst, arith, append_assoc, length-append}
use Rattle.std.proofs.Math.Seq.{take-append_seam, drop-append_seam}
use Rattle.std.specs.Str.{encode_utf8_all}
use Rattle.term_core.specs.Characters.{AreAll}
use Rattle.term_core.specs.Names.{IsDotted, IsLabel, is_label_first, is_label_part}
use Rattle.nt_text.specs.Grammar.{IsLongestFront}
use Rattle.nt_text.specs.Reading.{past_name, front_before, name_at}
use Rattle.nt_text.proofs.Steps.{guard_some}
use Rattle.nt_text.proofs.EscapeLaws.{all_parts, all_both}

-- ---- cuts of a text

-- a text has one front of a length
pub same_cut : (a x b y : List ℕ) → a ++ x ≡ b ++ y → length a ≡ length b → (a ≡ b) × (x ≡ y)
same_cut a x b y e same =
    (sym (take-append_seam a x) ∙ (λ i. take (same i) (e i)) ∙ take-append_seam b y, sym (drop-append_seam a x) ∙ (λ i. drop (same i) (e i)) ∙ drop-append_seam b y)

-- what is before a rest
pub before_seam : (front rest : List ℕ) → front_before (front ++ rest) rest ≡ front
before_seam front rest =
    let count : length (front ++ rest) - length rest ≡ length front = omega (arith, length-append front rest) in
    ap (λ n. take n (front ++ rest)) count ∙ take-append_seam front rest

-- ---- names

-- a character that may stand in a name, dots too
abbrev may_stand : ℕ → Bool
may_stand c = is_label_part c || eqb c 46

push_all : (p : ℕ → Bool) (g : List ℕ) (c : ℕ) → AreAll p g → p c ≡ true → AreAll p (g ++ c ∷ [])
push_all p g c all one = all_both p g (c ∷ []) all (rw one refl)

dotted_push : (g : List ℕ) (c : ℕ) → AreAll may_stand g → is_label_part c ≡ true → IsDotted is_label_part (g ++ c ∷ [])
dotted_push [] c all part = part
dotted_push (x ∷ []) c all part = ((all_parts may_stand x [] all).0, part)
dotted_push (x ∷ y ∷ g) c all part = let a = all_parts may_stand x (y ∷ g) all in (a.0, dotted_push (y ∷ g) c a.1 part)

part_stands : (c : ℕ) → is_label_part c ≡ true → may_stand c ≡ true
part_stands c h = rw h refl

dot_stands : (c : ℕ) → is_label_part c ≡ false → eqb c 46 ≡ true → may_stand c ≡ true
dot_stands c h e = rw (h, e) refl

-- a front that is a name, behind which this rest is
abbrev HasName : List ℕ → List ℕ → Type 0
HasName whole rest = (name : List ℕ) × (whole ≡ name ++ rest) × IsDotted is_label_part name

name_from : (whole end g text : List ℕ) → HasName whole end → whole ≡ g ++ text → AreAll may_stand g → HasName whole (past_name end text)
name_from whole end g [] found here all = found
name_from whole end g (c ∷ text) found here all =
    let next : whole ≡ (g ++ c ∷ []) ++ text = here ∙ sym (append_assoc g (c ∷ []) text) in
    elim (is_label_part c) as (λ q. is_label_part c ≡ q → HasName whole (cond q (past_name text text) (cond (eqb c 46) (past_name end text) end))) [
      | true ↦ λ part. name_from whole text (g ++ c ∷ []) text (g ++ c ∷ [], next, dotted_push g c all part) next (push_all may_stand g c all (part_stands c part))
      | false ↦ λ other. elim (eqb c 46) as (λ q. eqb c 46 ≡ q → HasName whole (cond q (past_name end text) end)) [
        | true ↦ λ dot. name_from whole end (g ++ c ∷ []) text found next (push_all may_stand g c all (dot_stands c other dot))
        | false ↦ λ stop. found
      ] refl
    ] refl

-- what is read stands there
name_front : (text : List ℕ) → HasName text (past_name text text)
name_front text = name_from text text [] text ([], refl, tt) refl refl

never_longer : (n : ℕ) (end text : List ℕ) → length end ≤ n → length text ≤ n → length (past_name end text) ≤ n
never_longer n end [] e t = e
never_longer n end (c ∷ text) e t =
    elim (is_label_part c) as (λ q. length (cond q (past_name text text) (cond (eqb c 46) (past_name end text) end)) ≤ n) [
      | true ↦ never_longer n text text (omega (arith, t)) (omega (arith, t))
      | false ↦ elim (eqb c 46) as (λ q. length (cond q (past_name end text) end) ≤ n) [ true ↦ never_longer n end text e (omega (arith, t)) | false ↦ e ]
    ]

-- and no less than any name that stands there
name_reach : (c : ℕ) (name behind end : List ℕ) → IsDotted is_label_part (c ∷ name) → length (past_name end (c ∷ (name ++ behind))) ≤ length behind
name_reach c [] behind end part = rw part (never_longer (length behind) behind behind (omega arith) (omega arith))
name_reach c (d ∷ name) behind end (stands, rest) =
    elim (is_label_part c) as (λ q. (q || eqb c 46) ≡ true → length (cond q (past_name (d ∷ (name ++ behind)) (d ∷ (name ++ behind))) (cond (eqb c 46) (past_name end (d ∷ (name ++ behind))) end)) ≤ length behind) [
      | true ↦ λ h. name_reach d name behind (d ∷ (name ++ behind)) rest
      | false ↦ λ h. rw h (name_reach d name behind end rest)
    ] stands

-- how much of a text is behind a name
left_of : (text name behind : List ℕ) → text ≡ name ++ behind → IsDotted is_label_part name → length (past_name text text) ≤ length behind
left_of text [] behind e dotted = subst (λ t. length (past_name t t) ≤ length behind) (sym e) (never_longer (length behind) behind behind (omega arith) (omega arith))
left_of text (c ∷ name) behind e dotted = subst (λ t. length (past_name t t) ≤ length behind) (sym e) (name_reach c name behind (c ∷ (name ++ behind)) dotted)

-- ---- labels

-- the labels at the front of a text are no longer than the one that is read
label_longest : (first : ℕ) (more name : List ℕ) → more ≡ name ++ past_name more more → IsLongestFront IsLabel (first ∷ more) (first ∷ name)
label_longest first more name whole [] behind is e = absurd is
label_longest first more name whole (c ∷ longer) behind is e =
    let rest : more ≡ longer ++ behind = cc e in
    let reach = left_of more longer behind rest is.1 in
    omega (arith, ap length whole ∙ length-append name (past_name more more), ap length rest ∙ length-append longer behind, reach)

-- a label at the front of a text
pub record IsLabelAt (text value rest : List ℕ) : Type 0 where
  pub characters : List ℕ
  pub spelled : text ≡ characters ++ rest
  pub is_label : IsLabel characters
  pub longest : IsLongestFront IsLabel (characters ++ rest) characters
  pub bytes : value ≡ encode_utf8_all characters

abbrev Read : Type 0
Read = List ℕ × List ℕ

-- a label that is read stands there
pub name_sound : (text value rest : List ℕ) → name_at text ≡ Some (value, rest) → IsLabelAt text value rest
unfolding name_at
name_sound [] value rest e = absurd cc
name_sound (c ∷ more) value rest e =
    let read : Read = (encode_utf8_all (front_before (c ∷ more) (past_name more more)), past_name more more) in
    let wanted : Read = (value, rest) in
    let g = guard_some (is_label_first c) read wanted e in
    let name = name_front more in
    let rest_is : past_name more more ≡ rest = ap (λ (r : Read). r.1) g.1 in
    let value_is : encode_utf8_all (front_before (c ∷ more) (past_name more more)) ≡ value = ap (λ (r : Read). r.0) g.1 in
    let whole : c ∷ more ≡ (c ∷ name.0) ++ past_name more more = ap (λ t. c ∷ t) name.1 in
    let before_is : front_before (c ∷ more) (past_name more more) ≡ c ∷ name.0 = ap (λ t. front_before t (past_name more more)) whole ∙ before_seam (c ∷ name.0) (past_name more more) in
    let spelled : c ∷ more ≡ (c ∷ name.0) ++ rest = whole ∙ ap (λ r. (c ∷ name.0) ++ r) rest_is in
    record {
      characters = c ∷ name.0;
      spelled = spelled;
      is_label = (g.0, name.2);
      longest = subst (λ t. IsLongestFront IsLabel t (c ∷ name.0)) spelled (label_longest c more name.0 name.1);
      bytes = sym value_is ∙ ap encode_utf8_all before_is;
    }

-- the longest label at the front is read
pub name_complete : (characters rest : List ℕ) → IsLabel characters → IsLongestFront IsLabel (characters ++ rest) characters → name_at (characters ++ rest) ≡ Some (encode_utf8_all characters, rest)
unfolding name_at
name_complete [] rest is longest = absurd is
name_complete (c ∷ tail) rest (first, dotted) longest =
    let more = tail ++ rest in
    let name = name_front more in
    let whole : c ∷ (tail ++ rest) ≡ (c ∷ name.0) ++ past_name more more = ap (λ t. c ∷ t) name.1 in
    let no_longer = longest (c ∷ name.0) (past_name more more) (first, name.2) whole in
    let reach = left_of more tail rest refl dotted in
    let lengths : length tail ≡ length name.0 = omega (arith, length-append tail rest, ap length name.1 ∙ length-append name.0 (past_name more more), reach, no_longer) in
    let same = same_cut tail rest name.0 (past_name more more) name.1 lengths in
    rw first ((λ i. Some (encode_utf8_all (front_before (c ∷ (tail ++ rest)) (sym same.1 i)), sym same.1 i)) ∙ ap (λ t. Some (encode_utf8_all t, rest)) (before_seam (c ∷ tail) rest))
