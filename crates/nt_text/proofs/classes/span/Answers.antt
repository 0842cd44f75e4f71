use Rattle.std.proofs.Common.{◌≡◌, ◌≤◌, ◌∙◌, ℕ, List, ap, subst, take, drop, length}
use Rattle.std.specs.Str.{IsUtf8, chars}
use Rattle.term_core.specs.Characters.{front, after}
use Rattle.nt_text.specs.Characters.{is_in}
use Rattle.nt_text.specs.declared.classes.Class.{Class}
use Rattle.nt_text.proofs.Cut.{IsCut, class_cut, range_front}
use Rattle.nt_text.proofs.classes.span.Goals as goal

-- the cut of a text whose bytes were seen as they stand
seen_cut : (class : Class) (text seen : List ℕ) (n : ℕ) → seen ≡ text → IsUtf8 text → n ≤ length seen → take n seen ≡ front (is_in class) seen → drop n seen ≡ after (is_in class) seen → IsCut (is_in class) text n
seen_cut class text seen n same utf8 fits taken left =
    class_cut class text n utf8 (subst (λ bs. n ≤ length bs) same fits) (subst (λ bs. take n bs ≡ front (is_in class) bs) same taken) (subst (λ bs. drop n bs ≡ after (is_in class) bs) same left)

pub range-requires-clause-end_boundary : goal.range-requires-clause-end_boundary
range-requires-clause-end_boundary c = (seen_cut c.args.class c.args.text.now _ c.width-at.result c.as_bytes.ensures.value c.utf8.text c.width-at.ensures.within c.width-at.ensures.front c.width-at.ensures.after).boundary

pub range_from-requires : goal.range_from-requires
range_from-requires c = λ some. (seen_cut c.args.class c.args.text.now _ c.width-at.result c.as_bytes.ensures.value c.utf8.text c.width-at.ensures.within c.width-at.ensures.front c.width-at.ensures.after).boundary

pub returns-clause-front : goal.returns-clause-front
returns-clause-front c = ap chars (c.range.ensures.value ∙ range_front c.args.text.now c.width-at.result)
    ∙ (seen_cut c.args.class c.args.text.now _ c.width-at.result c.as_bytes.ensures.value c.utf8.text c.width-at.ensures.within c.width-at.ensures.front c.width-at.ensures.after).front

pub returns-clause-after : goal.returns-clause-after
returns-clause-after c = ap chars c.range_from.ensures.value
    ∙ (seen_cut c.args.class c.args.text.now _ c.width-at.result c.as_bytes.ensures.value c.utf8.text c.width-at.ensures.within c.width-at.ensures.front c.width-at.ensures.after).after
