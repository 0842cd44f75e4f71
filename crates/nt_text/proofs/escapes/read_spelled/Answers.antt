use Rattle.std.proofs.Common.{◌∙◌, sym, ap}
use Rattle.std.specs.Str.{chars}
use Rattle.term_core.specs.Characters.{front, after}
use Rattle.nt_text.proofs.Spelled.{begun, gone_on, left_on}
use Rattle.nt_text.proofs.escapes.read_spelled.Goals as goal

pub escapes-init : goal.escapes-init
escapes-init c =
    let class = c.plain_class.ensures in
    let plain = c.span.ensures.front ∙ ap (λ p. front p (chars c.args.text.now)) class in
    let rest = c.span.ensures.after ∙ ap (λ p. after p (chars c.args.text.now)) class in
    let b = begun c.args.quoted (chars c.args.text.now) (chars c.span.result.1.now) c.span.result.0.now _ c.span.ensures.utf8.0 c.in_ok-spelled.ensures.ok plain rest in
    (c.span.ensures.utf8.1, b.0, b.1)

pub escapes-preserved : goal.escapes-preserved
escapes-preserved c =
    let class = c.plain_class-in-Some.ensures in
    let text = chars c.in-Some.behind.now in
    let plain = c.span-in-Some.ensures.front ∙ ap (λ p. front p text) class in
    let rest = c.span-in-Some.ensures.after ∙ ap (λ p. after p text) class in
    let escape = sym c.in-Some.ensures.exact in (
      c.span-in-Some.ensures.utf8.1,
      gone_on c.args.quoted (chars c.escapes.left.now) text (chars c.span-in-Some.result.1.now) _ _ _ _ c.span-in-Some.result.0.now c.in-Some.c
          c.span-in-Some.ensures.utf8.0 escape plain rest c.in_ok-push.ensures.bytes c.in_ok-push_str.ensures.bytes c.escapes.invariant.1,
      left_on c.args.quoted (chars c.escapes.left.now) text (chars c.span-in-Some.result.1.now) _ c.in-Some.c escape rest c.escapes.invariant.2,
    )
