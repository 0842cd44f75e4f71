use Rattle.std.proofs.Common.{◌≡◌, ◌+◌, ◌-◌, ◌<◌, ◌^◌, drop, length, get_or, true, sym, ap, ◌∙◌, arith, min}
use Rattle.std.proofs.lemmas.Grind.{common_steps}
use Rattle.std.proofs.lemmas.List.{drop_more}
use Rattle.std.specs.Char.{is_ascii_digit}
use Rattle.std.specs.Str.Parse.{digits_value_after}
use Rattle.http_core.specs.Fields.{are_digits}
use Rattle.http_core.proofs.Numbers.{digit_step, one_less}
use Rattle.http_core.proofs.lengths.digits.Goals as goal

pub digits-preserved : goal.digits-preserved
digits-preserved c =
    let i = c.digits.c-index in
    let text = c.args.text.now in
    let within : i < length text = grind (arith, common_steps) in
    let here = drop_more text i 0 within in
    let inv = c.digits.invariant in
    let digit : is_ascii_digit (get_or text i 0) ≡ true = grind (arith, common_steps) in (
      omega (arith, c.add_digit-total.ensures),
      one_less (get_or text i 0) (drop (i + 1) text) digit ∙ ap are_digits (sym here) ∙ inv.1,
      digit_step c.digits.total c.add_digit-total.result (get_or text i 0) (drop (i + 1) text) digit c.add_digit-total.ensures
          ∙ ap (λ cs. min (digits_value_after 10 c.digits.total cs) (2 ^ 64 - 1)) (sym here) ∙ inv.2,
    )
