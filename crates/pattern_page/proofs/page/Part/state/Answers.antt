use Rattle.std.proofs.Common.{Err, sym, ap, ◌∙◌}
use Rattle.std.specs.Prelude.{option_map}
use Rattle.pattern_page.specs.StateReading.{at_state}
use Rattle.pattern_page.specs.PagesOf.{part_seen, cursor_state}
use Rattle.pattern_page.proofs.Refusals.{refused_same}
use Rattle.pattern_page.proofs.page.Part.state.Goals as goal

pub returns-in_err-triple-in-After-clause-refused : goal.returns-in_err-triple-in-After-clause-refused
returns-in_err-triple-in-After-clause-refused g c =
    refused_same c.from_residual.result c.in_err-triple-in-After.field-0.0 c.args.store.now c.triple.new.self c.from_residual.ensures
    (λ e. c.triple.ensures.failed (c.in_err-triple-in-After.was ∙ ap Err e)) (λ terms ids block s e. c.triple.ensures.whole terms ids block s (c.in_err-triple-in-After.was ∙ ap Err e))

pub returns-in_ok-triple-in-After-clause-found : goal.returns-in_ok-triple-in-After-clause-found
returns-in_ok-triple-in-After-clause-found g c = λ terms ids s.
    sym (ap (cursor_state (part_seen c.args.self.now terms ids)) c.in-After.is ∙ ap (option_map at_state) (c.in_ok-triple-in-After.ensures.found terms ids s.shown))
