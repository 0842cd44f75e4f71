use Rattle.std.proofs.Common.{Err, ap, ◌∙◌, arith}
use Rattle.pattern_page.specs.PagesOf.{part_seen}
use Rattle.pattern_page.proofs.Refusals.{refused_store, refused_later, still_seen}
use Rattle.pattern_page.proofs.PageCursor.{gives_triple}
use Rattle.pattern_page.proofs.page.Part.step_to.Goals as goal

pub returns-in_err-triple-clause-refused : goal.returns-in_err-triple-clause-refused
returns-in_err-triple-clause-refused g c =
    refused_store c.from_residual.result c.in_err-triple.field-0.0 c.args.store.now c.triple.new.self c.from_residual.ensures
    (λ e. c.triple.ensures.failed (c.in_err-triple.was ∙ ap Err e)) (λ terms ids block s e. c.triple.ensures.whole terms ids block s (c.in_err-triple.was ∙ ap Err e))

pub returns-in_err-row-clause-refused : goal.returns-in_err-row-clause-refused
returns-in_err-row-clause-refused g c =
    refused_later c.from_residual-in_err-row.result c.in_err-row.field-0.0 c.args.store.now c.triple.new.self c.solve.new.store c.from_residual-in_err-row.ensures
    c.triple.ensures.kept c.in_err-row.ensures.refused

pub returns-in_ok-row-clause-found : goal.returns-in_ok-row-clause-found
returns-in_ok-row-clause-found g c = λ terms ids s.
    let part = part_seen c.args.self.now terms ids in (
      omega (arith, c.if-place-len.true, c.len.ensures, s.count),
      gives_triple part c.args.place c.in_ok-triple.triple c.in_ok-row.row (c.in_ok-triple.ensures.found terms ids s.shown)
          (c.in_ok-row.ensures.found terms ids (still_seen c.args.store.now c.triple.new.self c.args.self.now terms ids c.triple.ensures.kept s)),
    )
