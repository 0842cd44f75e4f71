use Rattle.pattern_page.proofs.Refusals.{refused_later, still_seen}
use Rattle.pattern_page.proofs.page.Part.page_from.Goals as goal

pub returns-in_err-next-clause-refused : goal.returns-in_err-next-clause-refused
returns-in_err-next-clause-refused g c =
    refused_later c.from_residual-in_err-next.result c.in_err-next.field-0.0 c.args.store.now c.run.new.store c.save.new.store c.from_residual-in_err-next.ensures
    c.run.ensures.kept c.in_err-next.ensures.refused

pub returns-clause-found : goal.returns-clause-found
returns-clause-found g c = λ terms ids s.
    let stretch = c.in_ok-stretch.ensures.found terms ids s in
    record {
      end = c.in_ok-stretch.stretch.cursor;
      within = stretch.within;
      taken = stretch.taken;
      steps_are = stretch.steps_are;
      next_is = c.in_ok-next.ensures.found terms ids (still_seen c.args.store.now c.run.new.store c.args.self.now terms ids c.run.ensures.kept s);
    }
