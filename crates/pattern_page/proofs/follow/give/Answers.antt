use Rattle.std.proofs.Common.{◌≡◌, ◌++◌, Err, refl, sym, ap, ◌∙◌, subst, rules, arith}
use Rattle.std.proofs.lemmas.Grind.{common_steps}
use Rattle.std.specs.Prelude.{flat_map}
use Rattle.pattern_page.specs.Results.{line}
use Rattle.pattern_page.specs.declared.page.PageFault.{PageFault}
use Rattle.pattern_page.specs.PagesOf.{part_seen, page_of}
use Rattle.pattern_page.specs.Followed.{next_in, IsTurned}
use Rattle.pattern_page.proofs.FollowLinks.{pages_fit, steps_fit, given_passed}
use Rattle.pattern_page.proofs.follow.give.Goals as goal

pub returns-in_err-page-clause-page : goal.returns-in_err-page-clause-page
returns-in_err-page-clause-page g c = λ D pattern h b few.
    given_passed D pattern c.args.walk.now.counts.steps c.args.quantum c.args.names.now c.args.walk.now c.args.walk.now c.args.out.now.items c.args.out.now.items
    c.from_residual.result c.in_err-page.field-0.0 c.from_residual.ensures
    (subst (IsTurned D pattern c.args.walk.now.counts.steps c.args.quantum) c.in_err-page.was (c.turn.ensures.page D pattern h b))

pub returns-clause-page : goal.returns-clause-page
returns-clause-page g c = λ D pattern h b few.
    let part = part_seen c.args.part.now h.terms h.ids in
    let walk = c.args.walk.now in
    let page = c.in_ok-page.ensures.page D pattern h b in
    record {
      page = page_of c.in_ok-page.page;
      page_is = page;
      counts_are = c.add-walk.ensures
          (pages_fit D pattern part h.is_of walk.counts.steps walk.counts.pages (next_in walk) b few)
          (steps_fit D pattern part h.is_of walk.counts.steps c.args.quantum (next_in walk) (page_of c.in_ok-page.page) b page);
      lines_are = c.in_ok-push_lines.ensures ∙ ap (λ rows. c.args.out.now.items ++ flat_map (line c.args.names.now) rows) c.as_slice.ensures;
      next_is = refl;
      more_is = first_of (search rules, grind (arith, common_steps));
    }
