use Rattle.std.proofs.Common.{subst}
use Rattle.pattern_page.specs.PagesOf.{part_seen, AnswersPage}
use Rattle.pattern_page.specs.Followed.{next_in}
use Rattle.pattern_page.proofs.FollowLinks.{turned_all}
use Rattle.pattern_page.proofs.follow.turn.Goals as goal

pub returns-clause-page : goal.returns-clause-page
returns-clause-page g c = λ D pattern h b.
    turned_all D pattern (part_seen c.args.part.now h.terms h.ids) h.is_of c.args.walk.now.counts.steps c.args.quantum (next_in c.args.walk.now) c.page.result b
    (subst (λ next. AnswersPage D pattern next c.args.quantum c.page.result) c.slice_of.ensures (c.page.ensures.page D pattern h))
