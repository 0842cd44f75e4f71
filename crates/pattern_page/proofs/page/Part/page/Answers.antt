use Rattle.std.proofs.Common.{Bor, List, ℕ, subst}
use Rattle.std.specs.Prelude.{option_map}
use Rattle.pattern_page.specs.PagesOf.{part_seen, Starts}
use Rattle.pattern_page.proofs.Refusals.{all_may, still_seen}
use Rattle.pattern_page.proofs.PageLinks.{answered_all, unanswered}
use Rattle.pattern_page.proofs.page.Part.page.Goals as goal

pub returns-in-None-clause-page : goal.returns-in-None-clause-page
returns-in-None-clause-page g c = λ D pattern h.
    let part = part_seen c.args.self.now h.terms h.ids in
    let next = option_map (λ (b : Bor (List ℕ)). b.now) c.args.next in
    unanswered D pattern part h.is_of next c.args.quantum (subst (Starts part next) c.in-None.is (c.in_ok-start.ensures.found h.terms h.ids h.is_seen))

pub returns-in-Some-clause-refused : goal.returns-in-Some-clause-refused
returns-in-Some-clause-refused g c =
    all_may c.page_from.result c.args.store.now c.start.new.store c.page_from.new.store c.start.ensures.kept c.page_from.ensures.refused

pub returns-in-Some-clause-page : goal.returns-in-Some-clause-page
returns-in-Some-clause-page g c = λ D pattern h.
    let part = part_seen c.args.self.now h.terms h.ids in
    let next = option_map (λ (b : Bor (List ℕ)). b.now) c.args.next in
    answered_all D pattern part h.is_of next c.in-Some.cursor c.args.quantum c.page_from.result c.start.new.store c.page_from.new.store
    (subst (Starts part next) c.in-Some.is (c.in_ok-start.ensures.found h.terms h.ids h.is_seen))
    (c.page_from.ensures.found h.terms h.ids (still_seen c.args.store.now c.start.new.store c.args.self.now h.terms h.ids c.start.ensures.kept h.is_seen))
    c.page_from.ensures.refused
