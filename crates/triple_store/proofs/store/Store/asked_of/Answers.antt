use Rattle.std.proofs.Common.{ap, Err}
use Rattle.term_core.specs.Patterns.{pattern_of}
use Rattle.triple_store.proofs.Opened.{handed_on, shown_kept, kept_on}
use Rattle.triple_store.proofs.Matches.{asked_is}
use Rattle.triple_store.proofs.store.Store.asked_of.Goals as goal

pub returns-in_err-subject-clause-whole : goal.returns-in_err-subject-clause-whole
returns-in_err-subject-clause-whole g c = λ terms ids block shown e. c.in_err-subject.ensures.whole terms ids block shown (ap Err (handed_on _ _ block c.from_residual.ensures e))

pub returns-in_err-predicate-clause-whole : goal.returns-in_err-predicate-clause-whole
returns-in_err-predicate-clause-whole g c = λ terms ids block shown e.
    c.in_err-predicate.ensures.whole terms ids block (shown_kept _ _ terms ids c.wanted_at.ensures.kept shown) (ap Err (handed_on _ _ block c.from_residual-in_err-predicate.ensures e))

pub returns-in_err-object-clause-whole : goal.returns-in_err-object-clause-whole
returns-in_err-object-clause-whole g c = λ terms ids block shown e.
    c.in_err-object.ensures.whole terms ids block (shown_kept _ _ terms ids (kept_on _ _ _ c.wanted_at.ensures.kept c.wanted_at-2.ensures.kept) shown)
    (ap Err (handed_on _ _ block c.from_residual-in_err-object.ensures e))

pub returns-clause-found : goal.returns-clause-found
returns-clause-found g c = λ terms ids i shown below.
    asked_is terms (pattern_of c.args.p.now) _ i
    (c.in_ok-subject.ensures.found terms ids i.s shown below.s)
    (c.in_ok-predicate.ensures.found terms ids i.p (shown_kept _ _ terms ids c.wanted_at.ensures.kept shown) below.p)
    (c.in_ok-object.ensures.found terms ids i.o (shown_kept _ _ terms ids (kept_on _ _ _ c.wanted_at.ensures.kept c.wanted_at-2.ensures.kept) shown) below.o)
