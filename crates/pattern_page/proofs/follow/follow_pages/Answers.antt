use Rattle.std.proofs.Common.{◌≡◌, Err, refl, sym, subst, arith, Vec, ℕ, Global}
use Rattle.triple_store.specs.Stores.{IsKept}
use Rattle.pattern_page.specs.declared.follow.Walk.{Walk}
use Rattle.pattern_page.specs.PagesOf.{part_seen}
use Rattle.pattern_page.specs.Followed.{next_in, IsGiven, IsFollowed}
use Rattle.pattern_page.proofs.Refusals.{kept_none, kept_twice, still_within, still_part, may_passed}
use Rattle.pattern_page.proofs.FollowLinks.{followed_passed}
use Rattle.pattern_page.proofs.FollowPages.{walked_none, walked_more, walked_through, paged_at, not_walked, counted_few}
use Rattle.pattern_page.proofs.follow.follow_pages.Goals as goal
use Rattle.pattern_page.proofs.follow.follow_pages.Goals.{else-pages-test, then-pages-test+in_ok-give+then-not-branch}

pub pages-init : goal.pages-init
pages-init g c = (kept_none c.args.store.now, λ D pattern h. walked_none D pattern c.args.quanta.now c.args.names.now _ c.args.out.now.items refl refl)

pub give-requires-clause-range : goal.give-requires-clause-range
give-requires-clause-range g c = still_within c.args.store.now c.pages.store c.args.part.now.range c.pages.invariant.0 c.requires.range

pub returns-in_err-give-clause-kept : goal.returns-in_err-give-clause-kept
returns-in_err-give-clause-kept g c = kept_twice c.args.store.now c.pages.store c.give.new.store c.pages.invariant.0 c.give.ensures.kept

pub returns-in_err-give-clause-refused : goal.returns-in_err-give-clause-refused
returns-in_err-give-clause-refused g c =
    may_passed c.from_residual.result c.in_err-give.field-0.0 c.args.store.now c.pages.store c.give.new.store c.from_residual.ensures c.pages.invariant.0 c.in_err-give.ensures.refused

pub returns-in_err-give-clause-pages : goal.returns-in_err-give-clause-pages
returns-in_err-give-clause-pages g c = λ D pattern h.
    let walked = c.pages.invariant.1 D pattern h in
    let part = part_seen c.args.part.now h.terms h.ids in
    let few = counted_few D pattern part h.is_of c.args.quanta.now c.requires.some c.args.names.now c.pages.page c.pages.walk c.args.out.now.items c.pages.out.items walked in
    followed_passed D pattern c.quantum_of-quantum.result c.args.quanta.now c.args.names.now c.pages.walk c.give.new.walk c.args.out.now.items c.pages.out.items c.give.new.out.items
    c.from_residual.result c.in_err-give.field-0.0 c.from_residual.ensures
    (subst (IsGiven D pattern c.quantum_of-quantum.result c.args.names.now c.pages.walk c.give.new.walk c.pages.out.items c.give.new.out.items) c.in_err-give.was
    (c.give.ensures.page D pattern (still_part D pattern c.args.store.now c.pages.store c.args.part.now c.pages.invariant.0 h) walked.begins few))

pub pages-preserved : goal.pages-preserved
pages-preserved g c = (
  kept_twice c.args.store.now c.pages.store c.give.new.store c.pages.invariant.0 c.give.ensures.kept,
  λ D pattern h.
      let walked = c.pages.invariant.1 D pattern h in
      let part = part_seen c.args.part.now h.terms h.ids in
      let few = counted_few D pattern part h.is_of c.args.quanta.now c.requires.some c.args.names.now c.pages.page c.pages.walk c.args.out.now.items c.pages.out.items walked in
      let given = c.in_ok-give.ensures.page D pattern (still_part D pattern c.args.store.now c.pages.store c.args.part.now c.pages.invariant.0 h) walked.begins few in
      walked_more D pattern part h.is_of c.args.quanta.now c.requires.some c.args.names.now c.pages.page c.pages.walk c.give.new.walk c.args.out.now.items c.pages.out.items c.give.new.out.items c.in_ok-give.field-0
      walked (paged_at D pattern part h.is_of c.args.quanta.now c.requires.some c.args.names.now c.pages.page _ _ _ _ _ _ c.quantum_of-quantum.ensures.walked given) c.if-not-branch.false,
)

pub returns-clause-kept : goal.returns-clause-kept
returns-clause-kept g c =
    elim c.pages-test.branch [
      | else-pages-test w ↦ subst (IsKept c.args.store.now) (sym w.store-is) c.pages.invariant.0
      | then-pages-test+in_ok-give+then-not-branch w ↦ subst (IsKept c.args.store.now) (sym w.store-is)
          (kept_twice c.args.store.now c.pages.store w.give.new.store c.pages.invariant.0 w.give.ensures.kept)
    ]

pub returns-clause-pages : goal.returns-clause-pages
returns-clause-pages g c = λ D pattern h.
    let walked = c.pages.invariant.1 D pattern h in
    let part = part_seen c.args.part.now h.terms h.ids in
    let few = counted_few D pattern part h.is_of c.args.quanta.now c.requires.some c.args.names.now c.pages.page c.pages.walk c.args.out.now.items c.pages.out.items walked in
    let before = c.args.out.now.items in
    let ends = IsFollowed D pattern c.args.quanta.now c.args.names.now in
    elim c.pages-test.branch [
      | else-pages-test w ↦ absurd (not_walked D pattern part h.is_of c.args.quanta.now c.requires.some c.args.names.now c.pages.page c.pages.walk before c.pages.out.items
          (omega (arith, w.pages-test.false, c.steps-page-end.ensures D pattern c.args.store.now h)) walked)
      | then-pages-test+in_ok-give+then-not-branch w ↦
          subst (λ (walk : Walk). ends walk.counts before c.pages-test.out.items) (sym w.walk-is)
          (subst (λ (out : Vec ℕ Global). ends w.give.new.walk.counts before out.items) (sym w.out-is)
          (walked_through D pattern part h.is_of c.args.quanta.now c.requires.some c.args.names.now c.pages.page c.pages.walk w.give.new.walk before c.pages.out.items w.give.new.out.items w.in_ok-give.field-0
          walked (paged_at D pattern part h.is_of c.args.quanta.now c.requires.some c.args.names.now c.pages.page _ _ _ _ _ _ w.quantum_of-quantum.ensures.walked
          (w.in_ok-give.ensures.page D pattern (still_part D pattern c.args.store.now c.pages.store c.args.part.now c.pages.invariant.0 h) walked.begins few)) w.if-not-branch.true))
    ]
