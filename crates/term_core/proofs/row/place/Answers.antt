use Rattle.std.proofs.Common.{◌∙◌, sym, ap}
use Rattle.term_core.specs.Order.{bytes_cmp}
use Rattle.term_core.proofs.Puts.{put_tied}
use Rattle.term_core.proofs.row.place.Goals as goal

pub returns-in-Equal : goal.returns-in-Equal
returns-in-Equal c = (
  c.loop-at-test.true,
  λ v. c.loop-at.invariant v
      ∙ put_tied _ c.index-entries-at.result c.loop-at.at _ v c.loop-at-test.true c.index-entries-at.is
      (ap (bytes_cmp c.args.name.now) (sym c.bytes.ensures.same) ∙ sym c.cmp.ensures ∙ c.in-Equal.is),
)
