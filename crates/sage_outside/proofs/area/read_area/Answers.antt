use Rattle.std.proofs.Common.{◌≡◌, ◌+◌, arith, length, refl, sym, ap, ◌∙◌}
use Rattle.sage_outside.specs.Areas.{part_of, part_at}
use Rattle.sage_outside.proofs.Answered.{still, reads_ok, refused, passed_on}
use Rattle.sage_outside.proofs.Parts.{front_more}
use Rattle.sage_outside.proofs.Runs.{step_of, early_more, sane_start, sane_more, piece_is, broken_is, run_is}
use Rattle.sage_outside.proofs.area.read_area.Goals as goal

pub pieces-init : goal.pieces-init
pieces-init g c = record {
  image = refl;
  count = refl;
  later = omega arith;
  cost = record { within = omega arith; risen = omega arith; all = λ e. omega arith; early = λ lt. omega arith };
  front = λ image tells. refl;
  sane = λ image tells. sane_start c.args.area.now.payload _ c.args.at (length c.args.buf.now) image c.requires.payload;
}

pub pieces-preserved : goal.pieces-preserved
pieces-preserved g c =
    let len = length c.args.buf.now in
    let k = c.min-count.result in
    let step = step_of c.args.area.now.payload c.args.area.now.first c.args.at c.pieces.done k len c.requires.payload (omega arith) (grind (arith, c.min-count.ensures)) in
    record {
      image = cc;
      count = cc;
      later = omega arith;
      cost = early_more _ _ _ _ _ _ _ (g.B.Blocks.device c.pieces.blocks).reads _ step c.pieces.invariant.cost (omega arith) (omega arith) (omega arith);
      front = λ image tells.
          let told = still _ _ image c.pieces.invariant.image tells in
          let long : length c.read_within.new.piece ≡ k = omega arith in
          let read = reads_ok c.read_within.result _ c.read_within.new.piece (part_at c.args.area.now (c.args.at + c.pieces.done) (length c.read_within.new.piece) image) c.in_ok-read_within.was (c.read_within.ensures.found image told) in
          let here = ap (λ n. part_at c.args.area.now (c.args.at + c.pieces.done) n image) (sym long) ∙ read in
          let is = piece_is c.args.area.now c.args.at c.pieces.done k len image step (omega arith) (c.pieces.invariant.sane image tells) c.read_within.new.piece here in
          front_more c.args.area.now c.args.at c.pieces.done k _ c.pieces.buf c.read_within.new.piece image (c.pieces.invariant.front image tells) (is ∙ ap (λ n. part_of c.args.area.now (c.args.at + c.pieces.done) n image) (sym long)) long (omega arith);
      sane = λ image tells.
          let told = still _ _ image c.pieces.invariant.image tells in
          let long : length c.read_within.new.piece ≡ k = omega arith in
          let read = reads_ok c.read_within.result _ c.read_within.new.piece (part_at c.args.area.now (c.args.at + c.pieces.done) (length c.read_within.new.piece) image) c.in_ok-read_within.was (c.read_within.ensures.found image told) in
          let here = ap (λ n. part_at c.args.area.now (c.args.at + c.pieces.done) n image) (sym long) ∙ read in
          sane_more c.args.area.now c.args.at c.pieces.done k len image step (omega arith) (c.pieces.invariant.sane image tells) c.read_within.new.piece here;
    }

pub returns-in_err-read_within-clause-found : goal.returns-in_err-read_within-clause-found
returns-in_err-read_within-clause-found g c = λ image tells.
    let len = length c.args.buf.now in
    let k = c.min-count.result in
    let step = step_of c.args.area.now.payload c.args.area.now.first c.args.at c.pieces.done k len c.requires.payload (omega arith) (grind (arith, c.min-count.ensures)) in
    let told = still _ _ image c.pieces.invariant.image tells in
    let long : length c.read_within.new.piece ≡ k = omega arith in
    refused _ _ c.read_within.result c.from_residual.result c.in_err-read_within.field-0.0 _ _ c.in_err-read_within.was (passed_on c.from_residual.result c.in_err-read_within.field-0.0 c.from_residual.ensures)
    (λ d e. let f = broken_is c.args.area.now c.args.at c.pieces.done k len image step (omega arith) (c.pieces.invariant.sane image tells) d (ap (λ n. part_at c.args.area.now (c.args.at + c.pieces.done) n image) (sym long) ∙ e) in ap (λ n. part_at c.args.area.now c.args.at n image) (omega arith) ∙ f)
    (c.read_within.ensures.found image told)

pub returns-clause-found : goal.returns-clause-found
returns-clause-found g c = λ image tells.
    let long : length c.pieces.buf ≡ c.pieces.done = omega arith in
    let end : length c.args.buf.now ≡ c.pieces.done = omega arith in
    run_is c.args.area.now c.args.at c.pieces.done (length c.args.buf.now) image c.pieces.buf end long (c.pieces.invariant.sane image tells) (c.pieces.invariant.front image tells)
