use Rattle.std.proofs.Common.{◌≡◌, ◌+◌, ◌++◌, map, ap, arith}
use Rattle.std.specs.Int.{w64, to_be_bytes}
use Rattle.sage_outside.proofs.Answered.{on_ok}
use Rattle.term_dict.proofs.Steps.{mapped_within, mapped_read, mapped_at, record_short, numbers_more}
use Rattle.term_dict.proofs.dict_image.push_places.Goals as goal

pub record_length-requires : goal.record_length-requires
record_length-requires c =
    c.requires.short c.loop-t.t-index c.t-item.result.now (mapped_at (λ t. t.now) c.args.terms.now c.loop-t.t-index c.t-item.result c.loop-t-test.true c.t-item.is)

pub loop-t-preserved : goal.loop-t-preserved
loop-t-preserved c =
    let i = c.loop-t.t-index in
    let t = c.t-item.result.now in
    let ts = map (λ t. t.now) c.args.terms.now in
    let new = on_ok c.push_place.result _ (c.push_place.new.out.items ≡ c.loop-t.out.items ++ to_be_bytes w64 c.loop-t.from) c.in_ok-push_place.was c.push_place.ensures in
    let within = mapped_within (λ t. t.now) c.args.terms.now i c.t-item.result c.loop-t-test.true c.t-item.is in
    let read = mapped_read (λ t. t.now) c.args.terms.now i c.t-item.result c.loop-t-test.true c.t-item.is in
    let short = record_short t (c.requires.short i t (mapped_at (λ t. t.now) c.args.terms.now i c.t-item.result c.loop-t-test.true c.t-item.is)) in
    record {
      places = numbers_more ts i t within read _ _ _ c.loop-t.from _ new (ap (λ n. c.loop-t.from + n) c.record_length.ensures) c.loop-t.invariant.places;
      small = omega arith;
    }
