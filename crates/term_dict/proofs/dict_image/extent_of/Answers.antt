use Rattle.std.proofs.Common.{◌≡◌, length, map, max, refl, arith}
use Rattle.std.proofs.lemmas.Grind.{common_steps}
use Rattle.term_dict.specs.Records.{record_of}
use Rattle.term_dict.proofs.Steps.{mapped_within, mapped_read, mapped_at, record_short, bytes_more, longest_more}
use Rattle.term_dict.proofs.dict_image.extent_of.Goals as goal

pub record_length-length-requires : goal.record_length-length-requires
record_length-length-requires c =
    c.requires.short c.loop-t.t-index c.t-item.result.now (mapped_at (λ t. t.now) c.args.terms.now c.loop-t.t-index c.t-item.result c.loop-t-test.true c.t-item.is)

pub loop-t-preserved : goal.loop-t-preserved
loop-t-preserved c =
    let i = c.loop-t.t-index in
    let t = c.t-item.result.now in
    let ts = map (λ t. t.now) c.args.terms.now in
    let within = mapped_within (λ t. t.now) c.args.terms.now i c.t-item.result c.loop-t-test.true c.t-item.is in
    let read = mapped_read (λ t. t.now) c.args.terms.now i c.t-item.result c.loop-t-test.true c.t-item.is in
    let short = record_short t (c.requires.short i t (mapped_at (λ t. t.now) c.args.terms.now i c.t-item.result c.loop-t-test.true c.t-item.is)) in
    let long = c.record_length-length.ensures in
    let max_is : c.max-longest.result ≡ max c.loop-t.longest (length (record_of t)) = grind (arith, common_steps, long, c.max-longest.ensures) in
    record {
      bytes = bytes_more ts i t within read c.loop-t.bytes _ _ c.record_length-length.result long refl c.loop-t.invariant.bytes;
      longest = longest_more ts i t within read c.loop-t.longest _ _ max_is c.loop-t.invariant.longest;
      small = omega arith;
    }
