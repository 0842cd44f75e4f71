use Rattle.std.proofs.Common.{◌≡◌, ◌<◌, ◌^◌, sym, subst, arith}
use Rattle.store_image.specs.Format.{payload_of}
use Rattle.store_image.proofs.Padding.{places_few, payload_is}
use Rattle.store_image.proofs.header.Header.place_blocks.Goals as goal

pub returns-clause-few : goal.returns-clause-few
returns-clause-few c = subst (λ n. n < 2 ^ 24) (sym c.blocks_for.ensures) (places_few c.payload.result c.args.self.now.terms c.payload.ensures.whole (omega arith))
