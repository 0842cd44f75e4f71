use Rattle.std.proofs.Common.{◌≡◌, ◌+◌, ◌*◌, ◌++◌, drop, arith, refl, sym, ap, ◌∙◌}
use Rattle.store_image.specs.Format.{all_tagged}
use Rattle.store_image.proofs.Payloads.{none_tagged, length_front_tagged}
use Rattle.store_image.proofs.Padding.{payload_short}
use Rattle.store_image.proofs.Moves.{tagged_more}
use Rattle.store_image.proofs.blocks.put_tags.Goals as goal

pub returns-then-payload-eq4096 : goal.returns-then-payload-eq4096
returns-then-payload-eq4096 c = rw c.if-payload-eq4096.true (sym (none_tagged 0 c.args.count c.args.bytes.now c.requires.whole))

pub loop-number-preserved : goal.loop-number-preserved
loop-number-preserved c =
    tagged_more c.loop-number.number c.args.count c.args.bytes.now c.loop-number.bytes c.put_tag.new.bytes (omega arith) c.requires.whole c.loop-number.invariant
    (length_front_tagged 4080 0 c.loop-number.number c.args.bytes.now (omega (arith, c.requires.whole))) c.put_tag.ensures
