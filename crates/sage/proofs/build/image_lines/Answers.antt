use Rattle.std.proofs.Common.{Err, IfOk, refl, ap, ◌∙◌, subst}
use Rattle.sage_outside.specs.Held.{never_device}
use Rattle.sage_outside.specs.Blocks.{block_at}
use Rattle.sage.specs.StoreFiles.{TellHeader}
use Rattle.sage.proofs.Opened.{told_whole}
use Rattle.sage.proofs.StoreFiles.{lines_held, only_memory}
use Rattle.sage.proofs.build.image_lines.Goals as goal

pub want_of-requires : goal.want_of-requires
want_of-requires c =
    let ensured = c.header_lines-lines.ensures in
    only_memory c.requires.held.0 2 c.args.image.now c.new.result.bytes.now c.in-Err.fault (never_device c.new.result) (never_device c.header_lines-lines.result.1) c.requires.held.1 c.new.ensures.image refl refl
    (λ image told is. ensured.not_a_store image told (c.in-Err.is ∙ ap Err is))
    (λ image told is. ensured.damaged image told (c.in-Err.is ∙ ap Err is))
    (λ is. ensured.failed (c.in-Err.is ∙ ap Err is))

pub returns-in-Ok : goal.returns-in-Ok
returns-in-Ok c = λ L holds.
    let device = never_device c.new.result in
    lines_held L c.args.image.now c.in-Ok.lines.items device.count
    (subst (λ r. IfOk r (λ lines. TellHeader (block_at 0 c.args.image.now) device.count lines.items)) c.in-Ok.is
    (c.header_lines-lines.ensures.told c.args.image.now (told_whole L 2 c.args.image.now holds device c.new.ensures.image)))
    holds
