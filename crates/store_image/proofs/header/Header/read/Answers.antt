use Rattle.std.proofs.Common.{◌≡◌, sym, ap, subst, ◌∙◌, true, false}
use Rattle.sage_outside.specs.Parts.{is_sound}
use Rattle.store_image.specs.Format.{IsFormat, payload_of, mark_of}
use Rattle.store_image.specs.Header.{AreWithinFile, IsHeader, IsBroken}
use Rattle.store_image.proofs.Headers.{broken_from, sound_from, told_alone}
use Rattle.store_image.proofs.header.Header.read.Goals as goal

pub returns-then-not-has_tag : goal.returns-then-not-has_tag
returns-then-not-has_tag c =
    let tag : c.has_tag.result ≡ false = cc in
    broken_from c.in-Some.format c.args.block.now c.in-Some.ensures.some c.in-Some.ensures.mark (sym c.has_tag.ensures ∙ tag)

pub returns-else-is_within : goal.returns-else-is_within
returns-else-is_within c =
    let tag : c.has_tag.result ≡ true = cc in
    let told = c.told-header.ensures in
    let format = subst IsFormat (sym told.format) c.in-Some.ensures.some in
    let mark = c.in-Some.ensures.mark ∙ ap mark_of (sym told.format) in (
      sound_from c.in-Some.format c.args.block.now c.in-Some.ensures.some c.in-Some.ensures.mark (sym c.has_tag.ensures ∙ tag),
      λ h is.
          let same = told_alone c.args.block.now c.args.count c.told-header.result h format mark told.blocks told.terms told.triples told.longest told.name is in
          let within = c.is_within.ensures.1 (subst (λ k. AreWithinFile k c.args.count) same is.within) in
          let not = c.if-is_within.false in
          cc,
    )
