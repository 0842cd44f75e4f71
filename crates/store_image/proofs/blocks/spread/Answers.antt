use Rattle.std.proofs.Common.{◌≡◌, ◌-◌, ◌*◌, ◌/◌, ◌++◌, List, length, replicate, arith, refl, sym, ap, ◌∙◌}
use Rattle.store_image.specs.Format.{spread}
use Rattle.store_image.proofs.Padding.{payload_short, over_times}
use Rattle.store_image.proofs.Payloads.{whole_spread, spread_front}
use Rattle.store_image.proofs.Moves.{lent_back}
use Rattle.store_image.proofs.blocks.spread.Goals as goal

pub returns-then-payload-eq4096 : goal.returns-then-payload-eq4096
returns-then-payload-eq4096 c =
    let e = c.if-payload-eq4096.true in
    let old = c.args.out.now.items in
    let whole = rw e at c.requires.whole in
    rw e (sym (whole_spread (length old / 4096) old (omega (arith, whole))))

pub returns : goal.returns
returns c =
    let e = payload_short c.args.payload c.requires.payload c.if-payload-eq4096.false in
    let old = c.args.out.now.items in
    let count = length old / 4080 in
    let whole = rw e at c.requires.whole in
    let size : c.len-count.result ≡ length old = omega arith in
    let filled : c.fill.new.out.items ≡ old ++ replicate (4096 * count - length old) 0 =
    c.in_ok-fill.ensures ∙ ap (λ n. old ++ replicate (4096 * (n / 4080) - length old) 0) size in
    let moved : c.move_payloads.new.bytes ≡ spread 4080 count old =
    c.move_payloads.ensures ∙ ap (λ n. spread 4080 (n / 4080) c.as_mut_slice.result.now) size ∙ ap (spread 4080 count) (c.as_mut_slice.ensures.value ∙ filled) ∙ spread_front count old (replicate (4096 * count - length old) 0) (omega (arith, whole)) in
    rw e (lent_back c.move_payloads.new.bytes c.fill.new.out.items _ (omega arith) ∙ moved)
