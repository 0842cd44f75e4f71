use Rattle.std.proofs.Common.{◌≡◌, length, true, false, sym, ap, ◌∙◌, arith, Err}
use Rattle.std.specs.Ordering.{is_eq}
use Rattle.btree_scan.specs.Cuts.{prefix_cmp}
use Rattle.store_image.specs.Keys.{index_numbered, key_in, keys_by}
use Rattle.triple_store.proofs.Opened.{handed_read}
use Rattle.preempt_scan.proofs.Scanned.{found_triple, found_past, found_other}
use Rattle.preempt_scan.proofs.scan.Scan.probe_front.Goals as goal

pub returns-then-self-info-clause-found : goal.returns-then-self-info-clause-found
returns-then-self-info-clause-found g c = λ terms ids k shown given.
    let told : c.info.result.triples ≡ c.args.store.now.header.triples = ap (λ i. i.triples) c.info.ensures in
    let count : c.args.store.now.header.triples ≡ length (keys_by (index_numbered c.args.self.now.order) ids) = (shown.shows.lists c.args.self.now.order c.requires.within.order).entries in
    found_past ids c.args.self.now c.args.prefix.now k c.requires.front given (omega (arith, told, count, c.if-self-info.true))

pub returns-in_err-t-clause-whole : goal.returns-in_err-t-clause-whole
returns-in_err-t-clause-whole g c = λ terms ids block shown e. c.in_err-t.ensures.whole terms ids block shown (ap Err (handed_read _ _ block c.from_residual.ensures e))

pub returns-then-not-has_front-clause-found : goal.returns-then-not-has_front-clause-found
returns-then-not-has_front-clause-found g c = λ terms ids k shown given.
    let other : is_eq (prefix_cmp c.args.prefix.now (key_in (index_numbered c.args.self.now.order) c.in_ok-t.t)) ≡ false =
    ap (λ key. is_eq (prefix_cmp c.args.prefix.now key)) (sym c.key_in.ensures) ∙ sym c.if-not-has_front.ensures in
    found_other ids c.args.self.now c.args.prefix.now k c.requires.front given (key_in (index_numbered c.args.self.now.order) c.in_ok-t.t) (c.in_ok-t.ensures.found terms ids shown) other

pub returns-clause-found : goal.returns-clause-found
returns-clause-found g c = λ terms ids k shown given.
    let same : is_eq (prefix_cmp c.args.prefix.now (key_in (index_numbered c.args.self.now.order) c.in_ok-t.t)) ≡ true =
    ap (λ key. is_eq (prefix_cmp c.args.prefix.now key)) (sym c.key_in.ensures) ∙ sym c.if-not-has_front.ensures in
    found_triple ids c.args.self.now c.args.prefix.now k c.requires.front given c.in_ok-t.t (c.in_ok-t.ensures.found terms ids shown) same
