use Rattle.std.proofs.Common.{sym, ap, subst, ◌∙◌, Err}
use Rattle.std.specs.Ordering.{is_eq}
use Rattle.btree_scan.specs.Cuts.{prefix_cmp}
use Rattle.store_image.specs.Table.{IsFound}
use Rattle.store_image.specs.Keys.{index_numbered, key_in, keys_by}
use Rattle.triple_store.proofs.Opened.{handed_read}
use Rattle.preempt_scan.proofs.Scanned.{goes_on, nowhere_there, nowhere_found}
use Rattle.preempt_scan.proofs.scan.Scan.after.Goals as goal

pub returns-then-not-has_front-clause-behind : goal.returns-then-not-has_front-clause-behind
returns-then-not-has_front-clause-behind g c = λ terms ids shown.
    nowhere_there ids c.args.order c.args.prefix.now c.args.t.now (ap (λ key. is_eq (prefix_cmp c.args.prefix.now key)) (sym c.key_in.ensures) ∙ sym c.if-not-has_front.ensures)

pub returns-in_err-place_in-clause-whole : goal.returns-in_err-place_in-clause-whole
returns-in_err-place_in-clause-whole g c = λ terms ids block shown e. c.in_err-place_in.ensures.whole terms ids block shown (ap Err (handed_read _ _ block c.from_residual.ensures e))

pub returns-in-None-clause-behind : goal.returns-in-None-clause-behind
returns-in-None-clause-behind g c = λ terms ids shown.
    nowhere_found ids c.args.order c.args.prefix.now c.args.t.now
    (subst (IsFound (keys_by (index_numbered c.args.order) ids) (key_in (index_numbered c.args.order) c.args.t.now)) c.in-None.is (c.in_ok-place_in.ensures.found terms ids shown))

pub returns-in-Some-clause-behind : goal.returns-in-Some-clause-behind
returns-in-Some-clause-behind g c = λ terms ids shown.
    goes_on ids c.args.order c.args.prefix.now c.args.t.now c.in-Some.place
    (subst (IsFound (keys_by (index_numbered c.args.order) ids) (key_in (index_numbered c.args.order) c.args.t.now)) c.in-Some.is (c.in_ok-place_in.ensures.found terms ids shown))
    (ap (λ key. is_eq (prefix_cmp c.args.prefix.now key)) (sym c.key_in.ensures) ∙ sym c.if-not-has_front.ensures)
