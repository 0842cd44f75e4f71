use Rattle.std.proofs.Common.{arith, sym, ap, ◌∙◌, Some, Err}
use Rattle.store_image.specs.Keys.{index_numbered, key_in, keys_by}
use Rattle.triple_store.proofs.Opened.{handed_read, shown_kept, key_count, keys_rise}
use Rattle.triple_store.proofs.Places.{none_past, none_there, found_at, same_key, other_key}
use Rattle.triple_store.proofs.store.Store.place_in.Goals as goal

pub returns-then-place-self-clause-found : goal.returns-then-place-self-clause-found
returns-then-place-self-clause-found g c = λ terms ids shown.
    let count = key_count c.args.self.now _ _ terms ids c.args.order shown c.requires.order c.lower_bound.ensures.kept c.self.view_is in
    none_past (keys_by (index_numbered c.args.order) ids) (keys_rise c.args.self.now terms ids c.args.order shown c.requires.order) c.in_ok-place.place (key_in (index_numbered c.args.order) c.args.t.now)
    (c.in_ok-place.ensures.found terms ids shown) (omega (arith, count, c.if-place-self.true))

pub returns-then-eq-clause-found : goal.returns-then-eq-clause-found
returns-then-eq-clause-found g c = λ terms ids shown.
    let at = c.in_ok-key.ensures.found terms ids (shown_kept c.args.self.now _ terms ids c.lower_bound.ensures.kept shown) in
    found_at (keys_by (index_numbered c.args.order) ids) (keys_rise c.args.self.now terms ids c.args.order shown c.requires.order) c.in_ok-place.place (key_in (index_numbered c.args.order) c.args.t.now)
    (at ∙ ap Some (same_key c.in_ok-key.key c.key_in.result (sym c.if-eq.ensures) ∙ c.key_in.ensures))

pub returns-else-eq-clause-found : goal.returns-else-eq-clause-found
returns-else-eq-clause-found g c = λ terms ids shown.
    let at = c.in_ok-key.ensures.found terms ids (shown_kept c.args.self.now _ terms ids c.lower_bound.ensures.kept shown) in
    none_there (keys_by (index_numbered c.args.order) ids) (keys_rise c.args.self.now terms ids c.args.order shown c.requires.order) c.in_ok-place.place (key_in (index_numbered c.args.order) c.args.t.now)
    c.in_ok-key.key (c.in_ok-place.ensures.found terms ids shown) at (λ e. other_key c.in_ok-key.key c.key_in.result (sym c.if-eq.ensures) (e ∙ sym c.key_in.ensures))

pub returns-in_err-place-clause-whole : goal.returns-in_err-place-clause-whole
returns-in_err-place-clause-whole g c = λ terms ids block shown e. c.in_err-place.ensures.whole terms ids block shown (ap Err (handed_read _ _ block c.from_residual.ensures e))

pub returns-in_err-key-clause-whole : goal.returns-in_err-key-clause-whole
returns-in_err-key-clause-whole g c = λ terms ids block shown e.
    c.in_err-key.ensures.whole terms ids block (shown_kept c.args.self.now _ terms ids c.lower_bound.ensures.kept shown) (ap Err (handed_read _ _ block c.from_residual-in_err-key.ensures e))
