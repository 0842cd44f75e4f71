use Rattle.std.proofs.Common.{Err, Some, None, sym, ap, ◌∙◌, subst}
use Rattle.store_image.specs.Table.{IsFound}
use Rattle.pattern_page.specs.declared.page.Cursor.TheVariants as cursors
use Rattle.pattern_page.specs.PagesOf.{part_seen, IsPlaced}
use Rattle.pattern_page.proofs.Refusals.{refused_same}
use Rattle.pattern_page.proofs.PageCursor.{strayed, placed}
use Rattle.pattern_page.proofs.page.Part.place.Goals as goal

pub returns-in_err-place_of-in-At-clause-refused : goal.returns-in_err-place_of-in-At-clause-refused
returns-in_err-place_of-in-At-clause-refused g c =
    refused_same c.from_residual.result c.in_err-place_of-in-At.field-0.0 c.args.store.now c.place_of.new.self c.from_residual.ensures
    (λ e. c.place_of.ensures.failed (c.in_err-place_of-in-At.was ∙ ap Err e)) (λ terms ids block s e. c.place_of.ensures.whole terms ids block s (c.in_err-place_of-in-At.was ∙ ap Err e))

pub returns-in-None-clause-found : goal.returns-in-None-clause-found
returns-in-None-clause-found g c = λ terms ids s.
    let part = part_seen c.args.self.now terms ids in
    let found = subst (IsFound part.triples c.in-At.triple) c.in-None.is (c.in_ok-place_of-in-At.ensures.found terms ids s.shown) in
    subst (λ state. IsPlaced part state None) (sym c.in-At.is) (strayed part c.in-At.triple found)

pub returns-in-Some-clause-found : goal.returns-in-Some-clause-found
returns-in-Some-clause-found g c = λ terms ids s.
    let part = part_seen c.args.self.now terms ids in
    let found = subst (IsFound part.triples c.in-At.triple) c.in-Some.is (c.in_ok-place_of-in-At.ensures.found terms ids s.shown) in
    subst (λ state. IsPlaced part state (Some (cursors.After c.in-Some.place))) (sym c.in-At.is) (placed part c.in-At.triple c.in-Some.place found)
