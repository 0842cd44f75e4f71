use Rattle.std.proofs.Common.{◌≡◌, ◌+◌, ◌-◌, ◌++◌, ◌∙◌, Ok, ap, sym, arith, length}
use Rattle.std.proofs.lemmas.Grind.{common_steps}
use Rattle.sage_outside.specs.Areas.{part_at}
use Rattle.sage_outside.proofs.Joins.{rest_joined, rest_broken}
use Rattle.term_dict.specs.Layout.{record_area}
use Rattle.term_dict.proofs.Faults.{image_ok, passed_image, refused_image}
use Rattle.term_dict.proofs.dict.Dict.record_behind.Goals as goal

pub returns-in_err-rest-clause-found : goal.returns-in_err-rest-clause-found
returns-in_err-rest-clause-found g c = λ image tells front.
    let area = record_area c.args.self.now in
    let near = length c.args.front.items in
    let same : c.len-near.result ≡ near = grind (arith, common_steps, c.len-near.ensures) in
    refused_image _ _ c.record.result c.from_residual.result c.in_err-rest.field-0.0 _ _ c.in_err-rest.was (passed_image c.from_residual.result c.in_err-rest.field-0.0 c.from_residual.ensures)
    (λ b e. rest_broken area c.args.from near c.args.count image c.args.front.items c.requires.stands.payload c.requires.front c.requires.behind front b
    (ap (λ n. part_at area (c.args.from + n) (c.args.count - n) image) (sym same) ∙ e))
    (c.record.ensures.found image tells)

pub returns-in-Ok-clause-found : goal.returns-in-Ok-clause-found
returns-in-Ok-clause-found g c = λ image tells front.
    let area = record_area c.args.self.now in
    let near = length c.args.front.items in
    let same : c.len-near.result ≡ near = grind (arith, common_steps, c.len-near.ensures) in
    let read = image_ok _ c.record.result c.in_ok-rest.rest _ c.in_ok-rest.was (c.record.ensures.found image tells) in
    rest_joined area c.args.from near c.args.count image c.args.front.items c.requires.stands.payload c.requires.front c.requires.behind front c.in_ok-rest.rest.items
    (ap (λ n. part_at area (c.args.from + n) (c.args.count - n) image) (sym same) ∙ read)
    ∙ ap Ok (sym (c.in-Ok.ensures.items ∙ ap (λ xs. c.args.front.items ++ xs) c.deref.ensures.value))
