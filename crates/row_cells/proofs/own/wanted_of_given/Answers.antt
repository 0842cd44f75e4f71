use Rattle.std.proofs.Common.{◌≡◌, ◌∙◌, ◌<◌, ap, sym, subst, arith, length, get_or, Some}
use Rattle.std.proofs.lemmas.Option.{slice_get-get_or}
use Rattle.row_cells.specs.Owns.{Wants}
use Rattle.row_cells.specs.Data.{Data, ShowsData}
use Rattle.store_image.specs.Table.{term_numbered}
use Rattle.row_cells.proofs.Asking.{read_term, sought_set}
use Rattle.row_cells.proofs.own.wanted_of_given.Goals as goal

pub returns-in-Some-clause-wanted : goal.returns-in-Some-clause-wanted
returns-in-Some-clause-wanted g c = λ D shown sought.
    sought c.args.number c.in-Some.wanted
    (slice_get-get_or c.args.own.now.ranks.items c.args.number c.index.result.now (omega (arith, c.requires.number, c.requires.room.ranks)) ∙ ap Some (sym c.index.ensures ∙ c.in-Some.is))

pub returns-in-Ok-clause-wanted : goal.returns-in-Ok-clause-wanted
returns-in-Ok-clause-wanted g c = λ D shown sought.
    let read = c.index-as_slice-number.is ∙ ap (λ terms. get_or terms c.args.number c.index-as_slice-number.result) c.as_slice.ensures in
    subst (λ t. Wants D.terms (Some t) c.in-Ok.wanted) (read_term c.args.own.now.given c.args.number c.index-as_slice-number.result c.requires.number read) (c.in-Ok.ensures.wanted D shown)

pub returns-in-Ok-clause-sought : goal.returns-in-Ok-clause-sought
returns-in-Ok-clause-sought g c = λ D shown sought.
    sought_set D.terms c.args.own.now.given c.args.own.now.ranks.items c.args.number c.in-Ok.wanted (returns-in-Ok-clause-wanted g c D shown sought) sought
