use Rattle.std.proofs.Common.{◌≡◌, ◌∙◌, ◌<◌, sym, subst, length}
use Rattle.triple_store.specs.declared.asked.Wanted.TheVariants.{Only}
use Rattle.row_cells.specs.Cells.{cell_term, IsCellIn}
use Rattle.row_cells.specs.Owns.{Wants, words_of}
use Rattle.row_cells.proofs.Asking.{wants_id}
use Rattle.row_cells.proofs.own.wanted_by.Goals as goal

pub returns-in-Id-clause-wanted : goal.returns-in-Id-clause-wanted
returns-in-Id-clause-wanted g c = λ D shown sought.
    let within : c.in-Id.id < c.args.store.now.header.terms = subst (IsCellIn c.args.store.now.header.terms (length c.args.own.now.given) (length c.args.own.now.made.items)) c.in-Id.is c.requires.within in
    subst (λ cell. Wants D.terms (cell_term (words_of D.terms c.args.own.now) cell) (Only c.in-Id.id)) (sym c.in-Id.is)
    (wants_id D.terms c.in-Id.id D.table.rising (subst (λ n. c.in-Id.id < n) shown.shows.dictionary.terms within))
