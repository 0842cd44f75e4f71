use Rattle.std.proofs.Common.{◌∙◌, sym, ap, is_some, Err}
use Rattle.triple_store.proofs.Opened.{handed_on}
use Rattle.term_core.specs.Patterns.{fits}
use Rattle.store_image.specs.Table.{term_numbered}
use Rattle.triple_store.specs.Asked.{admits}
use Rattle.triple_store.proofs.Matches.{filled_term, filled_var, filled_blank, wants}
use Rattle.triple_store.proofs.store.Store.wanted_at.Goals as goal

pub returns-in_err-id_of-in-Term-clause-whole : goal.returns-in_err-id_of-in-Term-clause-whole
returns-in_err-id_of-in-Term-clause-whole g c = λ terms ids block shown e. c.in_err-id_of-in-Term.ensures.whole terms ids block shown (ap Err (handed_on _ _ block c.from_residual.ensures e))

pub returns-in_ok-id_of-in-Term-clause-found : goal.returns-in_ok-id_of-in-Term-clause-found
returns-in_ok-id_of-in-Term-clause-found g c = λ terms ids k shown lt.
    ap (λ w. admits w k) c.of.ensures
    ∙ wants terms c.in-Term.term _ k shown.shows.dictionary.sorted (c.in_ok-id_of-in-Term.ensures.found terms ids shown) lt
    ∙ sym (ap (λ o. fits o (term_numbered terms k)) (filled_term c.args.place.now c.in-Term.term c.in-Term.is))

pub returns-in-Var-clause-bound : goal.returns-in-Var-clause-bound
returns-in-Var-clause-bound g c = sym (ap is_some (filled_var c.args.place.now _ c.in-Var.is))

pub returns-in-Var-clause-found : goal.returns-in-Var-clause-found
returns-in-Var-clause-found g c = λ terms ids k shown lt. sym (ap (λ o. fits o (term_numbered terms k)) (filled_var c.args.place.now _ c.in-Var.is))

pub returns-in-Blank-clause-bound : goal.returns-in-Blank-clause-bound
returns-in-Blank-clause-bound g c = sym (ap is_some (filled_blank c.args.place.now _ c.in-Blank.is))

pub returns-in-Blank-clause-found : goal.returns-in-Blank-clause-found
returns-in-Blank-clause-found g c = λ terms ids k shown lt. sym (ap (λ o. fits o (term_numbered terms k)) (filled_blank c.args.place.now _ c.in-Blank.is))
