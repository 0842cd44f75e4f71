use Rattle.std.proofs.Common.{◌≡◌, ◌<◌, ℕ, subst, Ok, Err}
use Rattle.term_dict.specs.Layout.{stored_term}
use Rattle.triple_store.proofs.Opened.{tells_here, dict_here, dict_there, bad_record}
use Rattle.triple_store.proofs.store.Store.id_of.Goals as goal

pub returns-clause-there : goal.returns-clause-there
returns-clause-there g c = λ image k told e. subst (λ d. (k < d.terms) × (stored_term d k image ≡ Ok c.args.t.now)) (dict_here _ _ _ c.self.view_is c.dict-dict.ensures)
    (c.id_of.ensures.there image k (tells_here _ _ image c.self.view_is told) e)

pub returns-clause-damaged : goal.returns-clause-damaged
returns-clause-damaged g c = λ image block told e.
    let b = subst (λ d. (k : ℕ) × (k < d.terms) × (stored_term d k image ≡ Err block)) (dict_here _ _ _ c.self.view_is c.dict-dict.ensures)
    (c.id_of.ensures.damaged image block (tells_here _ _ image c.self.view_is told) e) in
    bad_record c.args.self.now.header b.0 block image b.1 b.2

pub id_of-requires : goal.id_of-requires
id_of-requires g c = record { lies = dict_there c.self.inside.header (g.B.Blocks.device c.self.inside.blocks.0).count c.dict-dict.result c.self.invariant c.dict-dict.ensures }
