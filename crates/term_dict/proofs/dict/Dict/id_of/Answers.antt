use Rattle.term_dict.proofs.Halves.{none_damaged}
use Rattle.term_dict.proofs.dict.Dict.id_of.Goals as goal

pub returns-clause-whole : goal.returns-clause-whole
returns-clause-whole g c = λ ts image block tells holds e.
    let at = c.rank_of.ensures.damaged image block tells e in
    none_damaged c.args.self.now ts image at.0 block holds at.1 at.2
