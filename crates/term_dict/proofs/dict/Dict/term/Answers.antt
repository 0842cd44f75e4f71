use Rattle.std.proofs.Common.{arith}
use Rattle.term_dict.proofs.Held.{no_longer, held_term, none_damaged}
use Rattle.term_dict.proofs.dict.Dict.term.Goals as goal

pub returns-clause-few_reads : goal.returns-clause-few_reads
returns-clause-few_reads g c = λ image tells.
    omega (arith, no_longer c.args.self.now image c.args.id c.requires.within, c.term_of_record.ensures.few_reads image tells)

pub returns-clause-held : goal.returns-clause-held
returns-clause-held g c = λ ts image tells holds.
    held_term c.args.self.now ts image c.args.id holds c.requires.within c.term_of_record.result (c.term_of_record.ensures.found image tells)

pub returns-clause-whole : goal.returns-clause-whole
returns-clause-whole g c = λ ts image block tells holds e.
    none_damaged c.args.self.now ts image c.args.id holds c.requires.within c.term_of_record.result block e (c.term_of_record.ensures.found image tells)
