use Rattle.std.proofs.Common.{sym, ◌∙◌, subst}
use Rattle.sage.specs.Words.{AreAllowedQuanta}
use Rattle.sage.proofs.Quanta.{quanta_within}
use Rattle.sage.proofs.words.list_of.Goals as goal

pub returns-in_ok-read_quanta-clause-range : goal.returns-in_ok-read_quanta-clause-range
returns-in_ok-read_quanta-clause-range c = subst AreAllowedQuanta (sym c.in_ok-read_quanta.ensures) (quanta_within c.args.word.now (sym c.are_quanta.ensures ∙ c.if-are_quanta.true))
