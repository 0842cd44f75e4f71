use Rattle.std.proofs.Common.{subst}
use Rattle.std.specs.Str.{chars}
use Rattle.term_core.specs.Terminals.{IsToken}
use Rattle.sparql_symbol.proofs.Frames.{blank-framed, variable-framed}
use Rattle.sparql_symbol.proofs.reading.read_symbol.Goals as goal

pub within-requires : goal.within-requires
within-requires c = (blank-framed c.args.text.now c.utf8.text (subst (λ k. IsToken k (chars c.args.text.now)) c.in-Blank.is c.requires)).frame

pub within-requires-in-Var : goal.within-requires-in-Var
within-requires-in-Var c = (variable-framed c.args.text.now c.utf8.text (subst (λ k. IsToken k (chars c.args.text.now)) c.in-Var.is c.requires)).frame
