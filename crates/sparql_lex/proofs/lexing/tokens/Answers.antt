use Rattle.std.proofs.Common.{arith}
use Rattle.sparql_lex.proofs.Widths.{width-small}
use Rattle.sparql_lex.proofs.lexing.tokens.Goals as goal

pub lex-requires : goal.lex-requires
lex-requires c = omega (arith, width-small c.as_slice.result.now, c.as_slice.type_inv)
