use Rattle.std.proofs.Common.{ap, arith}
use Rattle.term_core.specs.Tokens.{width}
use Rattle.sparql_lex.proofs.Widths.{width-parts}
use Rattle.sparql_lex.proofs.lexing.width_at.Goals as goal

pub width_of-requires : goal.width_of-requires
width_of-requires c =
    let rest = ap width c.split_at.ensures.back in
    let front = ap width c.split_at-2.ensures.front in
    omega (arith, rest, front, width-parts c.args.n c.split_at.result.1.now, width-parts c.args.index c.args.text.now)
