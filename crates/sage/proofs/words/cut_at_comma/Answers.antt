use Rattle.std.proofs.Common.{Some, None, ap, ◌∙◌, arith}
use Rattle.std.proofs.lemmas.Str.Pattern.{split_parts}
use Rattle.sage.specs.Words.{pieces_of}
use Rattle.sage.proofs.Quanta.{one_piece, first_piece}
use Rattle.sage.proofs.words.cut_at_comma.Goals as goal

pub returns-in-Some-clause-pieces : goal.returns-in-Some-clause-pieces
returns-in-Some-clause-pieces c =
    let parts = split_parts 44 c.args.word.now (Some (c.in-Some.piece, c.in-Some.rest)) c.in-Some.ensures.cases (omega arith) in
    ap pieces_of parts.0 ∙ first_piece c.in-Some.piece.now c.in-Some.rest.now parts.1

pub returns-in-None-clause-pieces : goal.returns-in-None-clause-pieces
returns-in-None-clause-pieces c = one_piece c.args.word.now (split_parts 44 c.args.word.now None c.in-None.ensures.cases (omega arith))
