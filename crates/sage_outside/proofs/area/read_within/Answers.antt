use Rattle.std.proofs.Common.{length, ◌≡◌, arith}
use Rattle.sage_outside.proofs.Parts.{piece_is_part}
use Rattle.sage_outside.proofs.area.read_within.Goals as goal

pub returns-clause-found : goal.returns-clause-found
returns-clause-found g c = λ image tells.
    let whole = g.met.B.Blocks.whole c.args.blocks.now image tells in
    let long : length c.read_part.new.piece ≡ length c.args.piece.now = omega arith in
    let e = piece_is_part c.args.area.now c.args.at (length c.args.piece.now) _ (length c.read_part.new.piece) image c.requires.fits c.requires.within c.requires.some whole long in
    rw (← e) (c.read_part.ensures.found image tells)
