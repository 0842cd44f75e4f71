use Rattle.std.proofs.Common.{length, arith}
use Rattle.sage_outside.specs.Parts.{piece_at}
use Rattle.btree_scan.specs.Cuts.{stands_before}
use Rattle.sage_outside.proofs.Answered.{reads_ok}
use Rattle.btree_scan.proofs.Pieces.{edge_of_piece}
use Rattle.btree_scan.proofs.block.cut_in_room.Goals as goal

pub returns-clause-found : goal.returns-clause-found
returns-clause-found g c = λ image tells.
    let piece = c.read_part.new.piece in
    let read = reads_ok c.read_part.result _ piece (piece_at c.args.payload c.args.n 0 (length piece) image) c.in_ok-read_part.was (c.read_part.ensures.found image tells) in
    edge_of_piece c.args.payload c.args.n c.args.count (length piece) image piece (stands_before c.args.through c.args.prefix.now) (omega arith) read c.cut_in_memory.result c.cut_in_memory.ensures
