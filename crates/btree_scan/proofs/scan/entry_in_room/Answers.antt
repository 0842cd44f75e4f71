use Rattle.std.proofs.Common.{◌≡◌, ◌*◌, ◌∙◌, ap, sym, arith, Ok, length}
use Rattle.sage_outside.specs.Parts.{piece_at}
use Rattle.sage_outside.proofs.Answered.{reads_ok, refused, passed_on}
use Rattle.btree_scan.proofs.Pieces.{piece_key, broken_key, twelve}
use Rattle.btree_scan.proofs.scan.entry_in_room.Goals as goal

pub returns-clause-found : goal.returns-clause-found
returns-clause-found g c = λ image tells.
    let p = c.args.payload in
    let room = c.read_part.new.piece in
    let long : length room ≡ 12 = omega arith in
    let read = reads_ok c.read_part.result _ room (piece_at p c.args.n (12 * c.args.place) (length room) image) c.in_ok-read_part.was (c.read_part.ensures.found image tells) in
    piece_key p c.args.n c.args.place (length room) image room long read ∙ ap Ok (twelve room long ∙ sym c.entry_in_memory.ensures)

pub returns-in_err-read_part-clause-found : goal.returns-in_err-read_part-clause-found
returns-in_err-read_part-clause-found g c = λ image tells.
    let long : length c.read_part.new.piece ≡ 12 = omega arith in
    refused _ _ c.read_part.result c.from_residual.result c.in_err-read_part.field-0.0 _ _ c.in_err-read_part.was (passed_on c.from_residual.result c.in_err-read_part.field-0.0 c.from_residual.ensures)
    (λ d e. broken_key c.args.payload c.args.n c.args.place (length c.read_part.new.piece) d image long e) (c.read_part.ensures.found image tells)
