use Rattle.std.proofs.Common.{◌≤◌, ◌-◌, arith}
use Rattle.sage.proofs.StoreFiles.{piece_written, piece_in_part, append_rose}
use Rattle.sage.proofs.build.append_piece.Goals as goal

pub returns-in-Ok-clause-written : goal.returns-in-Ok-clause-written
returns-in-Ok-clause-written g c = λ base written.
    let le : c.args.done ≤ c.min-end.result = omega (arith, c.min-end.ensures, c.requires) in
    piece_written _ base (g.S.Shelf.files c.args.shelf.now) (g.S.Shelf.files c.append.new.self) c.args.name.now c.args.bytes.now c.args.done c.min-end.result _ le written c.in-Ok.ensures.grown

pub returns-in-Err-clause-in_part : goal.returns-in-Err-clause-in_part
returns-in-Err-clause-in_part g c = λ base written. (
  append_rose base (g.S.Shelf.files c.args.shelf.now) c.args.name.now _ _ _ written c.in-Err.ensures.cause.refused,
  piece_in_part _ base (g.S.Shelf.files c.args.shelf.now) (g.S.Shelf.files c.append.new.self) c.args.name.now c.args.bytes.now c.args.done (c.min-end.result - c.args.done) c.in-Err.fault written c.in-Err.ensures.grown,
)
