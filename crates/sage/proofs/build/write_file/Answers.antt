use Rattle.sage.proofs.StoreFiles.{started, rose_before}
use Rattle.sage.proofs.build.write_file.Goals as goal

pub returns-in-Err-append_all-clause-in_part : goal.returns-in-Err-append_all-clause-in_part
returns-in-Err-append_all-clause-in_part g c =
    rose_before _ _ _ _ c.in-Ok.ensures.cause.later (c.in-Err-append_all.ensures.in_part (g.S.Shelf.files c.args.shelf.now) (started _ (g.S.Shelf.files c.args.shelf.now) _ c.args.name.now c.args.bytes.now _ c.in-Ok.ensures.started))
