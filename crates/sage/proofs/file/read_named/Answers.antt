use Rattle.std.proofs.Common.{◌+◌, sym, subst}
use Rattle.sage_outside.specs.Shelf.{Lacks}
use Rattle.sage.specs.Told.{TellsFile}
use Rattle.sage.proofs.Files.{prefix_of}
use Rattle.sage.proofs.file.read_named.Goals as goal

pub returns-in-Ok-clause-prefix : goal.returns-in-Ok-clause-prefix
returns-in-Ok-clause-prefix g c =
    let named = sym c.as_str.ensures.same in
    let files = g.S.Shelf.files c.args.shelf.now in
    prefix_of files c.args.name.now (c.args.limit + 1) c.in-Ok.bytes.items (λ file tells. c.in-Ok.ensures.whole file (subst (λ name. TellsFile files name file) named tells))
    c.in-Ok.ensures.most (λ lacks. c.in-Ok.ensures.there (subst (Lacks files) named lacks))
