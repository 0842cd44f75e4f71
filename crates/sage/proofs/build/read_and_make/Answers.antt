use Rattle.sage.proofs.Builds.{made_of, unmade}
use Rattle.sage.proofs.build.read_and_make.Goals as goal

pub returns-in-Ok-make_of-clause-made : goal.returns-in-Ok-make_of-clause-made
returns-in-Ok-make_of-clause-made g c =
    made_of (g.S.Shelf.files c.args.shelf.now) c.args.document.now c.in-Ok.bytes.items c.in-Ok.ensures.prefix c.in-Ok-make_of.made.image.items c.in-Ok-make_of.made.lines.items c.in-Ok-make_of.ensures.made

pub returns-in-Err-make_of-clause-why : goal.returns-in-Err-make_of-clause-why
returns-in-Err-make_of-clause-why g c =
    unmade (g.S.Shelf.files c.args.shelf.now) c.args.document.now c.in-Ok.bytes.items c.in-Ok.ensures.prefix c.in-Err-make_of.refusal _ _ c.in-Err-make_of.ensures.why
