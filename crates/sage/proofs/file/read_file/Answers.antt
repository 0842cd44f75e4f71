use Rattle.std.proofs.Common.{sym, subst}
use Rattle.sage.specs.Told.{TellsFile}
use Rattle.sage.proofs.file.read_file.Goals as goal

pub returns-in-Ok-read_prefix-clause-whole : goal.returns-in-Ok-read_prefix-clause-whole
returns-in-Ok-read_prefix-clause-whole g c file tells =
    c.in-Ok-read_prefix.ensures.whole file (subst (λ fs. TellsFile fs c.args.name.now file) (sym c.in-Ok.ensures.same) tells)
