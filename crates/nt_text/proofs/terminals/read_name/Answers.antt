use Rattle.std.proofs.Common.{sym}
use Rattle.std.specs.Str.{chars}
use Rattle.nt_text.proofs.Suffix.{after_name}
use Rattle.nt_text.proofs.terminals.read_name.Goals as goal

pub before-requires : goal.before-requires
before-requires c = after_name (chars c.args.text.now) (chars c.in-Some.more.now) (chars c.skip_name-rest.result.now) c.in-Some.first (sym c.in-Some.ensures.exact) c.skip_name-rest.ensures.rest
