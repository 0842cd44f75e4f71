use Rattle.std.specs.Str.{chars}
use Rattle.nt_text.proofs.Suffix.{after_tag}
use Rattle.nt_text.proofs.terminals.read_lang.Goals as goal

pub before-requires : goal.before-requires
before-requires c = after_tag (chars c.in_ok-body.body.now) (chars c.span.result.1.now) (chars c.skip_tag-rest.result.now) c.span.ensures.after c.skip_tag-rest.ensures
