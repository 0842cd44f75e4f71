use Rattle.std.proofs.Common.{map}
use Rattle.std.specs.Char.{to_ascii_lowercase}
use Rattle.http_core.proofs.Numbers.{tests_equal}
use Rattle.http_core.proofs.fields.same_name.Goals as goal

pub returns : goal.returns
returns c = tests_equal c.eq_ignore_ascii_case.result (map to_ascii_lowercase c.args.a.now) (map to_ascii_lowercase c.args.b.now) c.eq_ignore_ascii_case.ensures.test
