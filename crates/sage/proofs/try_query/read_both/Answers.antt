use Rattle.std.proofs.Common.{subst}
use Rattle.sage.specs.Told.{IsPrefixOf}
use Rattle.sage.proofs.try_query.read_both.Goals as goal

pub returns-in-Ok-read_named-clause-read : goal.returns-in-Ok-read_named-clause-read
returns-in-Ok-read_named-clause-read g c = record {
  document_read = c.in-Ok.ensures.prefix;
  query_read = subst (λ files. IsPrefixOf files c.args.query.now 262145 c.in-Ok-read_named.query.items) c.in-Ok.ensures.same c.in-Ok-read_named.ensures.prefix;
}
