use Rattle.std.proofs.Common.{◌∙◌, sym, arith}
use Rattle.sparql_symbol.proofs.Nestings.{too-deep-at}
use Rattle.sparql_symbol.proofs.unsupported.is_too_deep.Goals as goal

pub returns-then-groups-gt-NESTING_LIMIT : goal.returns-then-groups-gt-NESTING_LIMIT
returns-then-groups-gt-NESTING_LIMIT c =
    sym (too-deep-at c.args.text.now c.args.tokens.now c.loop-token.token-index c.loop-token.groups _ _ _ (omega arith) c.if-groups-gt-NESTING_LIMIT.true
    c.open_behind-groups.ensures (c.as_bytes.ensures.value ∙ c.spelling.ensures)) ∙ c.loop-token.invariant.rest
