use Rattle.std.proofs.Common.{◌≡◌, drop}
use Rattle.sparql_tree.specs.Symbols.{lexemes}
use Rattle.sparql_tree.specs.Unsupported.{before, first_unsupported, first_unsupported_from}
use Rattle.sparql_symbol.proofs.unsupported.first_unsupported.Given as goal

abbrev pub invariant-loop-token : goal.invariant-loop-token
invariant-loop-token l = first_unsupported_from (before l.before.select l.before.count) (lexemes l.text (drop l.token-index l.tokens)) ≡ first_unsupported (lexemes l.fn.text l.fn.tokens)
