use Rattle.std.proofs.Common.{◌≡◌, ◌≤◌, drop, nat_lt}
use Rattle.sparql_tree.specs.Symbols.{lexemes}
use Rattle.sparql_tree.specs.Unsupported.{deepest, deepest_from}
use Rattle.sparql_symbol.proofs.unsupported.is_too_deep.Given as goal

abbrev pub invariant-loop-token : goal.invariant-loop-token
invariant-loop-token l = record {
  small : l.groups ≤ 256;
  rest : nat_lt 256 (deepest_from l.groups (lexemes l.text (drop l.token-index l.tokens))) ≡ nat_lt 256 (deepest (lexemes l.fn.text l.fn.tokens));
}
