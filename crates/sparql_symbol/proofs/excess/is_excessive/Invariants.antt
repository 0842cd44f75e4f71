use Rattle.std.proofs.Common.{◌≡◌, drop}
use Rattle.sparql_symbol.specs.Excess as spec
use Rattle.sparql_symbol.specs.Names.{iri_of}
use Rattle.sparql_symbol.proofs.excess.is_excessive.Given as goal

abbrev pub invariant-loop-token : goal.invariant-loop-token
invariant-loop-token l =
    spec.excess_on (iri_of l.prefixes) l.text l.tokens l.excess l.before l.at (drop l.token-index l.tokens) ≡ spec.excess (iri_of l.fn.prefixes) l.fn.text l.fn.tokens
