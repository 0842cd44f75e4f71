use Rattle.std.proofs.Common.{◌≡◌, ◌++◌, drop}
use Rattle.sparql_symbol.specs.Names.{iri_of}
use Rattle.sparql_tree.specs.Symbols.{lexemes}
use Rattle.sparql_symbol.specs.Reading.{read_symbols}
use Rattle.sparql_symbol.proofs.query_symbols.read_symbols.Given as goal

abbrev pub invariant-loop-token : goal.invariant-loop-token
invariant-loop-token l =
    l.symbols ++ read_symbols (iri_of l.prefixes) (lexemes l.text (drop l.token-index l.tokens)) ≡ read_symbols (iri_of l.fn.prefixes) (lexemes l.fn.text l.fn.tokens)
