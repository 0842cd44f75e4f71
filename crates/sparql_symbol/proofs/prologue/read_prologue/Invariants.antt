use Rattle.std.proofs.Common.{◌≡◌, ◌≤◌, ◌-◌, ℕ, List, length, drop}
use Rattle.sparql_symbol.specs.Names.{iri_of}
use Rattle.sparql_tree.specs.Symbols.{lexemes}
use Rattle.sparql_tree.specs.Prologue.{prefixes_over}
use Rattle.sparql_symbol.specs.Reading.{read_prologue}
use Rattle.sparql_symbol.proofs.prologue.read_prologue.Given as goal

abbrev pub invariant-declarations : goal.invariant-declarations
invariant-declarations l = record {
  within : l.at ≤ length l.tokens;
  rest : (read_prologue (lexemes l.text (drop l.at l.tokens))).1 ≡ (read_prologue (lexemes l.fn.text l.fn.tokens)).1;
  declared : (prefix : List ℕ) → prefixes_over (iri_of l.prefixes) (read_prologue (lexemes l.text (drop l.at l.tokens))).0 prefix
      ≡ prefixes_over (iri_of l.fn.prefixes) (read_prologue (lexemes l.fn.text l.fn.tokens)).0 prefix;
}

abbrev pub decreases-declarations : goal.decreases-declarations
decreases-declarations l = length l.tokens - l.at
