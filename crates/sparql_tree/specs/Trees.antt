-- Which text has a tree, and which is refused, and why (SPARQL 1.1, 19.8).
use Rattle.std.specs.Prelude.{ℕ, List}
use Rattle.sparql_tree.specs.Groups.{Query}
use Rattle.sparql_tree.specs.declared.fault.QueryFault.{QueryFault}
use Rattle.sparql_tree.specs.declared.fault.QueryFault.TheVariants as faults
use Rattle.sparql_tree.specs.declared.symbol.Symbol.{Symbol}
use Rattle.sparql_tree.specs.Refusals.{AreSymbols, HasNoSymbols}
use Rattle.sparql_tree.specs.Queries.{IsQuery}

-- the text has symbols, and they spell the query
pub record IsTree (text : List ℕ) (query : Query) : Type 0 where
  pub symbols : List Symbol
  pub are_symbols : AreSymbols text symbols
  pub spelled : IsQuery symbols query

-- the text has symbols, and they spell no query
pub record SpellsNone (text : List ℕ) : Type 0 where
  pub symbols : List Symbol
  pub are_symbols : AreSymbols text symbols
  pub none : (query : Query) → IsQuery symbols query → ⊥

-- the first cause of a refusal: one that comes before the grammar, or that no query is spelled
abbrev pub HasNoTree : List ℕ → QueryFault → Type 0
HasNoTree text faults.NotAQuery = SpellsNone text
HasNoTree text fault = HasNoSymbols text fault

-- why there is no tree: want of memory, or a refusal
abbrev pub WhyNoTree : List ℕ → QueryFault → Type 0
WhyNoTree text faults.Memory = Unit {0}
WhyNoTree text fault = HasNoTree text fault
