-- Why symbols are refused.
use Rattle.std.specs.Prelude.{List}
use Rattle.sparql_tree.specs.Groups.{Query}
use Rattle.sparql_tree.specs.declared.fault.QueryFault.{QueryFault}
use Rattle.sparql_tree.specs.declared.fault.QueryFault.TheVariants as faults
use Rattle.sparql_tree.specs.declared.symbol.Symbol.{Symbol}
use Rattle.sparql_tree.specs.Queries.{IsQuery}

-- want of memory, or that they spell no query
abbrev pub WhyNoQuery : List Symbol → QueryFault → Type 0
WhyNoQuery symbols faults.Memory = Unit {0}
WhyNoQuery symbols faults.NotAQuery = (query : Query) → IsQuery symbols query → ⊥
WhyNoQuery symbols fault = ⊥
