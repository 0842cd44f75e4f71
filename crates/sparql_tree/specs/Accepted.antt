-- Which text is accepted, and which is refused, and why (SPARQL 1.1, 19.8 and 18.2.1).
use Rattle.std.specs.Prelude.{◌≡◌, ℕ, List, [], Some}
use Rattle.term_core.specs.Mappings.{Name}
use Rattle.sparql_tree.specs.Groups.{Query}
use Rattle.sparql_tree.specs.declared.fault.QueryFault.{QueryFault}
use Rattle.sparql_tree.specs.declared.fault.QueryFault.TheVariants as faults
use Rattle.sparql_tree.specs.Trees.{IsTree, HasNoTree}
use Rattle.sparql_tree.specs.Breaches.{breaches, first_name}

-- the text is of the query, and no rule on scopes is broken in it
pub record IsAccepted (text : List ℕ) (query : Query) : Type 0 where
  pub tree : IsTree text query
  pub keeps : breaches query ≡ []

-- the text is of a query, and the first breach in it is at this name
pub record IsBroken (text : List ℕ) (name : Name) : Type 0 where
  pub query : Query
  pub tree : IsTree text query
  pub first : first_name (breaches query) ≡ Some name

-- the first cause of a refusal: that the text has no tree, or a breach in its tree
abbrev pub IsRefused : List ℕ → QueryFault → Type 0
IsRefused text (faults.Scope name) = IsBroken text name
IsRefused text fault = HasNoTree text fault

-- why it is refused: want of memory, or a cause
abbrev pub WhyQueryRefused : List ℕ → QueryFault → Type 0
WhyQueryRefused text faults.Memory = Unit {0}
WhyQueryRefused text fault = IsRefused text fault
