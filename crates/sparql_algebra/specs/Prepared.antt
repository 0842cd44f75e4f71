-- Which text is accepted, as which split, and which is refused, and why (SPARQL 1.1, 19.8 and 18.2; the limits are this program's own).
use Rattle.std.specs.Prelude.{◌≡◌, ◌<◌, ◌≤◌, ℕ, Bool, true, false, Option, Some, None, List, length, ◌⊎◌}
use Rattle.term_core.specs.Bags.{In}
use Rattle.sparql_tree.specs.Accepted.{IsAccepted, IsRefused}
use Rattle.sparql_tree.specs.Groups.{Query}
use Rattle.sparql_tree.specs.Refusals.{IsTooDeep}
use Rattle.sparql_tree.specs.Sizes.{query_depth, query_weight}
use Rattle.sparql_tree.specs.declared.fault.QueryFault.{QueryFault}
use Rattle.sparql_tree.specs.declared.fault.QueryFault.TheVariants as faults
use Rattle.sparql_tree.specs.declared.fault.Size.TheVariants as sizes
use Rattle.sparql_algebra.specs.Cuts.{PartOf, Split, split_of}

-- a text that no server reads: it is longer than 262,144 bytes, or more than 256 groups are open at one place in it
abbrev pub IsTooLarge : List ℕ → Type 0
IsTooLarge text = (262144 < length text) ⊎ IsTooDeep text

-- whether it is too large
abbrev pub TellsLarge : List ℕ → Bool → Type 0
TellsLarge text true = IsTooLarge text
TellsLarge text false = IsTooLarge text → ⊥

-- whether a refusal of a text is of its size: nothing is told where memory was wanting
abbrev pub is_size : QueryFault → Option Bool
is_size (faults.TooLarge size) = Some true
is_size faults.Memory = None
is_size fault = Some false

-- the text of each part can be read
abbrev pub PartsFit : List PartOf → Type 0
PartsFit parts = (part : PartOf) → In parts part → IsTooLarge part.text → ⊥

-- the depth and the weight of a query are within the limits
pub record IsModest (query : Query) : Type 0 where
  pub shallow : query_depth query ≤ 100
  pub light : query_weight query ≤ 4000

-- the query is cut into the split
pub record IsCutOf (query : Query) (split : Split) : Type 0 where
  pub modest : IsModest query
  pub is_split : split ≡ split_of query
  pub fit : PartsFit split.parts

-- the text is accepted as the split
pub record Accepted (text : List ℕ) (split : Split) : Type 0 where
  pub accepted : IsAccepted text split.query
  pub cut : IsCutOf split.query split

-- one of these parts has a text that is too large
pub record HasLarge (parts : List PartOf) : Type 0 where
  pub part : PartOf
  pub among : In parts part
  pub large : IsTooLarge part.text

-- why these parts are not made: want of memory, or the text of one
abbrev pub WhyNoPart : List PartOf → QueryFault → Type 0
WhyNoPart parts faults.Memory = Unit {0}
WhyNoPart parts (faults.TooLarge sizes.Part) = HasLarge parts
WhyNoPart parts _ = ⊥

-- the query is too deep
pub record IsDeep (query : Query) : Type 0 where
  pub deep : 100 < query_depth query

-- it is not too deep, and too heavy
pub record IsHeavy (query : Query) : Type 0 where
  pub shallow : query_depth query ≤ 100
  pub heavy : 4000 < query_weight query

-- it is neither, and a part's text is too large
pub record HasLargePart (query : Query) : Type 0 where
  pub modest : IsModest query
  pub part : HasLarge (split_of query).parts

-- why a query is not cut: the first of these causes
abbrev pub IsNotCut : Query → QueryFault → Type 0
IsNotCut query (faults.TooLarge sizes.Depth) = IsDeep query
IsNotCut query (faults.TooLarge sizes.Weight) = IsHeavy query
IsNotCut query (faults.TooLarge sizes.Part) = HasLargePart query
IsNotCut query _ = ⊥

-- why a query is not cut: want of memory, or a cause
abbrev pub WhyNotCut : Query → QueryFault → Type 0
WhyNotCut query faults.Memory = Unit {0}
WhyNotCut query fault = IsNotCut query fault

-- the text is of a query that keeps the rules on scopes and is not cut
pub record IsOfUncut (text : List ℕ) (fault : QueryFault) : Type 0 where
  pub query : Query
  pub accepted : IsAccepted text query
  pub why : IsNotCut query fault

-- the first cause of a refusal: that the text has no tree or a breach in its tree, or behind these that its query is not cut
abbrev pub IsNotPrepared : List ℕ → QueryFault → Type 0
IsNotPrepared text fault = IsRefused text fault ⊎ IsOfUncut text fault

-- why a text is refused: want of memory, or a cause
abbrev pub WhyNotPrepared : List ℕ → QueryFault → Type 0
WhyNotPrepared text faults.Memory = Unit {0}
WhyNotPrepared text fault = IsNotPrepared text fault
