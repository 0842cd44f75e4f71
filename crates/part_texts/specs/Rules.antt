-- The rules on scopes, as operators keep them (SPARQL 1.1, 10.2, 18.2.1 and 19.6).
use Rattle.std.specs.Prelude.{◌≡◌, ℕ, false, List, [], ◌++◌, flat_map}
use Rattle.term_core.specs.Bags.{In}
use Rattle.term_core.specs.Mappings.{Name, has_name}
use Rattle.sparql_tree.specs.Accepted.{IsAccepted}
use Rattle.sparql_tree.specs.Algebra as algebra
use Rattle.sparql_tree.specs.Algebra.{Algebra}
use Rattle.sparql_tree.specs.Breaches.{repeated}
use Rattle.sparql_tree.specs.Groups.{Query}
use Rattle.sparql_tree.specs.Scopes.{labels_in}
use Rattle.sparql_tree.specs.Translation.{translation}
use Rattle.sparql_tree.specs.Variables.{in_scope}
use Rattle.sparql_translation.specs.Splits.{parts_of}

-- the labels, in order
abbrev pub labels_of : Algebra → List Name
labels_of (algebra.Bgp patterns) = flat_map labels_in patterns
labels_of (algebra.Join left right) = labels_of left ++ labels_of right
labels_of (algebra.Union left right) = labels_of left ++ labels_of right
labels_of (algebra.Filter condition inner) = labels_of inner
labels_of (algebra.Extend inner variable value) = labels_of inner
labels_of (algebra.Table variables rows) = []
labels_of (algebra.LeftJoin left right condition) = labels_of left ++ labels_of right
labels_of (algebra.Minus left right) = labels_of left ++ labels_of right

-- none of the names is among those
abbrev pub AreApartFrom : List Name → List Name → Type 0
AreApartFrom before names = (name : Name) → In names name → In before name → ⊥

-- where these labels stand before: no label stands in two basic graph patterns, what is bound is new, and no table has a variable twice
abbrev pub KeepsRules : List Name → Algebra → Type 0
KeepsRules before (algebra.Bgp patterns) = AreApartFrom before (flat_map labels_in patterns)
KeepsRules before (algebra.Join left right) = KeepsRules before left × KeepsRules (before ++ labels_of left) right
KeepsRules before (algebra.Union left right) = KeepsRules before left × KeepsRules (before ++ labels_of left) right
KeepsRules before (algebra.Filter condition inner) = KeepsRules before inner
KeepsRules before (algebra.Extend inner variable value) = KeepsRules before inner × (has_name (in_scope inner) variable ≡ false)
KeepsRules before (algebra.Table variables rows) = repeated [] variables ≡ []
KeepsRules before (algebra.LeftJoin left right condition) = KeepsRules before left × KeepsRules (before ++ labels_of left) right
KeepsRules before (algebra.Minus left right) = KeepsRules before left × KeepsRules (before ++ labels_of left) right

-- the operators of a query that is accepted keep the rules
abbrev pub QueriesKeepRules : Type 0
QueriesKeepRules = (text : List ℕ) (query : Query) → IsAccepted text query → KeepsRules [] (translation query)

-- and so do those of each of its parts by itself
abbrev pub PartsKeepRules : Type 0
PartsKeepRules = (text : List ℕ) (query : Query) → IsAccepted text query → (a : Algebra) → In (parts_of (translation query)) a → KeepsRules [] a
