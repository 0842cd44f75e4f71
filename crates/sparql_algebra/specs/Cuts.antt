-- A query as it is cut: its parts with their texts, the tree over them, and the variables of its answer.
use Rattle.std.specs.Prelude.{ℕ, List, map, if◌then◌else◌}
use Rattle.term_core.specs.Mappings.{Name, same_name}
use Rattle.term_core.specs.Bags.{distinct}
use Rattle.sparql_tree.specs.Algebra.{Algebra}
use Rattle.sparql_tree.specs.Groups.{Query, SelectItem}
use Rattle.sparql_tree.specs.Translation.{translation}
use Rattle.sparql_tree.specs.Variables.{variables}
use Rattle.sparql_translation.specs.Splits.{Tree, parts_of, tree_from}
use Rattle.sparql_print.specs.PartText.{part_text}

-- a part: its operators, the text in which it travels to a server, and the variables of its solutions
pub record PartOf : Type 0 where
  pub operators : Algebra
  pub text : List ℕ
  pub names : List Name

-- a query, its parts, the tree over them, and the variables of its answer
pub record Split : Type 0 where
  pub query : Query
  pub parts : List PartOf
  pub tree : Tree
  pub answer : List Name

-- the variables of a query's answer: those of the items, each once, or for `*` those in scope (SPARQL 1.1, 18.2.4.4 and 18.2.5.4)
abbrev pub answered : Query → List Name
answered q = if q.star then variables (translation q) else distinct same_name (map (λ (item : SelectItem). item.variable) q.items)

-- the part of an operator
abbrev pub part_of : Algebra → PartOf
part_of a = record { operators = a; text = part_text a; names = variables a }

-- a query as it is cut
abbrev pub split_of : Query → Split
split_of q = record {
  query = q;
  parts = map part_of (parts_of (translation q));
  tree = tree_from 0 (translation q);
  answer = answered q;
}
