-- Queries without modifiers: what they answer is the solutions of their group (SPARQL 1.1, 18.2.4 and 18.2.5).
use Rattle.std.specs.Prelude.{Bool, true, false, not, ◌&&◌, ◌==◌, ℕ, Option, Some, None, length}
use Rattle.std.specs.List.{list_all}
use Rattle.sparql_tree.specs.Exprs.{Expr}
use Rattle.sparql_tree.specs.Groups.{SelectItem, Query}

-- whether nothing is there
abbrev pub is_missing : Option ℕ → Bool
is_missing None = true
is_missing (Some count) = false

-- whether an item has no value, and so is a variable alone
abbrev pub has_no_value : Option Expr → Bool
has_no_value None = true
has_no_value (Some value) = false

abbrev pub is_alone : SelectItem → Bool
is_alone item = has_no_value item.value

-- whether a query has neither a value among its items, nor DISTINCT, keys, HAVING, ORDER BY, LIMIT or an OFFSET but 0
abbrev pub is_plain : Query → Bool
is_plain q = not q.distinct && (list_all is_alone q.items && ((length q.keys == 0) && ((length q.having == 0)
    && ((length q.order == 0) && (is_missing q.limit && (q.offset == 0))))))
