-- Where a sorted list is cut in two by a prefix of its keys.
use Rattle.std.specs.Prelude.{◌≡◌, ℕ, ◌≤◌, ◌<◌, ◌==◌, ◌↔◌, Bool, true, false, List, slice_get, Some, count_by, if◌then◌else◌}
use Rattle.std.specs.Ordering.{nat_cmp, ordering_then, is_lt, is_le}
use Rattle.std.specs.declared.cmp.Ordering.{Ordering}
use Rattle.std.specs.declared.cmp.Ordering.TheVariants.{Equal}
use Rattle.term_core.specs.declared.pattern.IdTriple.{IdTriple}
use Rattle.term_core.specs.Ids.{id_cmp}
use Rattle.btree_scan.specs.declared.prefix.Prefix.{Prefix}

-- the order of keys by the first n of their ids
unfoldable pub front_cmp : ℕ → IdTriple → IdTriple → Ordering
front_cmp n a b =
    if n == 0 then Equal
    else if n == 1 then nat_cmp a.s b.s
    else if n == 2 then ordering_then (nat_cmp a.s b.s) (nat_cmp a.p b.p)
    else id_cmp a b

-- the ids of a prefix as a key
abbrev pub prefix_key : Prefix → IdTriple
prefix_key prefix = record { s = prefix.a; p = prefix.b; o = prefix.c }

-- how the front of a key stands to a prefix
abbrev pub prefix_cmp : Prefix → IdTriple → Ordering
prefix_cmp prefix e = front_cmp prefix.len e (prefix_key prefix)

-- the key begins with the prefix
abbrev pub HasPrefix : Prefix → IdTriple → Type 0
HasPrefix prefix e = prefix_cmp prefix e ≡ Equal

-- the key stands before all keys with the prefix; or, with them, before what follows these
abbrev pub stands_before : Bool → Prefix → IdTriple → Bool
stands_before true prefix e = is_le (prefix_cmp prefix e)
stands_before false prefix e = is_lt (prefix_cmp prefix e)

-- from the first to the end stand the keys with the prefix, and no others
pub record IsKeyRange (prefix : Prefix) (es : List IdTriple) (first end : ℕ) : Type 0 where
  pub below : first ≡ count_by (stands_before false prefix) es
  pub through : end ≡ count_by (stands_before true prefix) es
  pub exactly : (k : ℕ) (e : IdTriple) → slice_get es k ≡ Some e → HasPrefix prefix e ↔ ((first ≤ k) × (k < end))
