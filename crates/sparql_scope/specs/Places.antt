-- Where a name stands last among names.
use Rattle.std.specs.Prelude.{◌≡◌, ℕ, suc, Bool, List, [], ◌∷◌, Option, Some, None, if◌then◌else◌}
use Rattle.std.specs.declared.string.String.{String}
use Rattle.std.specs.BTreeMap.{BTreeMap, get_by_text}
use Rattle.std.specs.Global.{Global}
use Rattle.term_core.specs.Mappings.{Name, same_name}

-- one place behind, or the first if the name stands there, or none
abbrev pub place_behind : Option ℕ → Bool → Option ℕ
place_behind (Some at) here = Some (suc at)
place_behind None here = if here then Some 0 else None

-- the last place of a name, counted from 0
abbrev pub last_place : List Name → Name → Option ℕ
last_place [] name = None
last_place (first ∷ rest) name = place_behind (last_place rest name) (same_name name first)

-- the map has the last place of each name
abbrev pub AreLast : BTreeMap (String Global) ℕ → List Name → Type 0
AreLast last names = (name : Name) → get_by_text last name ≡ last_place names name
