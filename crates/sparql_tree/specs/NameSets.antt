-- Sets of names, as the code keeps them.
use Rattle.std.specs.Prelude.{◌≡◌, ℕ, List, [], ◌∷◌, ◌++◌, if◌then◌else◌}
use Rattle.std.specs.declared.string.String.{String}
use Rattle.std.specs.BTreeSet.{BTreeSet, contains_text}
use Rattle.std.specs.Global.{Global}
use Rattle.term_core.specs.Mappings.{Name, has_name}

-- the set has the texts that are among the names
abbrev pub HasNames : BTreeSet (String Global) → List Name → Type 0
HasNames seen names = (text : List ℕ) → contains_text seen text ≡ has_name names text

-- what was found, and behind it the name, where it is not among those that stand before
abbrev pub with_new : List Name → Name → List Name → List Name
with_new before name found = if has_name before name then found else found ++ name ∷ []
