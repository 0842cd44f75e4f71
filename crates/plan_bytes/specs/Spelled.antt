-- A suspended plan, by the names of the data and of the text.
use Rattle.std.specs.Prelude.{ℕ, List, ◌∷◌, ◌++◌}
use Rattle.plan_tree.specs.States.{State}
use Rattle.plan_tree.specs.Spelling.{state_bytes}

-- the version, the data's name, the text's name, the state
abbrev pub spelled : (data_name text_name : List ℕ) → State → List ℕ
spelled data_name text_name state = 2 ∷ (data_name ++ (text_name ++ state_bytes state))
