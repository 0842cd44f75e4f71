-- Where a prefix may end: so that a run of names and dots without a colon is not read again from each of its names.
use Rattle.std.specs.Prelude.{◌≡◌, ◌≤◌, ◌<◌, ℕ, Bool, true, false, ◌||◌, ◌&&◌, ◌==◌, cond, List, [], ◌∷◌, drop}
use Rattle.term_core.specs.Characters.{is_pn}

-- a character of a name, or a dot
abbrev pub is_name_part : ℕ → Bool
is_name_part c = is_pn c || (c == 46)

-- whether characters of names and dots lead to a colon, behind a character of a name (else behind a dot)
abbrev pub ends_prefix : List ℕ → Bool → Bool
ends_prefix [] behind_name = false
ends_prefix (c ∷ text) behind_name =
    cond (is_pn c) (ends_prefix text true) (cond (c == 46) (ends_prefix text false) (behind_name && (c == 58)))

-- between these places no prefix begins
abbrev pub NoPrefix : List ℕ → ℕ → ℕ → Type 0
NoPrefix text from to = (i : ℕ) → from ≤ i → i < to → ends_prefix (drop i text) false ≡ false
