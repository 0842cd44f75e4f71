-- What stands at the front of a text.
use Rattle.std.specs.Prelude.{◌≤◌, ◌<◌, ◌+◌, ℕ, List, [], ◌∷◌, length, take, drop}
use Rattle.term_core.specs.Tokens.{Lexes, IsStuck, width, token}
use Rattle.term_core.specs.declared.token.Token.{Token}
use Rattle.sparql_lex.specs.declared.lexing.Front.{Front}
use Rattle.sparql_lex.specs.declared.lexing.Front.TheVariants as fronts

-- characters to skip, a token, or nothing that is allowed
abbrev pub FrontIs : List ℕ → Front → Type 0
FrontIs text (fronts.Skip n) = (0 < n) × (n ≤ length text)
    × ((at : ℕ) → Lexes at text [] (at + width (take n text)) (drop n text))
FrontIs text (fronts.Next kind n) = (0 < n) × (n ≤ length text)
    × ((at : ℕ) → Lexes at text (token kind at (at + width (take n text)) ∷ []) (at + width (take n text))
    (drop n text))
FrontIs text fronts.Nothing = IsStuck text

-- the characters have these tokens
abbrev pub IsCut : List ℕ → List Token → Type 0
IsCut text ts = (end : ℕ) × Lexes 0 text ts end []

-- the characters are cut up to this byte, where nothing begins
abbrev pub StopsIn : List ℕ → ℕ → Type 0
StopsIn text at = (ts : List Token) × (rest : List ℕ) × Lexes 0 text ts at rest × IsStuck rest
