-- The longest token that begins a text, read a character at a time.
use Rattle.std.specs.Prelude.{suc, ℕ, Bool, cond, List, [], ◌∷◌, Option, Some, None}
use Rattle.term_core.specs.declared.token.Kind.{Kind}
use Rattle.sparql_lex.specs.declared.state.State.{State}
use Rattle.sparql_lex.specs.declared.state.State.TheVariants.{Start}
use Rattle.sparql_lex.specs.Steps.{kind_of, step}

-- a kind of token, and its number of characters
abbrev pub Found : Type 0
Found = Option (Kind × ℕ)

-- what was found, or the token of so many characters if there is one
abbrev pub or_found : Option Kind → ℕ → Found → Found
or_found None n found = found
or_found (Some kind) n found = Some (kind, n)

-- how many of the class stand at the front
abbrev pub run : (ℕ → Bool) → List ℕ → ℕ
run p [] = 0
run p (c ∷ text) = cond (p c) (suc (run p text)) 0

-- what the next state leads to, if there is one
abbrev pub with_next : Option State → (State → Found) → Found → Found
with_next None go found = found
with_next (Some next) go found = go next

-- what is found in the end, if the state came by so many characters and this was found so far
abbrev pub scan : List ℕ → State → ℕ → Found → Found
scan [] state n found = found
scan (c ∷ text) state n found =
    with_next (step state c) (λ next. scan text next (suc n) (or_found (kind_of next) (suc n) found)) found

-- the longest token that begins the text
abbrev pub longest : List ℕ → Found
longest text = scan text Start 0 None
