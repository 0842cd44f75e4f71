-- What the first token that is not answered is among all tokens, and what the deepest nesting is.
use Rattle.std.specs.Prelude.{◌≡◌, ◌≤◌, ◌++◌, ℕ, Bool, true, false, ◌||◌, codes, List, [], ◌∷◌, Option, Some, None}
use Rattle.term_core.specs.declared.token.Kind.{Kind}
use Rattle.term_core.specs.declared.token.Kind.TheVariants as kinds
use Rattle.sparql_tree.specs.Words.{is_word}
use Rattle.sparql_tree.specs.Symbols.{Lexeme}
use Rattle.sparql_tree.specs.Unsupported.{before, is_unsupported_of, is_count_word, open_behind}

-- the word SELECT
abbrev pub is_select : Kind → List ℕ → Bool
is_select kinds.Word text = is_word text (codes "SELECT")
is_select _ text = false

-- a SELECT is among the tokens
abbrev pub has_select : List Lexeme → Bool
has_select [] = false
has_select (l ∷ ls) = is_select l.kind l.text || has_select ls

-- the word LIMIT or OFFSET
abbrev pub is_count : Kind → List ℕ → Bool
is_count kinds.Word text = is_count_word text
is_count _ text = false

-- the last token is LIMIT or OFFSET; where there is none, what is said
abbrev pub ends_in_count : Bool → List Lexeme → Bool
ends_in_count none [] = none
ends_in_count none (l ∷ ls) = ends_in_count (is_count l.kind l.text) ls

-- a token that is not answered behind these
abbrev pub is_unsupported_behind : List Lexeme → Lexeme → Bool
is_unsupported_behind front l = is_unsupported_of (before (has_select front) (ends_in_count false front)) l.kind l.text

-- each token is answered
abbrev pub AreAnswered : List Lexeme → Type 0
AreAnswered ls = (front : List Lexeme) (l : Lexeme) (rest : List Lexeme) → ls ≡ front ++ l ∷ rest → is_unsupported_behind front l ≡ false

-- a token of this text is not answered, and each before it is
pub record IsFirstUnsupported (ls : List Lexeme) (what : List ℕ) : Type 0 where
  pub front : List Lexeme
  pub token : Lexeme
  pub rest : List Lexeme
  pub spelled : ls ≡ front ++ token ∷ rest
  pub text : token.text ≡ what
  pub unsupported : is_unsupported_behind front token ≡ true
  pub first : AreAnswered front

-- the first that is found is the first, and where none is found there is none
abbrev pub FindsFirst : List Lexeme → Option (List ℕ) → Type 0
FindsFirst ls None = AreAnswered ls
FindsFirst ls (Some what) = IsFirstUnsupported ls what

-- how many groups are open behind these tokens, where so many are open before them
abbrev pub open_after : ℕ → List Lexeme → ℕ
open_after n [] = n
open_after n (l ∷ ls) = open_after (open_behind n l.kind l.text) ls

-- so many groups are open behind a front of the tokens, and no more behind any
pub record IsDeepest (ls : List Lexeme) (n : ℕ) : Type 0 where
  pub front : List Lexeme
  pub rest : List Lexeme
  pub spelled : ls ≡ front ++ rest
  pub open_there : open_after 0 front ≡ n
  pub most : (some others : List Lexeme) → ls ≡ some ++ others → open_after 0 some ≤ n
