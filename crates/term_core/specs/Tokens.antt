-- A query text is cut into tokens, spaces and comments, each token the longest that begins at its place
-- (SPARQL 1.1 19.4 and 19.8).
use Rattle.std.specs.Prelude.{◌≡◌, ◌⊎◌, ◌≤◌, ◌+◌, ◌++◌, ℕ, Bool, true, false, not, codes, List, [], ◌∷◌, length, encode_utf8_all, IsUtf8}
use Rattle.std.specs.Str.{chars}
use Rattle.std.specs.Str.Lossy.{utf8_valid_len}
use Rattle.term_core.specs.Characters.{is_among, AreAll}
use Rattle.term_core.specs.Terminals.{IsToken}
use Rattle.term_core.specs.declared.token.Kind.{Kind}
use Rattle.term_core.specs.declared.token.Token.{Token}

-- space, tab, LF, CR (SPARQL 1.1 19.8, WS)
abbrev pub is_space : ℕ → Bool
is_space c = is_among (codes " \t\n\r") c

-- what a comment may hold behind its #: all but LF and CR (SPARQL 1.1 19.4)
abbrev pub is_in_line : ℕ → Bool
is_in_line c = not (is_among (codes "\n\r") c)

-- the line ends here
abbrev pub EndsLine : List ℕ → Type 0
EndsLine [] = Unit {0}
EndsLine (c ∷ text) = is_in_line c ≡ false

-- the front is a token, and no front of the text that is longer is one
pub record IsLongest (kind : Kind) (front rest : List ℕ) : Type 0 where
  pub token : IsToken kind front
  pub longest : (other : Kind) (longer behind : List ℕ) → IsToken other longer → longer ++ behind ≡ front ++ rest
      → length longer ≤ length front

-- the bytes of the characters in UTF-8 (RFC 3629)
abbrev pub width : List ℕ → ℕ
width text = length (encode_utf8_all text)

-- a token from one byte up to another
abbrev pub token : Kind → ℕ → ℕ → Token
token kind from to = record { kind = kind; from = from; to = to }

-- from this byte on these characters have these tokens, up to that byte, where the rest stands
pub data Lexes : ℕ → List ℕ → List Token → ℕ → List ℕ → Type 0 where
  stop : {at : ℕ} {text : List ℕ} → Lexes at text [] at text
  space : {at end c : ℕ} {text rest : List ℕ} {ts : List Token} → is_space c ≡ true → Lexes (at + 1) text ts end rest
      → Lexes at (c ∷ text) ts end rest
  comment : {at end : ℕ} (line : List ℕ) {text rest : List ℕ} {ts : List Token} → AreAll is_in_line line → EndsLine text
      → Lexes (at + width (35 ∷ line)) text ts end rest → Lexes at (35 ∷ (line ++ text)) ts end rest
  next : {at end : ℕ} {kind : Kind} {front text rest : List ℕ} {ts : List Token} → IsLongest kind front text
      → Lexes (at + width front) text ts end rest
      → Lexes at (front ++ text) (token kind at (at + width front) ∷ ts) end rest

-- the whole text, bytes that are UTF-8, has these tokens
pub record Tokens (text : List ℕ) (ts : List Token) : Type 0 where
  pub utf8 : IsUtf8 text
  pub end : ℕ
  pub lexed : Lexes 0 (chars text) ts end []

-- no space, comment or token begins the text
pub record IsStuck (text : List ℕ) : Type 0 where
  pub first : ℕ
  pub more : List ℕ
  pub spelled : text ≡ first ∷ more
  pub no_space : is_space first ≡ false
  pub no_comment : first ≡ 35 → ⊥
  pub no_token : (kind : Kind) (front rest : List ℕ) → IsToken kind front → front ++ rest ≡ text → ⊥

-- UTF-8 that is cut up to this byte, where no space, comment or token begins
pub record StopsAt (text : List ℕ) (at : ℕ) : Type 0 where
  pub utf8 : IsUtf8 text
  pub ts : List Token
  pub rest : List ℕ
  pub lexed : Lexes 0 (chars text) ts at rest
  pub stuck : IsStuck rest

-- where the text is not UTF-8 the length of its longest prefix that is; else the first byte where nothing begins
abbrev pub FaultAt : List ℕ → ℕ → Type 0
FaultAt text at = ((IsUtf8 text → ⊥) × (at ≡ utf8_valid_len text)) ⊎ StopsAt text at
