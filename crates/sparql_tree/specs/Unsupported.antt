-- Tokens of the language that are not answered, and how deep a query nests.
use Rattle.std.specs.Prelude.{ℕ, ◌+◌, ◌-◌, ◌^◌, max, Bool, true, false, codes, ◌||◌, ◌&&◌, pos, int_lt, List, [], ◌∷◌, Option, Some, None, if◌then◌else◌}
use Rattle.std.specs.Option.{is_none}
use Rattle.std.specs.Str.{bytes_eq}
use Rattle.term_core.specs.Numbers as numbers
use Rattle.term_core.specs.Numbers.{Number, xsd_integer, xsd_decimal}
use Rattle.term_core.specs.declared.token.Kind.{Kind}
use Rattle.term_core.specs.declared.token.Kind.TheVariants as kinds
use Rattle.sparql_tree.specs.Words.{is_word, is_unsupported_word}
use Rattle.sparql_tree.specs.Symbols.{Lexeme}

-- what has come before a token: a SELECT anywhere, and LIMIT or OFFSET directly
pub record Before : Type 0 where
  pub select : Bool
  pub count : Bool

abbrev pub before : Bool → Bool → Before
before select count = record { select = select; count = count }

-- a number past 2^64 - 1
abbrev pub is_past_64_bits : Number → Bool
is_past_64_bits (numbers.Whole m) = int_lt (pos (2 ^ 64 - 1)) m
is_past_64_bits (numbers.Decimal m s) = false

-- an integer that is not read, or where a number of rows stands is past 2^64 - 1
abbrev pub is_unsupported_number : Bool → Option Number → Bool
is_unsupported_number count None = true
is_unsupported_number count (Some n) = count && is_past_64_bits n

-- an integer (XSD 1.1 part 2, 3.4.13), behind LIMIT or OFFSET or elsewhere
abbrev pub is_unsupported_integer : Bool → List ℕ → Bool
is_unsupported_integer count text = is_unsupported_number count (numbers.read text xsd_integer)

-- a decimal that is not read (XSD 1.1 part 2, 3.3.3)
abbrev pub is_unsupported_decimal : List ℕ → Bool
is_unsupported_decimal text = is_none (numbers.read text xsd_decimal)

-- a word that is not answered, or a second SELECT (SPARQL 1.1, 12)
abbrev pub is_unsupported_in : Bool → List ℕ → Bool
is_unsupported_in select text = is_unsupported_word text || (select && is_word text (codes "SELECT"))

-- the brackets (SPARQL 1.1, 19.8, rules 99 and 101)
abbrev pub is_bracket : List ℕ → Bool
is_bracket text = bytes_eq text (codes "[") || bytes_eq text (codes "]")

-- a token of this kind that is not answered behind what came before
abbrev pub is_unsupported_of : Before → Kind → List ℕ → Bool
is_unsupported_of b kinds.Double text = true
is_unsupported_of b kinds.Integer text = is_unsupported_integer b.count text
is_unsupported_of b kinds.Decimal text = is_unsupported_decimal text
is_unsupported_of b kinds.Word text = is_unsupported_in b.select text
is_unsupported_of b kinds.Sign text = is_bracket text
is_unsupported_of b _ text = false

-- the words behind which a number of rows stands (SPARQL 1.1, 19.8, rules 26 and 27)
abbrev pub is_count_word : List ℕ → Bool
is_count_word text = is_word text (codes "LIMIT") || is_word text (codes "OFFSET")

-- what has come before the token behind one of this kind
abbrev pub before_next : Before → Kind → List ℕ → Before
before_next b kinds.Word text = before (b.select || is_word text (codes "SELECT")) (is_count_word text)
before_next b _ text = before b.select false

-- the bytes of the first token that is not answered
abbrev pub first_unsupported_from : Before → List Lexeme → Option (List ℕ)
first_unsupported_from b [] = None
first_unsupported_from b (l ∷ ls) = if is_unsupported_of b l.kind l.text then Some l.text
    else first_unsupported_from (before_next b l.kind l.text) ls

-- nothing came before the first token
abbrev pub first_unsupported : List Lexeme → Option (List ℕ)
first_unsupported ls = first_unsupported_from (before false false) ls

-- what opens a group, of either kind (SPARQL 1.1, 19.8)
abbrev pub does_open : List ℕ → Bool
does_open text = bytes_eq text (codes "(") || bytes_eq text (codes "{")

-- what closes one, of either kind
abbrev pub does_close : List ℕ → Bool
does_close text = bytes_eq text (codes ")") || bytes_eq text (codes "}")

-- how many groups are open behind a token of this kind: nothing is closed where none is open
abbrev pub open_behind : ℕ → Kind → List ℕ → ℕ
open_behind n kinds.Sign text = if does_open text then n + 1 else if does_close text then n - 1 else n
open_behind n _ text = n

-- the most groups that are open at one place, where so many are open at first
abbrev pub deepest_from : ℕ → List Lexeme → ℕ
deepest_from n [] = n
deepest_from n (l ∷ ls) = max n (deepest_from (open_behind n l.kind l.text) ls)

-- the most groups that are open at one place
abbrev pub deepest : List Lexeme → ℕ
deepest ls = deepest_from 0 ls
