-- How many bytes a query holds past those of its text. A name with a prefix holds the prefix's IRI (SPARQL 1.1, 4.1.1), each
-- triple its own subject and verb, which are left out behind ; and , (4.2), and each term of a table the name of its variable
-- (10.2). A count has 64 bits, and stands still at the greatest of them.
use Rattle.std.specs.Prelude.{ℕ, ◌+◌, ◌-◌, ◌^◌, min, Bool, true, false, ◌&&◌, ◌||◌, nat_lt, ◌==◌, codes, List, [], ◌∷◌, length, Option, Some, None, if◌then◌else◌}
use Rattle.std.specs.List.{slice_range, slice_get}
use Rattle.term_core.specs.declared.token.Kind.{Kind}
use Rattle.term_core.specs.declared.token.Kind.TheVariants as kinds
use Rattle.term_core.specs.declared.token.Token.{Token}
use Rattle.sparql_tree.specs.declared.symbol.Shape.{Shape}
use Rattle.sparql_tree.specs.declared.symbol.Shape.TheVariants as shapes
use Rattle.sparql_tree.specs.Words.{is_word, word_shape, sign_shape}
use Rattle.sparql_tree.specs.Symbols.{Prefixes}
use Rattle.sparql_symbol.specs.Reading.{before_colon}
use Rattle.sparql_symbol.specs.declared.excess.Passed.{Passed}
use Rattle.sparql_symbol.specs.declared.excess.Table.{Table}
use Rattle.sparql_symbol.specs.declared.excess.Triples.{Triples}

-- the sum of two counts
abbrev pub added : ℕ → ℕ → ℕ
added a b = min (a + b) (2 ^ 64 - 1)

-- ---- what a token is

-- a word: a truth value, or what its table says
abbrev pub shape_of_word : List ℕ → Shape
shape_of_word text = if is_word text (codes "true") || is_word text (codes "false") then shapes.Boolean else word_shape text

-- what a token is to the grammar, whatever its prefix stands for
abbrev pub shape_of_token : Kind → List ℕ → Shape
shape_of_token kinds.Iri text = shapes.Iri
shape_of_token kinds.PName text = shapes.Iri
shape_of_token kinds.Blank text = shapes.Blank
shape_of_token kinds.Var text = shapes.Var
shape_of_token kinds.String text = shapes.Quoted
shape_of_token kinds.Lang text = shapes.Tag
shape_of_token kinds.Integer text = shapes.Integer
shape_of_token kinds.Decimal text = shapes.Decimal
shape_of_token kinds.Double text = shapes.Other
shape_of_token kinds.Word text = shape_of_word text
shape_of_token kinds.Sign text = sign_shape text

-- a term, a variable or the verb a begins there
abbrev pub is_held_term : Shape → Bool
is_held_term shapes.Iri = true
is_held_term shapes.Blank = true
is_held_term shapes.Var = true
is_held_term shapes.Quoted = true
is_held_term shapes.Integer = true
is_held_term shapes.Decimal = true
is_held_term shapes.Boolean = true
is_held_term shapes.IsA = true
is_held_term _ = false

-- the bytes of an IRI, if there is one
abbrev pub bytes_of : Option (List ℕ) → ℕ
bytes_of None = 0
bytes_of (Some iri) = length iri

-- the bytes of the IRI that a name's prefix stands for
abbrev pub prefix_bytes : Prefixes → Kind → List ℕ → ℕ
prefix_bytes prefixes kinds.PName text = bytes_of (prefixes (before_colon text))
prefix_bytes prefixes _ text = 0

-- ---- what has come before a token

-- no term since triples could last begin
abbrev pub no_triples : Triples
no_triples = record { terms = 0; subject = 0; verb = 0 }

-- the first term is a subject, the second a verb
abbrev pub with_term : Triples → ℕ → Triples
with_term triples bytes = if triples.terms == 0 then record { terms = 1; subject = bytes; verb = 0 }
    else if triples.terms == 1 then record { terms = 2; subject = triples.subject; verb = bytes }
    else triples

-- the subject and the verb behind a token of so many bytes: triples begin anew behind a brace, a point or a
-- parenthesis, and a verb behind ;
abbrev pub triples_behind : Triples → Shape → ℕ → Triples
triples_behind triples shapes.OpenBrace bytes = no_triples
triples_behind triples shapes.CloseBrace bytes = no_triples
triples_behind triples shapes.Point bytes = no_triples
triples_behind triples shapes.Close bytes = no_triples
triples_behind triples shapes.Semicolon bytes = record { terms = 1; subject = triples.subject; verb = 0 }
triples_behind triples shape bytes = if is_held_term shape then with_term triples bytes else triples

-- the parentheses that are open behind a token
abbrev pub parentheses_behind : ℕ → Shape → ℕ
parentheses_behind parentheses shapes.Open = added parentheses 1
parentheses_behind parentheses shapes.Close = parentheses - 1
parentheses_behind parentheses shape = parentheses

-- a table with another column
abbrev pub at_column : Table → ℕ → Table
at_column table column = record { first = table.first; wide = table.wide; rows = table.rows; column = column }

-- a cell fills a column, where the rows have some
abbrev pub fills_column : Table → Shape → Bool
fills_column table shapes.Undef = table.rows && table.wide
fills_column table shape = (table.rows && table.wide) && is_held_term shape

-- a table behind a token at this place: in front of the rows a parenthesis opens its variables, and in them a row;
-- a brace begins the rows; a datatype stands in the column of its literal
abbrev pub within_table : Table → ℕ → Shape → Table
within_table table at shapes.Open =
    record { first = if table.rows then table.first else added at 1; wide = true; rows = table.rows; column = 0 }
within_table table at shapes.OpenBrace = record { first = table.first; wide = table.wide; rows = true; column = 0 }
within_table table at shapes.Typed = at_column table (table.column - 1)
within_table table at shape = if fills_column table shape then at_column table (added table.column 1) else table

-- the table that is open behind a token: VALUES begins one, a closing brace ends it
abbrev pub table_behind : Option Table → ℕ → Shape → Option Table
table_behind table at shapes.Values = Some (record { first = added at 1; wide = false; rows = false; column = 0 })
table_behind table at shapes.CloseBrace = None
table_behind None at shape = None
table_behind (Some table) at shape = Some (within_table table at shape)

-- what has come before the next token
abbrev pub behind : Passed → ℕ → Shape → ℕ → Passed
behind before at shape bytes = record {
  parentheses = parentheses_behind before.parentheses shape;
  triples = triples_behind before.triples shape bytes;
  table = table_behind before.table at shape;
}

-- nothing has come
abbrev pub nothing_passed : Passed
nothing_passed = record { parentheses = 0; triples = no_triples; table = None }

-- ---- what is held again

-- the bytes of a token, if there is one
abbrev pub token_bytes : Option Token → ℕ
token_bytes None = 0
token_bytes (Some token) = token.to - token.from

-- the bytes of the variable that a term of a table is of
abbrev pub variable_bytes : List Token → Table → Shape → ℕ
variable_bytes tokens table shape =
    if table.rows && is_held_term shape then token_bytes (slice_get tokens (added table.first table.column)) else 0

-- the subject and the verb behind a comma, the subject behind a semicolon
abbrev pub held_by_triples : Triples → Shape → ℕ
held_by_triples triples shapes.Comma = added triples.subject triples.verb
held_by_triples triples shapes.Semicolon = triples.subject
held_by_triples triples shape = 0

-- the bytes held again outside a table, where parentheses hold no triples, or in one
abbrev pub held_within : List Token → Option Table → Passed → Shape → ℕ
held_within tokens None before shape = if nat_lt 0 before.parentheses then 0 else held_by_triples before.triples shape
held_within tokens (Some table) before shape = variable_bytes tokens table shape

-- the bytes of what has come before that are held again at a token
abbrev pub held_again : List Token → Passed → Shape → ℕ
held_again tokens before shape = held_within tokens before.table before shape

-- ---- the excess

-- a token's bytes
abbrev pub written : List ℕ → Token → List ℕ
written text token = slice_range text token.from token.to

-- the sum of what the tokens from a place on hold, added to n
abbrev pub excess_on : Prefixes → List ℕ → List Token → ℕ → Passed → ℕ → List Token → ℕ
excess_on prefixes text tokens n before at [] = n
excess_on prefixes text tokens n before at (t ∷ ts) =
    let shape = shape_of_token t.kind (written text t) in
    let more = prefix_bytes prefixes t.kind (written text t) in
    excess_on prefixes text tokens (added (added n more) (held_again tokens before shape))
    (behind before at shape (added (length (written text t)) more)) (added at 1) ts

-- the bytes that the tokens behind a prologue hold past those of the text
abbrev pub excess : Prefixes → List ℕ → List Token → ℕ
excess prefixes text tokens = excess_on prefixes text tokens 0 nothing_passed 0 tokens

-- more than 2^30
abbrev pub is_excessive : Prefixes → List ℕ → List Token → Bool
is_excessive prefixes text tokens = nat_lt (2 ^ 30) (excess prefixes text tokens)
