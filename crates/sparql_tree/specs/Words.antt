-- The words and signs of a query, and what each is to the grammar (SPARQL 1.1, 19.8).
use Rattle.std.specs.Prelude.{◌≡◌, ℕ, Bool, List, [], ◌∷◌, Option, Some, None, codes, if◌then◌else◌, ◌||◌, ◌++◌, not, map}
use Rattle.std.specs.List.{list_any, list_all}
use Rattle.std.specs.Str.{bytes_eq, str_eq_ignore_ascii_case}
use Rattle.sparql_tree.specs.declared.words.AggregateKind.TheVariants as aggregates
use Rattle.sparql_tree.specs.declared.words.Function.TheVariants as functions
use Rattle.sparql_tree.specs.declared.symbol.Shape.{Shape}
use Rattle.sparql_tree.specs.declared.symbol.Shape.TheVariants as shapes

-- a text and what it is to the grammar, row by row
abbrev pub Table : Type 0
Table = List (List ℕ × Shape)

-- the shape of the first row that passes the test
abbrev pub first_row : (List ℕ → Bool) → Table → Option Shape
first_row test [] = None
first_row test (row ∷ rows) = if test row.0 then Some row.1 else first_row test rows

-- the two are one word, read without case (SPARQL 1.1, 19.8: keywords are matched in a case-insensitive manner)
abbrev pub is_word : List ℕ → List ℕ → Bool
is_word text word = str_eq_ignore_ascii_case text word

-- what a word is by a table
abbrev pub word_in : Table → List ℕ → Option Shape
word_in table text = first_row (is_word text) table

-- the words of a query's clauses (SPARQL 1.1, 19.8, rules 7 to 26)
abbrev pub clause_words : Table
clause_words = (codes "SELECT", shapes.Select) ∷ (codes "DISTINCT", shapes.Distinct) ∷ (codes "REDUCED", shapes.Reduced)
    ∷ (codes "WHERE", shapes.Where) ∷ (codes "GROUP", shapes.Group) ∷ (codes "BY", shapes.By) ∷ (codes "HAVING", shapes.Having)
    ∷ (codes "ORDER", shapes.Order) ∷ (codes "ASC", shapes.Asc) ∷ (codes "DESC", shapes.Desc) ∷ (codes "LIMIT", shapes.Limit)
    ∷ (codes "OFFSET", shapes.Offset) ∷ []

-- the words of group graph patterns and of operators (SPARQL 1.1, 19.8, rules 28 to 69 and 114)
abbrev pub pattern_words : Table
pattern_words = (codes "OPTIONAL", shapes.Optional) ∷ (codes "MINUS", shapes.Without) ∷ (codes "FILTER", shapes.Filter)
    ∷ (codes "BIND", shapes.Bind) ∷ (codes "AS", shapes.As) ∷ (codes "VALUES", shapes.Values) ∷ (codes "UNDEF", shapes.Undef)
    ∷ (codes "UNION", shapes.Union) ∷ (codes "NOT", shapes.Not) ∷ (codes "IN", shapes.In) ∷ []

-- the functions on terms (SPARQL 1.1, 17.4.1 and 17.4.2)
abbrev pub term_functions : Table
term_functions = (codes "BOUND", shapes.Function functions.Bound) ∷ (codes "SAMETERM", shapes.Function functions.SameTerm)
    ∷ (codes "ISIRI", shapes.Function functions.IsIri) ∷ (codes "ISURI", shapes.Function functions.IsIri)
    ∷ (codes "ISBLANK", shapes.Function functions.IsBlank) ∷ (codes "ISLITERAL", shapes.Function functions.IsLiteral)
    ∷ (codes "ISNUMERIC", shapes.Function functions.IsNumeric) ∷ (codes "IF", shapes.Function functions.If)
    ∷ (codes "COALESCE", shapes.Function functions.Coalesce) ∷ (codes "STR", shapes.Function functions.Str)
    ∷ (codes "LANG", shapes.Function functions.Lang) ∷ (codes "DATATYPE", shapes.Function functions.Datatype) ∷ []

-- the functions on strings and numbers (SPARQL 1.1, 17.4.3 and 17.4.4), and the aggregates (SPARQL 1.1, 18.5.1)
abbrev pub value_functions : Table
value_functions = (codes "STRLEN", shapes.Function functions.StrLen) ∷ (codes "STRSTARTS", shapes.Function functions.StrStarts)
    ∷ (codes "STRENDS", shapes.Function functions.StrEnds) ∷ (codes "CONTAINS", shapes.Function functions.Contains)
    ∷ (codes "CONCAT", shapes.Function functions.Concat) ∷ (codes "ABS", shapes.Function functions.Abs)
    ∷ (codes "COUNT", shapes.Aggregate aggregates.Count) ∷ (codes "SUM", shapes.Aggregate aggregates.Sum)
    ∷ (codes "AVG", shapes.Aggregate aggregates.Avg) ∷ (codes "MIN", shapes.Aggregate aggregates.Min)
    ∷ (codes "MAX", shapes.Aggregate aggregates.Max) ∷ []

-- the verb a, in lower case alone, and the truth values (SPARQL 1.1, 19.8, rules 78 and 134)
abbrev pub other_word : List ℕ → Option Shape
other_word text = if bytes_eq text (codes "a") then Some shapes.IsA
    else if is_word text (codes "true") || is_word text (codes "false") then Some shapes.Boolean else None

-- the first shape, or else what follows
abbrev pub or_shape : Option Shape → Shape → Shape
or_shape (Some shape) rest = shape
or_shape None rest = rest

-- what a word is to the grammar
abbrev pub word_shape : List ℕ → Shape
word_shape text = or_shape (word_in clause_words text) (or_shape (word_in pattern_words text) (or_shape (word_in term_functions text)
    (or_shape (word_in value_functions text) (or_shape (other_word text) shapes.Other))))

-- the marks of punctuation (SPARQL 1.1, 19.8)
abbrev pub marks : Table
marks = (codes "{", shapes.OpenBrace) ∷ (codes "}", shapes.CloseBrace) ∷ (codes "(", shapes.Open) ∷ (codes ")", shapes.Close)
    ∷ (codes ".", shapes.Point) ∷ (codes ",", shapes.Comma) ∷ (codes ";", shapes.Semicolon) ∷ (codes "^^", shapes.Typed) ∷ []

-- the operators of expressions (SPARQL 1.1, 19.8, rules 111 to 118)
abbrev pub operators : Table
operators = (codes "=", shapes.Equal) ∷ (codes "!=", shapes.Unequal) ∷ (codes "<", shapes.Less) ∷ (codes ">", shapes.Greater)
    ∷ (codes "<=", shapes.AtMost) ∷ (codes ">=", shapes.AtLeast) ∷ (codes "!", shapes.Bang) ∷ (codes "+", shapes.Plus)
    ∷ (codes "-", shapes.Minus) ∷ (codes "*", shapes.Star) ∷ (codes "/", shapes.Slash) ∷ (codes "&&", shapes.And)
    ∷ (codes "||", shapes.Or) ∷ []

-- what a sign is to the grammar; other signs stand in no rule that is answered
abbrev pub sign_shape : List ℕ → Shape
sign_shape text = or_shape (first_row (bytes_eq text) marks) (or_shape (first_row (bytes_eq text) operators) shapes.Other)

-- it is one of the words, read without case
abbrev pub is_one_of : List (List ℕ) → List ℕ → Bool
is_one_of words text = list_any (is_word text) words

-- words of other forms of queries, of data sets and of services (SPARQL 1.1, 19.8, rules 5 to 16, 58, 59 and 125)
abbrev pub query_forms : List (List ℕ)
query_forms = codes "ASK" ∷ codes "BASE" ∷ codes "CONSTRUCT" ∷ codes "DESCRIBE" ∷ codes "EXISTS" ∷ codes "FROM" ∷ codes "GRAPH"
    ∷ codes "NAMED" ∷ codes "SERVICE" ∷ []

-- words of updates (SPARQL 1.1 Update, 3)
abbrev pub updates : List (List ℕ)
updates = codes "CLEAR" ∷ codes "CREATE" ∷ codes "DELETE" ∷ codes "DROP" ∷ codes "INSERT" ∷ codes "LOAD" ∷ []

-- aggregates and functions on numbers that are not answered (SPARQL 1.1, 17.4.4 and 18.5.1)
abbrev pub number_functions : List (List ℕ)
number_functions = codes "CEIL" ∷ codes "FLOOR" ∷ codes "GROUP_CONCAT" ∷ codes "RAND" ∷ codes "ROUND" ∷ codes "SAMPLE" ∷ []

-- functions on strings that are not answered (SPARQL 1.1, 17.4.3)
abbrev pub string_functions : List (List ℕ)
string_functions = codes "ENCODE_FOR_URI" ∷ codes "LANGMATCHES" ∷ codes "LCASE" ∷ codes "REGEX" ∷ codes "REPLACE" ∷ codes "STRAFTER"
    ∷ codes "STRBEFORE" ∷ codes "SUBSTR" ∷ codes "UCASE" ∷ []

-- functions on dates and times (SPARQL 1.1, 17.4.5)
abbrev pub time_functions : List (List ℕ)
time_functions = codes "DAY" ∷ codes "HOURS" ∷ codes "MINUTES" ∷ codes "MONTH" ∷ codes "NOW" ∷ codes "SECONDS" ∷ codes "TIMEZONE"
    ∷ codes "TZ" ∷ codes "YEAR" ∷ []

-- functions that make terms, and hash functions (SPARQL 1.1, 17.4.2 and 17.4.6)
abbrev pub making_functions : List (List ℕ)
making_functions = codes "BNODE" ∷ codes "IRI" ∷ codes "MD5" ∷ codes "SHA1" ∷ codes "SHA256" ∷ codes "SHA384" ∷ codes "SHA512"
    ∷ codes "STRDT" ∷ codes "STRLANG" ∷ codes "STRUUID" ∷ codes "URI" ∷ codes "UUID" ∷ []

-- a word that is of the language and not answered
abbrev pub is_unsupported_word : List ℕ → Bool
is_unsupported_word text = is_one_of query_forms text || is_one_of updates text || is_one_of number_functions text
    || is_one_of string_functions text || is_one_of time_functions text || is_one_of making_functions text

-- the tables of words, one behind another
abbrev pub word_tables : Table
word_tables = clause_words ++ pattern_words ++ term_functions ++ value_functions

-- what is read of each text of a table is its own row
abbrev pub HasEach : (List ℕ → Shape) → Table → Type 0
HasEach shape_of [] = Unit {0}
HasEach shape_of (row ∷ rows) = (shape_of row.0 ≡ row.1) × HasEach shape_of rows

-- the words that stand in a rule of the grammar
abbrev pub all_words : List (List ℕ)
all_words = map (λ (row : List ℕ × Shape). row.0) word_tables ++ codes "a" ∷ codes "true" ∷ codes "false" ∷ codes "PREFIX" ∷ []

-- no word is answered and not answered
abbrev pub are_words_apart : Bool
are_words_apart = list_all (λ word. not (is_unsupported_word word)) all_words
