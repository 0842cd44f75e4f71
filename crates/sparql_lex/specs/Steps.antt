-- The states of a token that is read a character at a time, and what leads from one to the next.
use Rattle.std.specs.Prelude.{◌+◌, ◌-◌, ◌*◌, ℕ, Bool, true, false, ◌||◌, ◌&&◌, ◌==◌, not, nat_lt, codes, cond}
use Rattle.std.specs.Prelude.{List, [], ◌∷◌, Option, Some, None}
use Rattle.std.specs.Char.{digit_value}
use lib.Utf8.{scalar}
use Rattle.term_core.specs.Characters.{is_among, is_digit, is_letter, is_hex, is_iri, is_pn_base, is_pn}
use Rattle.term_core.specs.Names.{is_alphanumeric}
use Rattle.term_core.specs.Terminals.{is_local_escape, is_local_part, is_query_label_first, is_variable_part, is_word_part}
use Rattle.term_core.specs.Terminals.{is_quote, is_plain_in, is_long_plain}
use Rattle.term_core.specs.declared.token.Kind.{Kind}
use Rattle.term_core.specs.declared.token.Kind.TheVariants as kinds
use Rattle.sparql_lex.specs.declared.state.State.{State}
use Rattle.sparql_lex.specs.declared.state.State.TheVariants as states
use Rattle.sparql_lex.specs.declared.state.Mark.{Mark}
use Rattle.sparql_lex.specs.declared.state.Mark.TheVariants as marks
use Rattle.sparql_lex.specs.declared.state.Name.{Name}
use Rattle.sparql_lex.specs.declared.state.Name.TheVariants as names
use Rattle.sparql_lex.specs.declared.state.Label.{Label}
use Rattle.sparql_lex.specs.declared.state.Label.TheVariants as labels
use Rattle.sparql_lex.specs.declared.state.Variable.{Variable}
use Rattle.sparql_lex.specs.declared.state.Variable.TheVariants as variables
use Rattle.sparql_lex.specs.declared.state.Number.{Number}
use Rattle.sparql_lex.specs.declared.state.Number.TheVariants as numbers
use Rattle.sparql_lex.specs.declared.state.Tag.{Tag}
use Rattle.sparql_lex.specs.declared.state.Tag.TheVariants as tags
use Rattle.sparql_lex.specs.declared.state.Body.{Body}
use Rattle.sparql_lex.specs.declared.state.Body.TheVariants as bodies
use Rattle.sparql_lex.specs.declared.state.Quoted.{Quoted}
use Rattle.sparql_lex.specs.declared.state.Quoted.TheVariants as quoted

-- what the characters that led to the state are, if they are a token
abbrev pub kind_of : State → Option Kind
kind_of states.Start = None
kind_of (states.Mark (marks.First alone second)) = cond alone (Some kinds.Sign) None
kind_of (states.Mark marks.End) = Some kinds.Sign
kind_of (states.Name names.Word) = Some kinds.Word
kind_of (states.Name names.Colon) = Some kinds.PName
kind_of (states.Name names.Local) = Some kinds.PName
kind_of (states.Name _) = None
kind_of (states.Label labels.Part) = Some kinds.Blank
kind_of (states.Label _) = None
kind_of (states.Variable variables.Question) = Some kinds.Sign
kind_of (states.Variable variables.Dollar) = None
kind_of (states.Variable variables.Part) = Some kinds.Var
kind_of (states.Number numbers.Dot) = Some kinds.Sign
kind_of (states.Number numbers.Integer) = Some kinds.Integer
kind_of (states.Number numbers.Decimal) = Some kinds.Decimal
kind_of (states.Number numbers.Double) = Some kinds.Double
kind_of (states.Number _) = None
kind_of (states.Tag tags.Primary) = Some kinds.Lang
kind_of (states.Tag tags.Subtag) = Some kinds.Lang
kind_of (states.Tag _) = None
kind_of (states.Quoted quoted.Less) = Some kinds.Sign
kind_of (states.Quoted quoted.LessEqual) = Some kinds.Sign
kind_of (states.Quoted (quoted.TwoQuotes quote)) = Some kinds.String
kind_of (states.Quoted (quoted.End kind)) = Some kind
kind_of (states.Quoted _) = None

-- a test, and the state to which it leads
abbrev pub Transition : Type 0
Transition = Bool × State

-- where the first of the tests that holds leads
abbrev pub first_of : List Transition → Option State
first_of [] = None
first_of (row ∷ rows) = cond row.0 (Some row.1) (first_of rows)

abbrev pub start_rows : ℕ → List Transition
start_rows c = (is_letter c, states.Name names.Word) ∷ (is_pn_base c, states.Name names.Prefix)
    ∷ (is_digit c, states.Number numbers.Integer)
    ∷ (c == 58, states.Name names.Colon) ∷ (c == 95, states.Label labels.Underscore)
    ∷ (c == 63, states.Variable variables.Question) ∷ (c == 36, states.Variable variables.Dollar)
    ∷ (c == 64, states.Tag tags.At) ∷ (c == 46, states.Number numbers.Dot) ∷ (c == 60, states.Quoted quoted.Less)
    ∷ (is_quote c, states.Quoted (quoted.Quote c)) ∷ (c == 94, states.Mark (marks.First true 94))
    ∷ (c == 38, states.Mark (marks.First false 38)) ∷ (c == 124, states.Mark (marks.First true 124))
    ∷ (is_among (codes "!>") c, states.Mark (marks.First true 61))
    ∷ (is_among (codes "{}()[],;=+-*/") c, states.Mark marks.End) ∷ []

abbrev pub mark_rows : Mark → ℕ → List Transition
mark_rows (marks.First alone second) c = (c == second, states.Mark marks.End) ∷ []
mark_rows marks.End c = []

-- in a prefix, and behind a dot in it
abbrev pub prefix_rows : ℕ → List Transition
prefix_rows c = (is_pn c, states.Name names.Prefix) ∷ (c == 46, states.Name names.PrefixDot) ∷ []

-- an escape in a local name
abbrev pub escape_rows : ℕ → List Transition
escape_rows c = (c == 37, states.Name names.Percent) ∷ (c == 92, states.Name names.Backslash) ∷ []

-- in a local name, and behind a dot in it
abbrev pub local_rows : ℕ → List Transition
local_rows c = (is_local_part c, states.Name names.Local) ∷ (c == 46, states.Name names.LocalDot) ∷ escape_rows c

abbrev pub name_rows : Name → ℕ → List Transition
name_rows names.Word c = (is_word_part c, states.Name names.Word) ∷ (c == 58, states.Name names.Colon) ∷ prefix_rows c
name_rows names.Prefix c = (c == 58, states.Name names.Colon) ∷ prefix_rows c
name_rows names.PrefixDot c = prefix_rows c
name_rows names.Colon c = (is_query_label_first c || (c == 58), states.Name names.Local) ∷ escape_rows c
name_rows names.Local c = local_rows c
name_rows names.LocalDot c = local_rows c
name_rows names.Percent c = (is_hex c, states.Name names.PercentDigit) ∷ []
name_rows names.PercentDigit c = (is_hex c, states.Name names.Local) ∷ []
name_rows names.Backslash c = (is_local_escape c, states.Name names.Local) ∷ []

abbrev pub label_rows : Label → ℕ → List Transition
label_rows labels.Underscore c = (c == 58, states.Label labels.Colon) ∷ []
label_rows labels.Colon c = (is_query_label_first c, states.Label labels.Part) ∷ []
label_rows _ c = (is_pn c, states.Label labels.Part) ∷ (c == 46, states.Label labels.Dot) ∷ []

abbrev pub variable_rows : Variable → ℕ → List Transition
variable_rows variables.Part c = (is_variable_part c, states.Variable variables.Part) ∷ []
variable_rows _ c = (is_query_label_first c, states.Variable variables.Part) ∷ []

abbrev pub is_exponent : ℕ → Bool
is_exponent c = is_among (codes "eE") c

abbrev pub number_rows : Number → ℕ → List Transition
number_rows numbers.Dot c = (is_digit c, states.Number numbers.Decimal) ∷ []
number_rows numbers.Integer c = (is_digit c, states.Number numbers.Integer) ∷ (c == 46, states.Number numbers.Point)
    ∷ (is_exponent c, states.Number numbers.Exponent) ∷ []
number_rows numbers.Exponent c = (is_digit c, states.Number numbers.Double)
    ∷ (is_among (codes "+-") c, states.Number numbers.ExponentSign) ∷ []
number_rows numbers.ExponentSign c = (is_digit c, states.Number numbers.Double) ∷ []
number_rows numbers.Double c = (is_digit c, states.Number numbers.Double) ∷ []
number_rows _ c = (is_digit c, states.Number numbers.Decimal) ∷ (is_exponent c, states.Number numbers.Exponent) ∷ []

abbrev pub tag_rows : Tag → ℕ → List Transition
tag_rows tags.At c = (is_letter c, states.Tag tags.Primary) ∷ []
tag_rows tags.Primary c = (is_letter c, states.Tag tags.Primary) ∷ (c == 45, states.Tag tags.Hyphen) ∷ []
tag_rows tags.Hyphen c = (is_alphanumeric c, states.Tag tags.Subtag) ∷ []
tag_rows tags.Subtag c = (is_alphanumeric c, states.Tag tags.Subtag) ∷ (c == 45, states.Tag tags.Hyphen) ∷ []

-- in the body
abbrev pub inside : Body → State
inside body = states.Quoted (quoted.Inside body)

-- behind a backslash in the body
abbrev pub behind_backslash : Body → State
behind_backslash body = states.Quoted (quoted.Backslash body)

-- behind the end of a token of the kind
abbrev pub end_of : Kind → State
end_of kind = states.Quoted (quoted.End kind)

-- between < and >
abbrev pub iri_rows : ℕ → List Transition
iri_rows c = (is_iri c, inside bodies.Iri) ∷ (c == 62, end_of kinds.Iri) ∷ (c == 92, behind_backslash bodies.Iri) ∷ []

-- in a long string: the state behind a quote is given
abbrev pub long_rows : ℕ → State → ℕ → List Transition
long_rows quote behind c = (is_long_plain quote c, inside (bodies.Long quote)) ∷ (c == quote, behind)
    ∷ (c == 92, behind_backslash (bodies.Long quote)) ∷ []

-- in a string between two quotes: the state behind a quote is given
abbrev pub short_rows : ℕ → State → ℕ → List Transition
short_rows quote behind c = (is_plain_in quote c, inside (bodies.Short quote)) ∷ (c == quote, behind)
    ∷ (c == 92, behind_backslash (bodies.Short quote)) ∷ []

abbrev pub inside_rows : Body → ℕ → List Transition
inside_rows bodies.Iri c = iri_rows c
inside_rows (bodies.Short quote) c = short_rows quote (end_of kinds.String) c
inside_rows (bodies.Long quote) c = long_rows quote (states.Quoted (quoted.OneInside quote)) c

-- whether an escape may stand for the character (in an IRI none stands for a character that may not stand there)
abbrev pub may_spell : Body → ℕ → Bool
may_spell bodies.Iri c = scalar c && is_iri c
may_spell _ c = scalar c

-- the letters behind a backslash of a string, but for u and U
abbrev pub is_echar : Body → ℕ → Bool
is_echar bodies.Iri c = false
is_echar _ c = is_among (codes "tbnrf\"'\\") c

-- the number that the digits spell with one more
abbrev pub with_digit : ℕ → ℕ → ℕ
with_digit value c = value * 16 + digit_value c

-- one more digit of an escape, whose digits so far spell no more than the last character
abbrev pub is_next : ℕ → ℕ → Bool
is_next value c = is_hex c && nat_lt value 0x110000

abbrev pub quoted_rows : Quoted → ℕ → List Transition
quoted_rows quoted.Less c = (c == 61, states.Quoted quoted.LessEqual) ∷ iri_rows c
quoted_rows quoted.LessEqual c = iri_rows c
quoted_rows (quoted.Quote quote) c = short_rows quote (states.Quoted (quoted.TwoQuotes quote)) c
quoted_rows (quoted.TwoQuotes quote) c = (c == quote, inside (bodies.Long quote)) ∷ []
quoted_rows (quoted.Inside body) c = inside_rows body c
quoted_rows (quoted.OneInside quote) c = long_rows quote (states.Quoted (quoted.TwoInside quote)) c
quoted_rows (quoted.TwoInside quote) c = long_rows quote (end_of kinds.String) c
quoted_rows (quoted.Backslash body) c = (c == 117, states.Quoted (quoted.Digits body 4 0))
    ∷ (c == 85, states.Quoted (quoted.Digits body 8 0))
    ∷ (is_echar body c, inside body) ∷ []
quoted_rows (quoted.Digits body left value) c =
    (is_next value c && nat_lt 1 left, states.Quoted (quoted.Digits body (left - 1) (with_digit value c)))
    ∷ ((is_next value c && not (nat_lt 1 left)) && may_spell body (with_digit value c), inside body) ∷ []
quoted_rows (quoted.End kind) c = []

abbrev pub rows : State → ℕ → List Transition
rows states.Start c = start_rows c
rows (states.Mark mark) c = mark_rows mark c
rows (states.Name name) c = name_rows name c
rows (states.Label label) c = label_rows label c
rows (states.Variable variable) c = variable_rows variable c
rows (states.Number number) c = number_rows number c
rows (states.Tag tag) c = tag_rows tag c
rows (states.Quoted x) c = quoted_rows x c

-- the state behind one more character, if a token may go on by it
unfoldable pub step : State → ℕ → Option State
step state c = first_of (rows state c)
