-- Reading symbols from left to right: what is read, and the symbols behind it; or nothing.
use Rattle.std.specs.Prelude.{ℕ, zero, suc, List, [], ◌∷◌, ◌++◌, length, Option, Some, None}
use Rattle.sparql_tree.specs.declared.symbol.Shape.{Shape}
use Rattle.sparql_tree.specs.declared.symbol.Shape.TheVariants as s
use Rattle.sparql_tree.specs.declared.symbol.Symbol.{Symbol}
pub use Rattle.sparql_tree.specs.Heads.{head}

-- the value of the first symbol
abbrev pub value_in_first : List Symbol → List ℕ
value_in_first [] = []
value_in_first (first ∷ rest) = first.value

-- the symbols behind the first
abbrev pub behind_first : List Symbol → List Symbol
behind_first [] = []
behind_first (first ∷ rest) = rest

-- these two, kept folded
unfoldable pub first_value : List Symbol → List ℕ
first_value ts = value_in_first ts

unfoldable pub next : List Symbol → List Symbol
next ts = behind_first ts

-- a reader of symbols
abbrev pub Parser : Type 0 → Type 0
Parser A = List Symbol → Option (A × List Symbol)

abbrev pub and_then : {A B : Type 0} → Option (A × List Symbol) → (A → Parser B) → Option (B × List Symbol)
and_then None f = None
and_then (Some found) f = f found.0 found.1

-- one after the other
infixl 10 ◌>>=◌
abbrev pub ◌>>=◌ : {A B : Type 0} → Parser A → (A → Parser B) → Parser B
p >>= f = λ ts. and_then (p ts) f

infixl 10 ◌>>◌
abbrev pub ◌>>◌ : {A B : Type 0} → Parser A → Parser B → Parser B
p >> q = p >>= (λ _. q)

abbrev pub pure : {A : Type 0} → A → Parser A
pure a = λ ts. Some (a, ts)

abbrev pub refuse : {A : Type 0} → Parser A
refuse = λ ts. None

infixr 11 ◌<$>◌
abbrev pub ◌<$>◌ : {A B : Type 0} → (A → B) → Parser A → Parser B
f <$> p = p >>= (λ x. pure (f x))

-- the first before the second
infixl 10 ◌<<◌
abbrev pub ◌<<◌ : {A B : Type 0} → Parser A → Parser B → Parser A
p << q = p >>= (λ x. q >> pure x)

-- what the first symbol is; it stays
abbrev pub peek : Parser (Option Shape)
peek = λ ts. Some (head ts, ts)

-- the first symbol is taken
abbrev pub take : Parser (Unit {0})
take = λ ts. Some (tt, next ts)

-- its value is taken
abbrev pub spelled_value : Parser (List ℕ)
spelled_value = λ ts. Some (first_value ts, next ts)

-- one more, if the next symbol begins one
abbrev pub again : {A : Type 0} → Option (Parser A) → (List A → Parser (List A)) → List A → Parser (List A)
again None go found = pure found
again (Some p) go found = p >>= (λ x. go (found ++ x ∷ []))

-- so many more at most, as long as the next symbol begins one
unfoldable pub more : {A : Type 0} → (Option Shape → Option (Parser A)) → ℕ → List A → Parser (List A)
more turn zero found = pure found
more turn (suc n) found = λ ts. again (turn (head ts)) (more turn n) found ts

-- a step on what was found, if the next symbol begins one
abbrev pub onward : {A : Type 0} → Option (A → Parser A) → (A → Parser A) → A → Parser A
onward None go found = pure found
onward (Some step) go found = step found >>= go

-- so many steps at most, as long as the next symbol begins one
unfoldable pub repeat : {A : Type 0} → (Option Shape → Option (A → Parser A)) → ℕ → A → Parser A
repeat turn zero found = pure found
repeat turn (suc n) found = λ ts. onward (turn (head ts)) (repeat turn n) found ts

-- as many as there are
unfoldable pub all_steps : {A : Type 0} → (Option Shape → Option (A → Parser A)) → A → Parser A
all_steps turn found = λ ts. repeat turn (length ts) found ts

-- all that follow
unfoldable pub all_more : {A : Type 0} → (Option Shape → Option (Parser A)) → List A → Parser (List A)
all_more turn found = λ ts. more turn (length ts) found ts

-- ---- single symbols

abbrev pub open_by : Option Shape → Parser (Unit {0})
open_by (Some s.Open) = take
open_by o = refuse

unfoldable pub open_paren : Parser (Unit {0})
open_paren = peek >>= open_by

abbrev pub close_by : Option Shape → Parser (Unit {0})
close_by (Some s.Close) = take
close_by o = refuse

unfoldable pub close_paren : Parser (Unit {0})
close_paren = peek >>= close_by

abbrev pub name_by : Option Shape → Parser (List ℕ)
name_by (Some s.Var) = spelled_value
name_by o = refuse

unfoldable pub name : Parser (List ℕ)
name = peek >>= name_by

abbrev pub open_brace_by : Option Shape → Parser (Unit {0})
open_brace_by (Some s.OpenBrace) = take
open_brace_by o = refuse

unfoldable pub open_brace : Parser (Unit {0})
open_brace = peek >>= open_brace_by

abbrev pub close_brace_by : Option Shape → Parser (Unit {0})
close_brace_by (Some s.CloseBrace) = take
close_brace_by o = refuse

unfoldable pub close_brace : Parser (Unit {0})
close_brace = peek >>= close_brace_by

abbrev pub as_by : Option Shape → Parser (Unit {0})
as_by (Some s.As) = take
as_by o = refuse

unfoldable pub as_word : Parser (Unit {0})
as_word = peek >>= as_by
