-- Words and signs have shapes that want no value.
use Rattle.std.proofs.Common.{◌≡◌, ℕ, Bool, true, false, cond, List, [], ◌∷◌, codes, Option, Some, None, refl}
use Rattle.std.specs.Prelude.{◌||◌}
use Rattle.std.specs.List.{list_all}
use Rattle.std.specs.Str.{bytes_eq}
use Rattle.sparql_lex.proofs.Bools.{both}
use Rattle.sparql_tree.specs.declared.symbol.Shape.{Shape}
use Rattle.sparql_tree.specs.declared.symbol.Shape.TheVariants as shapes
use Rattle.sparql_tree.specs.Words.{Table, first_row, is_word, word_in, or_shape, clause_words, pattern_words, term_functions, value_functions, other_word, word_shape, marks, operators, sign_shape}
use Rattle.sparql_print.specs.SpelledSymbols.{IsSpelledValue}

-- no value at all can be written
abbrev is_bare : Shape → Bool
is_bare shapes.Var = false
is_bare shapes.Iri = false
is_bare shapes.Tag = false
is_bare shape = true

pub bare-spelled : (shape : Shape) → is_bare shape ≡ true → IsSpelledValue shape []
bare-spelled shapes.Var e = absurd (cc)
bare-spelled shapes.Iri e = absurd (cc)
bare-spelled shapes.Tag e = absurd (cc)
bare-spelled shapes.Quoted e = ([], (refl, refl))
bare-spelled shapes.Integer e = ([], (refl, refl))
bare-spelled shapes.Decimal e = ([], (refl, refl))
bare-spelled shapes.Boolean e = ([], (refl, refl))
bare-spelled _ e = tt

-- the shape that there may be
abbrev MayBeBare : Option Shape → Type 0
MayBeBare None = Unit {0}
MayBeBare (Some shape) = is_bare shape ≡ true

row-bare : (test : List ℕ → Bool) (table : Table) → list_all (λ (row : List ℕ × Shape). is_bare row.1) table ≡ true → MayBeBare (first_row test table)
row-bare test [] all = tt
row-bare test (row ∷ rows) all =
    let a = both (is_bare row.1) _ all in elim (test row.0) as (λ t. MayBeBare (cond t (Some row.1) (first_row test rows))) [ true ↦ a.0 | false ↦ row-bare test rows a.1 ]

or-bare : (o : Option Shape) (shape : Shape) → MayBeBare o → is_bare shape ≡ true → is_bare (or_shape o shape) ≡ true
or-bare None shape h k = k
or-bare (Some first) shape h k = h

other-bare : (text : List ℕ) → MayBeBare (other_word text)
other-bare text =
    elim (bytes_eq text (codes "a")) as (λ t. MayBeBare (cond t (Some shapes.IsA) (cond (is_word text (codes "true") || is_word text (codes "false")) (Some shapes.Boolean) None))) [
      | true ↦ refl
      | false ↦ elim (is_word text (codes "true") || is_word text (codes "false")) as (λ t. MayBeBare (cond t (Some shapes.Boolean) None)) [ true ↦ refl | false ↦ tt ]
    ]

pub word-bare : (text : List ℕ) → is_bare (word_shape text) ≡ true
word-bare text =
    or-bare (word_in clause_words text) _ (row-bare (is_word text) clause_words refl)
    (or-bare (word_in pattern_words text) _ (row-bare (is_word text) pattern_words refl)
    (or-bare (word_in term_functions text) _ (row-bare (is_word text) term_functions refl)
    (or-bare (word_in value_functions text) _ (row-bare (is_word text) value_functions refl)
    (or-bare (other_word text) shapes.Other (other-bare text) refl))))

pub sign-bare : (text : List ℕ) → is_bare (sign_shape text) ≡ true
sign-bare text =
    or-bare (first_row (bytes_eq text) marks) _ (row-bare (bytes_eq text) marks refl)
    (or-bare (first_row (bytes_eq text) operators) shapes.Other (row-bare (bytes_eq text) operators refl) refl)
