-- Why a document is refused: the first cause, in this order, and at which line.
use Rattle.std.specs.Prelude.{◌≡◌, ◌<◌, ◌≤◌, ◌+◌, ◌++◌, ℕ, List, ◌∷◌, length, All}
use Rattle.std.specs.Str.{IsUtf8}
use Rattle.std.specs.Str.Lossy.{utf8_valid_len}
use Rattle.term_core.specs.Characters.{IsTextOf}
use Rattle.term_core.specs.declared.term.Triple.{Triple}
use Rattle.nt_text.specs.declared.fault.DataFault.{DataFault}
use Rattle.nt_text.specs.declared.fault.DataFault.TheVariants as faults
use Rattle.nt_text.specs.Grammar.{IsLine, AreLines, AreLinesOf}
use Rattle.nt_text.specs.Limits.{HasShortTerms, AreWithinLimits}

-- the line is of no grammar
abbrev pub IsBad : List Triple → List ℕ → Type 0
IsBad triples line = (more : List Triple) → IsLine line more → ⊥

-- the line is of the grammar, and a term of it is too long
abbrev pub HasLongTerm : List Triple → List ℕ → Type 0
HasLongTerm triples line = (more : List Triple) × IsLine line more × (All HasShortTerms more → ⊥)

-- the line is of the grammar, its terms are not too long, and it has one triple too many
abbrev pub IsOneTooMany : List Triple → List ℕ → Type 0
IsOneTooMany triples line = (more : List Triple) × IsLine line more × All HasShortTerms more × (4194303 < length (triples ++ more))

-- The line of that number, counted from 1, is refused so after the triples of the lines before it, which are within the limits.
pub record IsRefusedAt (bytes : List ℕ) (number : ℕ) (IsRefused : List Triple → List ℕ → Type 0) : Type 0 where
  pub fits : length bytes ≤ 268435456
  pub characters : List ℕ
  pub is_text : IsTextOf characters bytes
  pub before : List (List ℕ)
  pub line : List ℕ
  pub behind : List (List ℕ)
  pub are_its : AreLinesOf characters (before ++ line ∷ behind)
  pub number_is : number ≡ length before + 1
  pub triples : List Triple
  pub reads : AreLines before triples
  pub within : AreWithinLimits triples
  pub refused : IsRefused triples line

-- the bytes fit and are no UTF-8; this is the length of their longest front that is (RFC 3629)
pub record IsNotUtf8 (bytes : List ℕ) (place : ℕ) : Type 0 where
  pub fits : length bytes ≤ 268435456
  pub other : IsUtf8 bytes → ⊥
  pub at_is : place ≡ utf8_valid_len bytes

-- why the document is refused
abbrev pub WhyRefused : List ℕ → DataFault → Type 0
WhyRefused bytes faults.TooLong = 268435456 < length bytes
WhyRefused bytes (faults.NotUtf8 place) = IsNotUtf8 bytes place
WhyRefused bytes (faults.BadLine line) = IsRefusedAt bytes line IsBad
WhyRefused bytes (faults.TermTooLong line) = IsRefusedAt bytes line HasLongTerm
WhyRefused bytes (faults.TooMany line) = IsRefusedAt bytes line IsOneTooMany
WhyRefused bytes faults.Memory = Unit {0}
