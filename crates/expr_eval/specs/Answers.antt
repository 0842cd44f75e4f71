-- What an evaluation answers: the value, or Error exactly where there is none. Want of memory says nothing.
use Rattle.std.specs.Prelude.{◌≡◌, ℕ, Bool, List, Option, Some, None, Result, Ok, Err, IsTrue}
use Rattle.std.specs.Borrow.{Bor}
use Rattle.term_core.specs.declared.term.Term.{Term}
use Rattle.term_core.specs.Numbers.{Number, is_kept}
use Rattle.sparql_value.specs.Functions.{Tagging, on_tagged}
use Rattle.xsd_num.specs.declared.num.Num.{Num}
use Rattle.xsd_num.specs.Values.{number_of}
use Rattle.expr_eval.specs.declared.error.ExprError.{ExprError}
use Rattle.expr_eval.specs.declared.error.ExprError.TheVariants.{Error, Memory}
use Rattle.expr_eval.specs.declared.found.Found.{Found}
use Rattle.expr_eval.specs.Founds.{term_of, IsKeptFound}

-- a term, or a truth
abbrev pub Evaluates : {A : Type 0} → Option A → Result A ExprError → Type 0
Evaluates value (Ok answer) = value ≡ Some answer
Evaluates value (Err Error) = value ≡ None
Evaluates value (Err Memory) = Unit {0}

-- a number
abbrev pub FindsNumber : Option Number → Result Num ExprError → Type 0
FindsNumber value (Ok number) = (value ≡ Some (number_of number)) × IsTrue (is_kept (number_of number))
FindsNumber value (Err Error) = value ≡ None
FindsNumber value (Err Memory) = Unit {0}

-- a term, as the code holds it
abbrev pub FindsTerm : Option Term → Result Found ExprError → Type 0
FindsTerm value (Ok found) = (value ≡ Some (term_of found)) × IsKeptFound found
FindsTerm value (Err Error) = value ≡ None
FindsTerm value (Err Memory) = Unit {0}

-- a string, with its tag
abbrev pub FindsString : Option Tagging → Result (Bor (List ℕ) × Bor (List ℕ)) ExprError → Type 0
FindsString value (Ok string) = value ≡ Some (string.0.now, string.1.now)
FindsString value (Err Error) = value ≡ None
FindsString value (Err Memory) = Unit {0}

-- the texts of two compatible strings, whatever is asked of them
abbrev pub FindsTexts : Option Tagging → Option Tagging → Result (Bor (List ℕ) × Bor (List ℕ)) ExprError → Type 0
FindsTexts a b (Ok texts) = (test : List ℕ → List ℕ → Bool) → on_tagged test a b ≡ Some (test texts.0.now texts.1.now)
FindsTexts a b (Err Error) = (test : List ℕ → List ℕ → Bool) → on_tagged test a b ≡ None
FindsTexts a b (Err Memory) = Unit {0}
