-- What the crate's own types mean, as the numbers of XML Schema (XSD 1.1 part 2, sections 3.3.3 and 3.4.13).
use Rattle.std.specs.Prelude.{◌≡◌, ℕ, ◌^◌, ℤ, Bool, true, cond, nat_lt, Option, Some, None, IfSome, is_none, IsTrue, Result, Ok, Err}
use Rattle.term_core.specs.Numbers.{Number, Fault, Bounds, is_held, is_kept}
use Rattle.term_core.specs.Numbers as numbers
use Rattle.xsd_num.specs.declared.num.Num.{Num}
use Rattle.xsd_num.specs.declared.num.Num.TheVariants.{Whole, Decimal}
use Rattle.xsd_num.specs.declared.num.NumFault.{NumFault}
use Rattle.xsd_num.specs.declared.num.NumFault.TheVariants.{Range, Zero}
use Rattle.xsd_num.specs.declared.num.NumForm.{NumForm}
use Rattle.xsd_num.specs.declared.num.NumForm.TheVariants.{Exact, Wide, Outside, Other}
use Rattle.term_core.specs.Literals as literals

-- the number
abbrev pub number_of : Num → Number
number_of (Whole m) = numbers.Whole m
number_of (Decimal m s) = numbers.Decimal m s

-- the fault
abbrev pub fault_of : NumFault → Fault
fault_of Range = numbers.Range
fault_of Zero = numbers.Zero

-- the number or the fault
abbrev pub answer_of : Result Num NumFault → Result Number Fault
answer_of (Ok n) = Ok (number_of n)
answer_of (Err e) = Err (fault_of e)

-- the number, if there is one
abbrev pub found : Option Num → Option Number
found None = None
found (Some n) = Some (number_of n)

-- an integer, if it has 128 bits
abbrev pub held : ℤ → Option ℤ
held m = cond (is_held m) (Some m) None

-- a natural number, if it is below 2^128
abbrev pub below : ℕ → Option ℕ
below n = cond (nat_lt n (2 ^ 128)) (Some n) None

-- what a literal is as a number
abbrev pub form_in : NumForm → literals.Form
form_in (Exact n) = literals.Exact (number_of n)
form_in Wide = literals.Wide
form_in Outside = literals.Outside
form_in Other = literals.Other

-- the number, if there is one, is kept as it has to be
abbrev pub IsKeptForm : NumForm → Type 0
IsKeptForm (Exact n) = IsTrue (is_kept (number_of n))
IsKeptForm Wide = Unit {0}
IsKeptForm Outside = Unit {0}
IsKeptForm Other = Unit {0}

-- a range has no end below, or none above
abbrev pub is_open : Bounds → Bool → Bool
is_open bounds below = cond below (is_none bounds.0) (is_none bounds.1)

-- both bounds have 128 bits
abbrev pub AreHeld : Bounds → Type 0
AreHeld bounds = IfSome bounds.0 (λ m. is_held m ≡ true) × IfSome bounds.1 (λ m. is_held m ≡ true)
