-- What a function that reads ensures: what the parser finds, unless memory runs out.
use Rattle.std.specs.Prelude.{◌≡◌, List, Option, Some, None, Result, Ok, Err}
use Rattle.sparql_tree.specs.declared.symbol.Symbol.{Symbol}
use Rattle.sparql_grammar.specs.declared.fault.Fault.{Fault}
use Rattle.sparql_grammar.specs.declared.fault.Fault.TheVariants.{NotAQuery, Memory}

abbrev pub Fails : {A : Type 0} → Option (A × List Symbol) → Fault → Type 0
Fails outcome NotAQuery = outcome ≡ None
Fails outcome Memory = Unit {0}

-- the value is seen by `view`
abbrev pub Reads : {A B : Type 0} → (A → B) → Option (B × List Symbol) → Result A Fault → List Symbol → Type 0
Reads view outcome (Ok a) new = outcome ≡ Some (view a, new)
Reads view outcome (Err fault) new = Fails outcome fault

-- a value as it is
abbrev pub same : {A : Type 0} → A → A
same a = a

-- nothing but that it was read
abbrev pub nothing : {A : Type 0} → A → Unit {0}
nothing a = tt
