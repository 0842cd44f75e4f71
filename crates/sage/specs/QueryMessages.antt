-- What standard error is told of a query that is not answered.
use Rattle.std.specs.Prelude.{◌++◌, ℕ, List, codes}
use Rattle.std.specs.Fmt.{decimal}
use Rattle.sparql_tree.specs.declared.fault.QueryFault.{QueryFault}
use Rattle.sparql_tree.specs.declared.fault.QueryFault.TheVariants as faults
use Rattle.sparql_tree.specs.declared.fault.Size.{Size}
use Rattle.sparql_tree.specs.declared.fault.Size.TheVariants as sizes
use Rattle.sage.specs.declared.refusal.QueryRefusal.{QueryRefusal}
use Rattle.sage.specs.declared.refusal.QueryRefusal.TheVariants as refusals

-- the word of a limit that is passed
abbrev pub size_word : Size → List ℕ
size_word sizes.Text = codes "text"
size_word sizes.Nesting = codes "nesting"
size_word sizes.Depth = codes "depth"
size_word sizes.Weight = codes "weight"
size_word sizes.Part = codes "part"

-- the message that names the first cause; places are counted in bytes from 0
abbrev pub fault_message : QueryFault → List ℕ
fault_message (faults.TooLarge size) = codes "sage: query too large " ++ (size_word size ++ codes "\n")
fault_message (faults.Lex place) = codes "sage: query lex " ++ (decimal place ++ codes "\n")
fault_message (faults.Unsupported what) = codes "sage: query unsupported " ++ (what ++ codes "\n")
fault_message faults.NotAQuery = codes "sage: query\n"
fault_message (faults.Scope variable) = codes "sage: query scope " ++ (variable ++ codes "\n")
fault_message faults.Memory = codes "sage: memory\n"

-- the message of a query that is not answered
abbrev pub query_message : QueryRefusal → List ℕ
query_message (refusals.Fault fault) = fault_message fault
query_message refusals.Form = codes "sage: query form\n"
