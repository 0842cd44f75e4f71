-- String literals that grow.
use Rattle.std.specs.Prelude.{◌≡◌, Option, Some, None, Result, Ok, Err, string_bytes}
use Rattle.sparql_value.specs.Functions.{Tagging}
use Rattle.expr_eval.specs.declared.error.ExprError.{ExprError}
use Rattle.expr_eval.specs.declared.error.ExprError.TheVariants.{Error, Memory}
use Rattle.expr_eval.specs.declared.tagged.Tagged.{Tagged}

-- the text and the tag
abbrev pub tagging_of : Tagged → Tagging
tagging_of string = (string_bytes string.text, string_bytes string.lang)

-- the same, if there is one
abbrev pub tagging_within : Option Tagged → Option Tagging
tagging_within None = None
tagging_within (Some string) = Some (tagging_of string)

-- the string that was found
abbrev pub FindsTagged : Option Tagging → Result Tagged ExprError → Type 0
FindsTagged value (Ok string) = value ≡ Some (tagging_of string)
FindsTagged value (Err Error) = value ≡ None
FindsTagged value (Err Memory) = Unit {0}
