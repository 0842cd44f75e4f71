-- The data that the bytes of a file are, or why they are none.
use Rattle.std.specs.Prelude.{◌≢◌, ◌++◌, ℕ, List, Result, Ok, Err, codes}
use Rattle.std.specs.Fmt.{decimal}
use Rattle.term_core.specs.declared.term.Triple.{Triple}
use Rattle.nt_text.specs.Grammar.{IsDocument}
use Rattle.nt_text.specs.Limits.{IsWithinLimits}
use Rattle.nt_text.specs.Faults.{WhyRefused}
use Rattle.nt_text.specs.declared.fault.DataFault.{DataFault}
use Rattle.nt_text.specs.declared.fault.DataFault.TheVariants as data_faults
use Rattle.sage.specs.declared.refusal.Refusal.{Refusal}
use Rattle.sage.specs.declared.refusal.Refusal.TheVariants as refusals

-- the bytes are a document within the limits, with these triples
pub record IsData (bytes : List ℕ) (triples : List Triple) : Type 0 where
  pub document : IsDocument bytes triples
  pub limits : IsWithinLimits bytes triples

-- the bytes are none, and this is the first cause
pub record IsRefusedDocument (bytes : List ℕ) (fault : DataFault) : Type 0 where
  pub why : WhyRefused bytes fault
  pub named : fault ≢ data_faults.Memory

-- the bytes are no document within the limits
abbrev pub NoData : List ℕ → Type 0
NoData bytes = (triples : List Triple) → IsData bytes triples → ⊥

-- what the bytes of a document give: its triples, or that it is none within the limits
abbrev pub ReadsData : Result (List Triple) Refusal → List ℕ → Type 0
ReadsData (Ok triples) bytes = IsData bytes triples
ReadsData (Err refusals.Memory) bytes = Unit {0}
ReadsData (Err (refusals.Data fault)) bytes = IsRefusedDocument bytes fault
ReadsData (Err refusal) bytes = ⊥

-- the message that names the cause; places are counted in bytes from 0, lines from 1
abbrev pub data_message : DataFault → List ℕ
data_message data_faults.TooLong = codes "sage: data too long\n"
data_message (data_faults.NotUtf8 place) = codes "sage: data not utf-8 at " ++ (decimal place ++ codes "\n")
data_message (data_faults.BadLine line) = codes "sage: data line " ++ (decimal line ++ codes "\n")
data_message (data_faults.TermTooLong line) = codes "sage: data line " ++ (decimal line ++ codes " term\n")
data_message (data_faults.TooMany line) = codes "sage: data line " ++ (decimal line ++ codes " too many\n")
data_message data_faults.Memory = codes "sage: memory\n"
