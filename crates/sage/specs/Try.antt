-- What `try DATA QUERY` does, by how it ends.
use Rattle.std.specs.Prelude.{◌≡◌, ◌⊎◌, ℕ, List, [], ◌∷◌, Option, Ok, Err}
use Rattle.term_core.specs.declared.term.Triple.{Triple}
use Rattle.term_core.specs.declared.pattern.Pattern.{Pattern}
use Rattle.term_core.specs.Mappings.{Name}
use Rattle.nt_text.specs.declared.fault.DataFault.{DataFault}
use Rattle.sage_outside.specs.Causes.{Rose}
use Rattle.sage_outside.specs.Shelf.{Files, Lacks}
use Rattle.sage.specs.declared.refusal.Refusal.{Refusal}
use Rattle.sage.specs.declared.refusal.Refusal.TheVariants as refusals
use Rattle.sage.specs.declared.refusal.QueryRefusal.{QueryRefusal}
use Rattle.sage.specs.World.{Io}
use Rattle.sage.specs.Ending.{Ending, HasGot, HasGotPrefix}
use Rattle.sage.specs.Told.{TellsFile, HasBytes, IsPrefixOf, IsUntouched, IsFileUnread, IsQuiet}
use Rattle.sage.specs.Data.{IsData, IsRefusedDocument, NoData}
use Rattle.sage.specs.Answers.{Answers, AsksPattern, NoQuery, WhyNoQuery}

-- the bytes of both files
pub record AreFilesRead (files : Option Files) (data_name query_name document query : List ℕ) : Type 0 where
  pub document_reads : HasBytes files data_name document
  pub query_reads : HasBytes files query_name query

-- what is read of both files, each up to one byte past its limit
pub record ArePrefixes (files : Option Files) (data_name query_name document query : List ℕ) : Type 0 where
  pub document_read : IsPrefixOf files data_name 268435457 document
  pub query_read : IsPrefixOf files query_name 262145 query

-- the text and the counts are an answer over the files
pub record IsAnswerOf (files : Option Files) (data_name query_name quanta text counts : List ℕ) : Type 0 where
  pub document : List ℕ
  pub query : List ℕ
  pub are_read : AreFilesRead files data_name query_name document query
  pub answers : Answers document query quanta text counts

-- the document is refused: this is the first cause
pub record IsDataRefused (files : Option Files) (data_name query_name : List ℕ) (fault : DataFault) : Type 0 where
  pub document : List ℕ
  pub query : List ℕ
  pub are_read : AreFilesRead files data_name query_name document query
  pub refused : IsRefusedDocument document fault

-- the document is good, and the query is not answered: this is the first cause
pub record IsQueryRefused (files : Option Files) (data_name query_name : List ℕ) (cause : QueryRefusal) : Type 0 where
  pub document : List ℕ
  pub query : List ℕ
  pub are_read : AreFilesRead files data_name query_name document query
  pub triples : List Triple
  pub is_data : IsData document triples
  pub refused : WhyNoQuery cause query

-- why one of both files was not read, the document's first
abbrev pub WhyOneUnread : Refusal → List ℕ → List ℕ → Option Files → ℕ → ℕ → Type 0
WhyOneUnread refusals.Memory data_name query_name files before now = Unit {0}
WhyOneUnread (refusals.File name) data_name query_name files before now =
    ((name ≡ data_name) × (Lacks files data_name ⊎ Rose before now))
    ⊎ ((name ≡ query_name) × (Lacks files data_name → ⊥) × (Lacks files query_name ⊎ Rose before now))
WhyOneUnread refusal data_name query_name files before now = ⊥

-- why there is no answer over the files
abbrev pub WhyUnanswered : Refusal → List ℕ → List ℕ → Option Files → ℕ → ℕ → Type 0
WhyUnanswered (refusals.Data fault) data_name query_name files before now = IsDataRefused files data_name query_name fault
WhyUnanswered (refusals.Query cause) data_name query_name files before now = IsQueryRefused files data_name query_name cause
WhyUnanswered refusal data_name query_name files before now = WhyOneUnread refusal data_name query_name files before now

-- the answer was put out, and its counts are to be told
pub record IsAnswered (data_name query_name quanta : List ℕ) (before after : Io) (counts : List ℕ) : Type 0 where
  pub text : List ℕ
  pub answer : IsAnswerOf before.files data_name query_name quanta text counts
  pub got : HasGot before.out after.out text
  pub files : after.files ≡ before.files

-- the output failed, and has got a prefix of the answer
pub record IsAnsweredInPart (data_name query_name quanta : List ℕ) (before after : Io) : Type 0 where
  pub text : List ℕ
  pub counts : List ℕ
  pub answer : IsAnswerOf before.files data_name query_name quanta text counts
  pub rose : Rose before.out.faults after.out.faults
  pub prefix : HasGotPrefix before.out after.out text
  pub files : after.files ≡ before.files

-- What `try` does, a line an ending.
abbrev pub Tries : List ℕ → List ℕ → List ℕ → Io → Io → Ending → Type 0
Tries data_name query_name quanta before after (Ok counts) = IsAnswered data_name query_name quanta before after counts
Tries data_name query_name quanta before after (Err refusals.Memory) = IsUntouched before after
Tries data_name query_name quanta before after (Err (refusals.File name)) =
    ((name ≡ data_name) × IsFileUnread [] data_name before after) ⊎ ((name ≡ query_name) × IsFileUnread (data_name ∷ []) query_name before after)
Tries data_name query_name quanta before after (Err (refusals.Data fault)) = IsDataRefused before.files data_name query_name fault × IsUntouched before after
Tries data_name query_name quanta before after (Err (refusals.Query cause)) = IsQueryRefused before.files data_name query_name cause × IsUntouched before after
Tries data_name query_name quanta before after (Err refusals.Output) = IsAnsweredInPart data_name query_name quanta before after
Tries data_name query_name quanta before after (Err refusals.Words) = ⊥
Tries data_name query_name quanta before after (Err refusals.NotAStore) = ⊥
Tries data_name query_name quanta before after (Err (refusals.DamagedStore block)) = ⊥

-- Where a status of `try` has to come, want of memory aside.
pub record TryMust (data_name query_name : List ℕ) (before after : Io) (status : ℕ) : Type 0 where
  pub no_file : Lacks before.files data_name ⊎ Lacks before.files query_name → (status ≡ 3) ⊎ (status ≡ 1)
  pub refuses_data : (document query : List ℕ) → TellsFile before.files data_name document → TellsFile before.files query_name query →
      NoData document → (Rose before.faults after.faults → ⊥) → (status ≡ 4) ⊎ (status ≡ 1)
  pub refuses_query : (document query : List ℕ) → TellsFile before.files data_name document → TellsFile before.files query_name query →
      (triples : List Triple) → IsData document triples → NoQuery query → (Rose before.faults after.faults → ⊥) → (status ≡ 6) ⊎ (status ≡ 1)
  pub complete : (document query : List ℕ) → TellsFile before.files data_name document → TellsFile before.files query_name query →
      (triples : List Triple) → IsData document triples → (names : List Name) (pattern : Pattern) → AsksPattern query names pattern →
      IsQuiet before after → (status ≡ 0) ⊎ (status ≡ 1)
