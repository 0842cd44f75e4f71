-- `try`: what it does from what its parts say, and where its statuses have to come.
use Rattle.std.proofs.Common.{◌≡◌, ◌≤◌, ◌⊎◌, ℕ, List, [], ◌∷◌, take, Option, Ok, Err, inl, inr, refl, sym, subst, arith}
use Rattle.term_core.specs.declared.term.Triple.{Triple}
use Rattle.sage_outside.specs.Causes.{Rose}
use Rattle.sage_outside.specs.Shelf.{Files, Lacks}
use Rattle.sage.specs.declared.refusal.Refusal.{Refusal}
use Rattle.sage.specs.declared.refusal.Refusal.TheVariants as refusals
use Rattle.sage.specs.World.{Io}
use Rattle.sage.specs.Ending.{Ending, status_of, TakesMemory}
use Rattle.sage.specs.Told.{TellsFile, IsUntouched}
use Rattle.sage.specs.Files.{WhyNotRead}
use Rattle.sage.specs.Data.{IsData, IsRefusedDocument}
use Rattle.sage.specs.Answers.{Answers, Answered, AsksPattern, WhyNoQuery}
use Rattle.sage.specs.Try.{AreFilesRead, ArePrefixes, IsAnswerOf, WhyOneUnread, WhyUnanswered, Tries, TryMust}
use Rattle.sage.specs.Runs.{MayPutOut}
use Rattle.sage.proofs.Limits.{answers_back, refused_back, refused_none, some_data_back, why_no_query_back, not_asked}
use Rattle.sage.proofs.Files.{reads_there, one_read, unread_rose}

-- ---- reading and answering

-- the document was not read
pub first_unread : (e : Refusal) (data_name query_name : List ℕ) (files : Option Files) (before now : ℕ) → WhyNotRead e data_name files before now → WhyOneUnread e data_name query_name files before now
first_unread refusals.Memory data_name query_name files before now why = tt
first_unread (refusals.File name) data_name query_name files before now why = inl why
first_unread refusals.Words data_name query_name files before now why = absurd why
first_unread (refusals.Data fault) data_name query_name files before now why = absurd why
first_unread refusals.NotAStore data_name query_name files before now why = absurd why
first_unread (refusals.DamagedStore block) data_name query_name files before now why = absurd why
first_unread (refusals.Query cause) data_name query_name files before now why = absurd why
first_unread refusals.Output data_name query_name files before now why = absurd why

-- the document was read, and the query was not
pub second_unread : (e : Refusal) (data_name query_name : List ℕ) (files seen : Option Files) (before between now : ℕ) → seen ≡ files → before ≤ between → (Lacks files data_name → ⊥)
    → WhyNotRead e query_name seen between now → WhyOneUnread e data_name query_name files before now
second_unread refusals.Memory data_name query_name files seen before between now same later there why = tt
second_unread (refusals.File name) data_name query_name files seen before between now same later there why = inr (
  why.0,
  there,
  (elim why.1 [ inl lacks ↦ inl (subst (λ fs. Lacks fs query_name) same lacks) | inr rose ↦ inr (let risen : Rose between now = rose in omega (arith, later, risen)) ]),
)
second_unread refusals.Words data_name query_name files seen before between now same later there why = absurd why
second_unread (refusals.Data fault) data_name query_name files seen before between now same later there why = absurd why
second_unread refusals.NotAStore data_name query_name files seen before between now same later there why = absurd why
second_unread (refusals.DamagedStore block) data_name query_name files seen before between now same later there why = absurd why
second_unread (refusals.Query cause) data_name query_name files seen before between now same later there why = absurd why
second_unread refusals.Output data_name query_name files seen before between now same later there why = absurd why

-- a file that was not read has no answer
pub unread_unanswered : (e : Refusal) (data_name query_name : List ℕ) (files : Option Files) (before now : ℕ) → WhyOneUnread e data_name query_name files before now → WhyUnanswered e data_name query_name files before now
unread_unanswered refusals.Memory data_name query_name files before now why = why
unread_unanswered (refusals.File name) data_name query_name files before now why = why
unread_unanswered refusals.Words data_name query_name files before now why = absurd why
unread_unanswered (refusals.Data fault) data_name query_name files before now why = absurd why
unread_unanswered refusals.NotAStore data_name query_name files before now why = absurd why
unread_unanswered (refusals.DamagedStore block) data_name query_name files before now why = absurd why
unread_unanswered (refusals.Query cause) data_name query_name files before now why = absurd why
unread_unanswered refusals.Output data_name query_name files before now why = absurd why

module _ (files : Option Files) (data_name query_name quanta document query : List ℕ) (prefixes : ArePrefixes files data_name query_name document query) where
  are_read : AreFilesRead files data_name query_name prefixes.document_read.file prefixes.query_read.file
  are_read = record { document_reads = prefixes.document_read.reads; query_reads = prefixes.query_read.reads }

  -- an answer over what was read is one over the files
  pub answer_of : (text counts : List ℕ) → Answers document query quanta text counts → IsAnswerOf files data_name query_name quanta text counts
  answer_of text counts answers = record {
    document = prefixes.document_read.file;
    query = prefixes.query_read.file;
    are_read = are_read;
    answers = answers_back prefixes.document_read.file prefixes.query_read.file quanta text counts
        (subst (λ d. Answers d (take 262145 prefixes.query_read.file) quanta text counts) prefixes.document_read.is (subst (λ q. Answers document q quanta text counts) prefixes.query_read.is answers));
  }

  -- why what was read has no answer
  pub unanswered : (e : Refusal) (before now : ℕ) → Answered (Err e) document query quanta → WhyUnanswered e data_name query_name files before now
  unanswered refusals.Memory before now h = tt
  unanswered (refusals.Data fault) before now h = record {
    document = prefixes.document_read.file;
    query = prefixes.query_read.file;
    are_read = are_read;
    refused = refused_back prefixes.document_read.file fault (subst (λ d. IsRefusedDocument d fault) prefixes.document_read.is h);
  }
  unanswered (refusals.Query cause) before now h =
      let some = some_data_back prefixes.document_read.file (subst (λ d. (triples : List Triple) × IsData d triples) prefixes.document_read.is h.0) in
      record {
        document = prefixes.document_read.file;
        query = prefixes.query_read.file;
        are_read = are_read;
        triples = some.0;
        is_data = some.1;
        refused = why_no_query_back prefixes.query_read.file cause (subst (WhyNoQuery cause) prefixes.query_read.is h.1);
      }
  unanswered refusals.Words before now h = absurd h
  unanswered (refusals.File name) before now h = absurd h
  unanswered refusals.NotAStore before now h = absurd h
  unanswered (refusals.DamagedStore block) before now h = absurd h
  unanswered refusals.Output before now h = absurd h

-- ---- the command

module _ (data_name query_name quanta : List ℕ) (before after : Io) where
  -- nothing was answered
  pub tries_refused : (e : Refusal) → IsUntouched before after → WhyUnanswered e data_name query_name before.files before.faults after.faults → Tries data_name query_name quanta before after (Err e)
  tries_refused refusals.Memory same why = same
  tries_refused (refusals.File name) same (inl why) = inl (why.0, record { there = λ other i lacks. i; cause = why.1; untouched = same })
  tries_refused (refusals.File name) same (inr why) = inr (
    why.0,
    record {
      there = λ other i lacks. (elim i [ inl is ↦ why.1 (subst (Lacks before.files) (sym is) lacks) | inr none ↦ none ]);
      cause = why.2;
      untouched = same;
    },
  )
  tries_refused (refusals.Data fault) same why = (why, same)
  tries_refused (refusals.Query cause) same why = (why, same)
  tries_refused refusals.Words same why = absurd why
  tries_refused refusals.NotAStore same why = absurd why
  tries_refused (refusals.DamagedStore block) same why = absurd why
  tries_refused refusals.Output same why = absurd why

  both_there : (document query : List ℕ) → AreFilesRead before.files data_name query_name document query → Lacks before.files data_name ⊎ Lacks before.files query_name → ⊥
  both_there document query are_read (inl lacks) = reads_there before.files data_name document are_read.document_reads lacks
  both_there document query are_read (inr lacks) = reads_there before.files query_name query are_read.query_reads lacks

  -- where the statuses have to come
  pub try_must : (ending : Ending) → Tries data_name query_name quanta before after ending → TryMust data_name query_name before after (status_of ending)
  try_must (Ok counts) h =
      let answers = h.answer.answers in
      record {
        no_file = λ lacks. absurd (both_there h.answer.document h.answer.query h.answer.are_read lacks);
        refuses_data = λ document query has_data has_query none still.
            absurd (none answers.triples (subst (λ bytes. IsData bytes answers.triples) (one_read before.files data_name document h.answer.document has_data h.answer.are_read.document_reads) answers.is_data));
        refuses_query = λ document query has_data has_query triples is_data none still.
            absurd (none answers.names answers.pattern
            (subst (λ bytes. AsksPattern bytes answers.names answers.pattern) (one_read before.files query_name query h.answer.query has_query h.answer.are_read.query_reads) answers.is_query));
        complete = λ document query has_data has_query triples is_data names pattern is_query quiet. inl refl;
      }
  try_must (Err refusals.Memory) h = record {
    no_file = λ lacks. inr refl;
    refuses_data = λ document query has_data has_query none still. inr refl;
    refuses_query = λ document query has_data has_query triples is_data none still. inr refl;
    complete = λ document query has_data has_query triples is_data names pattern is_query quiet. inr refl;
  }
  try_must (Err (refusals.File name)) (inl h) = record {
    no_file = λ lacks. inl refl;
    refuses_data = λ document query has_data has_query none still. absurd (still (unread_rose [] data_name document before after h.1 has_data));
    refuses_query = λ document query has_data has_query triples is_data none still. absurd (still (unread_rose [] data_name document before after h.1 has_data));
    complete = λ document query has_data has_query triples is_data names pattern is_query quiet. absurd (quiet.files (unread_rose [] data_name document before after h.1 has_data));
  }
  try_must (Err (refusals.File name)) (inr h) = record {
    no_file = λ lacks. inl refl;
    refuses_data = λ document query has_data has_query none still. absurd (still (unread_rose (data_name ∷ []) query_name query before after h.1 has_query));
    refuses_query = λ document query has_data has_query triples is_data none still. absurd (still (unread_rose (data_name ∷ []) query_name query before after h.1 has_query));
    complete = λ document query has_data has_query triples is_data names pattern is_query quiet. absurd (quiet.files (unread_rose (data_name ∷ []) query_name query before after h.1 has_query));
  }
  try_must (Err (refusals.Data fault)) h =
      let refused = λ (document : List ℕ) (has_data : TellsFile before.files data_name document).
      subst (λ bytes. IsRefusedDocument bytes fault) (one_read before.files data_name document h.0.document has_data h.0.are_read.document_reads) h.0.refused in
      record {
        no_file = λ lacks. absurd (both_there h.0.document h.0.query h.0.are_read lacks);
        refuses_data = λ document query has_data has_query none still. inl refl;
        refuses_query = λ document query has_data has_query triples is_data none still. absurd (refused_none document fault (refused document has_data) triples is_data);
        complete = λ document query has_data has_query triples is_data names pattern is_query quiet. absurd (refused_none document fault (refused document has_data) triples is_data);
      }
  try_must (Err (refusals.Query cause)) h = record {
    no_file = λ lacks. absurd (both_there h.0.document h.0.query h.0.are_read lacks);
    refuses_data = λ document query has_data has_query none still.
        absurd (none h.0.triples (subst (λ bytes. IsData bytes h.0.triples) (one_read before.files data_name document h.0.document has_data h.0.are_read.document_reads) h.0.is_data));
    refuses_query = λ document query has_data has_query triples is_data none still. inl refl;
    complete = λ document query has_data has_query triples is_data names pattern is_query quiet.
        absurd (not_asked query cause (subst (WhyNoQuery cause) (one_read before.files query_name query h.0.query has_query h.0.are_read.query_reads) h.0.refused) names pattern is_query);
  }
  try_must (Err refusals.Output) h =
      let answers = h.answer.answers in
      record {
        no_file = λ lacks. absurd (both_there h.answer.document h.answer.query h.answer.are_read lacks);
        refuses_data = λ document query has_data has_query none still.
            absurd (none answers.triples (subst (λ bytes. IsData bytes answers.triples) (one_read before.files data_name document h.answer.document has_data h.answer.are_read.document_reads) answers.is_data));
        refuses_query = λ document query has_data has_query triples is_data none still.
            absurd (none answers.names answers.pattern
            (subst (λ bytes. AsksPattern bytes answers.names answers.pattern) (one_read before.files query_name query h.answer.query has_query h.answer.are_read.query_reads) answers.is_query));
        complete = λ document query has_data has_query triples is_data names pattern is_query quiet. absurd (quiet.out h.rose);
      }
  try_must (Err refusals.Words) h = absurd h
  try_must (Err refusals.NotAStore) h = absurd h
  try_must (Err (refusals.DamagedStore block)) h = absurd h

  -- a message that found no memory
  pub try_wants : (ending : Ending) → TakesMemory ending → Tries data_name query_name quanta before after ending → Tries data_name query_name quanta before after (Err refusals.Memory)
  try_wants (Err (refusals.File name)) takes (inl h) = h.1.untouched
  try_wants (Err (refusals.File name)) takes (inr h) = h.1.untouched
  try_wants (Err (refusals.Data fault)) takes h = h.1
  try_wants (Err (refusals.Query cause)) takes h = h.1
  try_wants (Err (refusals.DamagedStore block)) takes h = absurd h
  try_wants ending takes h = absurd takes

  -- nothing was put out
  pub try_unwritten : (ending : Ending) → (MayPutOut ending → ⊥) → Tries data_name query_name quanta before after ending → after.out.written ≡ before.out.written
  try_unwritten (Ok counts) none h = absurd (none tt)
  try_unwritten (Err refusals.Memory) none h = h.out
  try_unwritten (Err (refusals.File name)) none (inl h) = h.1.untouched.out
  try_unwritten (Err (refusals.File name)) none (inr h) = h.1.untouched.out
  try_unwritten (Err (refusals.Data fault)) none h = h.1.out
  try_unwritten (Err (refusals.Query cause)) none h = h.1.out
  try_unwritten (Err refusals.Output) none h = absurd (none tt)
  try_unwritten (Err refusals.Words) none h = absurd h
  try_unwritten (Err refusals.NotAStore) none h = absurd h
  try_unwritten (Err (refusals.DamagedStore block)) none h = absurd h

  -- no file changed
  pub try_keeps : (ending : Ending) → Tries data_name query_name quanta before after ending → after.files ≡ before.files
  try_keeps (Ok counts) h = h.files
  try_keeps (Err refusals.Memory) h = h.files
  try_keeps (Err (refusals.File name)) (inl h) = h.1.untouched.files
  try_keeps (Err (refusals.File name)) (inr h) = h.1.untouched.files
  try_keeps (Err (refusals.Data fault)) h = h.1.files
  try_keeps (Err (refusals.Query cause)) h = h.1.files
  try_keeps (Err refusals.Output) h = h.files
  try_keeps (Err refusals.Words) h = absurd h
  try_keeps (Err refusals.NotAStore) h = absurd h
  try_keeps (Err (refusals.DamagedStore block)) h = absurd h
