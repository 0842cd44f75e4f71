-- `build`: what it does from what its parts say, and where its statuses have to come.
use Rattle.std.proofs.Common.{◌≡◌, ℕ, List, [], take, Option, Some, Ok, Err, inl, inr, refl, subst}
use Rattle.sage_outside.specs.Shelf.{Files}
use Rattle.sage.specs.declared.refusal.Refusal.{Refusal}
use Rattle.sage.specs.declared.refusal.Refusal.TheVariants as refusals
use Rattle.sage.specs.declared.words.Command.TheVariants.{Build}
use Rattle.sage.specs.World.{Io}
use Rattle.sage.specs.Ending.{Ending, status_of, NamesFile, TakesMemory}
use Rattle.sage.specs.Told.{TellsFile, IsPrefixOf, IsUntouched}
use Rattle.sage.specs.Files.{WhyNotRead}
use Rattle.sage.specs.Data.{IsData, IsRefusedDocument, ReadsData}
use Rattle.sage.specs.StoreFiles.{IsMade}
use Rattle.sage.specs.Build.{IsMadeOf, WhyUnmade, HasBegun, IsUnwritten, Builds, BuildMust}
use Rattle.sage.specs.Runs.{KeepsFiles, MayPutOut}
use Rattle.sage.proofs.Limits.{refused_back, refused_none}
use Rattle.sage.proofs.Files.{reads_there, one_read, unread_rose}
use Rattle.sage.proofs.StoreFiles.{made_back}

-- ---- the store file in memory

-- the document was not read
pub unread_unmade : (e : Refusal) (data_name : List ℕ) (files : Option Files) (before now : ℕ) → WhyNotRead e data_name files before now → WhyUnmade e data_name files before now
unread_unmade refusals.Memory data_name files before now why = tt
unread_unmade (refusals.File name) data_name files before now why = why
unread_unmade refusals.Words data_name files before now why = absurd why
unread_unmade (refusals.Data fault) data_name files before now why = absurd why
unread_unmade refusals.NotAStore data_name files before now why = absurd why
unread_unmade (refusals.DamagedStore block) data_name files before now why = absurd why
unread_unmade (refusals.Query cause) data_name files before now why = absurd why
unread_unmade refusals.Output data_name files before now why = absurd why

module _ (files : Option Files) (data_name read : List ℕ) (prefix : IsPrefixOf files data_name 268435457 read) where
  -- what was made of what was read is made of the file
  pub made_of : (image lines : List ℕ) → IsMade read image lines → IsMadeOf files data_name image lines
  made_of image lines made = record { document = prefix.file; reads = prefix.reads; made = made_back prefix.file read image lines prefix.is made }

  -- why nothing was made of it
  pub unmade : (e : Refusal) (before now : ℕ) → ReadsData (Err e) read → WhyUnmade e data_name files before now
  unmade refusals.Memory before now h = tt
  unmade (refusals.Data fault) before now h = record {
    document = prefix.file;
    reads = prefix.reads;
    refused = refused_back prefix.file fault (subst (λ bytes. IsRefusedDocument bytes fault) prefix.is h);
  }
  unmade refusals.Words before now h = absurd h
  unmade (refusals.File name) before now h = absurd h
  unmade refusals.NotAStore before now h = absurd h
  unmade (refusals.DamagedStore block) before now h = absurd h
  unmade (refusals.Query cause) before now h = absurd h
  unmade refusals.Output before now h = absurd h

-- ---- the command

module _ (data_name store_name : List ℕ) (before after : Io) where
  -- nothing was made
  pub builds_refused : (e : Refusal) → IsUntouched before after → WhyUnmade e data_name before.files before.faults after.faults → Builds data_name store_name before after (Err e)
  builds_refused refusals.Memory same why = record { files = inl same.files; out = same.out }
  builds_refused (refusals.File name) same why = inl (why.0, record { there = λ other i lacks. i; cause = why.1; untouched = same })
  builds_refused (refusals.Data fault) same why = (why, same)
  builds_refused refusals.Words same why = absurd why
  builds_refused refusals.NotAStore same why = absurd why
  builds_refused (refusals.DamagedStore block) same why = absurd why
  builds_refused (refusals.Query cause) same why = absurd why
  builds_refused refusals.Output same why = absurd why

  -- the store file was not written
  pub builds_unwritten : (e : Refusal) → NamesFile store_name e → IsUnwritten data_name store_name before after → Builds data_name store_name before after (Err e)
  builds_unwritten refusals.Memory named why = record { files = inr why.begun; out = why.out }
  builds_unwritten (refusals.File name) named why = inr (named, why)
  builds_unwritten refusals.Words named why = absurd named
  builds_unwritten (refusals.Data fault) named why = absurd named
  builds_unwritten refusals.NotAStore named why = absurd named
  builds_unwritten (refusals.DamagedStore block) named why = absurd named
  builds_unwritten (refusals.Query cause) named why = absurd named
  builds_unwritten refusals.Output named why = absurd named

  same_data : (image lines document : List ℕ) (made : IsMadeOf before.files data_name image lines) → TellsFile before.files data_name document → IsData document made.made.triples
  same_data image lines document made has =
      subst (λ bytes. IsData bytes made.made.triples) (one_read before.files data_name document made.document has made.reads) made.made.is_data

  -- where the statuses have to come
  pub build_must : (ending : Ending) → Builds data_name store_name before after ending → BuildMust data_name before after (status_of ending)
  build_must (Ok told) h =
      let made = h.0.built.made in
      record {
        no_file = λ lacks. absurd (reads_there before.files data_name made.document made.reads lacks);
        refuses_data = λ document has none still. absurd (none made.made.triples (same_data h.0.built.image h.0.lines document made has));
        complete = λ document has triples is_data quiet. inl refl;
      }
  build_must (Err refusals.Memory) h = record {
    no_file = λ lacks. inr refl;
    refuses_data = λ document has none still. inr refl;
    complete = λ document has triples is_data quiet. inr refl;
  }
  build_must (Err (refusals.File name)) (inl h) = record {
    no_file = λ lacks. inl refl;
    refuses_data = λ document has none still. absurd (still (unread_rose [] data_name document before after h.1 has));
    complete = λ document has triples is_data quiet. absurd (quiet.files (unread_rose [] data_name document before after h.1 has));
  }
  build_must (Err (refusals.File name)) (inr h) = record {
    no_file = λ lacks. inl refl;
    refuses_data = λ document has none still. absurd (still h.1.rose);
    complete = λ document has triples is_data quiet. absurd (quiet.files h.1.rose);
  }
  build_must (Err (refusals.Data fault)) h = record {
    no_file = λ lacks. absurd (reads_there before.files data_name h.0.document h.0.reads lacks);
    refuses_data = λ document has none still. inl refl;
    complete = λ document has triples is_data quiet.
        absurd (refused_none document fault (subst (λ bytes. IsRefusedDocument bytes fault) (one_read before.files data_name document h.0.document has h.0.reads) h.0.refused) triples is_data);
  }
  build_must (Err refusals.Output) h =
      let made = h.built.made in
      record {
        no_file = λ lacks. absurd (reads_there before.files data_name made.document made.reads lacks);
        refuses_data = λ document has none still. absurd (none made.made.triples (same_data h.built.image h.lines document made has));
        complete = λ document has triples is_data quiet. absurd (quiet.out h.rose);
      }
  build_must (Err refusals.Words) h = absurd h
  build_must (Err refusals.NotAStore) h = absurd h
  build_must (Err (refusals.DamagedStore block)) h = absurd h
  build_must (Err (refusals.Query cause)) h = absurd h

  -- a message that found no memory
  pub build_wants : (ending : Ending) → TakesMemory ending → Builds data_name store_name before after ending → Builds data_name store_name before after (Err refusals.Memory)
  build_wants (Err (refusals.File name)) takes (inl h) = record { files = inl h.1.untouched.files; out = h.1.untouched.out }
  build_wants (Err (refusals.File name)) takes (inr h) = record { files = inr h.1.begun; out = h.1.out }
  build_wants (Err (refusals.Data fault)) takes h = record { files = inl h.1.files; out = h.1.out }
  build_wants (Err (refusals.Query cause)) takes h = absurd h
  build_wants (Err (refusals.DamagedStore block)) takes h = absurd h
  build_wants ending takes h = absurd takes

  -- nothing was put out
  pub build_unwritten : (ending : Ending) → (MayPutOut ending → ⊥) → Builds data_name store_name before after ending → after.out.written ≡ before.out.written
  build_unwritten (Ok told) none h = absurd (none tt)
  build_unwritten (Err refusals.Memory) none h = h.out
  build_unwritten (Err (refusals.File name)) none (inl h) = h.1.untouched.out
  build_unwritten (Err (refusals.File name)) none (inr h) = h.1.out
  build_unwritten (Err (refusals.Data fault)) none h = h.1.out
  build_unwritten (Err refusals.Output) none h = absurd (none tt)
  build_unwritten (Err refusals.Words) none h = absurd h
  build_unwritten (Err refusals.NotAStore) none h = absurd h
  build_unwritten (Err (refusals.DamagedStore block)) none h = absurd h
  build_unwritten (Err (refusals.Query cause)) none h = absurd h

  begun_keeps : HasBegun data_name store_name before after → KeepsFiles (Some (Build data_name store_name)) before.files after.files
  begun_keeps begun = (elim begun.written [ inl same ↦ inl same | inr some ↦ inr (take some.0 begun.image, some.1) ])

  -- no file but the store file changed
  pub build_keeps : (ending : Ending) → Builds data_name store_name before after ending → KeepsFiles (Some (Build data_name store_name)) before.files after.files
  build_keeps (Ok told) h = inr (h.0.built.image, h.0.built.written)
  build_keeps (Err refusals.Memory) h = (elim h.files [ inl same ↦ inl same | inr begun ↦ begun_keeps begun ])
  build_keeps (Err (refusals.File name)) (inl h) = inl h.1.untouched.files
  build_keeps (Err (refusals.File name)) (inr h) = begun_keeps h.1.begun
  build_keeps (Err (refusals.Data fault)) h = inl h.1.files
  build_keeps (Err refusals.Output) h = inr (h.built.image, h.built.written)
  build_keeps (Err refusals.Words) h = absurd h
  build_keeps (Err refusals.NotAStore) h = absurd h
  build_keeps (Err (refusals.DamagedStore block)) h = absurd h
  build_keeps (Err (refusals.Query cause)) h = absurd h
