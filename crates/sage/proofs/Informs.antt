-- `info`: what it does from what its parts say, and where its statuses have to come.
use Rattle.std.proofs.Common.{◌≡◌, ◌⊎◌, ℕ, List, [], Option, Ok, Err, inl, inr, refl, sym, subst}
use Rattle.sage_outside.specs.Causes.{Rose}
use Rattle.sage_outside.specs.Shelf.{Files, Lacks}
use Rattle.sage.specs.declared.refusal.Refusal.{Refusal}
use Rattle.sage.specs.declared.refusal.Refusal.TheVariants as refusals
use Rattle.sage.specs.declared.info_lines.HeaderFault.{HeaderFault}
use Rattle.sage.specs.declared.info_lines.HeaderFault.TheVariants as faults
use Rattle.sage.specs.World.{Io}
use Rattle.sage.specs.Ending.{Ending, status_of, NamesFile, TakesMemory}
use Rattle.sage.specs.Told.{IsUntouched}
use Rattle.sage_outside.specs.Blocks.{block_at, image_of}
use Rattle.store_image.proofs.Headers.{sound_from}
use Rattle.sage.specs.Info.{OverFile, NoHeader, NoStore, HasDamagedHeader, IsHeaderRefusal, WhyNoLines, Informs, InfoMust}
use Rattle.sage.specs.Runs.{MayPutOut}
use Rattle.sage.proofs.Files.{unread_rose}

-- why a file has no lines
pub no_lines : (fault : HeaderFault) (e : Refusal) (store_name : List ℕ) (files : Option Files) (before now : ℕ) → IsHeaderRefusal fault store_name e
    → (fault ≡ faults.Unread → Lacks files store_name ⊎ Rose before now) → (fault ≡ faults.NotAStore → OverFile files store_name NoStore)
    → (fault ≡ faults.Damaged → OverFile files store_name (HasDamagedHeader 0)) → WhyNoLines e store_name files before now
no_lines faults.Memory e store_name files before now is unread none broken = subst (λ r. WhyNoLines r store_name files before now) (sym is) tt
no_lines faults.NotAStore e store_name files before now is unread none broken = subst (λ r. WhyNoLines r store_name files before now) (sym is) (none refl)
no_lines faults.Damaged e store_name files before now is unread none broken = subst (λ r. WhyNoLines r store_name files before now) (sym is) (broken refl)
no_lines faults.Unread e store_name files before now is unread none broken = named e is
  where
    named : (r : Refusal) → NamesFile store_name r → WhyNoLines r store_name files before now
    named refusals.Memory n = tt
    named (refusals.File name) n = (n, unread refl)
    named refusals.Words n = absurd n
    named (refusals.Data fault) n = absurd n
    named refusals.NotAStore n = absurd n
    named (refusals.DamagedStore block) n = absurd n
    named (refusals.Query cause) n = absurd n
    named refusals.Output n = absurd n

-- no fault is another
pub other_fault : (fault : HeaderFault) → fault ≡ faults.NotAStore → fault ≡ faults.Unread → ⊥
other_fault fault is other = cc

pub damaged_fault : (fault : HeaderFault) → fault ≡ faults.Damaged → fault ≡ faults.Unread → ⊥
damaged_fault fault is other = cc

-- ---- the command

module _ (store_name : List ℕ) (before after : Io) where
  -- there are no lines
  pub informs_refused : (e : Refusal) → IsUntouched before after → WhyNoLines e store_name before.files before.faults after.faults → Informs store_name before after (Err e)
  informs_refused refusals.Memory same why = same
  informs_refused (refusals.File name) same why = (why.0, record { there = λ other i lacks. i; cause = why.1; untouched = same })
  informs_refused refusals.NotAStore same why = (why, same)
  informs_refused (refusals.DamagedStore block) same why = (why, same)
  informs_refused refusals.Words same why = absurd why
  informs_refused (refusals.Data fault) same why = absurd why
  informs_refused (refusals.Query cause) same why = absurd why
  informs_refused refusals.Output same why = absurd why

  -- where the statuses have to come
  pub info_must : (ending : Ending) → Informs store_name before after ending → InfoMust store_name before after (status_of ending)
  info_must (Ok told) h = record {
    no_file = λ lacks. absurd (h.0.told.there lacks);
    refuses_store = λ file has none still. absurd (let of_file = h.0.told.holds file has in none of_file.header of_file.is_header);
    complete = λ file has header is_header quiet. inl refl;
  }
  info_must (Err refusals.Memory) h = record {
    no_file = λ lacks. inr refl;
    refuses_store = λ file has none still. inr refl;
    complete = λ file has header is_header quiet. inr refl;
  }
  info_must (Err (refusals.File name)) h = record {
    no_file = λ lacks. inl refl;
    refuses_store = λ file has none still. absurd (still (unread_rose [] store_name file before after h.1 has));
    complete = λ file has header is_header quiet. absurd (quiet.files (unread_rose [] store_name file before after h.1 has));
  }
  info_must (Err refusals.NotAStore) h = record {
    no_file = λ lacks. absurd (h.0.there lacks);
    refuses_store = λ file has none still. inl refl;
    complete = λ file has header is_header quiet. absurd ((h.0.holds file has).none header is_header);
  }
  info_must (Err (refusals.DamagedStore block)) h = record {
    no_file = λ lacks. absurd (h.0.there lacks);
    refuses_store = λ file has none still. inl refl;
    complete = λ file has header is_header quiet. absurd (
        sound_from header.format (block_at 0 (image_of file)) is_header.format is_header.mark is_header.sound (h.0.holds file has).1
        );
  }
  info_must (Err refusals.Output) h = record {
    no_file = λ lacks. absurd (h.prefix.there lacks);
    refuses_store = λ file has none still. absurd (let of_file = h.prefix.holds file has in none of_file.header of_file.is_header);
    complete = λ file has header is_header quiet. absurd (quiet.out h.rose);
  }
  info_must (Err refusals.Words) h = absurd h
  info_must (Err (refusals.Data fault)) h = absurd h
  info_must (Err (refusals.Query cause)) h = absurd h

  -- a message that found no memory
  pub info_wants : (ending : Ending) → TakesMemory ending → Informs store_name before after ending → Informs store_name before after (Err refusals.Memory)
  info_wants (Err (refusals.File name)) takes h = h.1.untouched
  info_wants (Err (refusals.Data fault)) takes h = absurd h
  info_wants (Err (refusals.DamagedStore block)) takes h = h.1
  info_wants (Err (refusals.Query cause)) takes h = absurd h
  info_wants ending takes h = absurd takes

  -- nothing was put out
  pub info_unwritten : (ending : Ending) → (MayPutOut ending → ⊥) → Informs store_name before after ending → after.out.written ≡ before.out.written
  info_unwritten (Ok told) none h = absurd (none tt)
  info_unwritten (Err refusals.Memory) none h = h.out
  info_unwritten (Err (refusals.File name)) none h = h.1.untouched.out
  info_unwritten (Err refusals.NotAStore) none h = h.1.out
  info_unwritten (Err (refusals.DamagedStore block)) none h = h.1.out
  info_unwritten (Err refusals.Output) none h = absurd (none tt)
  info_unwritten (Err refusals.Words) none h = absurd h
  info_unwritten (Err (refusals.Data fault)) none h = absurd h
  info_unwritten (Err (refusals.Query cause)) none h = absurd h

  -- no file changed
  pub info_keeps : (ending : Ending) → Informs store_name before after ending → after.files ≡ before.files
  info_keeps (Ok told) h = h.0.files
  info_keeps (Err refusals.Memory) h = h.files
  info_keeps (Err (refusals.File name)) h = h.1.untouched.files
  info_keeps (Err refusals.NotAStore) h = h.1.files
  info_keeps (Err (refusals.DamagedStore block)) h = h.1.files
  info_keeps (Err refusals.Output) h = h.files
  info_keeps (Err refusals.Words) h = absurd h
  info_keeps (Err (refusals.Data fault)) h = absurd h
  info_keeps (Err (refusals.Query cause)) h = absurd h
