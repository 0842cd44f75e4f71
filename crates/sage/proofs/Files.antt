-- What the contract knows of files that were read or not.
use Rattle.std.proofs.Common.{◌≡◌, ◌≤◌, ◌⊎◌, ℕ, List, length, take, Option, Some, None, inl, inr, refl, sym, subst}
use Rattle.std.specs.FinMap as map
use Rattle.sage_outside.specs.Causes.{Rose}
use Rattle.sage_outside.specs.Shelf.{Files, Lacks}
use Rattle.sage.specs.declared.refusal.Refusal.{Refusal}
use Rattle.sage.specs.declared.refusal.Refusal.TheVariants as refusals
use Rattle.sage.specs.World.{Io}
use Rattle.sage.specs.Ending.{NamesFile}
use Rattle.sage.specs.Told.{TellsFile, HasBytes, IsPrefixOf, IsFileUnread}
use Rattle.sage.specs.Files.{WhyNotRead}
use Rattle.sage.proofs.Limits.{within}

-- a file with known bytes is not lacking, and has no other bytes
pub told_there : (files : Option Files) (name file : List ℕ) → TellsFile files name file → Lacks files name → ⊥
told_there files name file tells lacks = let none : Lacks (Some tells.all) name = subst (λ fs. Lacks fs name) tells.told lacks in cc (none, tells.has)

pub reads_there : (files : Option Files) (name file : List ℕ) → HasBytes files name file → Lacks files name → ⊥
reads_there None name file reads lacks = lacks
reads_there (Some files) name file reads lacks = cc

pub one_read : (files : Option Files) (name file other : List ℕ) → TellsFile files name file → HasBytes files name other → other ≡ file
one_read files name file other tells reads = let read : HasBytes (Some tells.all) name other = subst (λ fs. HasBytes fs name other) tells.told reads in cc (read, tells.has)

-- what was read of a file
pub prefix_of : (files : Option Files) (name : List ℕ) (most : ℕ) (read : List ℕ) → ((file : List ℕ) → TellsFile files name file → read ≡ take most file) → length read ≤ most
    → (Lacks files name → ⊥) → IsPrefixOf files name most read
prefix_of None name most read whole short there = record { file = read; reads = tt; is = sym (within most read short) }
prefix_of (Some files) name most read whole short there = found (map.get files name) refl
  where
    found : (o : Option (List ℕ)) → map.get files name ≡ o → IsPrefixOf (Some files) name most read
    found None is = absurd (there is)
    found (Some file) is = record { file = file; reads = is; is = whole file (record { all = files; told = refl; has = is }) }

-- a refusal that names the file has the cause
pub not_read : (e : Refusal) (name : List ℕ) (files : Option Files) (before now : ℕ) → NamesFile name e → Lacks files name ⊎ Rose before now → WhyNotRead e name files before now
not_read refusals.Memory name files before now named cause = tt
not_read (refusals.File other) name files before now named cause = (named, cause)
not_read refusals.Words name files before now named cause = absurd named
not_read (refusals.Data fault) name files before now named cause = absurd named
not_read refusals.NotAStore name files before now named cause = absurd named
not_read (refusals.DamagedStore block) name files before now named cause = absurd named
not_read (refusals.Query why) name files before now named cause = absurd named
not_read refusals.Output name files before now named cause = absurd named

-- a file with known bytes was not read only where the faults rose
pub unread_rose : (earlier : List (List ℕ)) (name file : List ℕ) (before after : Io) → IsFileUnread earlier name before after → TellsFile before.files name file → Rose before.faults after.faults
unread_rose earlier name file before after unread tells = (elim unread.cause [ inl lacks ↦ absurd (told_there before.files name file tells lacks) | inr rose ↦ rose ])
