-- Why a named file was not read.
use Rattle.std.specs.Prelude.{◌≡◌, ◌⊎◌, ℕ, List, Option}
use Rattle.sage_outside.specs.Causes.{Rose}
use Rattle.sage_outside.specs.Shelf.{Files, Lacks}
use Rattle.sage.specs.declared.file.FileFault.{FileFault}
use Rattle.sage.specs.declared.file.FileFault.TheVariants as faults
use Rattle.sage.specs.declared.refusal.Refusal.{Refusal}
use Rattle.sage.specs.declared.refusal.Refusal.TheVariants as refusals

-- the known files lack the name, or the shelf's faults rose
abbrev pub WhyUnread : FileFault → Option Files → List ℕ → ℕ → ℕ → Type 0
WhyUnread faults.Memory files name before now = Unit {0}
WhyUnread faults.File files name before now = Lacks files name ⊎ Rose before now

-- the same by the refusal that names the file
abbrev pub WhyNotRead : Refusal → List ℕ → Option Files → ℕ → ℕ → Type 0
WhyNotRead refusals.Memory name files before now = Unit {0}
WhyNotRead (refusals.File other) name files before now = (other ≡ name) × (Lacks files name ⊎ Rose before now)
WhyNotRead refusal name files before now = ⊥
