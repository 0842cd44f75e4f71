-- What refusals of a store mean, and what stays where only its counts rise.
use Rattle.std.proofs.Common.{◌≡◌, ℕ, ◌≤◌, List, Result, Ok, Err, IfErr, refl, sym, subst, ◌∙◌, arith}
use Rattle.std.specs.Result.{IsErr, IsErrAnd}
use Rattle.term_core.specs.declared.term.Term.{Term}
use Rattle.term_core.specs.declared.term.Triple.{Triple}
use Rattle.term_core.specs.declared.pattern.IdTriple.{IdTriple}
use Rattle.term_core.specs.declared.pattern.Pattern.{Pattern}
use Rattle.sage_outside.specs.Causes.{Rose}
use Rattle.sage_outside.specs.declared.fault.StoreFault.{StoreFault}
use Rattle.sage_outside.specs.declared.fault.StoreFault.TheVariants as store_faults
use Rattle.store_image.specs.Holds.{Shows}
use Rattle.triple_store.specs.declared.range.Range.{Range}
use Rattle.triple_store.specs.Stores.{View, IsKept, IsShown}
use Rattle.triple_store.specs.Ranges.{IsInStore}
use Rattle.pattern_page.specs.declared.page.Part.{Part}
use Rattle.pattern_page.specs.declared.page.PageFault.{PageFault}
use Rattle.pattern_page.specs.declared.page.PageFault.TheVariants as faults
use Rattle.pattern_page.specs.PagesOf.{IsSeen, IsPart, IsRefusal, MayRefuse}

pub store_refusal : (fault : StoreFault) (before now : View) → (fault ≡ store_faults.Blocks → Rose before.device.faults now.device.faults)
    → ((terms : List Term) (ids : List IdTriple) (block : ℕ) → IsShown before terms ids → fault ≡ store_faults.Damaged block → ⊥)
    → IsRefusal (faults.Store fault) before now
store_refusal store_faults.Memory before now f d = tt
store_refusal store_faults.Blocks before now f d = f refl
store_refusal (store_faults.Damaged block) before now f d = λ terms ids s. d terms ids block s refl

-- what the store shows and tells, it shows and tells still
pub still_shown : (a b : View) (terms : List Term) (ids : List IdTriple) → IsKept a b → IsShown a terms ids → IsShown b terms ids
still_shown a b terms ids k s = record {
  image = s.image;
  told = record { told = k.image ∙ s.told.told };
  shows = subst (λ h. Shows h terms ids s.image) (sym k.header) s.shows;
}

pub still_seen : (a b : View) (part : Part) (terms : List Term) (ids : List IdTriple) → IsKept a b → IsSeen a part terms ids → IsSeen b part terms ids
still_seen a b part terms ids k s = record { shown = still_shown a b terms ids k s.shown; count = s.count; sound = s.sound }

pub still_part : (D : List Triple) (pattern : Pattern) (a b : View) (part : Part) → IsKept a b → IsPart D pattern a part → IsPart D pattern b part
still_part D pattern a b part k p = record { terms = p.terms; ids = p.ids; is_seen = still_seen a b part p.terms p.ids k p.is_seen; counted = p.counted; is_of = p.is_of }

pub still_within : (a b : View) (r : Range) → IsKept a b → IsInStore a r → IsInStore b r
still_within a b r k w = record { order = w.order; rises = w.rises; within = subst (λ h. r.end ≤ h.triples) (sym k.header) w.within }

pub kept_none : (a : View) → IsKept a a
kept_none a = record { header = refl; image = refl; count = refl; later = omega arith; risen = omega arith }

pub kept_twice : (a b c : View) → IsKept a b → IsKept b c → IsKept a c
kept_twice a b c k l = record {
  header = l.header ∙ k.header;
  image = l.image ∙ k.image;
  count = l.count ∙ k.count;
  later = omega (arith, k.later, l.later);
  risen = omega (arith, k.risen, l.risen);
}

-- a refusal of a later call is one of the whole
pub later : (e : PageFault) (a b c : View) → IsKept a b → IsRefusal e b c → IsRefusal e a c
later faults.Plan a b c k r = r
later faults.Memory a b c k r = tt
later (faults.Store store_faults.Memory) a b c k r = tt
later (faults.Store store_faults.Blocks) a b c k r = omega (arith, k.later, r)
later (faults.Store (store_faults.Damaged block)) a b c k r = λ terms ids s. r terms ids (still_shown a b terms ids k s)

pub may_later : (e : PageFault) (a b c : View) → IsKept a b → MayRefuse e b c → MayRefuse e a c
may_later faults.Plan a b c k r = tt
may_later faults.Memory a b c k r = tt
may_later (faults.Store fault) a b c k r = later (faults.Store fault) a b c k r

pub may : (e : PageFault) (before now : View) → IsRefusal e before now → MayRefuse e before now
may faults.Plan before now r = tt
may faults.Memory before now r = tt
may (faults.Store fault) before now r = r

-- refusals that `?` passes on
pub refused_store : {T : Type 0} (r : Result T PageFault) (fault : StoreFault) (a b : View) → IsErr r × IsErrAnd r (λ e. e ≡ faults.Store fault)
    → (fault ≡ store_faults.Blocks → Rose a.device.faults b.device.faults)
    → ((terms : List Term) (ids : List IdTriple) (block : ℕ) → IsShown a terms ids → fault ≡ store_faults.Damaged block → ⊥)
    → IfErr r (λ e. IsRefusal e a b)
refused_store (Ok x) fault a b h f d = tt
refused_store (Err e) fault a b h f d = subst (λ w. IsRefusal w a b) (sym h.1) (store_refusal fault a b f d)

pub refused_later : {T : Type 0} (r : Result T PageFault) (fault : PageFault) (a b c : View) → IsErr r × IsErrAnd r (λ e. e ≡ fault)
    → IsKept a b → IsRefusal fault b c → IfErr r (λ e. IsRefusal e a c)
refused_later (Ok x) fault a b c h k r = tt
refused_later (Err e) fault a b c h k r = subst (λ w. IsRefusal w a c) (sym h.1) (later fault a b c k r)

pub all_later : {T : Type 0} (r : Result T PageFault) (a b c : View) → IsKept a b → IfErr r (λ e. IsRefusal e b c) → IfErr r (λ e. IsRefusal e a c)
all_later (Ok x) a b c k h = tt
all_later (Err e) a b c k h = later e a b c k h

pub all_may : {T : Type 0} (r : Result T PageFault) (a b c : View) → IsKept a b → IfErr r (λ e. IsRefusal e b c) → IfErr r (λ e. MayRefuse e a c)
all_may (Ok x) a b c k h = tt
all_may (Err e) a b c k h = may e a c (later e a b c k h)

pub refused_same : {T : Type 0} (r : Result T StoreFault) (fault : StoreFault) (a b : View) → IsErr r × IsErrAnd r (λ e. e ≡ fault)
    → (fault ≡ store_faults.Blocks → Rose a.device.faults b.device.faults)
    → ((terms : List Term) (ids : List IdTriple) (block : ℕ) → IsShown a terms ids → fault ≡ store_faults.Damaged block → ⊥)
    → IfErr r (λ e. IsRefusal (faults.Store e) a b)
refused_same (Ok x) fault a b h f d = tt
refused_same (Err e) fault a b h f d = subst (λ w. IsRefusal (faults.Store w) a b) (sym h.1) (store_refusal fault a b f d)

pub may_passed : {T : Type 0} (r : Result T PageFault) (fault : PageFault) (a b c : View) → IsErr r × IsErrAnd r (λ e. e ≡ fault)
    → IsKept a b → MayRefuse fault b c → IfErr r (λ e. MayRefuse e a c)
may_passed (Ok x) fault a b c h k r = tt
may_passed (Err e) fault a b c h k r = subst (λ w. MayRefuse w a c) (sym h.1) (may_later fault a b c k r)
