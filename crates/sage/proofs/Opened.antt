-- A store file in memory, opened.
use Rattle.std.proofs.Common.{◌≡◌, ℕ, ◌*◌, ◌^◌, ◌<◌, ◌≤◌, ◌⊎◌, suc, List, [], ◌∷◌, ◌++◌, length, take, Some, Result, Ok, Err, IfErr, sym, ap, ◌∙◌, subst, inl, inr, arith}
use Rattle.std.specs.Result.{IsErr, IsErrAnd}
use Rattle.std.specs.Prelude.{flat_map, All, replicate}
use Rattle.std.proofs.Math.Seq.{take-append_seam}
use Rattle.term_core.specs.declared.term.Term.{Term}
use Rattle.term_core.specs.declared.term.Triple.{Triple}
use Rattle.term_core.specs.declared.pattern.Pattern.{Pattern}
use Rattle.term_core.specs.Bags.{In}
use Rattle.term_core.specs.Mappings.{Name}
use Rattle.term_core.specs.Order.{size_of}
use Rattle.term_core.specs.Data.{parts}
use Rattle.nt_text.specs.Limits.{HasShortTerms}
use Rattle.sage_outside.specs.Causes.{Rose}
use Rattle.sage_outside.specs.declared.fault.StoreFault.TheVariants as store_faults
use Rattle.sage_outside.specs.Blocks.{Device, Tells, block_at, block_count, image_of}
use Rattle.store_image.specs.declared.header.Header.{Header}
use Rattle.store_image.specs.Header.{IsHeader}
use Rattle.store_image.specs.Holds.{Holds}
use Rattle.sage_outside.specs.Held.{device_of}
use Rattle.sage_outside.specs.BlockLaws.{whole_image}
use Rattle.triple_store.specs.declared.store.OpenFault.{OpenFault}
use Rattle.triple_store.specs.declared.store.OpenFault.TheVariants as open_faults
use Rattle.store_image.proofs.Headers.{header_alone}
use Rattle.triple_store.specs.Stores.{View, IsKept, IsStoreOf, IsCause, IsOutside}
use Rattle.triple_store.proofs.Opened.{outside}
use Rattle.pattern_page.specs.declared.page.PageFault.{PageFault}
use Rattle.pattern_page.specs.declared.page.PageFault.TheVariants as faults
use Rattle.pattern_page.specs.PagesOf.{MayRefuse}
use Rattle.pattern_page.specs.Followed.{AreFollowed}
use Rattle.pattern_page.proofs.Refusals.{may_later}
use Rattle.sage.specs.declared.answer.Answer.{Answer}
use Rattle.sage.specs.Answers.{AnswersOr, IsMemory}

-- whole blocks are their own image
count_whole : (n size : ℕ) → size ≡ 4096 * n → n < 2 ^ 32 → 4096 * block_count size ≡ size
count_whole n size e f = omega (arith, e, f)

pub image_whole : (bytes : List ℕ) (n : ℕ) → length bytes ≡ 4096 * n → n < 2 ^ 32 → image_of bytes ≡ bytes
image_whole bytes n e f =
    ap (λ k. take k (bytes ++ replicate (4096 * block_count (length bytes)) 0)) (count_whole n (length bytes) e f)
    ∙ take-append_seam bytes (replicate (4096 * block_count (length bytes)) 0)

-- a block is one header
pub one_header : (block : List ℕ) (n m : ℕ) (h k : Header) → IsHeader block n h → IsHeader block m k → h ≡ k
one_header block n m h k a b = header_alone block n m h k a b

-- the image that a store in memory tells
pub told_whole : (L : List Triple) (format : ℕ) (bytes : List ℕ) (holds : Holds L format bytes) (device : Device) → device.image ≡ Some (image_of bytes) → Tells device.image bytes
told_whole L format bytes holds device e = record { told = e ∙ ap Some (image_whole bytes holds.header.blocks holds.whole holds.few) }

-- what pages refuse, an answer refuses
pub counts_refused : (D : List Triple) (pattern : Pattern) (quanta : List ℕ) (names : List Name) (before after : List ℕ) (e : PageFault) (r : Result Answer PageFault) →
    IsErr r × IsErrAnd r (λ x. x ≡ e) → AreFollowed D pattern quanta names before after (Err e) → AnswersOr D names pattern quanta r
counts_refused D pattern quanta names before after e (Ok answer) h f = cc
counts_refused D pattern quanta names before after e (Err x) h f =
    refused x (subst (λ y. AreFollowed D pattern quanta names before after (Err y)) (sym h.1) f)
  where
    refused : (y : PageFault) → AreFollowed D pattern quanta names before after (Err y) → AnswersOr D names pattern quanta (Err y)
    refused faults.Plan g = g
    refused (faults.Store fault) g = tt
    refused faults.Memory g = tt

pub all_may_later : {T : Type 0} (r : Result T PageFault) (a b c : View) → IsKept a b → IfErr r (λ e. MayRefuse e b c) → IfErr r (λ e. MayRefuse e a c)
all_may_later (Ok x) a b c k h = tt
all_may_later (Err e) a b c k h = may_later e a b c k h

pub all_may_of : {T : Type 0} (r : Result T PageFault) (a b : View) (h : Header) (device : Device) → device ≡ b.device → IfErr r (λ e. MayRefuse e a b)
    → IfErr r (λ e. MayRefuse e a (record { header = h; device = device }))
all_may_of (Ok x) a b h device e r = tt
all_may_of (Err faults.Plan) a b h device e r = tt
all_may_of (Err faults.Memory) a b h device e r = tt
all_may_of (Err (faults.Store store_faults.Memory)) a b h device e r = tt
all_may_of (Err (faults.Store store_faults.Blocks)) a b h device e r = subst (λ d. Rose a.device.faults d.faults) (sym e) r
all_may_of (Err (faults.Store (store_faults.Damaged block))) a b h device e r = r

-- over a store that shows its data and cannot fail, memory alone runs out
pub memory_alone : (D : List Triple) (names : List Name) (pattern : Pattern) (quanta : List ℕ) (fault : PageFault) (before now : View) → IsStoreOf before D → now.device.faults ≡ 0
    → MayRefuse fault before now → AnswersOr D names pattern quanta (Err fault) → IsMemory fault
memory_alone D names pattern quanta faults.Plan before now held none r a = a
memory_alone D names pattern quanta faults.Memory before now held none r a = tt
memory_alone D names pattern quanta (faults.Store store_faults.Memory) before now held none r a = tt
memory_alone D names pattern quanta (faults.Store store_faults.Blocks) before now held none r a = absurd (omega (arith, r, none))
memory_alone D names pattern quanta (faults.Store (store_faults.Damaged block)) before now held none r a = r held.terms held.ids held.shown

-- the terms of short triples are short
pub short_terms : (triples : List Triple) → All HasShortTerms triples → (t : Term) → In (flat_map parts triples) t → size_of t ≤ 262144
short_terms [] all t i = absurd i
short_terms (triple ∷ triples) all t (inl e) = let h : HasShortTerms triple = all 0 triple (omega arith) in subst (λ u. size_of u ≤ 262144) e h.subject
short_terms (triple ∷ triples) all t (inr (inl e)) = let h : HasShortTerms triple = all 0 triple (omega arith) in subst (λ u. size_of u ≤ 262144) e h.predicate
short_terms (triple ∷ triples) all t (inr (inr (inl e))) = let h : HasShortTerms triple = all 0 triple (omega arith) in subst (λ u. size_of u ≤ 262144) e h.object
short_terms (triple ∷ triples) all t (inr (inr (inr i))) = short_terms triples (λ k d h. all (suc k) d (omega (arith, h))) t i

-- an opened store in memory, whose blocks never fail
pub never_failed : (fault : OpenFault) (before now : ℕ) → IsOutside fault → now ≡ 0 → (fault ≡ open_faults.Blocks → Rose before now) → fault ≡ open_faults.Memory
never_failed fault before now outside none failed = told outside.is
  where
    told : (fault ≡ open_faults.Blocks) ⊎ (fault ≡ open_faults.Memory) → fault ≡ open_faults.Memory
    told (inl e) = absurd (omega (arith, failed e, none))
    told (inr e) = e

-- a store file in memory that holds data is not refused for what its blocks tell
pub not_refused : (L : List Triple) (format : ℕ) (bytes held : List ℕ) (fault : OpenFault) (device : Device) → Holds L format bytes → device.image ≡ Some (image_of bytes)
    → device ≡ device_of held 0 device.reads → ((image : List ℕ) → Tells device.image image → IsCause (block_at 0 image) device.count fault) → IsOutside fault
not_refused L format bytes held fault device holds e d cause =
    let told = told_whole L format bytes holds device e in
    let size : length bytes ≡ 4096 * block_count (length held) = whole_image held bytes (record { told = sym (ap (λ (x : Device). x.image) d) ∙ told.told }) in
    outside L format bytes device.count fault holds (omega (arith, size, ap (λ (x : Device). x.count) d)) (cause bytes told)

pub no_store_outside : IsOutside open_faults.NotAStore → ⊥
no_store_outside o = told o.is
  where
    told : (open_faults.NotAStore ≡ open_faults.Blocks) ⊎ (open_faults.NotAStore ≡ open_faults.Memory) → ⊥
    told (inl e) = cc
    told (inr e) = cc

pub damaged_outside : (block : ℕ) → IsOutside (open_faults.Damaged block) → ⊥
damaged_outside block o = told o.is
  where
    told : (open_faults.Damaged block ≡ open_faults.Blocks) ⊎ (open_faults.Damaged block ≡ open_faults.Memory) → ⊥
    told (inl e) = cc
    told (inr e) = cc
