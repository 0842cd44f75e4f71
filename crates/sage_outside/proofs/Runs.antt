-- A run of bytes read block by block.
use Rattle.std.proofs.Common.{◌≡◌, ℕ, zero, suc, ◌+◌, ◌-◌, ◌/◌, ◌%◌, ◌<◌, ◌≤◌, min, inl, inr, ◌∙◌, List, length, take, arith, refl, sym, ap, subst, Bool, true, false, Option, Some, None, Ok, Err}
use Rattle.std.proofs.Math.Seq.{take-length}
use Rattle.sage_outside.specs.Blocks.{block_at}
use Rattle.sage_outside.specs.Parts.{is_sound, IsPayload}
use Rattle.sage_outside.specs.declared.area.Area.{Area}
use Rattle.sage_outside.specs.Areas.{part_of, part_at, first_broken, or_block, block_of, touched}
use Rattle.sage_outside.proofs.Parts.{Sound, sound_more, broken_here, none_broken, head_sound, stop_broken}

-- what one more piece of k bytes does to the numbers
pub record Step (p first at done k len : ℕ) : Type 0 where
  pub one : touched p (at + done) k ≡ 1
  pub block : first + (at + done) / p ≡ (first + at / p) + (at % p + done) / p
  pub whole : done + k ≡ len → touched p at len ≡ (at % p + done) / p + 1
  pub next : done + k < len → (at % p + (done + k)) / p ≡ (at % p + done) / p + 1
  pub below : (at % p + done) / p < touched p at len
  pub within : done + k ≤ len

pub touched_as : (p at n : ℕ) → 0 < n → touched p at n ≡ (at % p + (n - 1) + p) / p
touched_as p at zero h = absurd (omega arith)
touched_as p at (suc n) h = ap (λ m. (at % p + m + p) / p) (omega arith)

whole_step : (first at done k len : ℕ) → done < len → k ≡ min (4096 - (at + done) % 4096) (len - done) → Step 4096 first at done k len
whole_step first at done k len lt is = record {
  one = touched_as 4096 (at + done) k (omega arith) ∙ (omega arith);
  block = omega arith;
  whole = λ e. touched_as 4096 at len (omega arith) ∙ (omega arith);
  next = λ more. omega arith;
  below = omega (arith, touched_as 4096 at len (omega arith));
  within = omega arith;
}

tagged_step : (first at done k len : ℕ) → done < len → k ≡ min (4080 - (at + done) % 4080) (len - done) → Step 4080 first at done k len
tagged_step first at done k len lt is = record {
  one = touched_as 4080 (at + done) k (omega arith) ∙ (omega arith);
  block = omega arith;
  whole = λ e. touched_as 4080 at len (omega arith) ∙ (omega arith);
  next = λ more. omega arith;
  below = omega (arith, touched_as 4080 at len (omega arith));
  within = omega arith;
}

pub step_of : (p first at done k len : ℕ) → IsPayload p → done < len → k ≡ min (p - (at + done) % p) (len - done) → Step p first at done k len
step_of p first at done k len payload lt is = elim payload.one [
  | inl e ↦ subst (λ q. Step q first at done k len) (sym e) (whole_step first at done k len lt (subst (λ q. k ≡ min (q - (at + done) % q) (len - done)) e is))
  | inr e ↦ subst (λ q. Step q first at done k len) (sym e) (tagged_step first at done k len lt (subst (λ q. k ≡ min (q - (at + done) % q) (len - done)) e is))
]

-- the reads for what was done, and that the tags of its blocks agree
pub record Early (p at done len before now : ℕ) : Type 0 where
  pub within : done ≤ len
  pub risen : before ≤ now
  pub all : done ≡ len → now ≤ before + touched p at len
  pub early : done < len → now ≤ before + (at % p + done) / p

pub record Sane (p b at done len : ℕ) (image : List ℕ) : Type 0 where
  pub all : done ≡ len → first_broken p b (touched p at len) image ≡ None
  pub early : done < len → first_broken p b ((at % p + done) / p) image ≡ None

pub early_more : (p first at done k len before now next : ℕ) → Step p first at done k len → Early p at done len before now → done < len → now ≤ next → next ≤ now + 1 → Early p at (done + k) len before next
early_more p first at done k len before now next step e lt g h = record {
  within = step.within;
  risen = omega (arith, e.risen);
  all = λ end. omega (arith, e.early lt, step.whole end);
  early = λ more. omega (arith, e.early lt, step.next more);
}

start_div : (p at : ℕ) → IsPayload p → at % p / p ≡ 0
start_div p at payload = elim payload.one [ inl e ↦ rw e (omega arith) | inr e ↦ rw e (omega arith) ]

pub sane_start : (p b at len : ℕ) (image : List ℕ) → IsPayload p → Sane p b at 0 len image
sane_start p b at len image payload = record {
  all = λ e. rw (← e) (none_broken p image b);
  early = λ lt. let f : (at % p + 0) / p ≡ 0 = ap (λ m. m / p) (omega arith) ∙ start_div p at payload in rw f (none_broken p image b);
}

pub ok_is : (o : Option ℕ) (xs ys : List ℕ) → or_block o xs ≡ Ok ys → (o ≡ None) × (xs ≡ ys)
ok_is None xs ys e = (refl, cc)
ok_is (Some b) xs ys e = cc

pub err_is : (o : Option ℕ) (xs : List ℕ) (b : ℕ) → or_block o xs ≡ Err b → o ≡ Some b
err_is None xs b e = cc
err_is (Some c) xs b e = cc

module _ (area : Area) (at done k len : ℕ) (image : List ℕ) (step : Step area.payload area.first at done k len) (lt : done < len) (sane : Sane area.payload (block_of area at) at done len image) where
  abbrev pub p : ℕ
  p = area.payload

  abbrev pub b : ℕ
  b = block_of area at

  abbrev pub q : ℕ
  q = (at % area.payload + done) / area.payload

  -- a piece that was read
  read_ok : (piece : List ℕ) → part_at area (at + done) k image ≡ Ok piece → Sound p image (b + q) × (part_of area (at + done) k image ≡ piece)
  unfolding part_at
  read_ok piece e =
      let f = ok_is (first_broken p (block_of area (at + done)) (touched p (at + done) k) image) _ piece e in
      let g : first_broken p (b + q) 1 image ≡ None = ap (λ c. first_broken p c 1 image) (sym step.block) ∙ ap (λ m. first_broken p (block_of area (at + done)) m image) (sym step.one) ∙ f.0 in
      ((head_sound p image (b + q) 0 g).0, f.1)

  pub sane_more : (piece : List ℕ) → part_at area (at + done) k image ≡ Ok piece → Sane p b at (done + k) len image
  sane_more piece e =
      let more = sound_more p image b q (sane.early lt) (read_ok piece e).0 in record {
        all = λ end. rw (step.whole end) more;
        early = λ on. rw (step.next on) more;
      }

  pub piece_is : (piece : List ℕ) → part_at area (at + done) k image ≡ Ok piece → piece ≡ part_of area (at + done) k image
  piece_is piece e = sym (read_ok piece e).1

  not_sound : (t : Bool) (c : ℕ) → (t ≡ true → first_broken p (b + q) 1 image ≡ None) → is_sound p (b + q) (block_at (b + q) image) ≡ t → first_broken p (b + q) 1 image ≡ Some c → t ≡ false
  not_sound true c h is e = let f = h refl in cc
  not_sound false c h is e = refl

  broken : (c : ℕ) → first_broken p (b + q) 1 image ≡ Some c → (is_sound p (b + q) (block_at (b + q) image) ≡ false) × (c ≡ b + q)
  broken c e =
      let is = not_sound (is_sound p (b + q) (block_at (b + q) image)) c (λ s. sound_more p image (b + q) 0 (none_broken p image (b + q)) (let f : b + q ≡ (b + q) + 0 = omega arith in subst (Sound p image) f s)) refl e in
      let f : Some (b + q) ≡ Some c = sym (stop_broken p image (b + q) 0 is) ∙ e in (is, cc)

  -- the first block whose tag does not agree
  pub broken_is : (c : ℕ) → part_at area (at + done) k image ≡ Err c → part_at area at len image ≡ Err c
  unfolding part_at
  broken_is c e =
      let f = err_is (first_broken p (block_of area (at + done)) (touched p (at + done) k) image) _ c e in
      let g : first_broken p (b + q) 1 image ≡ Some c = ap (λ c. first_broken p c 1 image) (sym step.block) ∙ ap (λ m. first_broken p (block_of area (at + done)) m image) (sym step.one) ∙ f in
      let h = broken c g in
      let i = broken_here p image b q (touched p at len) (sane.early lt) h.0 step.below in
      ap (λ o. or_block o (part_of area at len image)) (i ∙ ap Some (sym h.1))

all_is : (area : Area) (at len : ℕ) (image : List ℕ) (buf : List ℕ) → Sane area.payload (block_of area at) at len len image → buf ≡ part_of area at len image → part_at area at len image ≡ Ok buf
unfolding part_at
all_is area at len image buf sane is = ap (λ o. or_block o (part_of area at len image)) (sane.all refl) ∙ ap Ok (sym is)

take_all : (n : ℕ) (xs : List ℕ) → length xs ≡ n → take n xs ≡ xs
take_all n xs e = rw (← e) (take-length xs)

-- what was read to its end
pub run_is : (area : Area) (at done len : ℕ) (image : List ℕ) (buf : List ℕ) → len ≡ done → length buf ≡ done → Sane area.payload (block_of area at) at done len image → take done buf ≡ part_of area at done image
    → part_at area at (length buf) image ≡ Ok buf
run_is area at done len image buf end long sane is =
    ap (λ n. part_at area at n image) long
    ∙ all_is area at done image buf (subst (λ n. Sane area.payload (block_of area at) at done n image) end sane) (sym (take_all done buf long) ∙ is)
