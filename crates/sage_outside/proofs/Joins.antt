-- Parts one behind the other, parts of which a front has a broken block, and parts of blocks that are all sound.
use Rattle.std.proofs.Common.{◌≡◌, ℕ, zero, suc, ◌+◌, ◌-◌, ◌*◌, ◌/◌, ◌%◌, ◌<◌, ◌≤◌, ◌⊎◌, inl, inr, ◌++◌, ◌∙◌, List, length, take, drop, arith, refl, sym, ap, subst, true, false, Some, None, Ok, Err, length-append, length-take}
use Rattle.std.proofs.lemmas.List.{drop-drop}
use Rattle.std.proofs.Math.Seq.{take-add}
use Rattle.sage_outside.specs.Blocks.{block_at}
use Rattle.sage_outside.specs.Parts.{is_sound, IsPayload}
use Rattle.sage_outside.specs.declared.area.Area.{Area}
use Rattle.sage_outside.specs.Areas.{payloads, area_bytes, part_of, part_at, first_broken, or_block, block_of, touched}
use Rattle.sage_outside.proofs.Parts.{Sound, none_broken, head_sound, skip_sound, stop_broken}
use Rattle.sage_outside.proofs.Runs.{touched_as, ok_is, err_is}

-- the numbers of a front that ends with a block, and of what is behind it
pub record Cut (p first at near count : ℕ) : Type 0 where
  pub all : touched p at count ≡ touched p at near + touched p (at + near) (count - near)
  pub block : first + (at + near) / p ≡ (first + at / p) + touched p at near

whole_cut : (first at near count : ℕ) → near ≡ 2 * 4096 - at % 4096 → near < count → Cut 4096 first at near count
whole_cut first at near count is lt = record {
  all = omega (arith, touched_as 4096 at count (omega arith), touched_as 4096 at near (omega arith), touched_as 4096 (at + near) (count - near) (omega arith));
  block = omega (arith, touched_as 4096 at near (omega arith));
}

tagged_cut : (first at near count : ℕ) → near ≡ 2 * 4080 - at % 4080 → near < count → Cut 4080 first at near count
tagged_cut first at near count is lt = record {
  all = omega (arith, touched_as 4080 at count (omega arith), touched_as 4080 at near (omega arith), touched_as 4080 (at + near) (count - near) (omega arith));
  block = omega (arith, touched_as 4080 at near (omega arith));
}

cut_of : (p first at near count : ℕ) → IsPayload p → near ≡ 2 * p - at % p → near < count → Cut p first at near count
cut_of p first at near count payload is lt = elim payload.one [
  | inl e ↦ subst (λ q. Cut q first at near count) (sym e) (whole_cut first at near count (subst (λ q. near ≡ 2 * q - at % q) e is) lt)
  | inr e ↦ subst (λ q. Cut q first at near count) (sym e) (tagged_cut first at near count (subst (λ q. near ≡ 2 * q - at % q) e is) lt)
]

whole_grows : (at near count : ℕ) → near ≤ count → touched 4096 at near ≤ touched 4096 at count
whole_grows at zero count le = omega arith
whole_grows at (suc near) count le = omega (arith, touched_as 4096 at (suc near) (omega arith), touched_as 4096 at count (omega arith))

tagged_grows : (at near count : ℕ) → near ≤ count → touched 4080 at near ≤ touched 4080 at count
tagged_grows at zero count le = omega arith
tagged_grows at (suc near) count le = omega (arith, touched_as 4080 at (suc near) (omega arith), touched_as 4080 at count (omega arith))

touched_grows : (p at near count : ℕ) → IsPayload p → near ≤ count → touched p at near ≤ touched p at count
touched_grows p at near count payload le = elim payload.one [ inl e ↦ rw e (whole_grows at near count le) | inr e ↦ rw e (tagged_grows at near count le) ]

-- the blocks that a part touches are among those in which it fits
touched_within : (p first at n count : ℕ) → IsPayload p → 0 < n → first * p + at + n ≤ count * p → (first + at / p) + touched p at n ≤ count
touched_within p first at n count payload some le = elim payload.one [
  | inl e ↦ let i = rw e at le in rw e (omega (arith, i, touched_as 4096 at n some))
  | inr e ↦ let i = rw e at le in rw e (omega (arith, i, touched_as 4080 at n some))
]

module _ (p : ℕ) (image : List ℕ) where
  broken_sum : (b j m : ℕ) → first_broken p b j image ≡ None → first_broken p b (j + m) image ≡ first_broken p (b + j) m image
  broken_sum b zero m e =
      let f : zero + m ≡ m = omega arith in
      let g : b ≡ b + zero = omega arith in
      ap (λ n. first_broken p b n image) f ∙ ap (λ c. first_broken p c m image) g
  broken_sum b (suc j) m e =
      let s = head_sound p image b j e in
      let f : suc j + m ≡ suc (j + m) = omega arith in
      let g : suc b + j ≡ b + suc j = omega arith in
      ap (λ n. first_broken p b n image) f ∙ skip_sound p image b (j + m) s.0 ∙ broken_sum (suc b) j m s.1 ∙ ap (λ c. first_broken p c m image) g

  not_none : (b c : ℕ) → first_broken p b 0 image ≡ Some c → ⊥
  not_none b c e = let f : None ≡ Some c = sym (none_broken p image b) ∙ e in cc

  broken_longer : (b j m c : ℕ) → first_broken p b j image ≡ Some c → first_broken p b (j + m) image ≡ Some c
  broken_longer b zero m c e = absurd (not_none b c e)
  broken_longer b (suc j) m c e =
      let f : suc j + m ≡ suc (j + m) = omega arith in
      ap (λ n. first_broken p b n image) f ∙ (elim (is_sound p b (block_at b image)) as (λ t. is_sound p b (block_at b image) ≡ t → first_broken p b (suc (j + m)) image ≡ Some c) [
        | true ↦ λ is. skip_sound p image b (j + m) is ∙ broken_longer (suc b) j m c (sym (skip_sound p image b j is) ∙ e)
        | false ↦ λ is. stop_broken p image b (j + m) is ∙ (sym (stop_broken p image b j is) ∙ e)
      ]) refl

  none_of_sound : (count : ℕ) → ((b : ℕ) → b < count → Sound p image b) → (b j : ℕ) → b + j ≤ count → first_broken p b j image ≡ None
  none_of_sound count all b zero le = none_broken p image b
  none_of_sound count all b (suc j) le = skip_sound p image b j (all b (omega arith)) ∙ none_of_sound count all (suc b) j (omega arith)

-- a part that was read has no broken block
pub part_ok : (area : Area) (at n : ℕ) (image xs : List ℕ) → part_at area at n image ≡ Ok xs → (first_broken area.payload (block_of area at) (touched area.payload at n) image ≡ None) × (part_of area at n image ≡ xs)
unfolding part_at
part_ok area at n image xs e = ok_is (first_broken area.payload (block_of area at) (touched area.payload at n) image) _ xs e

part_err : (area : Area) (at n : ℕ) (image : List ℕ) (c : ℕ) → part_at area at n image ≡ Err c → first_broken area.payload (block_of area at) (touched area.payload at n) image ≡ Some c
unfolding part_at
part_err area at n image c e = err_is (first_broken area.payload (block_of area at) (touched area.payload at n) image) _ c e

part_broken : (area : Area) (at n : ℕ) (image : List ℕ) (c : ℕ) → first_broken area.payload (block_of area at) (touched area.payload at n) image ≡ Some c → part_at area at n image ≡ Err c
unfolding part_at
part_broken area at n image c e = ap (λ o. or_block o (part_of area at n image)) e

part_whole : (area : Area) (at n : ℕ) (image : List ℕ) → first_broken area.payload (block_of area at) (touched area.payload at n) image ≡ None → part_at area at n image ≡ Ok (part_of area at n image)
unfolding part_at
part_whole area at n image e = ap (λ o. or_block o (part_of area at n image)) e

-- a broken front is one of the whole
pub front_broken : (area : Area) (at near count : ℕ) (image : List ℕ) (c : ℕ) → IsPayload area.payload → near ≤ count → part_at area at near image ≡ Err c → part_at area at count image ≡ Err c
front_broken area at near count image c payload le e =
    let p = area.payload in
    let j = touched p at near in
    let m = touched p at count - j in
    let sum : j + m ≡ touched p at count = omega (arith, touched_grows p at near count payload le) in
    part_broken area at count image c (ap (λ n. first_broken p (block_of area at) n image) (sym sum) ∙ broken_longer p image (block_of area at) j m c (part_err area at near image c e))

-- a front and what is behind it are the whole
pub bytes_joined : (area : Area) (at near count : ℕ) (image : List ℕ) → near ≤ count → part_of area at near image ++ part_of area (at + near) (count - near) image ≡ part_of area at count image
bytes_joined area at near count image le =
    let all = drop at (area_bytes area image) in
    let behind : part_of area (at + near) (count - near) image ≡ take (count - near) (drop near all) = ap (take (count - near)) (sym (drop-drop near at (area_bytes area image))) in
    ap (λ xs. take near all ++ xs) behind ∙ sym (take-add near (count - near) all) ∙ ap (λ n. take n all) (omega arith)

module _ (area : Area) (at near count : ℕ) (image front : List ℕ) (payload : IsPayload area.payload) (is : near ≡ 2 * area.payload - at % area.payload) (lt : near < count) (ok : part_at area at near image ≡ Ok front) where
  rest_is : first_broken area.payload (block_of area at) (touched area.payload at count) image
      ≡ first_broken area.payload (block_of area (at + near)) (touched area.payload (at + near) (count - near)) image
  rest_is =
      let p = area.payload in
      let cut = cut_of p area.first at near count payload is lt in
      let m = touched p (at + near) (count - near) in
      ap (λ n. first_broken p (block_of area at) n image) cut.all
      ∙ broken_sum p image (block_of area at) (touched p at near) m (part_ok area at near image front ok).0
      ∙ ap (λ b. first_broken p b m image) (sym cut.block)

  pub rest_broken : (c : ℕ) → part_at area (at + near) (count - near) image ≡ Err c → part_at area at count image ≡ Err c
  rest_broken c e = part_broken area at count image c (rest_is ∙ part_err area (at + near) (count - near) image c e)

  pub rest_joined : (rest : List ℕ) → part_at area (at + near) (count - near) image ≡ Ok rest → part_at area at count image ≡ Ok (front ++ rest)
  rest_joined rest e =
      let behind = part_ok area (at + near) (count - near) image rest e in
      let here = part_ok area at near image front ok in
      part_whole area at count image (rest_is ∙ behind.0)
      ∙ ap Ok (sym (bytes_joined area at near count image (omega arith)) ∙ ap (λ xs. xs ++ part_of area (at + near) (count - near) image) here.1 ∙ ap (λ xs. front ++ xs) behind.1)

-- where the blocks are sound, a part is its bytes
pub sound_part : (area : Area) (at n count : ℕ) (image : List ℕ) → IsPayload area.payload → 0 < n → area.first * area.payload + at + n ≤ count * area.payload
    → ((b : ℕ) → b < count → is_sound area.payload b (block_at b image) ≡ true) → part_at area at n image ≡ Ok (part_of area at n image)
sound_part area at n count image payload some le all =
    part_whole area at n image (none_of_sound area.payload image count all (block_of area at) (touched area.payload at n) (touched_within area.payload area.first at n count payload some le))

side : (k m : ℕ) → (k ≤ m) ⊎ (m < k)
side zero m = inl (omega arith)
side (suc k) zero = inr (omega arith)
side (suc k) (suc m) = elim (side k m) [ inl le ↦ inl (omega arith) | inr lt ↦ inr (omega arith) ]

length_payloads : (p n : ℕ) (bytes : List ℕ) → length (payloads p n bytes) ≤ n * p
length_payloads p zero bytes = omega arith
length_payloads p (suc n) bytes =
    let g : suc n * p ≡ p + n * p = grind arith in
    omega (arith, g, length-append (take p bytes) (payloads p n (drop 4096 bytes)), length-take p bytes, length_payloads p n (drop 4096 bytes))

-- bytes that an area has are within the blocks
pub area_within : (area : Area) (n : ℕ) (image : List ℕ) → 0 < n → n ≤ length (area_bytes area image) → area.first * area.payload + n ≤ (length image / 4096) * area.payload
area_within area n image some le =
    let p = area.payload in
    let count = length image / 4096 in
    let long = length_payloads p (count - area.first) (drop (4096 * area.first) image) in
    within_blocks p area.first count n some (omega (arith, le, long))
  where
    within_blocks : (p first count n : ℕ) → 0 < n → n ≤ (count - first) * p → first * p + n ≤ count * p
    within_blocks p first count n some le = elim (side first count) [
      | inl lower ↦ let e : count * p ≡ first * p + (count - first) * p = (let f : count ≡ first + (count - first) = omega arith in ap (λ m. m * p) f ∙ (let g : (first + (count - first)) * p ≡ first * p + (count - first) * p = grind arith in g)) in omega (arith, e, le)
      | inr over ↦ let z : count - first ≡ 0 = omega arith in let i : (count - first) * p ≡ 0 = ap (λ m. m * p) z ∙ (let g : 0 * p ≡ 0 = grind arith in g) in absurd (omega (arith, i, le, some))
    ]
