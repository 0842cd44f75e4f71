-- The header's bytes are read as the header.
use Rattle.std.proofs.Common.{◌≡◌, ◌∙◌, ℕ, List, ◌+◌, ◌-◌, ◌++◌, ◌⊎◌, ◌^◌, ◌<◌, ◌≤◌, inl, inr, length, get_or, take, drop, refl, sym, ap, arith, length-append, Bool, true, false, Result, Ok, Err}
use Rattle.std.specs.Prelude.{codes, ◌==◌, if◌then◌else◌}
use Rattle.std.specs.Int.{w32, from_be_bytes}
use Rattle.std.proofs.lemmas.List.{take_at, drop_at, drop-drop, take-take, drop-take}
use Rattle.std.proofs.lemmas.Nat.{from_be_bytes-to_be_bytes_4}
use Rattle.term_core.specs.Ids.{number_bytes}
use Rattle.sage_outside.specs.Parts.{is_sound, agrees}
use Rattle.store_image.specs.Format.{IsFormat, payload_of, mark_of}
use Rattle.store_image.proofs.Payloads.{all_of}
use Rattle.store_image.specs.declared.header.Header.{Header}
use Rattle.store_image.specs.Header.{header_number, IsHeader, IsBroken, AreWithinFile, header_bytes}

pub length_mark : (format : ℕ) → length (mark_of format) ≡ 8
unfolding mark_of
length_mark format = either (format == 1)
  where
    either : (b : Bool) → length (if b then codes "SAGESTO1" else codes "SAGESTO2") ≡ 8
    either true = refl
    either false = refl

front_behind : (k o m : ℕ) (xs : List ℕ) → o + k ≤ m → take k (drop o (take m xs)) ≡ take k (drop o xs)
front_behind k o m xs h =
    let e : m ≡ o + (m - o) = omega arith in
    rw e (rw drop-take (take-take k (m - o) (drop o xs) (omega arith)))

module _ (h : Header) (named : length h.data_id ≡ 32) where
  -- what stands behind the mark
  abbrev behind : List ℕ
  behind = number_bytes h.blocks ++ (number_bytes h.terms ++ (number_bytes h.triples ++ (number_bytes h.longest ++ h.data_id)))

  length_behind : length behind ≡ 48
  length_behind = omega (arith, named)

  pub length_header : length (header_bytes h) ≡ 56
  unfolding header_bytes
  length_header = omega (arith, length-append (mark_of h.format) behind, length_mark h.format, length_behind)

  -- bytes behind the mark
  at_place : (k : ℕ) → drop (8 + k) (header_bytes h) ≡ drop k behind
  unfolding header_bytes
  at_place k = sym (drop-drop k 8 (mark_of h.format ++ behind)) ∙ ap (drop k) (drop_at (mark_of h.format) behind 8 (length_mark h.format))

  module _ (block : List ℕ) (front : take 56 block ≡ header_bytes h) where
    number_there : (k : ℕ) → k + 4 ≤ 48 → header_number (8 + k) block ≡ from_be_bytes w32 (take 4 (drop k behind))
    unfolding header_number
    number_there k le = ap (from_be_bytes w32)
        (sym (front_behind 4 (8 + k) 56 block (omega arith)) ∙ ap (λ l. take 4 (drop (8 + k) l)) front ∙ ap (take 4) (at_place k))

    blocks_at : h.blocks < 2 ^ 32 → h.blocks ≡ header_number 8 block
    blocks_at fits = sym (number_there 0 (omega arith) ∙ from_be_bytes-to_be_bytes_4 h.blocks fits)

    terms_at : h.terms < 2 ^ 32 → h.terms ≡ header_number 12 block
    terms_at fits = sym (number_there 4 (omega arith) ∙ from_be_bytes-to_be_bytes_4 h.terms fits)

    triples_at : h.triples < 2 ^ 32 → h.triples ≡ header_number 16 block
    triples_at fits = sym (number_there 8 (omega arith) ∙ from_be_bytes-to_be_bytes_4 h.triples fits)

    longest_at : h.longest < 2 ^ 32 → h.longest ≡ header_number 20 block
    longest_at fits = sym (number_there 12 (omega arith) ∙ from_be_bytes-to_be_bytes_4 h.longest fits)

    mark_at : take 8 block ≡ mark_of h.format
    unfolding header_bytes
    mark_at = sym (front_behind 8 0 56 block (omega arith)) ∙ ap (take 8) front ∙ take_at (mark_of h.format) behind 8 (length_mark h.format)

    name_at : h.data_id ≡ take 32 (drop 24 block)
    name_at =
        let all : take 32 h.data_id ≡ h.data_id = all_of 32 h.data_id (omega (arith, named)) in
        sym (sym (front_behind 32 24 56 block (omega arith)) ∙ ap (λ l. take 32 (drop 24 l)) front ∙ ap (take 32) (at_place 16) ∙ all)

    pub header_back : IsFormat h.format → is_sound (payload_of h.format) 0 block ≡ true → h.blocks < 2 ^ 32 → AreWithinFile h h.blocks → IsHeader block h.blocks h
    header_back format sound fits within = record {
      format = format;
      mark = mark_at;
      sound = sound;
      blocks = blocks_at fits;
      terms = terms_at (omega (arith, within.few, within.named));
      triples = triples_at (omega (arith, within.few));
      longest = longest_at (omega (arith, within.short));
      data_name = name_at;
      within = within;
    }

apart : (mark : List ℕ) → mark ≡ mark_of 1 → mark ≡ mark_of 2 → ⊥
unfolding mark_of
apart mark first second =
    let e : codes "SAGESTO1" ≡ codes "SAGESTO2" = sym first ∙ second in
    let n : get_or (codes "SAGESTO1") 7 0 ≡ get_or (codes "SAGESTO2") 7 0 = ap (λ l. get_or l 7 0) e in
    absurd (omega (arith, n))

-- the mark determines the format
pub same_format : (f g : ℕ) (mark : List ℕ) → IsFormat f → IsFormat g → mark ≡ mark_of f → mark ≡ mark_of g → f ≡ g
same_format f g mark a b p q = told a.one b.one
  where
    told : (f ≡ 1) ⊎ (f ≡ 2) → (g ≡ 1) ⊎ (g ≡ 2) → f ≡ g
    told (inl i) (inl j) = i ∙ sym j
    told (inl i) (inr j) = absurd (apart mark (p ∙ ap mark_of i) (q ∙ ap mark_of j))
    told (inr i) (inl j) = absurd (apart mark (q ∙ ap mark_of j) (p ∙ ap mark_of i))
    told (inr i) (inr j) = i ∙ sym j

-- the block determines the header
pub header_alone : (block : List ℕ) (m n : ℕ) (g h : Header) → IsHeader block m g → IsHeader block n h → g ≡ h
header_alone block m n g h a b =
    let format : g.format ≡ h.format = same_format g.format h.format (take 8 block) a.format b.format a.mark b.mark in
    let blocks : g.blocks ≡ h.blocks = a.blocks ∙ sym b.blocks in
    let terms : g.terms ≡ h.terms = a.terms ∙ sym b.terms in
    let triples : g.triples ≡ h.triples = a.triples ∙ sym b.triples in
    let longest : g.longest ≡ h.longest = a.longest ∙ sym b.longest in
    let name : g.data_id ≡ h.data_id = a.data_name ∙ sym b.data_name in
    λ i. record { format = format i; blocks = blocks i; terms = terms i; triples = triples i; longest = longest i; data_id = name i }

first_sound : (block : List ℕ) → is_sound (payload_of 1) 0 block ≡ true
unfolding payload_of
first_sound block = refl

second_sound : (block : List ℕ) → is_sound (payload_of 2) 0 block ≡ agrees 0 block
unfolding payload_of
second_sound block = refl

-- a block with the mark of a format and not its tag
pub broken_from : (format : ℕ) (block : List ℕ) → IsFormat format → take 8 block ≡ mark_of format → is_sound (payload_of format) 0 block ≡ false → IsBroken block
broken_from format block is mark sound = told is.one
  where
    told : (format ≡ 1) ⊎ (format ≡ 2) → IsBroken block
    told (inl e) = let f : is_sound (payload_of 1) 0 block ≡ false = ap (λ k. is_sound (payload_of k) 0 block) (sym e) ∙ sound in let g = first_sound block in absurd cc
    told (inr e) = record { mark = mark ∙ ap mark_of e; tag = sym (second_sound block) ∙ ap (λ k. is_sound (payload_of k) 0 block) (sym e) ∙ sound }

-- a block with the mark of a format and its tag
pub sound_from : (format : ℕ) (block : List ℕ) → IsFormat format → take 8 block ≡ mark_of format → is_sound (payload_of format) 0 block ≡ true → IsBroken block → ⊥
sound_from format block is mark sound broken =
    let two : format ≡ 2 = same_format format 2 (take 8 block) is record { one = inr refl } mark broken.mark in
    let e : agrees 0 block ≡ true = sym (second_sound block) ∙ ap (λ k. is_sound (payload_of k) 0 block) (sym two) ∙ sound in
    let f = broken.tag in
    cc

-- the block tells one header
pub told_alone : (block : List ℕ) (count : ℕ) (g h : Header) → IsFormat g.format → take 8 block ≡ mark_of g.format → g.blocks ≡ header_number 8 block → g.terms ≡ header_number 12 block
    → g.triples ≡ header_number 16 block → g.longest ≡ header_number 20 block → g.data_id ≡ take 32 (drop 24 block) → IsHeader block count h → h ≡ g
told_alone block count g h format mark blocks terms triples longest name is = λ i. record {
  format = same_format h.format g.format (take 8 block) is.format format is.mark mark i;
  blocks = (is.blocks ∙ sym blocks) i;
  terms = (is.terms ∙ sym terms) i;
  triples = (is.triples ∙ sym triples) i;
  longest = (is.longest ∙ sym longest) i;
  data_id = (is.data_name ∙ sym name) i;
}
