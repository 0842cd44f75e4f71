-- An image that has the places and records of a list of terms is read as that list.
use Rattle.std.proofs.Common.{◌≡◌, ℕ, zero, suc, ◌+◌, ◌-◌, ◌*◌, ◌/◌, ◌<◌, ◌≤◌, ◌++◌, List, [], ◌∷◌, length, take, drop, get_or, Some, Ok, false, refl, sym, ap, subst, ◌∙◌, arith, length-append, length-take}
use Rattle.std.specs.List.{slice_get, flat_map}
use Rattle.std.specs.Prelude.{nat_lt, nat_le, max, ◌==◌, if◌then◌else◌}
use Rattle.std.proofs.lemmas.Bool.Decides.{nat_tests}
use Rattle.std.specs.Int.{w64, to_be_bytes, from_be_bytes}
use Rattle.std.proofs.lemmas.Nat.{from_be_bytes-to_be_bytes_8}
use Rattle.std.proofs.lemmas.List.{take_at, drop_at, drop-drop}
use Rattle.sage_outside.specs.Areas.{part_of, part_at, area_bytes, block_of}
use Rattle.sage_outside.proofs.Joins.{sound_part, area_within}
use Rattle.sage_outside.proofs.Pieces.{front_behind}
use Rattle.term_dict.proofs.Places.{record_place, pair_sound}
use Rattle.term_core.specs.declared.term.Term.{Term}
use Rattle.term_core.specs.declared.term.Term.TheVariants.{Iri, Blank, Literal}
use Rattle.term_dict.specs.declared.dict.Dict.{Dict}
use Rattle.term_dict.specs.Records.{record_of, term_in}
use Rattle.term_dict.specs.Built.{records_of, places_from, longest_of, IsLaidOut}
use Rattle.term_dict.specs.Layout.{place_area, record_area, limit_of, stored_term, span_of, span_from, span_at, span_length, longest_to, longest_record, record_in, or_blame, term_from}
use Rattle.term_dict.specs.Ranks.{HoldsTerms}
use Rattle.term_dict.proofs.Held.{get_within}
use Rattle.term_dict.proofs.Ranks.{inside}
use Rattle.term_dict.proofs.Reading.{term_back}

not_lt : (a b : ℕ) → b ≤ a → nat_lt a b ≡ false
not_lt a b h = grind arith

-- number k of a list of numbers
numbered : (xs : List ℕ) (k : ℕ) → k < length xs → take 8 (drop (8 * k) (flat_map (to_be_bytes w64) xs)) ≡ to_be_bytes w64 (get_or xs k 0)
numbered [] k lt = absurd (omega arith)
numbered (x ∷ xs) zero lt = refl
numbered (x ∷ xs) (suc k) lt =
    let place : 8 * suc k ≡ 8 + 8 * k = omega arith in
    ap (λ n. take 8 (drop n (to_be_bytes w64 x ++ flat_map (to_be_bytes w64) xs))) place
    ∙ ap (take 8) (sym (drop-drop (8 * k) 8 (to_be_bytes w64 x ++ flat_map (to_be_bytes w64) xs)))
    ∙ numbered xs k (omega arith)

length_numbers : (xs : List ℕ) → length (flat_map (to_be_bytes w64) xs) ≡ 8 * length xs
length_numbers [] = refl
length_numbers (x ∷ xs) = length-append (to_be_bytes w64 x) (flat_map (to_be_bytes w64) xs) ∙ omega (arith, length_numbers xs)

-- a list of which so many were taken has so many
long_enough : (n : ℕ) (xs ys : List ℕ) → take n xs ≡ ys → length ys ≡ n → n ≤ length xs
long_enough n xs ys e f = omega (arith, length-take n xs, ap length e, f)

-- record k begins behind the records before it
place_get : (n : ℕ) (ts : List Term) (k : ℕ) → k ≤ length ts → get_or (places_from n ts) k 0 ≡ n + length (records_of (take k ts))
place_get n [] zero le = omega arith
place_get n [] (suc k) le = absurd (omega arith)
place_get n (t ∷ ts) zero le = omega arith
place_get n (t ∷ ts) (suc k) le = place_get (n + length (record_of t)) ts k (omega arith) ∙ omega (arith, length-append (record_of t) (records_of (take k ts)))

length_places : (n : ℕ) (ts : List Term) → length (places_from n ts) ≡ length ts + 1
length_places n [] = refl
length_places n (t ∷ ts) = omega (arith, length_places (n + length (record_of t)) ts)

-- record k stands there
record_at : (ts : List Term) (k : ℕ) (t : Term) → slice_get ts k ≡ Some t → take (length (record_of t)) (drop (length (records_of (take k ts))) (records_of ts)) ≡ record_of t
record_at [] k t at = cc
record_at (x ∷ ts) zero t at =
    let e : x ≡ t = cc in
    subst (λ y. take (length (record_of t)) (record_of y ++ records_of ts) ≡ record_of t) (sym e) (take_at (record_of t) (records_of ts) (length (record_of t)) refl)
record_at (x ∷ ts) (suc k) t at =
    let r = record_of x in
    let m = length (records_of (take k ts)) in
    ap (λ n. take (length (record_of t)) (drop n (r ++ records_of ts))) (length-append r (records_of (take k ts)))
    ∙ ap (take (length (record_of t))) (sym (drop-drop m (length r) (r ++ records_of ts)) ∙ ap (drop m) (drop_at r (records_of ts) (length r) refl))
    ∙ record_at ts k t at

next : (ts : List Term) (k : ℕ) (t : Term) → slice_get ts k ≡ Some t → length (records_of (take (suc k) ts)) ≡ length (records_of (take k ts)) + length (record_of t)
next [] k t at = cc
next (x ∷ ts) zero t at = let e : x ≡ t = cc in omega (arith, length-append (record_of x) [], ap (λ y. length (record_of y)) e)
next (x ∷ ts) (suc k) t at = omega (arith, length-append (record_of x) (records_of (take (suc k) ts)), length-append (record_of x) (records_of (take k ts)), next ts k t at)

within : (ts : List Term) (k : ℕ) → length (records_of (take k ts)) ≤ length (records_of ts)
within [] zero = omega arith
within [] (suc k) = omega arith
within (x ∷ ts) zero = omega arith
within (x ∷ ts) (suc k) = omega (arith, length-append (record_of x) (records_of (take k ts)), length-append (record_of x) (records_of ts), within ts k)

some_bytes : (t : Term) → 0 < length (record_of t)
some_bytes (Iri iri) = omega arith
some_bytes (Blank label) = omega arith
some_bytes (Literal lexical datatype lang) = omega arith

in_limit : (d : Dict) (k from : ℕ) → from ≤ d.bytes → (k ≡ 0 → from ≡ 0) → nat_lt (limit_of d k) from ≡ false
in_limit d zero from le first = not_lt 0 from (omega (arith, first refl))
in_limit d (suc k) from le first =
    let e : (suc k == 0) ≡ false = grind (arith, nat_tests) in
    ap (λ b. nat_lt (if b then 0 else d.bytes) from) e ∙ not_lt d.bytes from le

not_le : (a b : ℕ) → b < a → nat_le a b ≡ false
not_le a b h = grind arith

span_ok : (d : Dict) (k from end : ℕ) → (k ≡ 0 → from ≡ 0) → from < end → end ≤ d.bytes → span_of d k from end ≡ Ok (from, end)
span_ok d k from end first a b = rw (in_limit d k from (omega arith) first, not_le end from a, not_lt d.bytes end b) refl

-- the longest of the records up to a place
longest_next : (ts : List Term) (k : ℕ) (t : Term) → slice_get ts k ≡ Some t → longest_of (take (suc k) ts) ≡ max (longest_of (take k ts)) (length (record_of t))
longest_next [] k t at = cc
longest_next (x ∷ ts) zero t at = let e : x ≡ t = cc in omega (arith, ap (λ y. length (record_of y)) e)
longest_next (x ∷ ts) (suc k) t at = omega (arith, longest_next ts k t at)

take_all : (ts : List Term) → take (length ts) ts ≡ ts
take_all [] = refl
take_all (t ∷ ts) = ap (λ us. t ∷ us) (take_all ts)

module _ (d : Dict) (ts : List Term) (image : List ℕ) (laid : IsLaidOut d ts image) where
  place_is : (k : ℕ) → k ≤ length ts → record_place d k image ≡ length (records_of (take k ts))
  unfolding record_place
  place_is k le =
      let n = length (records_of (take k ts)) in
      let all = area_bytes (place_area d) image in
      let cut : take 8 (drop (8 * k) all) ≡ take 8 (drop (8 * k) (take (8 * (length ts + 1)) all)) = sym (front_behind 8 (8 * k) (8 * (length ts + 1)) all (omega arith)) in
      let here : take 8 (drop (8 * k) all) ≡ to_be_bytes w64 n =
      cut ∙ ap (λ l. take 8 (drop (8 * k) l)) laid.places ∙ numbered (places_from 0 ts) k (omega (arith, length_places 0 ts)) ∙ ap (to_be_bytes w64) (place_get 0 ts k le ∙ omega arith) in
      ap (from_be_bytes w64) here ∙ from_be_bytes-to_be_bytes_8 n (omega (arith, within ts k, laid.bytes, laid.fits))

  place_sound : (k : ℕ) → k < length ts → part_at (place_area d) (8 * k) 16 image ≡ Ok (part_of (place_area d) (8 * k) 16 image)
  place_sound k lt =
      let numbers : length (flat_map (to_be_bytes w64) (places_from 0 ts)) ≡ 8 * (length ts + 1) = length_numbers (places_from 0 ts) ∙ ap (λ n. 8 * n) (length_places 0 ts) in
      let all = area_within (place_area d) (8 * (length ts + 1)) image (omega arith) (long_enough (8 * (length ts + 1)) (area_bytes (place_area d) image) _ laid.places numbers) in
      sound_part (place_area d) (8 * k) 16 (length image / 4096) image laid.payload (omega arith) (omega (arith, all, lt)) laid.sound

  record_sound : (from n : ℕ) → 0 < n → from + n ≤ length (records_of ts) → part_at (record_area d) from n image ≡ Ok (part_of (record_area d) from n image)
  record_sound from n some le =
      let all = area_within (record_area d) (length (records_of ts)) image (omega arith) (long_enough (length (records_of ts)) (area_bytes (record_area d) image) _ laid.records refl) in
      sound_part (record_area d) from n (length image / 4096) image laid.payload some (omega (arith, all, le)) laid.sound

  record_is : (k : ℕ) (t : Term) → slice_get ts k ≡ Some t → part_of (record_area d) (length (records_of (take k ts))) (length (record_of t)) image ≡ record_of t
  record_is k t at =
      let from = length (records_of (take k ts)) in
      let all = area_bytes (record_area d) image in
      sym (front_behind (length (record_of t)) from (length (records_of ts)) all (omega (arith, next ts k t at, within ts (suc k))))
      ∙ ap (λ l. take (length (record_of t)) (drop from l)) laid.records ∙ record_at ts k t at

  span_is : (k : ℕ) (t : Term) → slice_get ts k ≡ Some t → span_at d k image ≡ Ok (length (records_of (take k ts)), length (records_of (take k ts)) + length (record_of t))
  span_is k t at =
      let from = length (records_of (take k ts)) in
      let end = from + length (record_of t) in
      let first : record_place d k image ≡ from = place_is k (omega (arith, inside ts k t at)) in
      let second : record_place d (k + 1) image ≡ end = ap (λ j. record_place d j image) (omega arith) ∙ place_is (suc k) (omega (arith, inside ts k t at)) ∙ next ts k t at in
      ap (span_from d k) (pair_sound d k image (place_sound k (inside ts k t at)))
      ∙ ap (λ a. span_of d k a (record_place d (k + 1) image)) first ∙ ap (span_of d k from) second
      ∙ span_ok d k from end (λ e. ap (λ j. length (records_of (take j ts))) e) (omega (arith, some_bytes t)) (omega (arith, laid.bytes, next ts k t at, within ts (suc k)))

  each_is : (k : ℕ) (t : Term) → slice_get ts k ≡ Some t → stored_term d k image ≡ Ok t
  each_is k t at =
      let from = length (records_of (take k ts)) in
      let end = from + length (record_of t) in
      let long : end - from ≡ length (record_of t) = omega arith in
      let bytes : part_of (record_area d) from (end - from) image ≡ record_of t = ap (λ n. part_of (record_area d) from n image) long ∙ record_is k t at in
      let sound = record_sound from (end - from) (omega (arith, some_bytes t)) (omega (arith, next ts k t at, within ts (suc k))) in
      ap (λ s. record_in d s image) (span_is k t at) ∙ ap (term_from (block_of (record_area d) from)) sound ∙ ap (λ b. or_blame (block_of (record_area d) from) (term_in b)) bytes ∙ ap (or_blame (block_of (record_area d) from)) (term_back t (laid.each k t at))

  pub laid_out_holds : HoldsTerms d ts image
  laid_out_holds = record { sorted = laid.sorted; terms = laid.terms; each = each_is }

  longest_up_to : (k : ℕ) → k ≤ length ts → longest_to d k image ≡ longest_of (take k ts)
  longest_up_to zero le = refl
  longest_up_to (suc k) le =
      let got = get_within ts k (omega arith) in
      let n : span_length (span_at d k image) ≡ length (record_of got.0) = ap span_length (span_is k got.0 got.1) ∙ omega arith in
      omega (arith, n, longest_up_to k (omega arith), longest_next ts k got.0 got.1)

  pub longest_is : longest_record d image ≡ longest_of ts
  unfolding longest_record
  longest_is = ap (λ k. longest_to d k image) laid.terms ∙ longest_up_to (length ts) (omega arith) ∙ ap longest_of (take_all ts)
