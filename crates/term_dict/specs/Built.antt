-- The places and records of a list of terms, and an image that has them.
use Rattle.std.specs.Prelude.{◌≡◌, ℕ, ◌+◌, ◌*◌, ◌/◌, ◌<◌, ◌≤◌, ◌^◌, max, true, List, [], ◌∷◌, length, take, Some, slice_get, flat_map, IsUtf8}
use Rattle.std.specs.Int.{w64, to_be_bytes}
use Rattle.std.specs.List.Sorted.{IsStrictlySortedBy}
use Rattle.term_core.specs.declared.term.Term.{Term}
use Rattle.term_core.specs.Order.{term_cmp, text_of, datatype_of, lang_of, size_of}
use Rattle.term_dict.specs.declared.dict.Dict.{Dict}
use Rattle.sage_outside.specs.Blocks.{block_at}
use Rattle.sage_outside.specs.Parts.{IsPayload, is_sound}
use Rattle.sage_outside.specs.Areas.{area_bytes}
use Rattle.term_dict.specs.Layout.{place_area, record_area}
use Rattle.term_dict.specs.Records.{record_of}

-- the records, one after the other
abbrev pub records_of : List Term → List ℕ
records_of ts = flat_map record_of ts

-- where each record begins, and where the last ends
abbrev pub places_from : ℕ → List Term → List ℕ
places_from n [] = n ∷ []
places_from n (t ∷ ts) = n ∷ places_from (n + length (record_of t)) ts

-- the bytes of the longest record
abbrev pub longest_of : List Term → ℕ
longest_of [] = 0
longest_of (t ∷ ts) = max (length (record_of t)) (longest_of ts)

-- three texts in UTF-8 (RFC 3629), of which four bytes count the two before the last
pub record IsText (t : Term) : Type 0 where
  pub text : IsUtf8 (text_of t)
  pub datatype : IsUtf8 (datatype_of t)
  pub lang : IsUtf8 (lang_of t)
  pub datatype_short : length (datatype_of t) < 2 ^ 32
  pub lang_short : length (lang_of t) < 2 ^ 32

-- each of the terms is so
abbrev pub AreTexts : List Term → Type 0
AreTexts ts = (k : ℕ) (t : Term) → slice_get ts k ≡ Some t → IsText t

-- each of the terms is within the limit of one
abbrev pub AreShort : List Term → Type 0
AreShort ts = (k : ℕ) (t : Term) → slice_get ts k ≡ Some t → size_of t ≤ 262144

-- the image has the places and the records of these terms, in their order, at the beginnings of its two areas, and the
-- tags of its blocks agree
pub record IsLaidOut (d : Dict) (ts : List Term) (image : List ℕ) : Type 0 where
  pub sorted : IsStrictlySortedBy term_cmp ts
  pub terms : d.terms ≡ length ts
  pub bytes : length (records_of ts) ≤ d.bytes
  pub fits : d.bytes < 2 ^ 64
  pub payload : IsPayload d.payload
  pub sound : (n : ℕ) → n < length image / 4096 → is_sound d.payload n (block_at n image) ≡ true
  pub places : take (8 * (length ts + 1)) (area_bytes (place_area d) image)
      ≡ flat_map (to_be_bytes w64) (places_from 0 ts)
  pub records : take (length (records_of ts)) (area_bytes (record_area d) image) ≡ records_of ts
  pub each : AreTexts ts
