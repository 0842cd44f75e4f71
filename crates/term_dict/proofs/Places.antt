-- Two numbers that stand one behind the other.
use Rattle.std.proofs.Common.{◌≡◌, ℕ, ◌+◌, ◌*◌, ◌∙◌, List, take, drop, Ok, Err, arith, ap, sym}
use Rattle.std.specs.Int.{w64, from_be_bytes}
use Rattle.sage_outside.specs.Areas.{part_of, part_at}
use Rattle.sage_outside.proofs.Made.{made_ok, made_err}
use Rattle.sage_outside.proofs.Parts.{part_front, part_behind}
use Rattle.term_dict.specs.declared.dict.Dict.{Dict}
use Rattle.term_dict.specs.Layout.{place_area, pair_in, pair_at}

-- number k, by its bytes alone
unfoldable pub record_place : Dict → ℕ → List ℕ → ℕ
record_place d k image = from_be_bytes w64 (part_of (place_area d) (8 * k) 8 image)

first_place : (d : Dict) (k : ℕ) (image : List ℕ) → from_be_bytes w64 (take 8 (part_of (place_area d) (8 * k) 16 image)) ≡ record_place d k image
unfolding record_place
first_place d k image = ap (from_be_bytes w64) (part_front (place_area d) (8 * k) 8 16 image (omega arith))

second_place : (d : Dict) (k : ℕ) (image : List ℕ) → from_be_bytes w64 (take 8 (drop 8 (part_of (place_area d) (8 * k) 16 image))) ≡ record_place d (k + 1) image
unfolding record_place
second_place d k image =
    ap (from_be_bytes w64) (part_behind (place_area d) (8 * k) 8 8 16 image (omega arith) ∙ ap (λ at. part_of (place_area d) at 8 image) (omega arith))

-- both, where their blocks are sound
pub pair_sound : (d : Dict) (k : ℕ) (image : List ℕ) → part_at (place_area d) (8 * k) 16 image ≡ Ok (part_of (place_area d) (8 * k) 16 image) → pair_at d k image ≡ Ok (record_place d k image, record_place d (k + 1) image)
unfolding pair_at
pair_sound d k image e =
    made_ok pair_in (part_at (place_area d) (8 * k) 16 image) (part_of (place_area d) (8 * k) 16 image) e
    ∙ ap Ok (λ i. (first_place d k image i, second_place d k image i))

-- both, as they were read
pub pair_read : (d : Dict) (k n : ℕ) (image bytes : List ℕ) → n ≡ 16 → part_at (place_area d) (8 * k) n image ≡ Ok bytes → pair_at d k image ≡ Ok (pair_in bytes)
unfolding pair_at
pair_read d k n image bytes is e =
    made_ok pair_in (part_at (place_area d) (8 * k) 16 image) bytes (ap (λ m. part_at (place_area d) (8 * k) m image) (sym is) ∙ e)

pub pair_broken : (d : Dict) (k n : ℕ) (image : List ℕ) (c : ℕ) → n ≡ 16 → part_at (place_area d) (8 * k) n image ≡ Err c → pair_at d k image ≡ Err c
unfolding pair_at
pair_broken d k n image c is e =
    made_err pair_in (part_at (place_area d) (8 * k) 16 image) c (ap (λ m. part_at (place_area d) (8 * k) m image) (sym is) ∙ e)
