-- The dictionary behind an image: the places of its records, and the records, as they are read.
use Rattle.std.specs.Prelude.{◌≡◌, ℕ, zero, suc, ◌+◌, ◌-◌, ◌*◌, ◌^◌, ◌<◌, ◌≤◌, ◌==◌, max, List, take, drop, nat_lt, nat_le, Option, Some, None, Result, Ok, Err, if◌then◌else◌}
use Rattle.std.specs.Int.{w64, from_be_bytes}
use Rattle.sage_outside.specs.declared.fault.StoreFault.{StoreFault}
use Rattle.sage_outside.specs.declared.fault.StoreFault.TheVariants as faults
use Rattle.term_core.specs.declared.term.Term.{Term}
use Rattle.sage_outside.specs.declared.area.Area.{Area}
use Rattle.term_dict.specs.declared.dict.Dict.{Dict}
use Rattle.sage_outside.specs.Parts.{IsPayload}
use Rattle.sage_outside.specs.Areas.{part_of, part_at, block_of, made}
use Rattle.term_dict.specs.Records.{term_in, raw_in}

-- the area of the numbers that tell where records begin
abbrev pub place_area : Dict → Area
place_area d = record { first = d.places; payload = d.payload }

-- the area of the records
abbrev pub record_area : Dict → Area
record_area d = record { first = d.records; payload = d.payload }

-- two numbers, of eight bytes each, the highest first
abbrev pub pair_in : List ℕ → ℕ × ℕ
pair_in bytes = (from_be_bytes w64 (take 8 bytes), from_be_bytes w64 (take 8 (drop 8 bytes)))

-- numbers k and k + 1, where records k and k + 1 begin, or the first of their blocks whose tag does not agree
unfoldable pub pair_at : Dict → ℕ → List ℕ → Result (ℕ × ℕ) ℕ
pair_at d k image = made pair_in (part_at (place_area d) (8 * k) 16 image)

-- number 0 is 0, and each other is within the records' area
abbrev pub limit_of : Dict → ℕ → ℕ
limit_of d k = if k == 0 then 0 else d.bytes

-- where record k begins and ends, or the block of the number that breaks the rule: numbers begin at 0, rise, and
-- end within the records' area
abbrev pub span_of : Dict → ℕ → ℕ → ℕ → Result (ℕ × ℕ) ℕ
span_of d k from end =
    if nat_lt (limit_of d k) from then Err (block_of (place_area d) (8 * k))
    else if nat_le end from then Err (block_of (place_area d) (8 * (k + 1)))
    else if nat_lt d.bytes end then Err (block_of (place_area d) (8 * (k + 1)))
    else Ok (from, end)

-- the same of numbers that were read
abbrev pub span_from : Dict → ℕ → Result (ℕ × ℕ) ℕ → Result (ℕ × ℕ) ℕ
span_from d k (Ok pair) = span_of d k pair.0 pair.1
span_from d k (Err block) = Err block

-- the same of the numbers of an image
abbrev pub span_at : Dict → ℕ → List ℕ → Result (ℕ × ℕ) ℕ
span_at d k image = span_from d k (pair_at d k image)

-- a term, or the block to blame where there is none
abbrev pub or_blame : ℕ → Option Term → Result Term ℕ
or_blame block (Some t) = Ok t
or_blame block None = Err block

-- the term that bytes that were read spell, or the block to blame
abbrev pub term_from : ℕ → Result (List ℕ) ℕ → Result Term ℕ
term_from block (Ok bytes) = or_blame block (term_in bytes)
term_from block (Err broken) = Err broken

-- the term that the record spells, or the first of its blocks whose tag does not agree, else the block in which it begins
abbrev pub record_in : Dict → Result (ℕ × ℕ) ℕ → List ℕ → Result Term ℕ
record_in d (Ok span) image =
    term_from (block_of (record_area d) span.0) (part_at (record_area d) span.0 (span.1 - span.0) image)
record_in d (Err block) image = Err block

-- the term of record k, or the block in which its broken number or record begins, or a block of them whose tag does not agree
abbrev pub stored_term : Dict → ℕ → List ℕ → Result Term ℕ
stored_term d k image = record_in d (span_at d k image) image

-- the texts of record k, whether they are UTF-8 or not, and whether the tags of its blocks agree or not
abbrev pub raw_record_in : Dict → Result (ℕ × ℕ) ℕ → List ℕ → Result Term ℕ
raw_record_in d (Ok span) image =
    or_blame (block_of (record_area d) span.0) (raw_in (part_of (record_area d) span.0 (span.1 - span.0) image))
raw_record_in d (Err block) image = Err block

-- the same of record k, or the block to blame, where it has no place or spells no texts
abbrev pub raw_at : Dict → ℕ → List ℕ → Result Term ℕ
raw_at d k image = raw_record_in d (span_at d k image) image

-- a call gives what reading the image gives, `Damaged` with the block to blame; other refusals say nothing of it
abbrev pub ReadsImage : {X Y : Type 0} → (X → Y) → Result X StoreFault → Result Y ℕ → Type 0
ReadsImage view (Ok x) read = read ≡ Ok (view x)
ReadsImage view (Err (faults.Damaged block)) read = read ≡ Err block
ReadsImage view (Err faults.Blocks) read = Unit {0}
ReadsImage view (Err faults.Memory) read = Unit {0}

-- the bytes between two numbers that are well formed
abbrev pub span_length : Result (ℕ × ℕ) ℕ → ℕ
span_length (Ok span) = span.1 - span.0
span_length (Err block) = 0

-- the bytes of the longest of the first k records
abbrev pub longest_to : Dict → ℕ → List ℕ → ℕ
longest_to d zero image = 0
longest_to d (suc k) image = max (longest_to d k image) (span_length (span_at d k image))

-- the bytes of the longest record of an image, whatever its records spell
unfoldable pub longest_record : Dict → List ℕ → ℕ
longest_record d image = longest_to d d.terms image

-- both areas are within so many blocks, and the payload is whole or leaves 16 bytes to a tag
pub record DictLies (d : Dict) (count : ℕ) : Type 0 where
  pub payload : IsPayload d.payload
  pub places : d.places * d.payload + 8 * (d.terms + 1) ≤ count * d.payload
  pub records : d.records * d.payload + d.bytes ≤ count * d.payload

-- the same, where a number of 32 bits counts the blocks
pub record DictStands (d : Dict) (count : ℕ) : Type 0 where
  pub counted : count < 2 ^ 32
  pub payload : IsPayload d.payload
  pub places : d.places * d.payload + 8 * (d.terms + 1) ≤ count * d.payload
  pub records : d.records * d.payload + d.bytes ≤ count * d.payload
