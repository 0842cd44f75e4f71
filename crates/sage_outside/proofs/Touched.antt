-- How many blocks parts of a record touch.
use Rattle.std.proofs.Common.{◌≡◌, ℕ, zero, suc, ◌+◌, ◌-◌, ◌*◌, ◌/◌, ◌%◌, ◌<◌, ◌≤◌, min, inl, inr, arith}
use Rattle.sage_outside.specs.Parts.{IsPayload}
use Rattle.sage_outside.specs.Areas.{touched}

whole_touched : (at n : ℕ) → touched 4096 at n ≤ (at % 4096 + n + 4095) / 4096
whole_touched at zero = omega arith
whole_touched at (suc n) = omega arith

tagged_touched : (at n : ℕ) → touched 4080 at n ≤ (at % 4080 + n + 4079) / 4080
tagged_touched at zero = omega arith
tagged_touched at (suc n) = omega arith

-- the front of a record touches at most two
pub front_touched : (p at near count : ℕ) → IsPayload p → near ≡ min (2 * p - at % p) count → touched p at near ≤ 2
front_touched p at near count payload is = elim payload.one [
  | inl e ↦ let i = rw e at is in rw e (omega (arith, i, whole_touched at near))
  | inr e ↦ let i = rw e at is in rw e (omega (arith, i, tagged_touched at near))
]

-- what is behind the front touches no more than the record's bytes fill
pub rest_touched : (p at near count : ℕ) → IsPayload p → near ≡ min (2 * p - at % p) count → near < count → touched p (at + near) (count - near) ≤ count / 4080
rest_touched p at near count payload is lt = elim payload.one [
  | inl e ↦ let i = rw e at is in rw e (omega (arith, i, whole_touched (at + near) (count - near)))
  | inr e ↦ let i = rw e at is in rw e (omega (arith, i, tagged_touched (at + near) (count - near)))
]
