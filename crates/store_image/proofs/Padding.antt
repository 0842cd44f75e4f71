-- Bytes with zeros behind them up to the end of a payload.
use Rattle.std.proofs.Common.{◌≡◌, ℕ, ◌+◌, ◌-◌, ◌*◌, ◌/◌, ◌%◌, ◌^◌, ◌<◌, ◌≤◌, inl, inr, ◌++◌, List, length, take, replicate, refl, ap, ◌∙◌, arith, append_assoc, length-append, Bool, true, false}
use Rattle.std.specs.Prelude.{◌==◌, if◌then◌else◌}
use Rattle.std.proofs.lemmas.List.{take_at, length-replicate}
use Rattle.sage_outside.specs.Parts.{IsPayload}
use Rattle.btree_build.specs.Trees.{blocks_for}
use Rattle.store_image.specs.Format.{payload_of, padded}

-- each format has a payload
pub payload_is : (format : ℕ) → IsPayload (payload_of format)
unfolding payload_of
payload_is format = either (format == 1)
  where
    either : (b : Bool) → IsPayload (if b then 4096 else 4080)
    either true = record { one = inl refl }
    either false = record { one = inr refl }

-- the other payload
pub payload_short : (p : ℕ) → IsPayload p → (p ≡ 4096 → ⊥) → p ≡ 4080
payload_short p payload other = elim payload.one [ inl e ↦ absurd (other e) | inr e ↦ e ]

pub gap_whole : (n : ℕ) → 4096 * ((n + 4095) / 4096) - n ≡ 4096 * blocks_for 4096 n - n
unfolding blocks_for
gap_whole n = refl

pub gap_short : (n : ℕ) → 4080 * ((n + 4079) / 4080) - n ≡ 4080 * blocks_for 4080 n - n
unfolding blocks_for
gap_short n = refl

module _ (p : ℕ) (payload : IsPayload p) where
  pub payload_small : p ≤ 4096
  payload_small = elim payload.one [ inl e ↦ rw e (omega arith) | inr e ↦ rw e (omega arith) ]

  pub payload_some : 0 < p
  payload_some = elim payload.one [ inl e ↦ rw e (omega arith) | inr e ↦ rw e (omega arith) ]

  -- payloads have room for the bytes that begin them
  pub room_for : (n : ℕ) → n ≤ p * blocks_for p n
  unfolding blocks_for
  room_for n = elim payload.one [ inl e ↦ rw e (omega arith) | inr e ↦ rw e (omega arith) ]

  whole_times : (n : ℕ) → (p * n) % p ≡ 0
  whole_times n = elim payload.one [ inl e ↦ rw e (omega arith) | inr e ↦ rw e (omega arith) ]

  pub times_over : (n : ℕ) → (p * n) / p ≡ n
  times_over n = elim payload.one [ inl e ↦ rw e (omega arith) | inr e ↦ rw e (omega arith) ]

  pub over_times : (n : ℕ) → n % p ≡ 0 → p * (n / p) ≡ n
  over_times n h = elim payload.one [ inl e ↦ let i = rw e at h in rw e (omega (arith, i)) | inr e ↦ let i = rw e at h in rw e (omega (arith, i)) ]

  gap_behind : (m n : ℕ) → m % p ≡ 0 → p * blocks_for p (m + n) - (m + n) ≡ p * blocks_for p n - n
  unfolding blocks_for
  gap_behind m n h = elim payload.one [ inl e ↦ let i = rw e at h in rw e (omega (arith, i)) | inr e ↦ let i = rw e at h in rw e (omega (arith, i)) ]

  pub length_padded : (bytes : List ℕ) → length (padded p bytes) ≡ p * blocks_for p (length bytes)
  unfolding padded
  length_padded bytes =
      let zeros = p * blocks_for p (length bytes) - length bytes in
      omega (arith, length-append bytes (replicate zeros 0), length-replicate {A = ℕ} zeros 0, room_for (length bytes))

  pub take_padded : (bytes behind : List ℕ) → take (length bytes) (padded p bytes ++ behind) ≡ bytes
  unfolding padded
  take_padded bytes behind =
      let zeros = replicate (p * blocks_for p (length bytes) - length bytes) 0 in
      ap (take (length bytes)) (append_assoc bytes zeros behind) ∙ take_at bytes (zeros ++ behind) (length bytes) refl

  -- what begins with whole payloads keeps these when zeros are put behind all
  pub padded_behind : (front bytes : List ℕ) → length front % p ≡ 0 → padded p (front ++ bytes) ≡ front ++ padded p bytes
  unfolding padded
  padded_behind front bytes whole =
      let m = length front in
      let n = length bytes in
      let long : length (front ++ bytes) ≡ m + n = length-append front bytes in
      let zeros : p * blocks_for p (length (front ++ bytes)) - length (front ++ bytes) ≡ p * blocks_for p n - n =
      ap (λ k. p * blocks_for p k - k) long ∙ gap_behind m n whole in
      ap (λ k. (front ++ bytes) ++ replicate k 0) zeros ∙ append_assoc front bytes (replicate (p * blocks_for p n - n) 0)

-- what is put behind whole payloads and filled up is put as whole payloads
pub padded_put : (p : ℕ) (old bytes mid new : List ℕ) → IsPayload p → length old % p ≡ 0 → mid ≡ old ++ bytes → new ≡ padded p mid → new ≡ old ++ padded p bytes
padded_put p old bytes mid new payload whole put filled = filled ∙ ap (padded p) put ∙ padded_behind p payload old bytes whole

pub whole_padded : (p : ℕ) (bytes new : List ℕ) → IsPayload p → new ≡ padded p bytes → length new % p ≡ 0
whole_padded p bytes new payload e = ap (λ l. length l % p) e ∙ ap (λ n. n % p) (length_padded p payload bytes) ∙ whole_times p payload (blocks_for p (length bytes))

-- the numbers that tell where records begin take few blocks
pub places_few : (p n : ℕ) → IsPayload p → n < 2 ^ 32 → blocks_for p (8 * (n + 1)) < 2 ^ 24
unfolding blocks_for
places_few p n payload few = elim payload.one [ inl e ↦ rw e (omega (arith, few)) | inr e ↦ rw e (omega (arith, few)) ]

-- a level has no more blocks than entries
pub level_few : (p n : ℕ) → IsPayload p → blocks_for (p / 12) n ≤ n
unfolding blocks_for
level_few p n payload = elim payload.one [ inl e ↦ rw e (omega arith) | inr e ↦ rw e (omega arith) ]

-- bytes take few payloads
pub blocks_few : (p n : ℕ) → IsPayload p → blocks_for p n ≤ n / 4080 + 1
unfolding blocks_for
blocks_few p n payload = elim payload.one [ inl e ↦ rw e (omega arith) | inr e ↦ rw e (omega arith) ]

-- so many payloads have a number of bytes that 64 bits count
pub times_small : (p n : ℕ) → IsPayload p → n < 2 ^ 32 → p * n < 2 ^ 64
times_small p n payload few = elim payload.one [ inl e ↦ rw e (omega (arith, few)) | inr e ↦ rw e (omega (arith, few)) ]
