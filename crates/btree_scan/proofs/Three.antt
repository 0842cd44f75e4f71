-- Three levels are all.
use Rattle.std.proofs.Common.{◌≡◌, ℕ, zero, suc, ◌+◌, ◌/◌, ◌<◌, ◌≤◌, inl, inr, ◌^◌, Bool, true, false, IsTrue, arith}
use Rattle.sage_outside.specs.Parts.{IsPayload}
use Rattle.btree_scan.specs.declared.tree.Tree.{Tree}
use Rattle.btree_build.specs.Trees.{blocks_for}
use Rattle.btree_scan.specs.Levels.{size_at, first_at, IsLevel, Lies}
use Rattle.btree_scan.proofs.Edges.{top_fits}

few_blocks : (p n : ℕ) → IsPayload p → n ≤ p / 12 → blocks_for (p / 12) n ≤ 1
unfolding blocks_for
few_blocks p n payload few = elim payload.one [ inl e ↦ let i = rw e at few in rw e (omega (arith, i)) | inr e ↦ let i = rw e at few in rw e (omega (arith, i)) ]

wide : (p : ℕ) → IsPayload p → 1 ≤ p / 12
wide p payload = elim payload.one [ inl e ↦ rw e (omega arith) | inr e ↦ rw e (omega arith) ]

pub no_more : (tree : Tree) (l : ℕ) → IsPayload tree.payload → tree.entries ≤ 4194303 → size_at tree (suc (suc (suc l))) ≤ 1
no_more tree zero payload few = few_blocks tree.payload (size_at tree 2) payload (top_fits tree.payload tree.entries payload few)
no_more tree (suc l) payload few = few_blocks tree.payload (size_at tree (suc (suc (suc l)))) payload (omega (arith, no_more tree l payload few, wide tree.payload payload))

module _ (tree : Tree) (count one two three : ℕ) (payload : IsPayload tree.payload) (few : tree.entries ≤ 4194303) (counted : count < 2 ^ 32)
    (is_one : one ≡ size_at tree 1) (is_two : two ≡ size_at tree 2) (is_three : three ≡ size_at tree 3)
    (bottom : tree.first + one ≤ count) (middle : 1 < one → tree.first + one + two ≤ count) (top : 1 < two → tree.first + one + two + three ≤ count) where
  within : (l : ℕ) → IsLevel tree l → first_at tree l + size_at tree (suc l) ≤ count
  within zero level = omega (arith, bottom, is_one)
  within (suc zero) level = omega (arith, middle (omega (arith, level, is_one)), is_one, is_two)
  within (suc (suc zero)) level = omega (arith, top (omega (arith, level, is_two)), is_one, is_two, is_three)
  within (suc (suc (suc l))) level = absurd (omega (arith, level, no_more tree l payload few))

  pub lies_from : Lies tree count
  lies_from = record { payload = payload; few = few; counted = counted; within = within }

pub none_lies : (A : Type 0) → (A → ⊥) → (IsTrue false → A) × (A → IsTrue false)
none_lies A h = (λ f. let e : false ≡ true = f in cc, λ a. absurd (h a))

pub contrary : (b : Bool) → IsTrue b → b ≡ false → ⊥
contrary b t e = let f : b ≡ true = t in cc
