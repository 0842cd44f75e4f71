-- What is kept after a look-up, and after one more block.
use Rattle.std.proofs.Common.{◌≡◌, ℕ, true, Bool, List, false, [], ◌∷◌, is_some, refl, inl, inr, sym, subst, ◌∙◌, nat_eq, Some, None, Option, Result, arith}
use Rattle.std.specs.Map.{lookup, keys_of}
use Rattle.lru.specs.LruCache.{LruCache, promoted, put_entries}
use Rattle.lru.proofs.CallerLemmas.{Contains-promoted, Contains-put_entries, Contains-lookup}
use Rattle.sage_outside.specs.declared.fault.ReadFault.{ReadFault}
use Rattle.sage_outside.specs.Parts.{Reads, part_in, piece_at}
use Rattle.block_cache.specs.declared.kept.Kept.{Kept}
use Rattle.block_cache.specs.Kept.{IsBlockOf, AreBlocksOf, is_held}

pub same_number : (n m : ℕ) → nat_eq n m ≡ true → m ≡ n
same_number n m e = grind (arith)

-- the one that was looked up goes first
pub kept_after : (image : List ℕ) (test : ℕ → Bool) (es : List (ℕ × Kept)) → AreBlocksOf image es → AreBlocksOf image (promoted test es)
kept_after image test es are = record { each = λ n kept has. are.each n kept (Contains-promoted test es (n, kept) has) }

-- one more, which may stand in place of another
pub kept_more : (image : List ℕ) (c : LruCache ℕ Kept) (n : ℕ) (block : Kept) → IsBlockOf image n block → AreBlocksOf image c.entries → AreBlocksOf image (put_entries nat_eq c n block)
kept_more image c n block is are = record {
  each = λ m kept has. elim (Contains-put_entries nat_eq c n block (m, kept) has) [
    | inl before ↦ are.each m kept before
    | inr put ↦ elim put.1 [
      | inl here ↦ subst (λ k. IsBlockOf image k kept) (sym here) (subst (λ b. IsBlockOf image n b) (sym put.0) is)
      | inr there ↦ subst (λ k. IsBlockOf image k kept) (sym (same_number n m there.2)) (subst (λ b. IsBlockOf image n b) (sym put.0) is)
    ]
  ];
}

-- what is looked up is a block of the image
pub kept_here : (image : List ℕ) (n : ℕ) (es : List (ℕ × Kept)) (kept : Kept) → AreBlocksOf image es → lookup (nat_eq n) es ≡ Some kept → IsBlockOf image n kept
kept_here image n es kept are found =
    let at = Contains-lookup (nat_eq n) es kept found in
    subst (λ k. IsBlockOf image k kept) (same_number n at.0 at.2) (are.each at.0 kept at.1)

-- a part of it is a part of the image
pub part_here : (p n from k : ℕ) (image : List ℕ) (kept : Kept) (view : Unit {0} → List ℕ) (r : Result (Unit {0}) ReadFault) → IsBlockOf image n kept
    → Reads view r (part_in p n from k kept.block.value) → Reads view r (piece_at p n from k image)
part_here p n from k image kept view r is reads = subst (λ b. Reads view r (part_in p n from k b)) is.block reads

-- what is held is found
pub found_held : (n : ℕ) (es : List (ℕ × Kept)) → is_held n (keys_of es) ≡ true → is_some (lookup (nat_eq n) es) ≡ true
found_held n [] h = h
found_held n (e ∷ es) h = (elim (nat_eq n e.0) as (λ b. nat_eq n e.0 ≡ b → is_some (lookup (nat_eq n) (e ∷ es)) ≡ true) [
  | true ↦ λ t. rw t refl
  | false ↦ λ t. let i = rw t at h in rw t (found_held n es i)
]) refl

other_way : (r : Bool) → r ≡ true → r ≡ false → ⊥
other_way r e f = cc

-- what was not found is not held
pub missed : (n : ℕ) (es : List (ℕ × Kept)) (keys : List ℕ) (r : Bool) → keys_of es ≡ keys → r ≡ is_some (lookup (nat_eq n) es) → r ≡ false → is_held n keys ≡ true → ⊥
missed n es keys r are is not held = other_way r (is ∙ found_held n es (subst (λ l. is_held n l ≡ true) (sym are) held)) not

pub none_is_false : {T : Type 0} (o : Option T) → ((x : T) → o ≡ Some x → ⊥) → is_some o ≡ false
none_is_false None h = refl
none_is_false (Some x) h = absurd (h x refl)
