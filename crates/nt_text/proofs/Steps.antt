-- Steps of a reading, fronts of a class, and blanks.
use Rattle.std.proofs.Common.{◌≡◌, ℕ, Bool, true, false, cond, List, [], ◌∷◌, ◌++◌, Option, Some, None, eqb, refl, sym, ap, ◌∙◌}
use Rattle.std.proofs.lemmas.Bool.{eqb-true, and_parts}
use Rattle.std.specs.List.{list_all}
use Rattle.term_core.specs.Characters.{front, after, begins, AreAll}
use Rattle.nt_text.specs.Characters.{is_blank}
use Rattle.nt_text.specs.Reading.{◌>>=◌, expect}
use Rattle.nt_text.specs.Grammar.{IsSpaced}
use Rattle.nt_text.proofs.Cut.{parts}

-- ---- steps of a reading

-- a reading that gives something: what its first step gave, and the next from there
pub bind_some : {A B : Type 0} (r : Option A) (f : A → Option B) (y : B) → (r >>= f) ≡ Some y → (x : A) × (r ≡ Some x) × (f x ≡ Some y)
bind_some (Some x) f y e = (x, refl, e)
bind_some None f y e = absurd cc

-- a test that gives something
pub guard_some : {A : Type 0} (b : Bool) (x y : A) → cond b (Some x) None ≡ Some y → (b ≡ true) × (x ≡ y)
guard_some true x y e = (refl, cc)
guard_some false x y e = absurd cc

-- two somethings that are equal hold equal values
pub some_is : {A : Type 0} (x y : A) → (let r : Option A = Some x in r ≡ Some y) → x ≡ y
some_is x y e = cc

-- a byte that is read stands there
pub expect_is : (b : ℕ) (text rest : List ℕ) → expect b text ≡ Some rest → text ≡ b ∷ rest
expect_is b [] rest e = absurd cc
expect_is b (c ∷ text) rest e =
    let g = guard_some (eqb c b) text rest e in
    let same : c ≡ b = eqb-true c b g.0 in
    cc (same, g.1)

-- ---- fronts of a class

-- the front is of the class
pub passes : (p : ℕ → Bool) (text : List ℕ) → AreAll p (front p text)
passes p [] = refl
passes p (c ∷ text) = elim (p c) as (λ t. p c ≡ t → AreAll p (cond t (c ∷ front p text) [])) [ true ↦ λ e. rw e (passes p text) | false ↦ λ e. refl ] refl

-- what is behind it goes on with none of the class
pub behind_stops : (p : ℕ → Bool) (text : List ℕ) → begins p (after p text) ≡ false
behind_stops p [] = refl
behind_stops p (c ∷ text) = elim (p c) as (λ t. p c ≡ t → begins p (cond t (after p text) (c ∷ text)) ≡ false) [ true ↦ λ e. behind_stops p text | false ↦ λ e. e ] refl

-- a text of the class, before one that begins with none of it, is the front
pub stops : (p : ℕ → Bool) (v rest : List ℕ) → AreAll p v → begins p rest ≡ false → record { front : front p (v ++ rest) ≡ v; after : after p (v ++ rest) ≡ rest }
stops p [] [] all other = record { front = refl; after = refl }
stops p [] (c ∷ rest) all other = record { front = rw other refl; after = rw other refl }
stops p (c ∷ v) rest all other =
    let h = and_parts (p c) (list_all p v) all in
    let more = stops p v rest h.1 other in
    record { front = rw h.0 (ap (λ l. c ∷ l) more.front); after = rw h.0 more.after }

-- ---- blanks

-- skipping the blanks leaves what they stand before
pub spaced_after : (text : List ℕ) → IsSpaced text (after is_blank text)
spaced_after text = record {
  blanks = front is_blank text;
  spelled = sym (parts is_blank text);
  are_blank = passes is_blank text;
  longest = behind_stops is_blank text;
}

-- what is behind blanks is what skipping them leaves
pub skipped : (text rest : List ℕ) → IsSpaced text rest → after is_blank text ≡ rest
skipped text rest space = ap (after is_blank) space.spelled ∙ (stops is_blank space.blanks rest space.are_blank space.longest).after
