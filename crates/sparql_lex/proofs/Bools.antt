-- Tests of a character.
use Rattle.std.proofs.Common.{◌≡◌, ◌⊎◌, inl, inr, ℕ, Bool, true, false, List, [], ◌∷◌, ◌++◌, refl, sym, subst, arith}
use Rattle.std.specs.Prelude.{◌==◌, ◌||◌, ◌&&◌}
use Rattle.std.specs.List.{list_all}
use Rattle.std.proofs.lemmas.Bool.Decides.{nat_tests}
use Rattle.term_core.specs.Characters.{is_letter, is_digit, is_pn, is_pn_u, is_pn_base, is_among, AreAll}
use Rattle.term_core.specs.Terminals.{is_word_part, is_local_part, is_query_label_first, is_local_first}

pub both : (a b : Bool) → (a && b) ≡ true → (a ≡ true) × (b ≡ true)
both true b h = (refl, h)
both false b h = absurd (cc)

pub either : (a b : Bool) → (a || b) ≡ true → (a ≡ true) ⊎ (b ≡ true)
either true b h = inl refl
either false b h = inr h

pub holds_left : (a b : Bool) → a ≡ true → (a || b) ≡ true
holds_left true b h = refl
holds_left false b h = absurd (cc)

pub holds_right : (a b : Bool) → b ≡ true → (a || b) ≡ true
holds_right true b h = refl
holds_right false b h = h

pub false_of : (a : Bool) → (a ≡ true → ⊥) → a ≡ false
false_of true h = absurd (h refl)
false_of false h = refl

pub same : (c d : ℕ) → (c == d) ≡ true → c ≡ d
same c d h = grind (arith, nat_tests)

-- a test that fails at a character tells others from it
pub other_than : (p : ℕ → Bool) (c d : ℕ) → p c ≡ true → p d ≡ false → (c == d) ≡ false
other_than p c d h out = false_of (c == d) (λ e. let s : c ≡ d = same c d e in absurd (cc))

pub letter-pn_base : (c : ℕ) → is_letter c ≡ true → is_pn_base c ≡ true
unfolding is_pn_base
letter-pn_base c h = grind (arith, nat_tests)

pub word-pn : (c : ℕ) → is_word_part c ≡ true → is_pn c ≡ true
unfolding is_pn is_pn_u is_pn_base
word-pn c h = grind (arith, nat_tests)

pub letter-word : (c : ℕ) → is_letter c ≡ true → is_word_part c ≡ true
letter-word c h = grind (arith, nat_tests)

pub label_first-local : (c : ℕ) → is_query_label_first c ≡ true → is_local_part c ≡ true
unfolding is_pn
label_first-local c h = grind (arith, nat_tests)

pub label_first-local_first : (c : ℕ) → (is_query_label_first c || (c == 58)) ≡ true → is_local_first c ≡ true
label_first-local_first c h = grind (arith, nat_tests)

-- characters that are in no name
pub pn-dot : is_pn 46 ≡ false
unfolding is_pn is_pn_u is_pn_base
pn-dot = refl

pub pn-colon : is_pn 58 ≡ false
unfolding is_pn is_pn_u is_pn_base
pn-colon = refl

pub pn-percent : is_pn 37 ≡ false
unfolding is_pn is_pn_u is_pn_base
pn-percent = refl

pub pn-backslash : is_pn 92 ≡ false
unfolding is_pn is_pn_u is_pn_base
pn-backslash = refl

pub pn_u-dot : is_pn_u 46 ≡ false
unfolding is_pn_u is_pn_base
pn_u-dot = refl

pub pn_u-percent : is_pn_u 37 ≡ false
unfolding is_pn_u is_pn_base
pn_u-percent = refl

pub pn_u-backslash : is_pn_u 92 ≡ false
unfolding is_pn_u is_pn_base
pn_u-backslash = refl

-- how a local name begins, but for an escape
pub local_first-part : (c : ℕ) → is_local_first c ≡ true → is_local_part c ≡ true → (is_query_label_first c || (c == 58)) ≡ true
local_first-part c h p =
    let no_percent : (c == 37) ≡ false = other_than is_local_part c 37 p (rw pn-percent refl) in
    let no_backslash : (c == 92) ≡ false = other_than is_local_part c 92 p (rw pn-backslash refl) in
    grind (arith, nat_tests, no_percent, no_backslash)

-- a fact of each of the characters
abbrev pub EachOf : (ℕ → Type 0) → List ℕ → Type 0
EachOf P [] = Unit {0}
EachOf P (c ∷ more) = P c × EachOf P more

pub among : (P : ℕ → Type 0) (all : List ℕ) (c : ℕ) → EachOf P all → is_among all c ≡ true → P c
among P [] c each h = absurd (cc)
among P (d ∷ more) c each h = elim (either (c == d) (is_among more c) h) as (λ _. P c)
    [ inl e ↦ subst P (sym (same c d e)) each.0 | inr e ↦ among P more c each.1 e ]

-- all of the class: the first, and the others
pub all-first : (p : ℕ → Bool) (c : ℕ) (text : List ℕ) → AreAll p (c ∷ text) → (p c ≡ true) × AreAll p text
all-first p c text h = both (p c) (list_all p text) h

pub all-one : (p : ℕ → Bool) (c : ℕ) (text : List ℕ) → p c ≡ true → AreAll p text → AreAll p (c ∷ text)
all-one p c text h k = rw (h, k) refl

pub all-append : (p : ℕ → Bool) (a b : List ℕ) → AreAll p a → AreAll p b → AreAll p (a ++ b)
all-append p [] b h k = k
all-append p (c ∷ a) b h k = let f = all-first p c a h in all-one p c (a ++ b) f.0 (all-append p a b f.1 k)

pub digit-no_letter : (c : ℕ) → is_digit c ≡ true → is_letter c ≡ false
digit-no_letter c h = grind (arith, nat_tests)

pub digit-no_pn_base : (c : ℕ) → is_digit c ≡ true → is_pn_base c ≡ false
unfolding is_pn_base
digit-no_pn_base c h = grind (arith, nat_tests)
