-- Names and their last places.
use Rattle.std.proofs.Common.{◌≡◌, ◌≤◌, ◌++◌, ◌∷◌, [], ℕ, zero, suc, Bool, true, false, cond, List, Option, Some, None, length, drop, refl, sym, ap, ◌∙◌, arith}
use Rattle.std.specs.Prelude.{if◌then◌else◌, ◌||◌, nat_le}
use Rattle.std.specs.Str.{bytes_eq}
use Rattle.std.proofs.Math.Dec.{leb-zero, leb-suc-suc, leb-suc-zero}
use Rattle.std.proofs.lemmas.Map.Text.{is_eq-slice_cmp}
use Rattle.std.proofs.lemmas.Slice.Eq.{bytes_eq-Decides}
use Rattle.term_core.specs.Mappings.{Name, has_name, same_name}
use Rattle.sparql_scope.specs.Places.{place_behind, last_place}

behind : (b here : Bool) (n : ℕ) (o : Option ℕ) → place_behind (if b then Some n else o) here ≡ (if b then Some (suc n) else place_behind o here)
behind true here n o = refl
behind false here n o = refl

pub last_added : (names : List Name) (name text : Name) → last_place (names ++ name ∷ []) text ≡ (if same_name text name then Some (length names) else last_place names text)
last_added [] name text = refl
last_added (x ∷ names) name text =
    ap (λ o. place_behind o (same_name text x)) (last_added names name text) ∙ behind (same_name text name) (same_name text x) (length names) (last_place names text)

same_tests : (a b : Bool) → (a ≡ true → b ≡ true) → (b ≡ true → a ≡ true) → a ≡ b
same_tests true true h k = refl
same_tests true false h k = sym (h refl)
same_tests false true h k = k refl
same_tests false false h k = refl

-- equal bytes, whichever stand first
pub key_is : (key text : Name) → bytes_eq key text ≡ same_name text key
key_is key text =
    same_tests _ _ (λ h. (bytes_eq-Decides text key).1 (sym ((bytes_eq-Decides key text).0 h))) (λ h. (bytes_eq-Decides key text).1 (sym ((bytes_eq-Decides text key).0 h)))
    ∙ sym (is_eq-slice_cmp text key)

-- a map that was updated by one more name has the last places
pub updated : (old : Name → Option ℕ) (key name text : Name) (names : List Name) (count : ℕ) (now : Option ℕ) → key ≡ name → count ≡ length names
    → ((t : Name) → old t ≡ last_place names t) → now ≡ cond (bytes_eq key text) (Some count) (old text) → now ≡ last_place (names ++ name ∷ []) text
updated old key name text names count now same counted was is =
    is
    ∙ ap (λ b. if b then Some count else old text) (key_is key text ∙ ap (same_name text) same)
    ∙ ap (λ n. if same_name text name then Some n else old text) counted
    ∙ ap (λ o. if same_name text name then Some (length names) else o) (was text)
    ∙ sym (last_added names name text)

-- a place that is this one or behind it
abbrev pub is_within : ℕ → Option ℕ → Bool
is_within start None = false
is_within start (Some at) = nat_le start at

or_true : (b : Bool) → true ≡ (b || true)
or_true true = refl
or_true false = refl

from_first : (o : Option ℕ) (here rest : Bool) → is_within zero o ≡ rest → is_within zero (place_behind o here) ≡ (here || rest)
from_first (Some at) here rest e = leb-zero (suc at) ∙ (or_true here ∙ ap (λ b. here || b) (sym (leb-zero at) ∙ e))
from_first None true rest e = leb-zero 0
from_first None false rest e = e

from_next : (start : ℕ) (o : Option ℕ) (here : Bool) → is_within (suc start) (place_behind o here) ≡ is_within start o
from_next start (Some at) here = leb-suc-suc start at
from_next start None true = leb-suc-zero start
from_next start None false = refl

-- a name whose last place is this one or behind it stands among those from there on
pub is_from_on : (start : ℕ) (names : List Name) (name : Name) → start ≤ length names → is_within start (last_place names name) ≡ has_name (drop start names) name
is_from_on zero [] name h = refl
is_from_on zero (x ∷ names) name h = from_first (last_place names name) (same_name name x) (has_name names name) (is_from_on zero names name (omega arith))
is_from_on (suc start) [] name h = refl
is_from_on (suc start) (x ∷ names) name h = from_next start (last_place names name) (same_name name x) ∙ is_from_on start names name (omega (arith, h))
