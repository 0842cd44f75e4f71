-- Labels and their numbers in a map.
use Rattle.std.proofs.Common.{◌≡◌, ℕ, Bool, true, false, cond, Option, Some, None, refl, ap, ◌∙◌}
use Rattle.std.specs.Prelude.{if◌then◌else◌}
use Rattle.std.specs.Str.{bytes_eq}
use Rattle.term_core.specs.Mappings.{Name, same_name}
use Rattle.term_core.proofs.Merges.{names_same}
use Rattle.sparql_scope.specs.Numbers.{numbered}
use Rattle.sparql_scope.proofs.Placed.{key_is}

-- a label that has a number changes nothing
stays : (o : Option ℕ) (here : Bool) (current : ℕ) → (here ≡ true → (number : ℕ) × (o ≡ Some number)) → o ≡ numbered here current o
stays (Some n) here current h = refl
stays None true current h = absurd (cc (h refl).1)
stays None false current h = refl

pub number_stays : (numbers : Name → Option ℕ) (label name : Name) (current number : ℕ) → numbers label ≡ Some number → numbers name ≡ numbered (same_name name label) current (numbers name)
number_stays numbers label name current number e =
    stays (numbers name) (same_name name label) current (λ same. (number, ap numbers (names_same name label same) ∙ e))

-- one that has none gets this
gets : (o : Option ℕ) (here : Bool) (current : ℕ) → (here ≡ true → o ≡ None) → (if here then Some current else o) ≡ numbered here current o
gets (Some n) true current h = absurd (cc (h refl))
gets (Some n) false current h = refl
gets None here current h = refl

pub number_gets : (old : Name → Option ℕ) (key label name : Name) (current : ℕ) (now : Option ℕ) → key ≡ label → old label ≡ None
    → now ≡ cond (bytes_eq key name) (Some current) (old name) → now ≡ numbered (same_name name label) current (old name)
number_gets old key label name current now same none is =
    is
    ∙ (ap (λ b. if b then Some current else old name) (key_is key name ∙ ap (same_name name) same)
    ∙ gets (old name) (same_name name label) current (λ here. ap old (names_same name label here) ∙ none))
