-- States are read from their bytes, and from no others.
use Rattle.std.proofs.Common.{◌≡◌, ℕ, zero, suc, ◌^◌, ◌<◌, List, [], ◌∷◌, ◌++◌, Option, Some, None, refl, sym, ap, ◌∙◌, arith, get_or, subst}
use Rattle.std.specs.Prelude.{option_map}
use Rattle.std.specs.Int.{w32, from_be_bytes}
use Rattle.std.proofs.lemmas.Nat.{from_be_bytes-to_be_bytes_4, be_bytes_4}
use Rattle.term_core.specs.declared.pattern.IdTriple.{IdTriple}
use Rattle.term_core.proofs.Merges.{Some_same}
use Rattle.plan_tree.specs.States.{State}
use Rattle.term_core.specs.Ids.{number_bytes, ids_bytes}
use Rattle.plan_tree.specs.Spelling.{state_bytes}
use Rattle.plan_tree.specs.OnePattern.{fresh_state, opened_state, closing_state}
use Rattle.pattern_page.specs.declared.state.State as code
use Rattle.pattern_page.specs.declared.state.State.TheVariants as states
use Rattle.pattern_page.specs.StateReading.{at_state, state_of, state_number, last_at, second_at, first_at, ids_at, inner_at, placed_at, state_at, AreSmall, AreBytes, IsSmallState, StatesAreRead}

-- written and read again
number_again : (n : ℕ) (rest : List ℕ) → n < 2 ^ 32 → state_number (number_bytes n ++ rest) ≡ Some (n, rest)
number_again n rest h = λ i. Some (from_be_bytes-to_be_bytes_4 n h i, rest)

number_alone : (n : ℕ) → n < 2 ^ 32 → state_number (number_bytes n) ≡ Some (n, [])
number_alone n h = λ i. Some (from_be_bytes-to_be_bytes_4 n h i, [])

pub ids_again : (ids : IdTriple) → AreSmall ids → ids_at (ids_bytes ids) ≡ Some ids
ids_again ids h =
    ap first_at (number_again ids.s (number_bytes ids.p ++ number_bytes ids.o) h.s)
    ∙ ap (second_at ids.s) (number_again ids.p (number_bytes ids.o) h.p)
    ∙ ap (last_at ids.s ids.p) (number_alone ids.o h.o)

pub state_again : (state : code.State) → IsSmallState state → state_at (state_bytes (state_of state)) ≡ Some (state_of state)
state_again states.Fresh h = refl
state_again states.Opened h = refl
state_again (states.At ids) h = ap (option_map at_state) (ids_again ids h)
state_again states.Closing h = refl

-- read and written again
four_bytes : (a b c d : ℕ) (rest : List ℕ) → AreBytes (a ∷ b ∷ c ∷ d ∷ rest) → (i : ℕ) → get_or (a ∷ b ∷ c ∷ d ∷ []) i 0 < 256
four_bytes a b c d rest h zero = h 0
four_bytes a b c d rest h (suc zero) = h 1
four_bytes a b c d rest h (suc (suc zero)) = h 2
four_bytes a b c d rest h (suc (suc (suc zero))) = h 3
four_bytes a b c d rest h (suc (suc (suc (suc i)))) = omega arith

record IsNumber (bytes : List ℕ) (n : ℕ) (rest : List ℕ) : Type 0 where
  is : bytes ≡ number_bytes n ++ rest
  more : AreBytes rest

number_only : (bytes : List ℕ) (n : ℕ) (rest : List ℕ) → AreBytes bytes → state_number bytes ≡ Some (n, rest) → IsNumber bytes n rest
number_only [] n rest h e = cc
number_only (a ∷ []) n rest h e = cc
number_only (a ∷ b ∷ []) n rest h e = cc
number_only (a ∷ b ∷ c ∷ []) n rest h e = cc
number_only (a ∷ b ∷ c ∷ d ∷ others) n rest h e =
    let bytes : List ℕ = a ∷ b ∷ c ∷ d ∷ [] in
    let both : (from_be_bytes w32 bytes, others) ≡ (n, rest) = Some_same (from_be_bytes w32 bytes, others) (n, rest) e in
    let number : n ≡ from_be_bytes w32 bytes = sym (ap (λ (w : ℕ × List ℕ). w.0) both) in
    let same : others ≡ rest = ap (λ (w : ℕ × List ℕ). w.1) both in
    let spelled : number_bytes n ≡ bytes = be_bytes_4 bytes n refl (four_bytes a b c d others h) number in
    record {
      is = ap (λ w. w ++ others) (sym spelled) ∙ ap (λ w. number_bytes n ++ w) same;
      more = subst (λ w. AreBytes w) same (λ i. h (suc (suc (suc (suc i)))));
    }

record IsLast (bytes : List ℕ) (s p : ℕ) (ids : IdTriple) : Type 0 where
  is : bytes ≡ number_bytes ids.o
  first : s ≡ ids.s
  second : p ≡ ids.p

from_last : (bytes : List ℕ) (s p : ℕ) (found : Option (ℕ × List ℕ)) (ids : IdTriple) → AreBytes bytes → state_number bytes ≡ found → last_at s p found ≡ Some ids → IsLast bytes s p ids
from_last bytes s p None ids h f e = cc
from_last bytes s p (Some (o, x ∷ rest)) ids h f e = cc
from_last bytes s p (Some (o, [])) ids h f e =
    let same : record { s = s; p = p; o = o } ≡ ids = Some_same (record { s = s; p = p; o = o }) ids e in
    let r = number_only bytes o [] h f in
    record {
      is = r.is ∙ ap (λ (w : IdTriple). number_bytes w.o ++ []) same;
      first = ap (λ (w : IdTriple). w.s) same;
      second = ap (λ (w : IdTriple). w.p) same;
    }

record IsSecond (bytes : List ℕ) (s : ℕ) (ids : IdTriple) : Type 0 where
  is : bytes ≡ number_bytes ids.p ++ number_bytes ids.o
  first : s ≡ ids.s

from_second : (bytes : List ℕ) (s : ℕ) (found : Option (ℕ × List ℕ)) (ids : IdTriple) → AreBytes bytes → state_number bytes ≡ found → second_at s found ≡ Some ids → IsSecond bytes s ids
from_second bytes s None ids h f e = cc
from_second bytes s (Some (p, rest)) ids h f e =
    let r = number_only bytes p rest h f in
    let l = from_last rest s p (state_number rest) ids r.more refl e in
    record { is = r.is ∙ ap (λ w. number_bytes p ++ w) l.is ∙ ap (λ w. number_bytes w ++ number_bytes ids.o) l.second; first = l.first }

from_first : (bytes : List ℕ) (found : Option (ℕ × List ℕ)) (ids : IdTriple) → AreBytes bytes → state_number bytes ≡ found → first_at found ≡ Some ids → bytes ≡ ids_bytes ids
from_first bytes None ids h f e = cc
from_first bytes (Some (s, rest)) ids h f e =
    let r = number_only bytes s rest h f in
    let l = from_second rest s (state_number rest) ids r.more refl e in
    r.is ∙ ap (λ w. number_bytes s ++ w) l.is ∙ ap (λ w. number_bytes w ++ (number_bytes ids.p ++ number_bytes ids.o)) l.first

from_ids : (bytes : List ℕ) (found : Option IdTriple) (state : State) → AreBytes bytes → ids_at bytes ≡ found → option_map at_state found ≡ Some state
    → 2 ∷ 1 ∷ (number_bytes 1 ++ 2 ∷ bytes) ≡ state_bytes state
from_ids bytes None state h f e = cc
from_ids bytes (Some ids) state h f e =
    ap (λ w. 2 ∷ 1 ∷ (number_bytes 1 ++ 2 ∷ w)) (from_first bytes (state_number bytes) ids h refl f) ∙ ap state_bytes (Some_same (at_state ids) state e)

inner_only : (place : ℕ) (bytes : List ℕ) (state : State) → AreBytes bytes → inner_at place bytes ≡ Some state → 2 ∷ 1 ∷ (number_bytes place ++ bytes) ≡ state_bytes state
inner_only zero [] state h e = cc
inner_only zero (zero ∷ []) state h e = ap state_bytes (Some_same fresh_state state e)
inner_only zero (zero ∷ x ∷ bytes) state h e = cc
inner_only zero (suc n ∷ bytes) state h e = cc
inner_only (suc zero) [] state h e = cc
inner_only (suc zero) (zero ∷ []) state h e = ap state_bytes (Some_same closing_state state e)
inner_only (suc zero) (zero ∷ x ∷ bytes) state h e = cc
inner_only (suc zero) (suc zero ∷ []) state h e = ap state_bytes (Some_same opened_state state e)
inner_only (suc zero) (suc zero ∷ x ∷ bytes) state h e = cc
inner_only (suc zero) (suc (suc zero) ∷ bytes) state h e = from_ids bytes (ids_at bytes) state (λ i. h (suc i)) refl e
inner_only (suc zero) (suc (suc (suc n)) ∷ bytes) state h e = cc
inner_only (suc (suc n)) bytes state h e = cc

placed_only : (bytes : List ℕ) (found : Option (ℕ × List ℕ)) (state : State) → AreBytes bytes → state_number bytes ≡ found → placed_at found ≡ Some state → 2 ∷ 1 ∷ bytes ≡ state_bytes state
placed_only bytes None state h f e = cc
placed_only bytes (Some (place, rest)) state h f e =
    let r = number_only bytes place rest h f in
    ap (λ w. 2 ∷ 1 ∷ w) r.is ∙ inner_only place rest state r.more e

pub state_only : (bytes : List ℕ) (state : State) → AreBytes bytes → state_at bytes ≡ Some state → bytes ≡ state_bytes state
state_only [] state h e = cc
state_only (zero ∷ bytes) state h e = cc
state_only (suc zero ∷ bytes) state h e = cc
state_only (suc (suc (suc n)) ∷ bytes) state h e = cc
state_only (suc (suc zero) ∷ []) state h e = cc
state_only (suc (suc zero) ∷ zero ∷ bytes) state h e = cc
state_only (suc (suc zero) ∷ suc (suc n) ∷ bytes) state h e = cc
state_only (suc (suc zero) ∷ suc zero ∷ bytes) state h e = placed_only bytes (state_number bytes) state (λ i. h (suc (suc i))) refl e

pub are_read : StatesAreRead
are_read = record { again = state_again; only = state_only }
