-- What a link tells of its servers, and what an exchange answers.
use Rattle.std.specs.Prelude.{◌≡◌, ℕ, ◌+◌, ◌≤◌, ◌⊎◌, cond, nat_lt, IsTrue, IsSome, List, length, slice_get, Option, Some, None, Result, Ok, Err, IfSome}
use Rattle.std.specs.Bool.{OnTrue, OnFalse}
use Rattle.std.specs.declared.vec.Vec.{Vec}
use Rattle.std.specs.declared.alloc.Global.{Global}
use Rattle.sage_outside.specs.declared.link.LinkFault.{LinkFault}
use Rattle.sage_outside.specs.declared.link.LinkFault.TheVariants.{Failed, Memory}
use Rattle.sage_outside.specs.Causes.{Rose, counted}
use Rattle.sage_outside.specs.Replies.{is_server_error, is_unavailable}

-- a data set, as its sorted lines of N-Triples
abbrev pub Data : Type 0
Data = List (List ℕ)

-- the quanta of a link's exchanges one after the other, the place of the next, the exchanges so far
pub record Turn : Type 0 where
  pub quanta : List ℕ
  pub place : ℕ
  pub exchanges : ℕ

-- after an exchange, whatever it answered: the next place, after the last again the first
abbrev pub next_turn : Turn → Turn
next_turn t =
    let next : ℕ = cond (nat_lt (t.place + 1) (length t.quanta)) (t.place + 1) 0 in
    record { quanta = t.quanta; place = next; exchanges = counted t.exchanges }

-- a quantum that an exchange may have: from 1 to 10,000 steps, and that of the turn where it is told
pub record MayHave (turn : Option Turn) (quantum : ℕ) : Type 0 where
  pub least : 1 ≤ quantum
  pub most : quantum ≤ 10000
  pub told : IfSome turn (λ t. slice_get t.quanta t.place ≡ Some quantum)

-- the count of faults does not fall, and `Failed` comes only where it rose
pub record HasLinkCause {T : Type 0} (before now : ℕ) (result : Result T LinkFault) : Type 0 where
  pub later : before ≤ now
  pub failed : result ≡ Err Failed → Rose before now

-- a reply over data: one that they give for a quantum, a 503 reply, or a 500 reply where the count
-- of faults rose
abbrev pub RepliesOver : (Data → ℕ → List ℕ → List ℕ → Type 0) → Data → Option Turn
    → List ℕ → ℕ → ℕ → List ℕ → Type 0
RepliesOver may_reply data_set turn request before now reply =
    ((quantum : ℕ) × MayHave turn quantum × may_reply data_set quantum request reply)
    ⊎ IsTrue (is_unavailable reply) ⊎ (IsTrue (is_server_error reply) × Rose before now)

-- failures in a row: `Failed` and a 500 reply count, `Memory` leaves them, another reply ends them
abbrev pub streak_after : Result (Vec ℕ Global) LinkFault → ℕ → ℕ
streak_after (Ok reply) streak = cond (is_server_error reply.items) (counted streak) 0
streak_after (Err Failed) streak = counted streak
streak_after (Err Memory) streak = streak

-- the told number of 503 replies does not fall, and such a reply comes only where it rose
abbrev pub CountsScarce : Option ℕ → Option ℕ → Result (Vec ℕ Global) LinkFault → Type 0
CountsScarce None new result = new ≡ None
CountsScarce (Some before) new (Ok reply) = (now : ℕ) × (new ≡ Some now) × (before ≤ now)
    × OnTrue (is_unavailable reply.items) (Rose before now)
CountsScarce (Some before) new (Err fault) = (now : ℕ) × (new ≡ Some now) × (before ≤ now)

-- after a reply that is no 500 one a telling link tells this request; else nothing is said of it
abbrev pub Asks : {E : Type 0} → Option (Option (List ℕ)) → Option (Option (List ℕ)) → List ℕ
    → Result (Vec ℕ Global) E → Type 0
Asks None new request result = new ≡ None
Asks (Some old) new request (Ok reply) = IsSome new
    × OnFalse (is_server_error reply.items) (new ≡ Some (Some request))
Asks (Some old) new request (Err fault) = IsSome new
