-- What a sink has got.
use Rattle.std.proofs.Common.{◌≡◌, ℕ, List, Some, Result, Ok, Err, inl, inr, sym, subst}
use Rattle.sage_outside.specs.Sink.{Puts, HasSinkCause}
use Rattle.sage.specs.World.{SinkState}
use Rattle.sage.specs.Ending.{Ending, status_of, message_of, HasGot, HasGotPrefix, IsTold, Ends}

-- after a piece was put
pub put_got : {T E : Type 0} (before after : SinkState) (piece text : List ℕ) (r : Result T E) (x : T) → r ≡ Ok x → piece ≡ text → Puts before.written after.written piece r → HasGot before after text
put_got {T} {E} before after piece text r x is same puts = λ old had.
    subst (λ p. Puts {T = T} {E = E} (Some old) after.written p (Ok x)) same (subst (λ o. Puts {T = T} {E = E} o after.written piece (Ok x)) had (subst (Puts {T = T} {E = E} before.written after.written piece) is puts))

-- after a call that failed
pub put_prefix : {T E : Type 0} (before after : SinkState) (piece text : List ℕ) (r : Result T E) (e : E) → r ≡ Err e → piece ≡ text → Puts before.written after.written piece r → HasGotPrefix before after text
put_prefix {T} {E} before after piece text r e is same puts = λ old had.
    let put : Puts {T = T} {E = E} (Some old) after.written text (Err e) =
    subst (λ p. Puts {T = T} {E = E} (Some old) after.written p (Err e)) same (subst (λ o. Puts {T = T} {E = E} o after.written piece (Err e)) had (subst (Puts {T = T} {E = E} before.written after.written piece) is puts)) in
    (put.0, put.2)

-- whatever came of it
pub put_told : (T E : Type 0) (before after : SinkState) (piece : List ℕ) (r : Result T E) → Puts before.written after.written piece r → HasSinkCause before.faults after.faults r → IsTold before after piece
put_told T E before after piece (Ok x) puts cause = inl (λ old had. subst (λ o. Puts {T = T} {E = E} o after.written piece (Ok x)) had puts)
put_told T E before after piece (Err e) puts cause = inr (
  cause.failed,
  λ old had. (let put : Puts {T = T} {E = E} (Some old) after.written piece (Err e) = subst (λ o. Puts {T = T} {E = E} o after.written piece (Err e)) had puts in (put.0, put.2)),
)

-- the ending of a status and a message
pub ended_so : (ended ending : Ending) (before after : SinkState) (message : List ℕ) (status : ℕ) → ended ≡ ending → status ≡ status_of ending → message ≡ message_of ending → IsTold before after message → Ends ended before after status
ended_so ended ending before after message status is status_is message_is told =
    subst (λ e. Ends e before after status) (sym is) (inl (record { status_is = status_is; told = subst (IsTold before after) message_is told }))
