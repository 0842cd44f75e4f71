-- A head and a body that were taken are what the whole comes to.
use Rattle.std.proofs.Common.{◌≡◌, ℕ, ◌+◌, ◌-◌, ◌<◌, ◌≤◌, List, [], ◌∷◌, ◌++◌, length, take, drop, Bool, true, false, cond, not, Option, Some, None, Result, Ok, Err, IfOk, IsOk, inl, inr, refl, sym, ap, subst, ◌∙◌, arith, append_assoc, length-append, append-nil, codes}
use Rattle.std.specs.Prelude.{◌⊎◌}
use Rattle.std.specs.List.{slice_range}
use Rattle.std.specs.Str.{bytes_eq}
use Rattle.std.proofs.lemmas.List.{take-append-le}
use Rattle.std.proofs.lemmas.Slice.Eq.{bytes_eq-Decides}
use Rattle.httparse.specs.Grammar.{RequestHead, print_request, ReadsRequest}
use Rattle.httparse.proofs.GrammarLemmas.{ReadsRequest-append, request_unique}
use Rattle.http_core.specs.Heads.{Gave, BeginsWith, HasHead, HasNoHead}
use Rattle.http_core.specs.PageRequests.{Verdict, refuse, await, verdict_of, request, refused, outcome_behind, ComesTo, interim}
use Rattle.http_core.specs.Views.{IsTaken, UnlessStopped, WritesInterim}
use Rattle.http_core.specs.declared.request.HttpRequest.{HttpRequest}
use Rattle.http_core.specs.declared.request.HttpRefusal.{HttpRefusal}
use Rattle.http_core.specs.declared.request.HttpRefusal.TheVariants.{Status, Conn, Memory}

drop_front : (p xs : List ℕ) → drop (length p) (p ++ xs) ≡ xs
drop_front [] xs = refl
drop_front (x ∷ p) xs = drop_front p xs

-- a head stays where bytes follow
pub begins_later : (buf more : List ℕ) (head : RequestHead) (rest : List ℕ) → BeginsWith buf head rest → BeginsWith (buf ++ more) head (rest ++ more)
begins_later buf more head rest begins = record {
  reads = ReadsRequest-append buf head rest more begins.reads;
  short = begins.short;
  few = begins.few;
}

unless : (b : Bool) (other verdict : Verdict) (size : ℕ) (expects : Bool) (code : ℕ) (name : List ℕ) → other ≡ refuse code name
    → cond (not b) other verdict ≡ await size expects → b ≡ true
unless true other verdict size expects code name is answer = refl
unless false other verdict size expects code name is answer = absurd (let q = sym is ∙ answer in cc)

-- a head that awaits a body has the target of pages
target_is : (head : RequestHead) (size : ℕ) (expects : Bool) → verdict_of head ≡ await size expects → head.target ≡ codes "/page"
target_is head size expects answer =
    (bytes_eq-Decides head.target (codes "/page")).0 (unless (bytes_eq head.target (codes "/page")) _ _ size expects 404 (codes "Path") refl answer)

body_is : (buf piece more : List ℕ) (head : RequestHead) (first : List ℕ) (size : ℕ) → ReadsRequest buf head first
    → length (print_request head) + size ≤ length (buf ++ piece)
    → (size ≤ length (first ++ (piece ++ more)))
    × (slice_range (buf ++ piece) (length (print_request head)) (length (print_request head) + size) ≡ take size (first ++ (piece ++ more)))
body_is buf piece more head first size reads fits =
    let p = print_request head in
    let whole : buf ++ piece ≡ p ++ (first ++ piece) = ap (λ xs. xs ++ piece) reads.1 ∙ append_assoc p first piece in
    let room : size ≤ length (first ++ piece) = omega (arith, fits, ap length whole, length-append p (first ++ piece)) in
    let less : (length p + size) - length p ≡ size = omega arith in
    let longer : first ++ (piece ++ more) ≡ (first ++ piece) ++ more = sym (append_assoc first piece more) in (
      omega (arith, room, ap length longer, length-append (first ++ piece) more),
      ap (λ xs. slice_range xs (length p) (length p + size)) whole ∙ ap (λ k. take k (drop (length p) (p ++ (first ++ piece)))) less ∙ ap (take size) (drop_front p (first ++ piece))
          ∙ sym (ap (take size) longer ∙ take-append-le size (first ++ piece) more room),
    )

whole_outcome : (target : List ℕ) (verdict : Verdict) (size : ℕ) (expects : Bool) (rest : List ℕ) → verdict ≡ await size expects
    → size ≤ length rest → outcome_behind target verdict rest ≡ request target (take size rest)
whole_outcome target verdict size expects rest is fits = rw is (grind (arith, fits))

cut_outcome : (target : List ℕ) (verdict : Verdict) (size : ℕ) (expects : Bool) (rest : List ℕ) → verdict ≡ await size expects
    → length rest < size → outcome_behind target verdict rest ≡ refused 400 (codes "Head")
cut_outcome target verdict size expects rest is short = rw is (grind (arith, short))

-- a head with its whole body
pub taken_whole : (buf piece more rest : List ℕ) (head : RequestHead) (first : List ℕ) (from size : ℕ) (expects : Bool) (res : Result HttpRequest HttpRefusal)
    → BeginsWith buf head first → verdict_of head ≡ await size expects → from ≡ length (print_request head) → rest ≡ piece ++ more
    → from + size ≤ length (buf ++ piece)
    → IfOk res (λ r. r.body ≡ slice_range (buf ++ piece) from (from + size)) → IfOk res (λ r. r.path ≡ codes "/page")
    → (res ≡ Err Memory) ⊎ IsOk res → IsTaken (buf ++ rest) res
taken_whole buf piece more rest head first from size expects (Ok r) begins answer at came fits body path some =
    let P : ℕ → Type 0 = λ k. (k + size ≤ length (buf ++ piece)) × (r.body ≡ slice_range (buf ++ piece) k (k + size)) in
    let q = subst P at (fits, body) in
    let b = body_is buf piece more head first size begins.reads q.0 in
    let same : request head.target (take size (first ++ (piece ++ more))) ≡ request r.path r.body =
    ap (λ t. request t (take size (first ++ (piece ++ more)))) (target_is head size expects answer ∙ sym path) ∙ ap (request r.path) (sym (q.1 ∙ b.1)) in
    let whole : ComesTo (buf ++ (piece ++ more)) (request r.path r.body) = (
      Some (head, first ++ (piece ++ more)),
      begins_later buf (piece ++ more) head first begins,
      whole_outcome head.target (verdict_of head) size expects (first ++ (piece ++ more)) answer b.0 ∙ same,
    ) in
    subst (λ xs. ComesTo (buf ++ xs) (request r.path r.body)) (sym came) whole
taken_whole buf piece more rest head first from size expects (Err (Status code name)) begins answer at came fits body path (inl e) = absurd (cc)
taken_whole buf piece more rest head first from size expects (Err (Status code name)) begins answer at came fits body path (inr ok) = absurd (cc)
taken_whole buf piece more rest head first from size expects (Err Conn) begins answer at came fits body path some = tt
taken_whole buf piece more rest head first from size expects (Err Memory) begins answer at came fits body path some = tt

-- a refusal that is what the bytes come to
refused_as : (bytes : List ℕ) (code : ℕ) (name : List ℕ) (res : HttpRefusal) → ComesTo bytes (refused code name)
    → (res ≡ Status code name) ⊎ (res ≡ Memory) → IsTaken bytes (Err res)
refused_as bytes code name res comes (inl is) = subst (λ r. IsTaken bytes (Err r)) (sym is) comes
refused_as bytes code name res comes (inr is) = subst (λ r. IsTaken bytes (Err r)) (sym is) tt

-- a head whose body ends early
pub taken_cut : (buf piece rest : List ℕ) (head : RequestHead) (first : List ℕ) (from size : ℕ) (expects : Bool) (res : HttpRefusal)
    → BeginsWith buf head first → verdict_of head ≡ await size expects → from ≡ length (print_request head) → rest ≡ piece
    → length (buf ++ piece) < from + size → (res ≡ Status 400 (codes "Head")) ⊎ (res ≡ Memory) → IsTaken (buf ++ rest) (Err res)
taken_cut buf piece rest head first from size expects res begins answer at came short is =
    let whole : buf ++ piece ≡ print_request head ++ (first ++ piece) = ap (λ xs. xs ++ piece) begins.reads.1 ∙ append_assoc (print_request head) first piece in
    let less : length (first ++ piece) < size = omega (arith, short, at, ap length whole, length-append (print_request head) (first ++ piece)) in
    let comes : ComesTo (buf ++ piece) (refused 400 (codes "Head")) =
    (Some (head, first ++ piece), begins_later buf piece head first begins, cut_outcome head.target (verdict_of head) size expects (first ++ piece) answer less) in
    subst (λ xs. IsTaken (buf ++ xs) (Err res)) (sym came) (refused_as (buf ++ piece) 400 (codes "Head") res comes is)

-- bytes that begin with no head
pub taken_none : (bytes : List ℕ) (res : HttpRefusal) → HasNoHead bytes → (res ≡ Status 400 (codes "Head")) ⊎ (res ≡ Memory) → IsTaken bytes (Err res)
taken_none bytes res none is = refused_as bytes 400 (codes "Head") res (None, none, refl) is

-- a head that a check refuses
pub taken_refused : (buf more : List ℕ) (code : ℕ) (name : List ℕ) (res : HttpRefusal) (head : RequestHead) (rest : List ℕ) → BeginsWith buf head rest
    → verdict_of head ≡ refuse code name → (res ≡ Status code name) ⊎ (res ≡ Memory) → IsTaken (buf ++ more) (Err res)
taken_refused buf more code name res head rest begins answer is =
    refused_as (buf ++ more) code name res
    (Some (head, rest ++ more), begins_later buf more head rest begins, ap (λ v. outcome_behind head.target v (rest ++ more)) answer) is

pub always : (res : Result HttpRequest HttpRefusal) (fact : Type 0) → fact → UnlessStopped res fact
always (Ok r) fact p = p
always (Err (Status code name)) fact p = p
always (Err Conn) fact p = tt
always (Err Memory) fact p = tt

unless_as : (res : Result HttpRequest HttpRefusal) (P Q : Type 0) → (P → Q) → UnlessStopped res P → UnlessStopped res Q
unless_as (Ok r) P Q f p = f p
unless_as (Err (Status code name)) P Q f p = f p
unless_as (Err Conn) P Q f p = tt
unless_as (Err Memory) P Q f p = tt

-- where a head stands, the interim reply that it asks for
pub writes_behind : (coming old middle new : Option (List ℕ)) (buf : List ℕ) (more : Option (List ℕ)) (res : Result HttpRequest HttpRefusal)
    → HasHead buf → Gave coming buf more → middle ≡ old
    → ((head : RequestHead) (rest wrote : List ℕ) → BeginsWith buf head rest → middle ≡ Some wrote
    → UnlessStopped res (new ≡ Some (wrote ++ interim (verdict_of head))))
    → WritesInterim coming old new res
writes_behind coming old middle new buf more res has gave same writes bytes wrote None told was cut =
    let g = gave bytes told in
    absurd (cut has.0 (has.1 ++ g.0) (subst (λ xs. BeginsWith xs has.0 (has.1 ++ g.0)) (sym g.1) (begins_later buf g.0 has.0 has.1 has.2)))
writes_behind coming old middle new buf more res has gave same writes bytes wrote (Some front) told was cut =
    let g = gave bytes told in
    let later = subst (λ xs. BeginsWith xs has.0 (has.1 ++ g.0)) (sym g.1) (begins_later buf g.0 has.0 has.1 has.2) in
    let one = request_unique bytes has.0 front.0 (has.1 ++ g.0) front.1 later.reads cut.reads in
    unless_as res _ _ (λ e. e ∙ ap (λ h. Some (wrote ++ interim (verdict_of h))) one.0) (writes has.0 has.1 wrote has.2 (same ∙ was))

-- where none stands, nothing
pub writes_nothing : (coming old new : Option (List ℕ)) (res : Result HttpRequest HttpRefusal)
    → ((bytes : List ℕ) → coming ≡ Some bytes → HasNoHead bytes) → new ≡ old → WritesInterim coming old new res
writes_nothing coming old new res none same bytes wrote None told was cut =
    always res _ (same ∙ was ∙ ap Some (sym (append-nil wrote)))
writes_nothing coming old new res none same bytes wrote (Some front) told was cut =
    absurd (none bytes told front.0 front.1 cut)
