-- The values of the code as those of the definitions.
use Rattle.std.specs.Prelude.{◌≡◌, ℕ, List, ◌++◌, length, Option, Some, Result, Ok, Err}
use Rattle.httparse.specs.Grammar.{RequestHead, print_request}
use Rattle.http_core.specs.Heads.{Front, IsCutInto}
use Rattle.http_core.specs.PageRequests.{Verdict, refuse, await, verdict_of, request, refused, ComesTo, interim_of}
use Rattle.http_core.specs.declared.checks.Checked.{Checked}
use Rattle.http_core.specs.declared.checks.Checked.TheVariants.{Refused, Awaits}
use Rattle.http_core.specs.declared.taking.TakeFault.{TakeFault}
use Rattle.http_core.specs.declared.taking.TakeFault.TheVariants as faults
use Rattle.http_core.specs.declared.request.HttpRequest.{HttpRequest}
use Rattle.http_core.specs.declared.request.HttpRefusal.{HttpRefusal}
use Rattle.http_core.specs.declared.request.HttpRefusal.TheVariants.{Status, Conn, Memory}

abbrev pub verdict_view : Checked → Verdict
verdict_view (Refused code name) = refuse code name.now
verdict_view (Awaits size expects) = await size expects

-- the verdict on a head and the head's length
pub record IsVerdictOn (head : RequestHead) (found : Checked × ℕ) : Type 0 where
  pub verdict : verdict_view found.0 ≡ verdict_of head
  pub size : found.1 ≡ length (print_request head)

-- why no more was taken, as a refusal
abbrev pub refusal_of : TakeFault → HttpRefusal
refusal_of faults.Conn = Conn
refusal_of faults.Memory = Memory

-- the answer is what the bytes come to, unless the connection failed or memory was wanting
abbrev pub IsTaken : List ℕ → Result HttpRequest HttpRefusal → Type 0
IsTaken bytes (Ok found) = ComesTo bytes (request found.path found.body)
IsTaken bytes (Err (Status code name)) = ComesTo bytes (refused code name)
IsTaken bytes (Err Conn) = Unit {0}
IsTaken bytes (Err Memory) = Unit {0}

-- the fact holds of a request and of a refusal by the checks
abbrev pub UnlessStopped : Result HttpRequest HttpRefusal → Type 0 → Type 0
UnlessStopped (Ok found) fact = fact
UnlessStopped (Err (Status code name)) fact = fact
UnlessStopped (Err Conn) fact = Unit {0}
UnlessStopped (Err Memory) fact = Unit {0}

-- the interim reply was written where the head asks for it, and nothing else
abbrev pub WritesInterim : Option (List ℕ) → Option (List ℕ) → Option (List ℕ) → Result HttpRequest HttpRefusal → Type 0
WritesInterim coming old new result =
    (bytes wrote : List ℕ) (front : Option Front) → coming ≡ Some bytes → old ≡ Some wrote → IsCutInto bytes front
    → UnlessStopped result (new ≡ Some (wrote ++ interim_of front))
