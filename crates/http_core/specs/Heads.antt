-- The head at the front of bytes, within the limits on heads (RFC 9112, 2.1).
use Rattle.std.specs.Prelude.{◌≡◌, ℕ, ◌≤◌, List, ◌++◌, length, Option, Some, None}
use Rattle.httparse.specs.Grammar.{RequestHead, print_request, ReadsRequest}

-- the most bytes of a head
abbrev pub head_limit : ℕ
head_limit = 16384

-- the most fields of a head
abbrev pub field_limit : ℕ
field_limit = 64

-- the bytes begin with that head, which is within the limits, and the rest stands behind it
pub record BeginsWith (bytes : List ℕ) (head : RequestHead) (rest : List ℕ) : Type 0 where
  pub reads : ReadsRequest bytes head rest
  pub short : length (print_request head) ≤ head_limit
  pub few : length head.fields ≤ field_limit

-- the bytes begin with a head
abbrev pub HasHead : List ℕ → Type 0
HasHead bytes = (head : RequestHead) × (rest : List ℕ) × BeginsWith bytes head rest

-- the bytes begin with no head
abbrev pub HasNoHead : List ℕ → Type 0
HasNoHead bytes = (head : RequestHead) (rest : List ℕ) → ¬ (BeginsWith bytes head rest)

-- a head with the bytes behind it
abbrev pub Front : Type 0
Front = RequestHead × List ℕ

-- the bytes are cut into that head and the rest; none where they begin with no head
abbrev pub IsCutInto : List ℕ → Option Front → Type 0
IsCutInto bytes None = HasNoHead bytes
IsCutInto bytes (Some front) = BeginsWith bytes front.0 front.1

-- between the two a connection that tells gave these bytes
abbrev pub Gave : Option (List ℕ) → List ℕ → Option (List ℕ) → Type 0
Gave old bytes new =
    (coming : List ℕ) → old ≡ Some coming → (more : List ℕ) × (coming ≡ bytes ++ more) × (new ≡ Some more)
