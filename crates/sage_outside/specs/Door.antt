-- The connections that a door hands out and gets back, where it tells.
use Rattle.std.specs.Prelude.{◌≡◌, ℕ, ◌++◌, List, [], ◌∷◌, Option, Some, None, Result, Ok, Err, IfSome}

-- a connection that was given back: the bytes that it held when it was handed out, those written
-- to it, and its count of faults
pub record Served : Type 0 where
  pub held : List ℕ
  pub wrote : List ℕ
  pub faults : ℕ

-- nothing was taken from a connection or written to it, as far as it tells, and no call of it failed
pub record IsFresh (taken wrote : Option (List ℕ)) (faults : ℕ) : Type 0 where
  pub untaken : IfSome taken (λ bytes. bytes ≡ [])
  pub unwritten : IfSome wrote (λ bytes. bytes ≡ [])
  pub no_faults : faults ≡ 0

-- the first of the told connections to come is handed out with its bytes; a refused call keeps it
abbrev pub HandsOut : {C E : Type 0} → (C → Option (List ℕ)) → (C → Option (List ℕ)) → (C → Option (List ℕ))
    → Option (List (List ℕ)) → Option (List (List ℕ)) → Result C E → Type 0
HandsOut coming taken wrote None new result = new ≡ None
HandsOut coming taken wrote (Some conns) new (Err e) = new ≡ Some conns
HandsOut coming taken wrote (Some []) new (Ok conn) = ⊥
HandsOut coming taken wrote (Some (bytes ∷ conns)) new (Ok conn) =
    (coming conn ≡ Some bytes) × (taken conn ≡ Some []) × (wrote conn ≡ Some []) × (new ≡ Some conns)

-- a door that tells the connections given back tells one more, which has what that connection tells
abbrev pub GivesBack : Option (List ℕ) → Option (List ℕ) → Option (List ℕ) → ℕ
    → Option (List Served) → Option (List Served) → Type 0
GivesBack coming taken wrote faults None new = new ≡ None
GivesBack coming taken wrote faults (Some conns) new =
    (left got sent : List ℕ) × (coming ≡ Some left) × (taken ≡ Some got) × (wrote ≡ Some sent)
    × (new ≡ Some (conns ++ record { held = got ++ left; wrote = sent; faults = faults } ∷ []))
