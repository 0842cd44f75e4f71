-- Reading a text by states, and the longest token that is found by it.
use Rattle.std.proofs.Common.{◌≡◌, ◌⊎◌, inl, inr, ℕ, suc, ◌+◌, ◌≤◌, Bool, true, false, cond, List, [], ◌∷◌, ◌++◌, length, Option, Some, None, refl, subst, ap, ◌∙◌, arith}
use Rattle.term_core.specs.declared.token.Kind.{Kind}
use Rattle.sparql_lex.specs.declared.state.State.{State}
use Rattle.sparql_lex.specs.declared.state.State.TheVariants.{Start}
use Rattle.sparql_lex.specs.Steps.{Transition, first_of, kind_of, step}
use Rattle.sparql_lex.specs.Scan.{Found, or_found, with_next, scan, longest}

-- what the next state leads to, if there is one
abbrev pub read_next : Option State → (State → Option Kind) → Option Kind
read_next None go = None
read_next (Some next) go = go next

-- the token that the characters are, all together and from this state on
abbrev pub reads : List ℕ → State → Option Kind
reads [] state = kind_of state
reads (c ∷ text) state = read_next (step state c) (λ next. reads text next)

-- a fact of each test and the state to which it leads
abbrev pub EachRow : (Bool → State → Type 0) → List Transition → Type 0
EachRow P [] = Unit {0}
EachRow P (row ∷ rows) = P row.0 row.1 × EachRow P rows

abbrev pub Leads : List ℕ → Kind → Type 0 → Bool → State → Type 0
Leads text kind Goal test state = test ≡ true → reads text state ≡ Some kind → Goal

-- what was read went by one of the rows
pub read-cases : (rows : List Transition) (text : List ℕ) (kind : Kind) (Goal : Type 0) → EachRow (Leads text kind Goal) rows
    → read_next (first_of rows) (λ next. reads text next) ≡ Some kind → Goal
read-cases [] text kind Goal each h = absurd (cc)
read-cases (row ∷ rows) text kind Goal each h = go row.0 (each.0) (read-cases rows text kind Goal each.1) h
  where
    go : (t : Bool) → Leads text kind Goal t row.1 → (read_next (first_of rows) (λ next. reads text next) ≡ Some kind → Goal)
        → read_next (cond t (Some row.1) (first_of rows)) (λ next. reads text next) ≡ Some kind → Goal
    go true here later h = here refl h
    go false here later h = later h

-- the row whose test holds first
pub first-row : (t : Bool) (state : State) (rows : List Transition) (text : List ℕ) → t ≡ true
    → read_next (first_of ((t, state) ∷ rows)) (λ next. reads text next) ≡ reads text state
first-row t state rows text e = rw e refl

pub later-row : (t : Bool) (state : State) (rows : List Transition) (text : List ℕ) → t ≡ false
    → read_next (first_of ((t, state) ∷ rows)) (λ next. reads text next) ≡ read_next (first_of rows) (λ next. reads text next)
later-row t state rows text e = rw e refl

-- what was found is at least so long, and of the kind where it is as long
pub record AtLeast (kind : Kind) (n : ℕ) (found : Found) : Type 0 where
  pub kind_found : Kind
  pub length_found : ℕ
  pub is : found ≡ Some (kind_found, length_found)
  pub long : n ≤ length_found
  pub same : length_found ≡ n → kind_found ≡ kind

longer : (kind : Kind) (m n : ℕ) (other : Option Kind) (found : Found) → m ≤ n → AtLeast kind m found → AtLeast kind m (or_found other (suc n) found)
longer kind m n None found fits h = h
longer kind m n (Some other) found fits h = record { kind_found = other; length_found = suc n; is = refl; long = omega arith; same = λ e. absurd (omega arith) }

keeps : (text : List ℕ) (state : State) (kind : Kind) (m n : ℕ) (found : Found) → m ≤ n → AtLeast kind m found → AtLeast kind m (scan text state n found)
keeps [] state kind m n found fits h = h
keeps (c ∷ text) state kind m n found fits h =
    go (step state c) (λ next. keeps text next kind m (suc n) (or_found (kind_of next) (suc n) found) (omega arith) (longer kind m n (kind_of next) found fits h))
  where
    go : (o : Option State) → ((next : State) → AtLeast kind m (scan text next (suc n) (or_found (kind_of next) (suc n) found))) → AtLeast kind m (with_next o (λ next. scan text next (suc n) (or_found (kind_of next) (suc n) found)) found)
    go None more = h
    go (Some next) more = more next

covers : (a b : List ℕ) (state : State) (kind : Kind) (n : ℕ) (found : Found) → reads a state ≡ Some kind
    → (kind_of state ≡ Some kind → found ≡ Some (kind, n)) → AtLeast kind (n + length a) (scan (a ++ b) state n found)
covers [] b state kind n found h was =
    let m : n + 0 ≡ n = omega arith in
    keeps b state kind (n + 0) n found (omega arith) (record { kind_found = kind; length_found = n; is = was h; long = omega arith; same = λ e. refl })
covers (c ∷ a) b state kind n found h was =
    go (step state c) h (λ next k. covers a b next kind (suc n) (or_found (kind_of next) (suc n) found) k (again next))
  where
    again : (next : State) → kind_of next ≡ Some kind → or_found (kind_of next) (suc n) found ≡ Some (kind, suc n)
    again next e = rw e refl

    go : (o : Option State) → read_next o (λ next. reads a next) ≡ Some kind
        → ((next : State) → reads a next ≡ Some kind → AtLeast kind (suc n + length a) (scan (a ++ b) next (suc n) (or_found (kind_of next) (suc n) found)))
        → AtLeast kind (n + suc (length a)) (with_next o (λ next. scan (a ++ b) next (suc n) (or_found (kind_of next) (suc n) found)) found)
    go None h more = absurd (cc)
    go (Some next) h more =
        let place : suc n + length a ≡ n + suc (length a) = omega arith in
        subst (λ (m : ℕ). AtLeast kind m (scan (a ++ b) next (suc n) (or_found (kind_of next) (suc n) found))) place (more next h)

-- a token of the kind is no longer than what is found
pub longest-covers : (a b : List ℕ) (kind : Kind) → reads a Start ≡ Some kind → AtLeast kind (length a) (longest (a ++ b))
longest-covers a b kind h =
    let place : 0 + length a ≡ length a = omega arith in
    subst (λ (m : ℕ). AtLeast kind m (longest (a ++ b))) place (covers a b Start kind 0 None h (λ e. absurd (cc)))

-- the front of the text is read as the kind
pub record Begins (text : List ℕ) (state : State) (n : ℕ) (kind : Kind) (end : ℕ) : Type 0 where
  pub front : List ℕ
  pub rest : List ℕ
  pub is : text ≡ front ++ rest
  pub place : end ≡ n + length front
  pub read : reads front state ≡ Some kind

abbrev pub found_at : Kind → ℕ → Found
found_at kind end = Some (kind, end)

pub same-kind : (k kind : Kind) (n end : ℕ) → found_at k n ≡ found_at kind end → (k ≡ kind) × (n ≡ end)
same-kind k kind n end h =
    let p : Kind × ℕ = (k, n) in
    let q : Kind × ℕ = (kind, end) in
    let e : p ≡ q = cc in (ap (λ v. v.0) e, ap (λ v. v.1) e)

finds : (text : List ℕ) (state : State) (n : ℕ) (found : Found) (kind : Kind) (end : ℕ) → scan text state n found ≡ found_at kind end
    → (found ≡ found_at kind end) ⊎ Begins text state n kind end
finds [] state n found kind end h = inl h
finds (c ∷ text) state n found kind end h =
    go (step state c) refl (λ next k. finds text next (suc n) (or_found (kind_of next) (suc n) found) kind end k) h
  where
    one : (next : State) (o : Option Kind) → step state c ≡ Some next → kind_of next ≡ o → or_found o (suc n) found ≡ found_at kind end
        → (found ≡ found_at kind end) ⊎ Begins (c ∷ text) state n kind end
    one next None e k h = inl h
    one next (Some other) e k h =
        let same = same-kind other kind (suc n) end h in
        inr (record { front = c ∷ []; rest = text; is = refl; place = omega (arith, same.1); read = rw e (k ∙ ap (λ v. Some v) same.0) })

    many : (next : State) → step state c ≡ Some next → Begins text next (suc n) kind end → Begins (c ∷ text) state n kind end
    many next e b = record { front = c ∷ b.front; rest = b.rest; is = ap (λ v. c ∷ v) b.is; place = omega (arith, b.place); read = rw e b.read }

    go : (o : Option State) → step state c ≡ o
        → ((next : State) → scan text next (suc n) (or_found (kind_of next) (suc n) found) ≡ found_at kind end
        → (or_found (kind_of next) (suc n) found ≡ found_at kind end) ⊎ Begins text next (suc n) kind end)
        → with_next o (λ next. scan text next (suc n) (or_found (kind_of next) (suc n) found)) found ≡ found_at kind end
        → (found ≡ found_at kind end) ⊎ Begins (c ∷ text) state n kind end
    go None e more h = inl h
    go (Some next) e more h = elim (more next h) [ inl was ↦ one next (kind_of next) e refl was | inr b ↦ inr (many next e b) ]

-- and it is one
pub longest-begins : (text : List ℕ) (kind : Kind) (end : ℕ) → longest text ≡ found_at kind end → Begins text Start 0 kind end
longest-begins text kind end h = elim (finds text Start 0 None kind end h) [ inl was ↦ absurd (cc) | inr b ↦ b ]
