-- The connections of a door in memory.
use Rattle.std.proofs.Common.{◌≡◌, ℕ, ◌∙◌, [], ◌∷◌, List, ap, refl, subst, map, suc, arith}
use Rattle.std.specs.Prelude.{Some, Ok, All}
use Rattle.sage_outside.specs.declared.conn_in_memory.MemConn.{MemConn}
use Rattle.sage_outside.specs.Door.{IsFresh, HandsOut}
use Rattle.sage_outside.specs.Peers.{IsNewConn, conn_coming, conn_taken, conn_wrote, conn_faults}

-- the first of those that are new is new
pub first_is_new : (conns rest : List MemConn) (conn : MemConn) → conns ≡ conn ∷ rest → All IsNewConn conns → IsNewConn conn
first_is_new conns rest conn e new = let P : List MemConn → Type 0 = λ l. All IsNewConn l in (subst P e new) 0 conn (omega arith)

-- so are the others
pub rest_is_new : (conns rest : List MemConn) (conn : MemConn) → conns ≡ conn ∷ rest → All IsNewConn conns → All IsNewConn rest
rest_is_new conns rest conn e new = let P : List MemConn → Type 0 = λ l. All IsNewConn l in λ k d within. (subst P e new) (suc k) d (omega arith)

pub untaken : (conn : MemConn) → IsNewConn conn → conn_taken conn ≡ []
untaken conn new = rw new.untaken refl

pub no_faults : (conn : MemConn) → IsNewConn conn → conn_faults conn ≡ 0
no_faults conn new = rw new.unlisted (rw new.roomy refl)

-- a new connection is a fresh one
pub new_is_fresh : (conn : MemConn) → IsNewConn conn
    → IsFresh (Some (conn_taken conn)) (Some (conn_wrote conn)) (conn_faults conn)
new_is_fresh conn new = record {
  untaken = untaken conn new;
  unwritten = new.unwritten;
  no_faults = no_faults conn new;
}

-- the first of those to come is handed out
pub hands_first : (E : Type 0) (coming : List (List ℕ)) (conns rest : List MemConn) (conn : MemConn)
    → coming ≡ map conn_coming conns → conns ≡ conn ∷ rest → IsNewConn conn
    → HandsOut {E = E} (λ it. Some (conn_coming it)) (λ it. Some (conn_taken it)) (λ it. Some (conn_wrote it))
    (Some coming) (Some (map conn_coming rest)) (Ok conn)
hands_first E coming conns rest conn told first new =
    rw (told ∙ ap (map conn_coming) first)
    (refl, ap Some (untaken conn new), ap Some new.unwritten, refl)
