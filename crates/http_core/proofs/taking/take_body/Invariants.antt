use Rattle.std.proofs.Common.{◌≡◌, ℕ, ◌-◌, ◌≤◌, ◌++◌, List, length}
use Rattle.http_core.specs.Heads.{Gave}
use Rattle.http_core.proofs.taking.take_body.Given as goal

abbrev pub invariant-pieces : goal.invariant-pieces
invariant-pieces g l =
    ((piece : List ℕ) × (l.buf.items ≡ l.fn.buf.items ++ piece) × Gave (g.C.Conn.coming l.fn.conn) piece (g.C.Conn.coming l.conn))
    × (g.C.Conn.faults l.fn.conn ≤ g.C.Conn.faults l.conn) × (g.C.Conn.wrote l.conn ≡ g.C.Conn.wrote l.fn.conn)

abbrev pub decreases-pieces : goal.decreases-pieces
decreases-pieces g l = l.whole - length l.buf.items
