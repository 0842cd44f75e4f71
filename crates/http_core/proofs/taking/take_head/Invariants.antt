use Rattle.std.proofs.Common.{◌≡◌, ◌-◌, ◌≤◌, length}
use Rattle.http_core.specs.Heads.{Gave, head_limit}
use Rattle.http_core.proofs.taking.take_head.Given as goal

abbrev pub invariant-pieces : goal.invariant-pieces
invariant-pieces g l =
    Gave (g.C.Conn.coming l.fn.conn) l.buf.items (g.C.Conn.coming l.conn) × (length l.buf.items ≤ head_limit)
    × (g.C.Conn.faults l.fn.conn ≤ g.C.Conn.faults l.conn) × (g.C.Conn.wrote l.conn ≡ g.C.Conn.wrote l.fn.conn)

abbrev pub decreases-pieces : goal.decreases-pieces
decreases-pieces g l = head_limit - length l.buf.items
