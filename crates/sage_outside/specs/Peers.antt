-- What a connection in memory holds.
use Rattle.std.specs.Prelude.{◌≡◌, ℕ, ◌++◌, List, [], take, drop}
use Rattle.sage_outside.specs.declared.calls.Calls.{Calls}
use Rattle.sage_outside.specs.declared.conn_in_memory.MemConn.{MemConn}
use Rattle.sage_outside.specs.Calls.{faults_of}
use Rattle.sage_outside.specs.Door.{Served}

-- the bytes still to come
abbrev pub conn_coming : MemConn → List ℕ
conn_coming conn = drop conn.place conn.incoming.items

-- the bytes taken
abbrev pub conn_taken : MemConn → List ℕ
conn_taken conn = take conn.place conn.incoming.items

-- the bytes written
abbrev pub conn_wrote : MemConn → List ℕ
conn_wrote conn = conn.wrote.items

-- the calls of the connection
abbrev pub conn_calls : MemConn → Calls
conn_calls conn = conn.calls

-- how often a call of the connection has failed
abbrev pub conn_faults : MemConn → ℕ
conn_faults conn = faults_of conn.calls

-- nothing was taken from the connection or written to it, and no call of it was made
pub record IsNewConn (conn : MemConn) : Type 0 where
  pub untaken : conn.place ≡ 0
  pub unwritten : conn.wrote.items ≡ []
  pub uncalled : conn.calls.number ≡ 0
  pub unlisted : conn.calls.listed ≡ 0
  pub roomy : conn.calls.cramped ≡ 0

-- what a door tells of a connection that came back
abbrev pub served_of : MemConn → Served
served_of conn = record {
  held = conn_taken conn ++ conn_coming conn;
  wrote = conn_wrote conn;
  faults = conn_faults conn;
}
