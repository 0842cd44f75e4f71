-- Which replies of a server speak of its own failure, by their first bytes.
use Rattle.std.specs.Prelude.{◌||◌, ℕ, Bool, List, codes, nat_eq}
use Rattle.std.specs.List.{starts_with}

-- the bytes begin as a 500 reply, Internal Server Error (RFC 9112, 4; RFC 9110, 15.6.1)
abbrev pub is_server_error : List ℕ → Bool
is_server_error reply =
    starts_with nat_eq reply (codes "HTTP/1.1 500") || starts_with nat_eq reply (codes "HTTP/1.0 500")

-- the bytes begin as a 503 reply, Service Unavailable (RFC 9112, 4; RFC 9110, 15.6.4)
abbrev pub is_unavailable : List ℕ → Bool
is_unavailable reply =
    starts_with nat_eq reply (codes "HTTP/1.1 503") || starts_with nat_eq reply (codes "HTTP/1.0 503")
