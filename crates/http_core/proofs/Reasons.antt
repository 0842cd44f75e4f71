-- The codes that have a reason, and their reasons.
use Rattle.std.proofs.Common.{◌≡◌, ℕ, ◌<◌, ◌≤◌, List, length, Bool, true, false, cond, refl, codes, arith}
use Rattle.std.specs.List.{list_all}
use Rattle.httparse.specs.Grammar.{is_value_byte}
use Rattle.http_core.specs.Written.{HasReason, reason_of}

-- what holds of both holds of the one that is chosen
either : (b : Bool) (P : List ℕ → Type 0) (x y : List ℕ) → P x → P y → P (cond b x y)
either true P x y p q = p
either false P x y p q = q

each : (P : List ℕ → Type 0) → P (codes "OK") → P (codes "Bad Request") → P (codes "Not Found") → P (codes "Method Not Allowed")
    → P (codes "Length Required") → P (codes "Payload Too Large") → P (codes "Internal Server Error") → P (codes "Service Unavailable")
    → P (codes "") → (code : ℕ) → P (reason_of code)
each P a b c d e f g h none code =
    either _ P _ _ a (either _ P _ _ b (either _ P _ _ c (either _ P _ _ d (either _ P _ _ e (either _ P _ _ f (either _ P _ _ g (either _ P _ _ h none)))))))

pub reason_bytes : (code : ℕ) → list_all is_value_byte (reason_of code) ≡ true
reason_bytes code = each (λ r. list_all is_value_byte r ≡ true) refl refl refl refl refl refl refl refl refl code

pub reason_length : (code : ℕ) → length (reason_of code) ≤ 21
reason_length code =
    each (λ r. length r ≤ 21) (omega arith) (omega arith) (omega arith) (omega arith) (omega arith) (omega arith) (omega arith) (omega arith) (omega arith) code

-- the codes are of three digits
pub code_bounds : (code : ℕ) → HasReason code → (100 ≤ code) × (code < 1000)
code_bounds code has = grind (arith, has)
