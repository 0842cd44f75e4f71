-- What the test of UTF-8 answers on bytes that are UTF-8.
use Rattle.std.proofs.Common.{◌≡◌, List, ℕ, false, IsUtf8}
use Rattle.std.specs.Str.{is_utf8}
use Rattle.std.proofs.lemmas.Str.{is_utf8-from_IsUtf8}

-- the test does not refuse UTF-8
pub not_refused : (bytes : List ℕ) → IsUtf8 bytes → is_utf8 bytes ≡ false → ⊥
not_refused bytes h e = let t = is_utf8-from_IsUtf8 bytes h in cc
