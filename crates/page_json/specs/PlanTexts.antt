-- A suspended plan as text.
use Rattle.std.specs.Prelude.{◌≡◌, ℕ, List, Ok}
use Rattle.base64.specs.Engines.{url_safe_no_pad}
use Rattle.base64.specs.GeneralPurpose.{encode_of, decode_of}

-- the bytes in base64 with the alphabet that is safe in URLs, without padding and with unused bits 0 (RFC 4648, sections 3.5 and 5):
-- what is written of them, which is read as them
abbrev pub IsPlanText : List ℕ → List ℕ → Type 0
IsPlanText text plan = (text ≡ encode_of url_safe_no_pad plan) × (decode_of url_safe_no_pad text ≡ Ok plan)

-- no plan has that text
abbrev pub IsNoPlanText : List ℕ → Type 0
IsNoPlanText text = (plan : List ℕ) → ¬ (IsPlanText text plan)
