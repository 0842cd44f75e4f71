-- Outputs that grow at their end.
use Rattle.std.proofs.Common.{◌≡◌, ◌++◌, ℕ, List, [], length, sym, ap, ◌∙◌, append_assoc}
use Rattle.std.specs.Prelude.{take}
use Rattle.std.proofs.lemmas.List.{append-nil}
use Rattle.std.proofs.Math.Seq.{take-append_seam}
use Rattle.nt_text.specs.Growth.{IsGrown}

-- one that did not change
pub grown_same : (before now : List ℕ) → now ≡ before → IsGrown before now
grown_same before now e = record { more = []; is = e ∙ sym (append-nil before) }

-- one that got a piece
pub grown_by : (before now piece : List ℕ) → now ≡ before ++ piece → IsGrown before now
grown_by before now piece e = record { more = piece; is = e }

-- one after another
pub grown_then : (a b c : List ℕ) → IsGrown a b → IsGrown b c → IsGrown a c
grown_then a b c g h = record { more = g.more ++ h.more; is = h.is ∙ ap (λ w. w ++ h.more) g.is ∙ append_assoc a g.more h.more }

-- what stood in it is its front
pub front_of_grown : (before now : List ℕ) → IsGrown before now → take (length before) now ≡ before
front_of_grown before now g = ap (take (length before)) g.is ∙ take-append_seam before g.more
