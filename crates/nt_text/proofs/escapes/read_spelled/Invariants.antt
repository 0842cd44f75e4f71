use Rattle.std.proofs.Common.{◌≡◌, ◌++◌, length, string_bytes}
use denote.Text.{Utf8}
use denote.Shadow.{shadow}
use Rattle.std.specs.Str.{chars, encode_utf8_all}
use Rattle.nt_text.specs.Reading.{spelled_at}
use Rattle.nt_text.proofs.Spelled.{tail_at}
use Rattle.nt_text.proofs.escapes.read_spelled.Given as goal

abbrev pub invariant-escapes : goal.invariant-escapes
invariant-escapes l = shadow (Utf8 l.left)
    × (string_bytes l.spelled ++ encode_utf8_all (tail_at l.fn.quoted (chars l.left)).0 ≡ encode_utf8_all (spelled_at l.fn.quoted (chars l.fn.text)).0)
    × ((tail_at l.fn.quoted (chars l.left)).1 ≡ (spelled_at l.fn.quoted (chars l.fn.text)).1)

abbrev pub decreases-escapes : goal.decreases-escapes
decreases-escapes l = length l.left
