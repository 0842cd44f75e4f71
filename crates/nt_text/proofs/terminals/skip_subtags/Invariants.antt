use Rattle.std.proofs.Common.{◌≡◌, true, length}
use denote.Text.{Utf8}
use denote.Shadow.{shadow}
use Rattle.std.specs.Str.{chars}
use Rattle.nt_text.specs.Reading.{past_subtags}
use Rattle.nt_text.proofs.terminals.skip_subtags.Given as goal

abbrev pub invariant-characters : goal.invariant-characters
invariant-characters l = shadow (Utf8 l.end) × shadow (Utf8 l.left)
    × (past_subtags (chars l.end) l.hyphen (chars l.left) ≡ past_subtags (chars l.fn.end) true (chars l.fn.text))

abbrev pub decreases-characters : goal.decreases-characters
decreases-characters l = length l.left
