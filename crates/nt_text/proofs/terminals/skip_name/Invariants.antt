use Rattle.std.proofs.Common.{◌≡◌, length}
use denote.Text.{Utf8}
use denote.Shadow.{shadow}
use Rattle.std.specs.Str.{chars}
use Rattle.nt_text.specs.Reading.{past_name}
use Rattle.nt_text.proofs.terminals.skip_name.Given as goal

abbrev pub invariant-characters : goal.invariant-characters
invariant-characters l = shadow (Utf8 l.end) × shadow (Utf8 l.left) × (past_name (chars l.end) (chars l.left) ≡ past_name (chars l.fn.text) (chars l.fn.text))

abbrev pub decreases-characters : goal.decreases-characters
decreases-characters l = length l.left
