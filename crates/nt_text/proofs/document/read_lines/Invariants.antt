use Rattle.std.proofs.Common.{◌≡◌, ◌+◌, ◌≤◌, [], length, option_map}
use Rattle.std.specs.Str.{chars}
use Rattle.nt_text.specs.Reading.{lines_left, lines_of, judged}
use Rattle.nt_text.proofs.Documents.{left_size}
use Rattle.nt_text.proofs.document.read_lines.Given as goal

abbrev pub invariant-lines : goal.invariant-lines
invariant-lines l = record {
  so_far : judged l.number l.triples (lines_left (option_map (λ rest. chars rest.now) l.left)) ≡ judged 1 [] (lines_of (chars l.fn.text));
  few : l.number + left_size (option_map (λ rest. rest.now) l.left) ≤ length l.fn.text + 2;
}

abbrev pub decreases-lines : goal.decreases-lines
decreases-lines l = left_size (option_map (λ rest. rest.now) l.left)
