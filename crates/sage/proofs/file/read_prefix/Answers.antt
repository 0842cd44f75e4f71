use Rattle.std.proofs.Common.{◌≡◌, ◌∙◌, [], sym, ap, length, take}
use Rattle.sage.proofs.file.read_prefix.Goals as goal

pub returns-clause-whole : goal.returns-clause-whole
returns-clause-whole g c file tells =
    let none : c.in_ok-bytes.bytes.items ≡ [] = c.in_ok-bytes.ensures.items in
    c.in_ok-read_rest.ensures.whole file tells (none ∙ sym (ap (λ bs. take (length bs) file) none))
