use Rattle.std.proofs.Common.{◌≡◌, drop, ◌==◌}
use Rattle.term_core.specs.Characters.{after, begins}
use Rattle.term_core.specs.Names.{is_scheme}
use Rattle.term_core.proofs.characters.colon_follows.Given as goal

abbrev pub invariant-loop-byte : goal.invariant-loop-byte
invariant-loop-byte l = begins (λ d. d == 58) (after is_scheme l.text) ≡ begins (λ d. d == 58) (after is_scheme (drop l.byte-index l.text))
