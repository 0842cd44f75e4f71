use Rattle.std.proofs.Common.{◌≡◌, ◌++◌, take, string_bytes}
use Rattle.std.specs.Prelude.{flat_map}
use Rattle.sparql_print.proofs.Texts.{so_far, signed_text, factor_text}
use Rattle.sparql_print.proofs.printing.+print.Given as goal

abbrev pub invariant-push_joined-loop-i : goal.invariant-push_joined-loop-i
invariant-push_joined-loop-i l = string_bytes l.out ≡ string_bytes l.initial.out ++ so_far l.sign (take l.i l.parts)

abbrev pub invariant-push_signed-loop-signed : goal.invariant-push_signed-loop-signed
invariant-push_signed-loop-signed l = string_bytes l.out ≡ string_bytes l.initial.out ++ flat_map signed_text (take l.signed-index l.rest)

abbrev pub invariant-push_factors-loop-factor : goal.invariant-push_factors-loop-factor
invariant-push_factors-loop-factor l = string_bytes l.out ≡ string_bytes l.initial.out ++ flat_map factor_text (take l.factor-index l.rest)
