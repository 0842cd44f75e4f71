use Rattle.std.proofs.Common.{◌≡◌, drop}
use Rattle.term_core.specs.Moments.{has_form}
use Rattle.xsd_time.proofs.fields.has_form.Given as goal

-- what is left decides
abbrev pub invariant-loop-i : goal.invariant-loop-i
invariant-loop-i l = has_form (drop l.i l.form) (drop l.i l.text) ≡ has_form l.form l.text
