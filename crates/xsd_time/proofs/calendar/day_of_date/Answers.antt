use Rattle.std.proofs.Common.{◌≡◌, ◌∙◌, ap, arith, pos, to_z, of_z, Some, w8, w16, w32, w64}
use Rattle.std.proofs.lemmas.Int.{to_z_pos}
use Rattle.jiff_core.proofs.SignedLemmas.{signed_arith}
use Rattle.jiff_core.specs.Date.{IsYmd}
use Rattle.xsd_time.proofs.Days.{number_of_date}
use Rattle.xsd_time.proofs.calendar.day_of_date.Goals as goal

pub returns-in-Ok-clause-exact : goal.returns-in-Ok-clause-exact
returns-in-Ok-clause-exact c =
    let year : to_z w16 c.args.year ≡ pos c.args.year = to_z_pos w16 c.args.year (omega arith) in
    let month : to_z w8 c.args.month ≡ pos c.args.month = to_z_pos w8 c.args.month (omega arith) in
    let day : to_z w8 c.args.day ≡ pos c.args.day = to_z_pos w8 c.args.day (omega arith) in
    let parts : IsYmd (pos c.args.year) (pos c.args.month) (pos c.args.day) c.in-Ok.date
    = rw (year, month, day) at (c.in-Ok.ensures.value) in
    let r = c.to_unix_epoch_day.result in
    let back : to_z w64 (of_z w64 (to_z w32 (of_z w32 r))) ≡ r = omega (arith, signed_arith) in
    ap Some (back ∙ c.to_unix_epoch_day.ensures.value)
    ∙ number_of_date c.args.year c.args.month c.args.day c.in-Ok.date (omega arith) (omega arith) parts
