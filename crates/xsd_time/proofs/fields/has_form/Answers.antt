use Rattle.xsd_time.proofs.Forms.{no_form}
use Rattle.xsd_time.proofs.fields.has_form.Goals as goal

pub returns-then-text-form-clause-exact : goal.returns-then-text-form-clause-exact
returns-then-text-form-clause-exact c = no_form c.args.form.now c.args.text.now c.if-text-form.true
