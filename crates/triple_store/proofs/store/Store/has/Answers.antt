use Rattle.std.proofs.Common.{◌≡◌, subst, sym, ap, Bool, Ok, Err, true, Result}
use Rattle.std.specs.Prelude.{◌↔◌, Contains, IsTrue}
use Rattle.sage_outside.specs.declared.fault.ReadFault.{ReadFault}
use Rattle.triple_store.specs.Entries.{HasEntry}
use Rattle.triple_store.proofs.Opened.{handed_read}
use Rattle.triple_store.proofs.Places.{had, some_place}
use Rattle.triple_store.proofs.store.Store.has.Goals as goal

pub returns-clause-found : goal.returns-clause-found
returns-clause-found g c = λ terms ids shown. subst (λ b. IsTrue b ↔ Contains ids c.args.t.now) (sym c.is_some.ensures) (had ids c.args.t.now _ (c.in_ok-place_in.ensures.found terms ids shown))

same_answer : (a b : Bool) → (let x : Result Bool ReadFault = Ok a in x ≡ Ok b) → a ≡ b
same_answer a b e = cc

pub returns-clause-there : goal.returns-clause-there
returns-clause-there g c = λ image told e.
    some_place c.in_ok-place_in.field-0 c.is_some.result (HasEntry c.args.self.now.header 0 c.args.t.now image) c.is_some.ensures (same_answer c.is_some.result true e)
    (λ place f. c.in_ok-place_in.ensures.there image place told (ap Ok f))

pub returns-in_err-place_in-clause-whole : goal.returns-in_err-place_in-clause-whole
returns-in_err-place_in-clause-whole g c = λ terms ids block shown e. c.in_err-place_in.ensures.whole terms ids block shown (ap Err (handed_read _ _ block c.from_residual.ensures e))
