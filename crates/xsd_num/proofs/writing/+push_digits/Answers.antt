use Rattle.std.proofs.Common.{ap, arith, string_bytes, ◌∙◌, ◌++◌}
use Rattle.xsd_num.proofs.Written.{pushed}
use Rattle.xsd_num.proofs.writing.+push_digits.Goals as goal

pub returns : goal.returns
returns t c =
    pushed (string_bytes c.args.out.now) (string_bytes c.push_digits.new.out) (string_bytes c.push.new.self) c.args.places c.args.n (omega arith) c.in_ok-push_digits.ensures
    (c.in_ok-push.ensures.bytes ∙ ap (λ bs. string_bytes c.push_digits.new.out ++ bs) (c.in_ok-push.ensures.ascii (omega arith)))
