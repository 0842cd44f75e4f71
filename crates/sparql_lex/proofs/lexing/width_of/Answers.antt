use Rattle.std.proofs.Common.{◌≡◌, suc, length, get_or, add-one, arith, ap}
use Rattle.std.specs.Prelude.{encode_utf8}
use Rattle.std.proofs.lemmas.Grind.{common_steps}
use Rattle.sparql_lex.proofs.Widths.{width-more, width-parts}
use Rattle.sparql_lex.proofs.lexing.width_of.Goals as goal

pub overflow_add-bytes : goal.overflow_add-bytes
overflow_add-bytes c =
    let item : c.c-item.result ≡ get_or c.args.text.now c.loop-c.c-index 0 = grind (arith, common_steps) in
    let size = ap (λ v. length (encode_utf8 v)) item in
    omega (arith, size, width-more c.loop-c.c-index c.args.text.now c.loop-c-test.true, width-parts (suc c.loop-c.c-index) c.args.text.now)

pub loop-c-preserved : goal.loop-c-preserved
loop-c-preserved c =
    let item : c.c-item.result ≡ get_or c.args.text.now c.loop-c.c-index 0 = grind (arith, common_steps) in
    let size = ap (λ v. length (encode_utf8 v)) item in
    rw add-one (omega (arith, size, width-more c.loop-c.c-index c.args.text.now c.loop-c-test.true))
