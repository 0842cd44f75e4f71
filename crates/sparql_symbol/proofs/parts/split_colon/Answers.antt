use Rattle.std.proofs.Common.{◌≡◌, get_or, arith}
use Rattle.std.proofs.lemmas.Str.{IsCharBoundary-after_ascii}
use Rattle.sparql_symbol.proofs.parts.split_colon.Goals as goal

pub range_from-requires : goal.range_from-requires
range_from-requires c =
    let here : get_or c.args.text.now c.loop-i.i 0 ≡ 58 = rw c.as_bytes-byte-items.ensures.value at c.if-byte-eq58.true in
    λ some. IsCharBoundary-after_ascii c.args.text.now c.loop-i.i c.utf8.text (omega arith) (omega (arith, here))
