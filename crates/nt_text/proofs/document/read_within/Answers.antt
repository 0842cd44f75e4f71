use Rattle.std.proofs.Common.{◌≤◌, length, sym, ◌∙◌, arith}
use Rattle.std.proofs.lemmas.Str.{utf8_valid_len-IsValidUpTo}
use Rattle.nt_text.proofs.Documents.{document_from_lines, not_utf8}
use Rattle.nt_text.proofs.document.read_within.Goals as goal

pub returns-in-Ok : goal.returns-in-Ok
returns-in-Ok c =
    let cases = c.in-Ok.ensures.cases in
    let fits : length c.args.bytes.now ≤ 268435456 = omega (arith, c.if-bytes-gt-DOCUMENT_LIMIT.false) in
    document_from_lines c.args.bytes.now c.in-Ok.text.now c.read_lines.result fits cases.1 cases.0 c.read_lines.ensures

pub returns-in-Err : goal.returns-in-Err
returns-in-Err c =
    let cases = c.in-Err.ensures.cases in
    let fits : length c.args.bytes.now ≤ 268435456 = omega (arith, c.if-bytes-gt-DOCUMENT_LIMIT.false) in
    not_utf8 c.args.bytes.now c.valid_up_to.result fits cases.0 (c.valid_up_to.ensures ∙ sym (utf8_valid_len-IsValidUpTo c.args.bytes.now _ cases.1))
