use Rattle.std.proofs.lemmas.Str.{is_utf8-from_IsUtf8}
use Rattle.term_core.proofs.Utf8.{not_refused}
use Rattle.term_core.proofs.text.Text.from_bytes.Goals as goal

pub returns-in-Ok-from_str-clause-refused : goal.returns-in-Ok-from_str-clause-refused
returns-in-Ok-from_str-clause-refused c e = absurd (not_refused _ c.in-Ok.ensures.cases.1 e)

pub returns-in-Ok-from_str-clause-tested : goal.returns-in-Ok-from_str-clause-tested
returns-in-Ok-from_str-clause-tested c = is_utf8-from_IsUtf8 _ c.in-Ok.ensures.cases.1

pub returns-in-Err-from_str-clause-refused : goal.returns-in-Err-from_str-clause-refused
returns-in-Err-from_str-clause-refused c e = absurd (not_refused _ c.in-Ok.ensures.cases.1 e)
