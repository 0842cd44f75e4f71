use Rattle.std.proofs.Common.{◌≡◌, ◌++◌, IsUtf8, string_bytes, chars, encode_utf8_all}
use Rattle.std.specs.Str.Iter.{chars_rest}
use Rattle.sparql_symbol.specs.Undoing.{undone}
use Rattle.sparql_symbol.proofs.undoing.undo.Given as goal

abbrev pub invariant-loop-c : goal.invariant-loop-c
invariant-loop-c l = IsUtf8 (chars_rest l.c-iterator)
    × (string_bytes l.spelled ++ encode_utf8_all (undone l.place (chars (chars_rest l.c-iterator))) ≡ string_bytes l.fn.front ++ encode_utf8_all (undone l.fn.place (chars l.fn.text)))
