use Rattle.std.proofs.Common.{◌≡◌, ◌+◌, drop, false}
use Rattle.sparql_lex.specs.Scan.{run}
use Rattle.sparql_lex.specs.Names.{is_name_part, ends_prefix}
use Rattle.sparql_lex.proofs.names.name_run.Given as goal

abbrev pub invariant-loop-i : goal.invariant-loop-i
invariant-loop-i l = record {
  length : run is_name_part l.text ≡ l.i + run is_name_part (drop l.i l.text);
  colon : ends_prefix l.text false ≡ ends_prefix (drop l.i l.text) l.behind_name;
}
