use Rattle.std.proofs.Common.{sym, subst}
use Rattle.sparql_grammar.specs.Reads.{Fails}
use Rattle.sparql_grammar.proofs.Spelled.{query-spelled, none-spelled, more-left}
use Rattle.sparql_grammar.specs.Written.{written_of}
use Rattle.sparql_grammar.proofs.read.read_symbols.Goals as goal

pub returns-in_ok-kept_query-in-None-clause-found : goal.returns-in_ok-kept_query-in-None-clause-found
returns-in_ok-kept_query-in-None-clause-found c = record {
  written = written_of c.in-Ok.written;
  spelled = query-spelled _ _ _ _ _ c.new-cursor.ensures c.in-Ok.ensures (sym c.in-None.ensures);
  kept_once = c.in_ok-kept_query-in-None.ensures;
}

pub returns-in-Some-clause-why : goal.returns-in-Some-clause-why
returns-in-Some-clause-why c = more-left _ _ _ _ _ c.new-cursor.ensures c.in-Ok.ensures (sym c.in-Some.ensures)

pub returns-in-Err-NotAQuery-clause-why : goal.returns-in-Err-NotAQuery-clause-why
returns-in-Err-NotAQuery-clause-why c = none-spelled _ _ c.new-cursor.ensures (subst (Fails _) c.in-Err-NotAQuery.field-0-is c.in-Err-NotAQuery.ensures)
