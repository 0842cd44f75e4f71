use Rattle.std.proofs.Common.{◌≡◌, ◌≤◌, ◌-◌, length, take, drop}
use Rattle.term_core.specs.Tokens.{Lexes, width}
use Rattle.sparql_lex.specs.Names.{NoPrefix}
use Rattle.sparql_lex.proofs.lexing.lex.Given as goal

abbrev pub invariant-fronts : goal.invariant-fronts
invariant-fronts l = record {
  within : l.index ≤ length l.text;
  place : l.at ≡ width (take l.index l.text);
  cut : Lexes 0 l.text l.found l.at (drop l.index l.text);
  known : NoPrefix l.text l.index l.known;
}

abbrev pub decreases-fronts : goal.decreases-fronts
decreases-fronts l = length l.text - l.index
