use Rattle.xsd_num.proofs.Forms.{integer_sound, integer_complete, decimal_sound, decimal_complete}
use Rattle.xsd_num.proofs.law.forms_are_of_the_grammar.Goals as goal

pub returns-clause-integers : goal.returns-clause-integers
returns-clause-integers c text = (integer_sound text, integer_complete text)

pub returns-clause-decimals : goal.returns-clause-decimals
returns-clause-decimals c text = (decimal_sound text, decimal_complete text)
