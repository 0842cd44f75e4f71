use Rattle.xsd_num.proofs.writing.+push_digits.Given as goal

-- each call has one place less
abbrev pub decreases-push_digits : goal.decreases-push_digits
decreases-push_digits l = l.places
