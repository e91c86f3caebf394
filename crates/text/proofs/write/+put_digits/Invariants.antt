-- The number falls at each call.
use Rattle.text.proofs.write.+put_digits.Given as goal

abbrev pub decreases-put_digits : goal.decreases-put_digits
decreases-put_digits l = l.v
