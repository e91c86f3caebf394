use Rattle.std.proofs.Common.{sym, ◌∙◌}
use Rattle.memory_text.proofs.Tables.{memory_fits, memory-long}
use Rattle.memory_text.proofs.read_memory.Goals as goal

pub returns-then-fits : goal.returns-then-fits
returns-then-fits c = c.locations.ensures ∙ sym (memory_fits _ (sym c.fits.ensures ∙ c.if-fits.true))

pub returns-else-fits : goal.returns-else-fits
returns-else-fits c = sym (memory-long _ (sym c.fits.ensures ∙ c.if-fits.false))
