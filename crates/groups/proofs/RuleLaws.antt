-- The sheet's rule of reading.
use Rattle.sheet.proofs.ReaderLaws.{reads_more}
use Rattle.groups.specs.Theorems.{ReadingGrows}

pub reading_grows : ReadingGrows
reading_grows = reads_more
