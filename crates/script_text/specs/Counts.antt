-- What a script may name on a sheet.
use Rattle.script.specs.Names.{Counts}
use Rattle.sheet.specs.Sheet.{Sheet, type_count, label_count, location_count}

-- how many types, labels and locations are on a sheet
abbrev pub counts_of : Sheet → Counts
counts_of s = record { types = type_count s; labels = label_count s; locations = location_count s }
