-- A sheet with something more: the line `R 1`, a sum or a pair, a label without policies, a policy of the last label, a
-- location.
use Rattle.std.specs.Prelude.{List, [], ◌∷◌, ◌++◌, ℕ}
use Rattle.labels.specs.Labels.{Policy}
use Rattle.labels.specs.declared.Rule.TheVariants.{Pooled, Alone}
use Rattle.sheet.specs.Sheet.{Compound, Location, Sheet}

-- a sheet of n principals with nothing else
unfoldable pub bare_sheet : ℕ → Sheet
bare_sheet n = record { principals = n; rule = Pooled; compounds = []; labels = []; locations = [] }

unfoldable pub add_rule : Sheet → Sheet
add_rule s = record {
  principals = s.principals;
  rule = Alone;
  compounds = s.compounds;
  labels = s.labels;
  locations = s.locations;
}

unfoldable pub add_compound : Sheet → Compound → Sheet
add_compound s x = record {
  principals = s.principals;
  rule = s.rule;
  compounds = s.compounds ++ (x ∷ []);
  labels = s.labels;
  locations = s.locations;
}

unfoldable pub add_label : Sheet → Sheet
add_label s = record {
  principals = s.principals;
  rule = s.rule;
  compounds = s.compounds;
  labels = s.labels ++ ([] ∷ []);
  locations = s.locations;
}

-- a policy more at the last label
unfoldable pub to_last : Policy → List (List Policy) → List (List Policy)
to_last p [] = []
to_last p (ps ∷ []) = (ps ++ (p ∷ [])) ∷ []
to_last p (ps ∷ qs ∷ pss) = ps ∷ to_last p (qs ∷ pss)

unfoldable pub add_policy : Sheet → Policy → Sheet
add_policy s p = record {
  principals = s.principals;
  rule = s.rule;
  compounds = s.compounds;
  labels = to_last p s.labels;
  locations = s.locations;
}

unfoldable pub add_location : Sheet → Location → Sheet
add_location s x = record {
  principals = s.principals;
  rule = s.rule;
  compounds = s.compounds;
  labels = s.labels;
  locations = s.locations ++ (x ∷ []);
}
