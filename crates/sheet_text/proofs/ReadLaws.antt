-- From the lines of a text to what it is parsed to, a line at a time.
use mathlib.Core.Path.{◌≡◌, refl, sym, ap, ◌∙◌}
use mathlib.Core.Bool.{true, false}
use mathlib.Core.List.{List, [], ◌∷◌}
use mathlib.Core.Option.{Option, none, some}
use Prim.Native.Nat.{ℕ, ◌≤◌, ◌<◌}
use native.Mathlib.Omega.{arith}
use lib.ListN.{length, drop, replicate, length-drop, drop_of_length-le, length-replicate}
use Rattle.text.specs.Reading.{fits}
use Rattle.text.specs.Reading.Read.{got, bad}
use Rattle.text.specs.Lines.{front}
use Rattle.text.proofs.Lines.{all_none, all_more, all_bad}
use Rattle.sheet.specs.Sheet.{Sheet, type_count, label_count, max_labels, formed}
use Rattle.sheet.specs.Internal.Tables.{max_types, table_words, table_of}
use Rattle.sheet.proofs.FormLaws.{formed_facts, type-count}
use Rattle.sheet.proofs.TableLaws.{types_in_lem, labels_in_lem}
use Rattle.sheet.proofs.TableGrowth.{table-long}
use Rattle.sheet_text.specs.declared.line.SheetLine.{SheetLine}
use Rattle.std.specs.Prelude.{Some, None, Result, Ok, Err}
use Rattle.std.specs.Result.{is_err}
use Rattle.sheet_text.specs.Internal.Placed.{Draft}
use Rattle.sheet_text.specs.Reading.{line_of, lines_of}
use Rattle.sheet_text.specs.Internal.Building.{begin, least_owner, add_line, add_line_on, add_lines, build}
use Rattle.sheet_text.specs.Sheets.{build_read, sheet_read, ParsedSheet, malformed, repeating, accepted, judged}
use Rattle.sheet_text.specs.Sheets.{sheet_of}
use Rattle.sheet_text.specs.declared.SheetError.{SheetError}
use Rattle.sheet_text.specs.declared.SheetError.TheVariants.{Malformed, Repeats}
use Rattle.sheet_text.specs.Internal.Decoded.{Decoded, refused_by, decoded_sheet, Judges}
use Rattle.sheet_text.specs.Internal.Drafts.{DraftHolds, FormedIf, steps_read}
use Rattle.sheet_text.specs.Internal.Repeats.{CountsFit, repeats_in}
use Rattle.sheet_text.proofs.LineLaws.{sheet-lines}
use Rattle.sheet_text.proofs.DraftLaws.{holds_none, held_sheet, formed-stepped}
use Rattle.sheet_text.proofs.RepeatFinds.{repeats_in_lem}
use Rattle.sheet_text.proofs.Theorems.{sheet_in_sound, accepted_exact}

-- ---- the lines to come, at a place of a text

steps_front : (o : Option Sheet) (l : SheetLine) (ls : Option (List SheetLine))
    → steps_read o (front l ls) ≡ steps_read (add_line_on o l) ls
unfolding steps_read front add_lines
steps_front o l none = refl
steps_front o l (some ls) = refl

module _ (o : Option Sheet) (s : List ℕ) (i : ℕ) where
  pub steps_on : (l : SheetLine) (p : ℕ) → line_of (drop i s) ≡ got l (drop p s)
      → steps_read (add_line_on o l) (lines_of (drop p s)) ≡ steps_read o (lines_of (drop i s))
  steps_on l p e =
      sym (ap (steps_read o) (all_more sheet-lines (drop i s) l (drop p s) e) ∙ steps_front o l (lines_of (drop p s)))

  pub steps-bad : i < length s → line_of (drop i s) ≡ bad → none ≡ steps_read o (lines_of (drop i s))
  unfolding steps_read
  steps-bad h e = sym (ap (steps_read o) (all_bad sheet-lines (drop i s) (omega (arith, length-drop i s)) e))

  pub steps_end : length s ≤ i → o ≡ steps_read o (lines_of (drop i s))
  unfolding steps_read add_lines
  steps_end h = sym (ap (λ (t : List ℕ). steps_read o (lines_of t)) (drop_of_length-le s {i = i} h)
      ∙ ap (steps_read o) (all_none sheet-lines))

-- ---- the sheet of a text

build-front : (l : SheetLine) (ls : Option (List SheetLine)) → steps_read (begin l) ls ≡ build_read (front l ls)
unfolding steps_read build_read front build
build-front l none = refl
build-front l (some ls) = refl

module _ (t : List ℕ) where
  pub sheet-long : fits t ≡ false → none ≡ sheet_read t
  unfolding sheet_read
  sheet-long f = rw f

  pub sheet_first : (l : SheetLine) (u : List ℕ) → fits t ≡ true → line_of t ≡ got l u
      → steps_read (begin l) (lines_of u) ≡ sheet_read t
  unfolding sheet_read
  sheet_first l u f e = rw (f, all_more sheet-lines t l u e) (build-front l (lines_of u))

  pub sheet_none : fits t ≡ true → line_of t ≡ bad → none ≡ sheet_read t
  sheet_none f e = at t f e
    where
      at : (t : List ℕ) → fits t ≡ true → line_of t ≡ bad → none ≡ sheet_read t
      at [] f e = unfold sheet_read build_read build in (rw (f, all_none sheet-lines))
      at (b ∷ u) f e = unfold sheet_read build_read in (rw (f, all_bad sheet-lines (b ∷ u) (omega arith) e))

  pub formed_read : FormedIf (sheet_read t)
  formed_read = at (sheet_read t) refl
    where
      at : (o : Option Sheet) → sheet_read t ≡ o → FormedIf o
      at none e = unfold FormedIf in tt
      at (some s) e = unfold FormedIf in (sheet_in_sound t s e).is_formed

-- ---- the walk over the lines

-- with a refusal the lines to come are refused
lines_none : (ls : List SheetLine) → none ≡ add_lines none ls
unfolding add_lines add_line_on
lines_none [] = refl
lines_none (l ∷ ls) = lines_none ls

steps_none : (ls : Option (List SheetLine)) → none ≡ steps_read none ls
unfolding steps_read
steps_none none = refl
steps_none (some ls) = lines_none ls

-- a sheet of the right form is held, which the lines to come make the whole
pub record HeldAt (k : ℕ) (t : List ℕ) (rest : Option (List SheetLine)) (whole : Option Sheet) : Type 0 where
  pub sheet : Sheet
  pub is_formed : formed sheet ≡ true
  pub least : k ≡ least_owner sheet
  pub table : t ≡ table_of sheet
  pub leads : steps_read (some sheet) rest ≡ whole

module _ (o : Option Sheet) (d : Draft) (t : List ℕ) (h : DraftHolds o d t) (rest : Option (List SheetLine))
    (whole : Option Sheet) (leads : steps_read o rest ≡ whole) where
  pub held_after : (k : ℕ) → FormedIf o → d ≡ Some k → HeldAt k t rest whole
  held_after k f e =
      held_sheet o d k t f e h
      (λ s is fm least table. record {
        sheet = s;
        is_formed = fm;
        least = least;
        table = table;
        leads = ap (λ o. steps_read o rest) (sym is) ∙ leads;
      })

  pub refused_after : (u : List ℕ) → d ≡ None → DraftHolds whole None u
  refused_after u e = at o h leads
    where
      at : (o : Option Sheet) → DraftHolds o d t → steps_read o rest ≡ whole → DraftHolds whole None u
      at none h leads = holds_none whole u (steps_none rest ∙ leads)
      at (some s) h leads = unfold DraftHolds in (let z : None ≡ Some (least_owner s) = sym e ∙ h.0 in cc)

module _ {k : ℕ} {t : List ℕ} {whole : Option Sheet} (s : List ℕ) (i : ℕ)
    (h : HeldAt k t (lines_of (drop i s)) whole) where
  pub leads_on : (l : SheetLine) (p : ℕ) → line_of (drop i s) ≡ got l (drop p s)
      → steps_read (add_line h.sheet l) (lines_of (drop p s)) ≡ whole
  unfolding add_line_on
  leads_on l p e = steps_on (some h.sheet) s i l p e ∙ h.leads

  pub formed_on : (l : SheetLine) → FormedIf (add_line h.sheet l)
  unfolding add_line_on FormedIf
  formed_on l = formed-stepped (some h.sheet) l h.is_formed

  pub held_none : i < length s → line_of (drop i s) ≡ bad → (u : List ℕ) → DraftHolds whole None u
  held_none l e u = holds_none whole u (steps-bad (some h.sheet) s i l e ∙ h.leads)

  pub held_end : length s ≤ i → DraftHolds whole (Some k) t
  unfolding DraftHolds
  held_end l = rw (← (steps_end (some h.sheet) s i l ∙ h.leads)) (ap Some h.least, h.table)

-- ---- what a text is parsed to

module _ (d : Draft) (t : List ℕ) where
  pub parsed-malformed : (o : Option Sheet) → DraftHolds o d t → d ≡ None → Judges (judged o) (Err Malformed) t
  unfolding DraftHolds Judges judged
  parsed-malformed none e h = refl
  parsed-malformed (some s) e h = let z : None ≡ Some (least_owner s) = sym h ∙ e.0 in cc

  module _ (k : ℕ) (h : d ≡ Some k) where
    -- a table of a sheet of the right form has few types and labels
    pub counts-few : (o : Option Sheet) → FormedIf o → DraftHolds o d t
        → CountsFit t
    counts-few o f e =
        held_sheet o d k t f h e
        (λ s is fm least table.
        let facts = formed_facts s fm in
        let types : type_count s ≤ max_types = omega (arith, type-count s, facts.few_compounds) in
        let labels : label_count s ≤ max_labels = unfold label_count in facts.few_labels in
        rw table (record {
          types_from = rw types_in_lem (omega (arith, type-count s));
          types_to = rw types_in_lem types;
          labels_to = rw labels_in_lem labels;
        }))

    pub parsed-repeating : (o : Option Sheet) → FormedIf o → DraftHolds o d t → repeats_in t ≡ true
        → Judges (judged o) (Err Repeats) t
    unfolding Judges judged
    parsed-repeating o f e r =
        held_sheet o d k t f h e
        (λ s is fm least table. rw (is, sym (repeats_in_lem s fm) ∙ ap repeats_in (sym table) ∙ r))

    pub parsed-accepted : (o : Option Sheet) → FormedIf o → DraftHolds o d t → repeats_in t ≡ false
        → Judges (judged o) (Ok tt) t
    unfolding Judges judged
    parsed-accepted o f e r =
        held_sheet o d k t f h e
        (λ s is fm least table. rw (is, sym (repeats_in_lem s fm) ∙ ap repeats_in (sym table) ∙ r) (refl, table))

-- what is found, with the table or with zeros
module _ (a : ParsedSheet) (t : List ℕ) where
  pub refused : (r : Result Unit SheetError) → is_err r ≡ true → Judges a r t
      → record { verdict = r; table = replicate table_words 0 } ≡ decoded_sheet a
  unfolding decoded_sheet refused_by Judges
  refused (Ok u) e h = let z : false ≡ true = e in cc
  refused (Err x) e h = at a h
    where
      at : (a : ParsedSheet) → Judges a (Err x) t
          → record { verdict = Err x; table = replicate table_words 0 } ≡ decoded_sheet a
      at malformed h = let z : x ≡ Malformed = cc in ap refused_by z
      at repeating h = let z : x ≡ Repeats = cc in ap refused_by z
      at (accepted s) h = let z : Err x ≡ Ok tt = h.0 in cc

  pub found : (r : Result Unit SheetError) → is_err r ≡ false → Judges a r t
      → record { verdict = r; table = t } ≡ decoded_sheet a
  unfolding decoded_sheet Judges
  found (Err x) e h = let z : true ≡ false = e in cc
  found (Ok u) e h = at a h
    where
      at : (a : ParsedSheet) → Judges a (Ok tt) t → record { verdict = Ok tt; table = t } ≡ decoded_sheet a
      at malformed h = let z : Ok tt ≡ Err Malformed = h in cc
      at repeating h = let z : Ok tt ≡ Err Repeats = h in cc
      at (accepted s) h = ap (λ (t : List ℕ). record { verdict = Ok tt; table = t }) h.1

-- the table that a text is answered has all its words
pub decoded_long : (t : List ℕ) (d : Decoded) → d ≡ decoded_sheet (sheet_of t) → length d.table ≡ table_words
decoded_long t d e = ap (λ (x : Decoded). length x.table) e ∙ at (sheet_of t) refl
  where
    at : (a : ParsedSheet) → sheet_of t ≡ a → length (decoded_sheet a).table ≡ table_words
    at malformed p = unfold decoded_sheet refused_by in (length-replicate {A = ℕ} table_words 0)
    at repeating p = unfold decoded_sheet refused_by in (length-replicate {A = ℕ} table_words 0)
    at (accepted s) p = unfold decoded_sheet in (table-long s ((accepted_exact t s).0 p).0.is_formed)
