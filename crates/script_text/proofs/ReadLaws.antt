-- A text is parsed to its script, and the lent words then hold its code.
use mathlib.Core.Path.{◌≡◌, refl, sym, ap, ◌∙◌}
use mathlib.Core.Bool.{Bool, true, false}
use mathlib.Core.List.{List, []}
use mathlib.Core.Option.{Option, none, some}
use Prim.Native.Nat.{ℕ, ◌*◌, ◌≤◌}
use native.Mathlib.Omega.{arith}
use lib.Dec.{leb}
use lib.ListN.{length, take, length-drop, drop_of_length-le}
use lib.Seq.{take_at}
use borrow.Author.Tests.{leb-true, le-leb}
use Rattle.std.specs.Prelude.{Option as Optional, Some, None, option_map, unwrap_or}
use Rattle.std.specs.Option.{option_map_or}
use Rattle.logic.specs.Booleans.{both}
use Rattle.language.specs.Syntax.{Cmd, Opening, Script}
use Rattle.script.specs.Lines.{ScriptLine, Source, cmd_lines}
use Rattle.script.specs.Internal.Code.{code}
use Rattle.script.specs.Internal.Balance.{closes}
use Rattle.script.proofs.Balance.{cmd_closes}
use Rattle.script.specs.Names.{Counts, named, named_start, named_opening}
use Rattle.sheet.specs.Sheet.{max_labels}
use Rattle.sheet.specs.Padding.{padded}
use Rattle.sheet.specs.Internal.Starts.{start_no}
use Rattle.script_text.specs.Internal.Decoded.{code_words, started_at, coded, coded_text, decoded_script}
use Rattle.script_text.specs.declared.Decoded.{Decoded}
use Rattle.script_text.specs.Reading.{Written, written_of}
use Rattle.script_text.specs.Script.{command_of, script_with, script_read, script_of}
use Rattle.script_text.specs.Internal.Scan.{ScansCmd, is_some, start_there, Balanced, Whole}
use Rattle.script_text.proofs.CodeLaws.{code_empty, code_length}
use Rattle.script_text.proofs.ScanLaws.{false_true}
use Rattle.script_text.proofs.ScriptLaws.{command-sound, command-lines, script_split}
use Rattle.script_text.proofs.ScriptLaws.{script_sound}
use Rattle.logic.proofs.BooleanLaws.{bool_ext, cases}

-- ---- whether there is something

some_of : {A : Type 0} (o : Option A) → is_some o ≡ true → (c : A) × (o ≡ some c)
unfolding is_some
some_of none h = false_true false refl h
some_of (some c) h = (c, refl)

none_of : {A : Type 0} (o : Option A) → is_some o ≡ false → o ≡ none
unfolding is_some
none_of none h = refl
none_of (some c) h = false_true true h refl

is_some_lem : {A : Type 0} (o : Option A) (c : A) → o ≡ some c → is_some o ≡ true
unfolding is_some
is_some_lem o c e = rw e

module _ (k : Counts) (ws : List ℕ) where
  module _ (n : ℕ) (s : ScansCmd k 0 ws 0 (Some n)) where
    -- the lines are those of a command exactly if the one that was found ends where the code does
    whole_complete : (ls : List ScriptLine) → ws ≡ code ls → is_some (command_of k ls) ≡ true → length ws ≤ n
    unfolding code
    whole_complete ls h t =
        let o = some_of (command_of k ls) t in
        let c = command-sound k ls o.0 o.1 in
        let e = s.complete o.0 [] c.1 c.2 (h ∙ ap code c.0) in
        omega (arith, length-drop n ws, ap length e)

    whole_sound : (ls : List ScriptLine) → ws ≡ code ls → length ws ≤ n → is_some (command_of k ls) ≡ true
    whole_sound ls h l =
        let f = s.sound ls h in
        let e : f.1 ≡ [] = code_empty f.1 (sym f.5 ∙ drop_of_length-le ws l) in
        let g : ls ≡ cmd_lines f.0 [] = f.4 ∙ ap (cmd_lines f.0) e in
        is_some_lem _ f.0 (ap (command_of k) g ∙ command-lines k f.0 f.2 f.3)

    whole_found : Whole k ws (leb (length ws) n)
    whole_found ls h =
        bool_ext _ _ (λ e. whole_sound ls h (leb-true _ _ e)) (λ e. le-leb _ _ (whole_complete ls h e))

  -- no command was found
  whole_none : ScansCmd k 0 ws 0 None → Whole k ws false
  whole_none s ls h =
      bool_ext _ _ (λ e. false_true false refl e) (λ e.
      let o = some_of (command_of k ls) e in
      let c = command-sound k ls o.0 o.1 in
      absurd (s.complete o.0 [] c.1 c.2 (h ∙ ap code c.0)))

pub whole_of : (k : Counts) (ws : List ℕ) (r : Optional ℕ) → ScansCmd k 0 ws 0 r
    → Whole k ws (option_map_or (λ n. leb (length ws) n) r false)
whole_of k ws (Some n) s = whole_found k ws n s
whole_of k ws None s = whole_none k ws s

-- lines that aren't as many as their kinds ask for are no command's
pub whole_unbalanced : (k : Counts) (ws : List ℕ) (b : Bool) → Balanced ws b → b ≡ false → Whole k ws false
unfolding closes
whole_unbalanced k ws b f e ls h = on (is_some (command_of k ls)) refl
  where
    on : (t : Bool) → is_some (command_of k ls) ≡ t → false ≡ is_some (command_of k ls)
    on false z = sym z
    on true z =
        let o = some_of (command_of k ls) z in
        let c = command-sound k ls o.0 o.1 in
        false_true b e (f ls h ∙ ap (closes 1) c.0 ∙ cmd_closes o.0 0 [])

-- ---- the code of lines, filled up with zeros

coded_code : (ls : List ScriptLine) → take (length ls * 3) (padded code_words (code ls)) ≡ code ls
unfolding padded
coded_code ls = take_at (code ls) _ (length ls * 3) (code_length ls)

-- the label that a script starts at, and its number
pub start_number : (x : Option ℕ) → unwrap_or (started_at x) max_labels ≡ start_no x
unfolding started_at start_no
start_number none = refl
start_number (some l) = refl

-- the lines of a script's command are all of its code
coded_script : (k : Counts) (o : Option Written) → is_some (script_read k o) ≡ true
    → coded_text o ≡ decoded_script (script_read k o)
unfolding coded_text decoded_script is_some
coded_script k none x = unfold script_read in false_true false refl x
coded_script k (some w) x = let y = some_of (script_read k (some w)) x in go y.0 y.1
  where
    go : (p : Script) → script_read k (some w) ≡ some p → coded_text (some w) ≡ decoded_script (script_read k (some w))
    go p y =
        script_split k (some w) p
        (λ ls e c n. ap coded_text e
        ∙ ap (λ l. Some (coded p.opening.start l)) (command-sound k ls p.command c).0) y
        ∙ ap decoded_script (sym y)

pub script_coded : (k : Counts) (t : List ℕ) (p : Script) → script_of k t ≡ some p
    → coded_text (written_of t) ≡ decoded_script (script_of k t)
unfolding script_of
script_coded k t p e = coded_script k (written_of t) (is_some_lem _ p e)

-- ---- what a text is parsed to

-- what is tested of a start that is read is whether it is there
start_tested : (k : Counts) (x : Option ℕ) → start_there k.labels (started_at x) ≡ named_start k x
unfolding started_at start_there named_start
start_tested k none = refl
start_tested k (some l) = refl

-- there is a script where there is a command and its start is there
some_with : (k : Counts) (o : Opening) (c : Option Cmd)
    → both (is_some c) (named_opening k o) ≡ is_some (script_with k o c)
unfolding script_with is_some both
some_with k o none = refl
some_with k o (some c) = cases (named_opening k o) (λ n. rw n) (λ n. rw n)

-- where no lines are written there is no script
pub read_none : (k : Counts) (t : List ℕ) → None ≡ coded_text (written_of t) → decoded_script (script_of k t) ≡ None
unfolding script_of coded_text
read_none k t e = go (written_of t) e
  where
    go : (o : Option Written) → None ≡ coded_text o → decoded_script (script_read k o) ≡ None
    go none x = unfold script_read decoded_script in refl
    go (some w) x = let z : ◌≡◌ {A = ℕ} 0 1 = cc in absurd (omega arith)

module _ (k : Counts) (t : List ℕ) (d : Decoded) (w : List ℕ) (e : Some (d, w) ≡ coded_text (written_of t))
    (ws : List ℕ) (q : ws ≡ take (d.count * 3) w) (b : Bool) (h : Whole k ws b)
    (c : Bool) (i : c ≡ start_there k.labels d.start) where
  -- what was tested is whether the text has a script
  tested : both b c ≡ is_some (script_of k t)
  unfolding script_of script_read coded_text coded
  tested = go (written_of t) refl e
    where
      go : (o : Option Written) → written_of t ≡ o → Some (d, w) ≡ coded_text o → both b c ≡ is_some (script_read k o)
      go none y x = let z : ◌≡◌ {A = ℕ} 0 1 = cc in absurd (omega arith)
      go (some r) y x =
          let p : (d, w) ≡ coded r.opening.start r.lines = cc in
          let m : c ≡ named_opening k r.opening =
          i ∙ ap (λ (z : Decoded × List ℕ). start_there k.labels z.0.start) p ∙ start_tested k r.opening.start in
          let l : ws ≡ code r.lines =
          q ∙ ap (λ (z : Decoded × List ℕ). take (z.0.count * 3) z.1) p ∙ coded_code r.lines in
          rw (h r.lines l, m) (some_with k r.opening (command_of k r.lines))

  pub read_yes : both b c ≡ true → Some (d, w) ≡ decoded_script (script_of k t)
  unfolding script_of
  read_yes y = e ∙ coded_script k (written_of t) (sym tested ∙ y)

  pub read_no : both b c ≡ false → None ≡ decoded_script (script_of k t)
  unfolding decoded_script
  read_no y = rw (none_of (script_of k t) (sym tested ∙ y))

-- ---- what callers rest on

-- r is a refusal, or the code of the text's script and its start
pub read_split : {P : Type 0} (k : Counts) (t : List ℕ) (r : Optional Decoded) (w : List ℕ)
    → option_map (λ d. (d, w)) r ≡ decoded_script (script_of k t)
    → (script_of k t ≡ none → r ≡ None → P)
    → ((p : Script) (d : Decoded) → script_of k t ≡ some p → Source p.command → named k 0 p.command ≡ true
    → r ≡ Some d
    → take (d.count * 3) w ≡ code (cmd_lines p.command []) → d.start ≡ started_at p.opening.start → P)
    → P
unfolding decoded_script coded
read_split {P} k t r w e f g = go (script_of k t) r refl e refl
  where
    go : (o : Option Script) (x : Optional Decoded) → script_of k t ≡ o
        → option_map (λ d. (d, w)) x ≡ decoded_script o → r ≡ x → P
    go none None y i z = f y z
    go none (Some d) y i z = let u : ◌≡◌ {A = ℕ} 0 1 = cc in absurd (omega arith)
    go (some p) None y i z = let u : ◌≡◌ {A = ℕ} 0 1 = cc in absurd (omega arith)
    go (some p) (Some d) y i z =
        let s = script_sound k t p y in
        let v : (d, w) ≡ coded p.opening.start (cmd_lines p.command []) = cc in
        g p d y s.source s.named_there z
        (ap (λ (x : Decoded × List ℕ). take (x.0.count * 3) x.1) v ∙ coded_code (cmd_lines p.command []))
        (ap (λ (x : Decoded × List ℕ). x.0.start) v)
