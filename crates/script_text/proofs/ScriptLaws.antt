-- The script is read exactly if the text is the printed form of an opening and a command within the bounds.
use mathlib.Core.Path.{◌≡◌, refl, sym, ap, ◌∙◌}
use mathlib.Core.Bool.{true}
use mathlib.Core.List.{List, []}
use mathlib.Core.Option.{Option, none, some}
use Prim.Native.Nat.{ℕ, suc, ◌+◌, ◌-◌, ◌^◌, ◌≤◌}
use native.Mathlib.Omega.{arith}
use lib.Dec.{ltb, leb}
use lib.ListN.{length}
use borrow.Author.Tests.{ltb-true, leb-true, le-leb}
use Rattle.text.specs.Reading.{Read, fits, limit}
use Rattle.text.specs.Reading.Read.{got, bad}
use Rattle.text.specs.Number.{most}
use Rattle.text.specs.Lines.{empty_good, more_good, lines_up_to}
use Rattle.logic.proofs.OptionLaws.{none_some, some_path}
use Rattle.text.proofs.Lines.{lines_exact}
use Rattle.language.specs.Syntax.{Expr, Cmd, Opening, Script}
use Rattle.logic.proofs.BooleanLaws.{both_left, both_right, cond_split}
use Rattle.script.specs.Lines.{ScriptLine, l_skip, l_seq, l_assign, l_while, l_case, l_int, l_loc, l_var, l_plus}
use Rattle.script.specs.Lines.{l_left, l_right, l_pack, l_unpack, l_pair, l_proj, SourceE, s_int, s_loc, s_var, s_plus}
use Rattle.script.specs.Lines.{s_left, s_right, s_pack, s_unpack, s_pair, s_proj, Source, s_skip, s_seq, s_assign}
use Rattle.script.specs.Lines.{s_while, s_case, integer_of, expr_lines, cmd_lines, opening_lines}
use Rattle.script.specs.Internal.Code.{row_of}
use Rattle.script.specs.Names.{Counts, max_depth, named_e, named, named_start, named_opening, max_lines}
use Rattle.sheet.specs.Sheet.{Sheet, label_count, location_count, formed, max_labels}
use Rattle.sheet.specs.Internal.Tables.{table_of}
use Rattle.sheet.proofs.FormLaws.{formed_facts, type-count}
use Rattle.script_text.specs.Bytes.{lines_bytes, opening_bytes, script_bytes}
use Rattle.script_text.specs.Reading.{line_of, opening_of, Written, written_with, lines_after, written_of}
use Rattle.script_text.specs.Internal.Parse.{parse}
use Rattle.script_text.specs.Counts.{counts_of}
use Rattle.script_text.specs.Script.{named_only, command_of, script_with, script_read, script_of}
use Rattle.script_text.specs.Internal.Decoded.{counts_in}
use Rattle.script_text.specs.Theorems.{IsScript, ScriptExact}
use Rattle.script_text.proofs.LineLaws.{AllFit, script_lines}
use Rattle.script_text.proofs.ParseLaws.{parse-sound, parse-lines}
use Rattle.script_text.proofs.OpeningLaws.{Low, opening-few, opening-sound, opening_print}

-- ---- the operands of a command that names what is there are of 32 bits

-- the counts are of 32 bits
pub record Narrow (k : Counts) : Type 0 where
  pub types : k.types ≤ most
  pub labels : k.labels ≤ most
  pub locations : k.locations ≤ most

-- a number below a bound of 32 bits
small : (x n : ℕ) → ltb x n ≡ true → n ≤ most + 1 → x ≤ most
small x n h l = omega (arith, ltb-true x n h)

module _ (k : Counts) (narrow : Narrow k) where
  fit_expr : {e : Expr} {rest : List ScriptLine} (d : ℕ) → SourceE e → d ≤ max_depth → named_e k d e ≡ true
      → AllFit rest
      → AllFit (expr_lines e rest)
  unfolding expr_lines named_e integer_of row_of
  fit_expr d (s_int {n = n}) h m r = more_good {l = l_int n} (small n (2 ^ 32) m (omega arith), omega arith) r
  fit_expr d (s_loc {x = n}) h m r =
      more_good {l = l_loc n} (small n k.locations m (omega (arith, narrow.locations)), omega arith) r
  fit_expr d (s_var {d = n}) h m r = more_good {l = l_var n} (small n d m (omega arith), omega arith) r
  fit_expr d (s_plus s q) h n r = more_good {l = l_plus} (omega arith, omega arith)
      (fit_expr d s h (both_left _ _ n) (fit_expr d q h (both_right _ _ n) r))
  fit_expr d (s_left {t = x} s) h n r =
      more_good {l = l_left x} (small x k.types (both_left _ _ n) (omega (arith, narrow.types)), omega arith)
      (fit_expr d s h (both_right _ _ n) r)
  fit_expr d (s_right {t = x} s) h n r =
      more_good {l = l_right x} (small x k.types (both_left _ _ n) (omega (arith, narrow.types)), omega arith)
      (fit_expr d s h (both_right _ _ n) r)
  fit_expr d (s_pack {l = x} s) h n r =
      more_good {l = l_pack x} (small x k.labels (both_left _ _ n) (omega (arith, narrow.labels)), omega arith)
      (fit_expr d s h (both_right _ _ n) r)
  fit_expr d (s_unpack {t = x} {l = y} s) h n r =
      let t = both_left _ _ n in
      more_good {l = l_unpack x y} (
        small x k.types (both_left _ _ t) (omega (arith, narrow.types)),
        small y k.labels (both_right _ _ t) (omega (arith, narrow.labels)),
      )
      (fit_expr d s h (both_right _ _ n) r)
  fit_expr d (s_pair {t = x} s q) h n r =
      let m = both_right _ _ n in
      more_good {l = l_pair x} (small x k.types (both_left _ _ n) (omega (arith, narrow.types)), omega arith)
      (fit_expr d s h (both_left _ _ m) (fit_expr d q h (both_right _ _ m) r))
  fit_expr d (s_proj {p = p} s) h n r = more_good {l = l_proj p} (omega arith, omega arith) (fit_expr d s h n r)

  fit_cmd : {c : Cmd} {rest : List ScriptLine} (d : ℕ) → Source c → d ≤ max_depth → named k d c ≡ true → AllFit rest
      → AllFit (cmd_lines c rest)
  unfolding cmd_lines named row_of
  fit_cmd d s_skip h n r = more_good {l = l_skip} (omega arith, omega arith) r
  fit_cmd d (s_seq s q) h n r = more_good {l = l_seq} (omega arith, omega arith)
      (fit_cmd d s h (both_left _ _ n) (fit_cmd d q h (both_right _ _ n) r))
  fit_cmd d (s_assign {x = x} s) h n r =
      more_good {l = l_assign x}
      (small x k.locations (both_left _ _ n) (omega (arith, narrow.locations)), omega arith)
      (fit_expr d s h (both_right _ _ n) r)
  fit_cmd d (s_while s q) h n r = more_good {l = l_while} (omega arith, omega arith)
      (fit_expr d s h (both_left _ _ n) (fit_cmd d q h (both_right _ _ n) r))
  fit_cmd d (s_case s q p) h n r =
      let m = both_right _ _ n in
      let deep : suc d ≤ max_depth = ltb-true _ _ (both_left _ _ m) in
      let i = both_right _ _ m in
      more_good {l = l_case} (omega arith, omega arith)
      (fit_expr d s h (both_left _ _ n)
      (fit_cmd (suc d) q deep (both_left _ _ i) (fit_cmd (suc d) p deep (both_right _ _ i) r)))

-- ---- the command of lines

pub command-sound : (k : Counts) (ls : List ScriptLine) (c : Cmd) → command_of k ls ≡ some c
    → (ls ≡ cmd_lines c []) × Source c × (named k 0 c ≡ true)
unfolding command_of
command-sound k ls c e = go (parse ls) refl e
  where
    go : (o : Option Cmd) → parse ls ≡ o → named_only k o ≡ some c
        → (ls ≡ cmd_lines c []) × Source c × (named k 0 c ≡ true)
    go none p h = unfold named_only in none_some h
    go (some d) p h =
        unfold named_only in
        (cond_split (named k 0 d) _ _ _
        (λ n x. let y : d ≡ c = some_path x in let r = parse-sound ls d p in rw (← y) (r.0, r.1, n))
        (λ n x. none_some x) h)

pub command-lines : (k : Counts) (c : Cmd) → Source c → named k 0 c ≡ true → command_of k (cmd_lines c []) ≡ some c
unfolding command_of named_only
command-lines k c s n = rw (parse-lines s, n)

-- ---- the script of a text

-- a script that is read names only what is there
pub script_split : {P : Type 0} (k : Counts) (w : Option Written) (p : Script)
    → ((ls : List ScriptLine) → w ≡ some (record { opening = p.opening; lines = ls })
    → command_of k ls ≡ some p.command
    → named_opening k p.opening ≡ true → P)
    → script_read k w ≡ some p → P
unfolding script_read script_with
script_split k none p g e = none_some e
script_split {P} k (some w) p g e = with_command (command_of k w.lines) refl e
  where
    with_command : (o : Option Cmd) → command_of k w.lines ≡ o → script_with k w.opening o ≡ some p → P
    with_command none x h = none_some h
    with_command (some c) x h =
        cond_split (named_opening k w.opening) _ _ _
        (λ n y.
        let z : record { opening = w.opening; command = c } ≡ p = some_path y in
        g w.lines (ap (λ (q : Script). some (record { opening = q.opening; lines = w.lines })) z)
        (x ∙ ap (λ (q : Script). some q.command) z) (sym (ap (λ (q : Script). named_opening k q.opening) z) ∙ n))
        (λ n y. none_some y) h

-- what is written in a text
pub record IsWritten (t : List ℕ) (w : Written) : Type 0 where
  pub printed : t ≡ opening_bytes w.opening (lines_bytes w.lines)
  pub few : opening_lines w.opening + length w.lines ≤ max_lines
  pub short : length t ≤ limit
  pub low : Low w.opening.start

pub written-sound : (t : List ℕ) (w : Written) → written_of t ≡ some w → IsWritten t w
unfolding written_of fits lines_after written_with
written-sound t w e =
    cond_split (leb (length t) limit) _ _ _ (λ f x. after (opening_of t) refl (leb-true _ _ f) x) (λ f x. none_some x) e
  where
    lines : (o : Opening) (u : List ℕ) → opening_of t ≡ got o u → length t ≤ limit → (ls : Option (List ScriptLine))
        → lines_up_to line_of (max_lines - opening_lines o) u ≡ ls → written_with o ls ≡ some w → IsWritten t w
    lines o u z l none y h = none_some h
    lines o u z l (some ls) y h =
        let s = opening-sound t o u z in
        let r = (lines_exact script_lines (max_lines - opening_lines o) u ls).0 y in
        rw (← some_path h)
        (record {
          printed = s.0 ∙ ap (opening_bytes o) r.0;
          few = omega (arith, r.2, opening-few o);
          short = l;
          low = s.1;
        })

    after : (r : Read Opening) → opening_of t ≡ r → length t ≤ limit → lines_after r ≡ some w → IsWritten t w
    after bad z l h = none_some h
    after (got o u) z l h = lines o u z l (lines_up_to line_of (max_lines - opening_lines o) u) refl h

written_print : (o : Opening) → Low o.start → (c : Cmd) → AllFit (cmd_lines c [])
    → opening_lines o + length (cmd_lines c []) ≤ max_lines
    → length (opening_bytes o (lines_bytes (cmd_lines c []))) ≤ limit
    → written_of (opening_bytes o (lines_bytes (cmd_lines c [])))
    ≡ some (record { opening = o; lines = cmd_lines c [] })
unfolding written_of lines_after written_with fits
written_print o w c f h l =
    rw (
      le-leb _ _ l,
      opening_print o w c,
      (lines_exact script_lines (max_lines - opening_lines o) _ (cmd_lines c [])).1 (refl, f, omega arith),
    )

-- what a text that is read is
pub script_sound : (k : Counts) (t : List ℕ) (p : Script) → script_of k t ≡ some p → IsScript k t p
unfolding script_of
script_sound k t p e =
    script_split k (written_of t) p (λ ls x y n.
    let r = written-sound t _ x in
    let q = command-sound k ls p.command y in
    record {
      printed = r.printed ∙ ap (λ (z : List ScriptLine). opening_bytes p.opening (lines_bytes z)) q.0;
      source = q.1;
      opened_there = n;
      named_there = q.2;
      few = rw q.0 at r.few;
      short = r.short;
    }) e

-- a start that is there is one that some sheet has
start_low : (k : Counts) → k.labels ≤ max_labels → (x : Option ℕ) → named_start k x ≡ true → Low x
unfolding named_start
start_low k l none h = tt
start_low k l (some x) h = omega (arith, ltb-true x k.labels h)

pub script_print : (k : Counts) → Narrow k → k.labels ≤ max_labels → (t : List ℕ) (p : Script) → IsScript k t p
    → script_of k t ≡ some p
unfolding script_of script_read script_with
script_print k w m t p s =
    let f = fit_cmd k w 0 s.source (omega arith) s.named_there empty_good in
    let l : length (script_bytes p) ≤ limit = rw s.printed at s.short in
    rw (
      s.printed,
      written_print p.opening (start_low k m p.opening.start s.opened_there) p.command f s.few l,
      command-lines k p.command s.source s.named_there,
      s.opened_there,
    ) refl

-- a sheet of the form has few of each
pub sheet_narrow : (s : Sheet) → formed s ≡ true → Narrow (counts_of s)
unfolding label_count location_count
sheet_narrow s h =
    let f = formed_facts s h in
    record {
      types = omega (arith, type-count s, f.few_compounds);
      labels = omega (
        arith,
        f.few_labels,
      );
      locations = omega (arith, f.few_locations);
    }

pub script_exact : ScriptExact
unfolding label_count
script_exact s h t p = (
  λ e. script_sound (counts_of s) t p e,
  λ x. script_print (counts_of s) (sheet_narrow s h) (formed_facts s h).few_labels t p x,
)

-- the counts in a sheet's table are the sheet's
pub counts-table : (s : Sheet) → counts_in (table_of s) ≡ counts_of s
unfolding table_of
counts-table s = refl
