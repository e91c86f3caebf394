-- The stages of a call: what each leaves, from what it calls.
use mathlib.Core.Logic.{◌⊎◌, inl, inr}
use mathlib.Core.Path.{◌≡◌, refl, sym, ap, ◌∙◌}
use mathlib.Core.Bool.{Bool, true, false, cond}
use mathlib.Core.List.{List, []}
use mathlib.Core.Option.{Option, none, some}
use Prim.Native.Nat.{ℕ, zero, suc, ◌+◌, ◌*◌, ◌≤◌}
use denote.Enum.Declared.{tag_of}
use native.Mathlib.Omega.{arith}
use borrow.Author.Tests.{ne_eqb}
use mir.Val.{bool_byte}
use lib.ListN.{length, take}
use Rattle.language.specs.Syntax.{Script}
use Rattle.language.specs.Transition.{Out, done, spent, over, wrong, iterate}
use Rattle.language.specs.Typing.{shape}
use Rattle.language.proofs.Exactness.{script_iff, exactness}
use Rattle.language.proofs.TypeSoundness.{type_soundness}
use Rattle.sheet.specs.Sheet.{Sheet, location_count, max_labels}
use Rattle.sheet.specs.Internal.Starts.{start_no}
use Rattle.sets.specs.Sets.{within}
use Rattle.sheet.specs.Internal.Tables.{everyone_in}
use Rattle.sheet.proofs.TableLaws.{everyone_in_lem}
use Rattle.sheet.specs.Meaning.{labels_over, declarations_of, shapes_of, world_for}
use Rattle.sheet.proofs.MeaningLaws.{least_label_laws}
use Rattle.script.specs.Names.{Counts}
use Rattle.script_text.specs.declared.Decoded.{Decoded}
use Rattle.script_text.specs.Counts.{counts_of}
use Rattle.script_text.specs.Script.{script_of}
use Rattle.script_text.specs.Internal.Decoded.{counts_in, no_code, started_at, decoded_script}
use Rattle.script_text.proofs.ScriptLaws.{counts-table}
use Rattle.script_text.proofs.ReadLaws.{read_split, start_number}
use Rattle.std.specs.Prelude.{Result, Ok, Err, IsErr, Option as Optional, Some, None, option_map, unwrap_or, IfNone}
use Rattle.std.specs.Result.{IsErrAnd}
use Rattle.std.proofs.lemmas.Result.{err_from_is_err_and}
use Rattle.stages.specs.contracts.refusal.Refusal.{the_type}
use Rattle.stages.specs.declared.refusal.Refusal.{Refusal}
use Rattle.stages.specs.declared.refusal.Refusal.TheVariants as reasons
use Rattle.stages.specs.declared.Outcome.{Outcome}
use Rattle.stages.specs.declared.Accepted.{Accepted}
use Rattle.stages.specs.Refusals.{refusal_number}
use Rattle.memory.specs.Memory.{memory_of, well_formed, memory_refusal}
use Rattle.memory.specs.View.{view_words, view_refusal}
use Rattle.memory.specs.Internal.InTable.{view_in, leaves, refusal_in, view_refusal_in, view_leaves_in}
use Rattle.memory.proofs.Exactness.{memories_exactly, table_agrees}
use Rattle.memory.proofs.MemoryLaws.{unrefused-length, unrefused-formed}
use Rattle.checker.specs.declared.TypingError.{TypingError}
use Rattle.checker.specs.declared.TypingError.TheVariants.{IllTyped, IllLabelled}
use Rattle.checker.specs.Verdict.{verdict_number}
use Rattle.checker.specs.Internal.Post.{ChecksCode, KeepsCode}
use Rattle.evaluator.specs.declared.Stop.{Stop}
use Rattle.evaluator.specs.State.{state_number}
use Rattle.interpreter.specs.Internal.Run.{RunLeaves, Runs}
use Rattle.stages.specs.Answers.{Ran, refused_run, Viewed, refused_view, refused_trust}
use Rattle.stages.specs.Calls.{unless, strangers, on_script, untyped, number_of, ended, accepted_run, keeping_bit}
use Rattle.stages.specs.Calls.{trust_on}
use Rattle.stages.specs.Internal.Stages.{TableOf, keeping_in, AcceptedCode, Accepts, Spares, RunsAccepted}
use Rattle.stages.specs.Internal.Stages.{TrustsOn, RunsOn, OfVerdict, OfState, strangers_in, number_in, trust_in}
use Rattle.stages.specs.Internal.Stages.{run_in, viewed_in, answered_trust, answered_run, code_left, lines_of}
use Rattle.stages.specs.Internal.Stages.{NumbersScript}

-- ---- numbers

-- the number of a refusal is its place, from 1 on
pub place_number : (r : Refusal) → tag_of the_type r + 1 ≡ refusal_number r
place_number reasons.SheetMalformed = refl
place_number reasons.SheetRepeats = refl
place_number reasons.PrincipalUnknown = refl
place_number reasons.ScriptMalformed = refl
place_number reasons.IllTyped = refl
place_number reasons.IllLabelled = refl
place_number reasons.SliceSize = refl
place_number reasons.MemoryIllFormed = refl
place_number reasons.Spent = refl
place_number reasons.TooLong = refl
place_number reasons.TooManyScripts = refl
place_number reasons.NotListed = refl

-- and isn't 0
pub refuses : (r : Refusal) → refusal_number r ≡ 0 → ⊥
refuses r e = omega (arith, place_number r, e)

-- what `?` hands on is what refused
pub passed_on : {A : Type 0} (r : Result A Refusal) (e : Refusal) → IsErr r × IsErrAnd r (λ d. d ≡ e) → r ≡ Err e
passed_on r e h = let p = err_from_is_err_and r h.1 in p.1 ∙ ap Err p.2

-- what `?` hands on has the number of what was found
pub handed_on : {A : Type 0} (r : Result A Refusal) (n : ℕ) → IsErr r × IsErrAnd r (λ d. refusal_number d ≡ n)
    → (d : Refusal) × (r ≡ Err d) × (refusal_number d ≡ n)
handed_on r n h = err_from_is_err_and r h.1

-- 0 is that of the verdict that accepts
pub accepted-verdict : OfVerdict 0
unfolding verdict_number
accepted-verdict = (Ok tt, refl)

-- one that refuses isn't below 4
pub refusing_verdict : {k : ℕ} → OfVerdict k → (k ≡ 0) ⊎ (4 ≤ k)
unfolding verdict_number
refusing_verdict (Ok u, e) = inl e
refusing_verdict (Err IllTyped, e) = inr (omega arith)
refusing_verdict (Err IllLabelled, e) = inr (omega arith)

-- ---- reading and checking a script

-- how many lines were read, if any were
abbrev pub lines_read : Optional Decoded → ℕ
lines_read None = 0
lines_read (Some d) = d.count

abbrev start_read : Optional Decoded → Optional ℕ
start_read None = None
start_read (Some d) = d.start

module _ (t script w ws : List ℕ) (r : Optional Decoded)
    (e : option_map (λ d. (d, w)) r ≡ decoded_script (script_of (counts_in t) script))
    (rows : ws ≡ take (lines_read r * 3) w) where
  module _ (s : Sheet) (T : TableOf t s) where
    same_counts : counts_in t ≡ counts_of s
    same_counts = ap counts_in T.words ∙ counts-table s

    on-sheet : option_map (λ d. (d, w)) r ≡ decoded_script (script_of (counts_of s) script)
    on-sheet = e ∙ ap (λ (j : _). decoded_script (script_of j script)) same_counts

    its_rows : (d : Decoded) → r ≡ Some d → ws ≡ take (d.count * 3) w
    its_rows d a = rows ∙ ap (λ (q : Optional Decoded). take (lines_read q * 3) w) a

    -- where the script's number is 0, it is the code of an accepted script
    pub accepted_code : number_of s script ≡ 0 → AcceptedCode s script ws
    unfolding number_of on_script
    accepted_code z = read_split (counts_of s) script r w on-sheet
        (λ n a. absurd (omega (arith, rw n at z)))
        (λ c d i src nm a tk st.
        record { parsed = c; is_its = i; source = src; names = nm; typed = rw i at z; lines = its_rows d a ∙ tk })

  module _ (d : Decoded) (q : r ≡ Some d) where
    -- what the checker starts at is where the script does
    starts : (c : Script) (x : Decoded) → r ≡ Some x → x.start ≡ started_at c.opening.start
        → unwrap_or d.start max_labels ≡ start_no c.opening.start
    starts c x a st =
        let k : Some d ≡ Some x = sym q ∙ a in
        let m : d.start ≡ x.start = ap (λ (o : Optional Decoded). start_read o) k in
        rw (m, st) (start_number c.opening.start)

    some_read : (r ≡ None) → ⊥
    some_read n = let u : ◌≡◌ {A = ℕ} 0 1 = cc in omega (arith, u)

    module _ (s : Sheet) (T : TableOf t s) where
      -- the checker's number is that of the script that was read
      checked-number : (v : ℕ) → ChecksCode ws t (unwrap_or d.start max_labels) v → v ≡ number_of s script
      unfolding number_of on_script untyped
      checked-number v x = read_split (counts_of s) script r w (on-sheet s T)
          (λ n a. absurd (some_read a))
          (λ c y i src nm a tk st. rw i
          (x.exact s T.form T.once T.words (counts_of s) c src nm (its_rows s T y a ∙ tk) (starts c y a st)))

      checked-keeping : (k : Bool) → KeepsCode ws t k → k ≡ keeping_in s (script_of (counts_of s) script)
      unfolding keeping_in on_script
      checked-keeping k x = read_split (counts_of s) script r w (on-sheet s T)
          (λ n a. absurd (some_read a))
          (λ c y i src nm a tk st. rw i (x.says s T.form T.words (counts_of s) c src nm (its_rows s T y a ∙ tk)))

    -- by what the table counts, a script was read
    there-is : (v : ℕ) → v ≡ on_script (λ k. k) (script_of (counts_in t) script) (λ _. v)
    unfolding on_script
    there-is v = read_split (counts_in t) script r w e
        (λ n a. absurd (some_read a))
        (λ c y i src nm a tk st. rw i refl)

    as_decoded : decoded_script (script_of (counts_in t) script) ≡ Some (d, w)
    as_decoded = sym e ∙ ap (option_map (λ x. (x, w))) q

    words-read : w ≡ code_left (decoded_script (script_of (counts_in t) script))
    unfolding code_left
    words-read = sym (ap code_left as_decoded)

    module _ (v : Result Unit TypingError) (x : ChecksCode ws t (unwrap_or d.start max_labels) (verdict_number v)) where
      pub numbers_read : NumbersScript script t (verdict_number v) d.count w
      unfolding number_in
      numbers_read = record {
        count_is = sym (ap lines_of as_decoded);
        words_are = words-read;
        numbered = λ s T. checked-number s T (verdict_number v) x;
        accepted = λ s T z.
            rw (← (rows ∙ ap (λ (o : Optional Decoded). take (lines_read o * 3) w) q))
            (accepted_code s T (sym (checked-number s T (verdict_number v) x) ∙ z));
        in_table = (verdict_number v, (v, refl), there-is (verdict_number v));
      }

      pub accepts_ill : (refusal : Refusal) → refusal_number refusal ≡ verdict_number v
          → Accepts script t (Err refusal) w
      accepts_ill refusal n = let (k, of, is) = numbers_read.in_table in record {
        words_are = words-read;
        numbered = λ s T. n ∙ numbers_read.numbered s T;
        accepted = tt;
        in_table = (k, of, n ∙ is);
      }

      pub accepts_well : 0 ≡ verdict_number v → (keeping : Bool) → KeepsCode ws t keeping
          → Accepts script t (Ok (record { count = d.count; keeping = keeping })) w
      accepts_well n keeping k = let (j, of, is) = numbers_read.in_table in record {
        words_are = words-read;
        numbered = λ s T. n ∙ numbers_read.numbered s T;
        accepted = record {
          count_is = numbers_read.count_is;
          has_code = λ s T. numbers_read.accepted s T (sym n);
          says = λ s T. checked-keeping s T keeping k;
        };
        in_table = (j, of, n ∙ is);
      }

  -- there is none
  is-none : r ≡ None → (k : Counts) → k ≡ counts_in t → (number : Script → ℕ)
      → 4 ≡ on_script (λ j. j) (script_of k script) number
  unfolding on_script
  is-none q k i number = read_split k script r w (e ∙ ap (λ (j : Counts). decoded_script (script_of j script)) (sym i))
      (λ n a. rw n refl)
      (λ c y j src nm a tk st. absurd (let u : ◌≡◌ {A = ℕ} 0 1 = cc in omega (arith, u)))

  pub numbers_none : r ≡ None → IfNone r (w ≡ no_code) → NumbersScript script t 4 0 w
  unfolding number_of number_in code_left
  numbers_none q z =
      let none-decoded = sym (ap (option_map (λ x. (x, w))) q) ∙ e in
      record {
        count_is = ap lines_of none-decoded;
        words_are = rw q at z ∙ ap code_left none-decoded;
        numbered = λ s T. is-none q _ (sym (same_counts s T)) (untyped s);
        accepted = λ s T f. absurd (omega arith);
        in_table = (0, accepted-verdict, is-none q _ refl (λ _. 0));
      }

  pub accepts_none : r ≡ None → IfNone r (w ≡ no_code) → Accepts script t (Err reasons.ScriptMalformed) w
  accepts_none q z = let n = numbers_none q z in
      record { words_are = n.words_are; numbered = n.numbered; accepted = tt; in_table = n.in_table }

-- the table's refusal of a memory is the sheet's
pub refusal_in_lem : (t memory : List ℕ) (a : ℕ) → a ≡ refusal_in t memory → (s : Sheet) → TableOf t s
    → a ≡ memory_refusal s memory
refusal_in_lem t memory a e s T =
    e ∙ ap (λ (u : List ℕ). refusal_in u memory) T.words ∙ (table_agrees s T.form).refusal memory

-- ---- running

-- a number that is not 0 refuses
pub stops : {A : Type 0} (refuse : ℕ → A) (k : ℕ) (go : A) → (k ≡ 0 → ⊥) → unless refuse k go ≡ refuse k
unfolding unless
stops refuse zero go n = absurd (n refl)
stops refuse (suc k) go n = refl

-- 0 goes on
pub goes : {A : Type 0} (refuse : ℕ → A) (k : ℕ) (go : A) → k ≡ 0 → unless refuse k go ≡ go
unfolding unless
goes refuse k go e = rw e refl

-- nor is that of a refusal
pub stopped : {A : Type 0} (refuse : ℕ → A) (refusal : Refusal) (k : ℕ) (go : A) → refusal_number refusal ≡ k
    → refuse (refusal_number refusal) ≡ unless refuse k go
stopped refuse refusal k go e = rw (← e) (sym (stops refuse (refusal_number refusal) go (refuses refusal)))

-- a script's number that is not 0 refuses, whatever is done with an accepted script
number_stops : {A : Type 0} (refuse : ℕ → A) (o : Option Script) (number : Script → ℕ) (go : Script → A) (k : ℕ)
    → k ≡ on_script (λ k. k) o number → (k ≡ 0 → ⊥)
    → refuse k ≡ on_script refuse o (λ p. unless refuse (number p) (go p))
unfolding on_script
number_stops refuse none number go k e n = ap refuse e
number_stops refuse (some p) number go k e n = ap refuse e ∙ sym (stops refuse (number p) _ (λ w. n (e ∙ w)))

-- and 0 goes on
number_goes : {A : Type 0} (refuse : ℕ → A) (o : Option Script) (number : ℕ) (go : A)
    → 0 ≡ on_script (λ k. k) o (λ _. number) → on_script refuse o (λ _. unless refuse number go) ≡ go
unfolding on_script
number_goes refuse none number go e = absurd (omega arith)
number_goes refuse (some p) number go e = goes refuse number go (sym e)

-- ---- trust

byte_is : (b : Bool) → bool_byte b ≡ cond b 1 0
byte_is true = refl
byte_is false = refl

module _ (script t words : List ℕ) where
  -- 4, 5 and 6
  pub trust-refused : (refusal : Refusal) → Accepts script t (Err refusal) words
      → TrustsOn script t (answered_trust (Err refusal))
  unfolding trust_on number_of trust_in number_in
  trust-refused refusal n = let (v, of, is) = n.in_table in record {
    no_keeping = λ m. refl;
    trusted = λ s T. number_stops refused_trust _ (untyped s) _ _ (n.numbered s T) (refuses refusal);
    in_table = (v, of, false, number_stops refused_trust _ (λ _. v) _ _ is (refuses refusal));
  }

  pub trust-accepted : (a : Accepted) → Accepts script t (Ok a) words
      → TrustsOn script t (answered_trust (Ok (record { answer = 0; keeping = bool_byte a.keeping })))
  unfolding trust_on keeping_bit keeping_in on_script trust_in number_in
  trust-accepted a n = let (v, of, is) = n.in_table in record {
    no_keeping = λ m. absurd (m refl);
    trusted = λ s T.
        let c = n.accepted.has_code s T in
        let e = n.accepted.says s T in
        rw (c.is_its, byte_is a.keeping)
        (rw (rw c.is_its at e) (sym (goes refused_trust (untyped s c.parsed) _ c.typed)));
    in_table = (
      v,
      of,
      a.keeping,
      rw (byte_is a.keeping) (sym (number_goes refused_trust (script_of (counts_in t) script) v _ is)),
    );
  }

-- an accepted script passes the test on types
pub accepted-shape : (s : Sheet) (p : Script) → untyped s p ≡ 0 → shape (shapes_of s) [] p.command ≡ true
unfolding untyped
accepted-shape s p u =
    let laws = least_label_laws s.principals in
    let derived = ((exactness (labels_over s.principals) laws (declarations_of s)).accepted p).0 u in
    ((script_iff (labels_over s.principals) laws (declarations_of s) p).1 derived).0

-- an accepted script from a well-formed memory is never stuck, so that its outcome is the answer
ends : (s : Sheet) (memory : List ℕ) (authority budget : ℕ) (p : Script) → untyped s p ≡ 0 → memory_refusal s memory ≡ 0
    → (state steps : ℕ) (left : List ℕ) (o : Out)
    → iterate (world_for s authority p) budget (memory_of memory) p.command ≡ o
    → RunLeaves (location_count s) budget memory o state steps left
    → record { answer = state; steps = steps; memory = left } ≡ ended (location_count s) budget memory o
unfolding RunLeaves ended
ends s memory authority budget p u m state steps left (done M l) e (i, j, k) = rw (i, j, k) refl
ends s memory authority budget p u m state steps left spent e (i, j, k) = rw (i, j, k) refl
ends s memory authority budget p u m state steps left (over l) e (i, j, k) = rw (i, j, k) refl
ends s memory authority budget p u m state steps left wrong e h =
    absurd ((type_soundness (shapes_of s) (world_for s authority p) (λ _. refl)).never_wrong p.command
    (accepted-shape s p u) (memory_of memory)
    ((memories_exactly s).values memory m).typed budget e)

pub runs-accepted : (ws t memory : List ℕ) (authority budget : ℕ) (state : Result Unit Stop) (steps : ℕ) (left : List ℕ)
    → Runs ws t memory authority budget (state_number state) steps left
    → RunsAccepted ws t memory authority budget (record { answer = state_number state; steps = steps; memory = left })
unfolding memory_refusal
runs-accepted ws t memory authority budget state steps left r = record {
  spares = record { untouched = r.untouched; within = r.within };
  ran = λ s T script a z.
      ends s memory authority budget a.parsed a.typed z (state_number state) steps left _ refl
      (r.means s (counts_of s) a.parsed.command T.form T.words refl refl a.source a.names a.lines
      (unrefused-length (location_count s) (well_formed s memory) memory z)
      (unrefused-formed (location_count s) (well_formed s memory) memory z));
  in_table = (state, refl);
}

-- ---- principals

-- by the test on the table's set of all principals
pub strangers_by : (t : List ℕ) (g : ℕ) (b : Bool) → within g (everyone_in t) ≡ b → cond b 0 3 ≡ strangers_in t g
unfolding strangers_in
strangers_by t g b h = ap (λ (x : Bool). cond x 0 3) (sym h)

-- on the table of a sheet they are the sheet's
pub strangers_same : (t : List ℕ) (s : Sheet) (g : ℕ) → TableOf t s → strangers_in t g ≡ strangers s g
unfolding strangers_in strangers
strangers_same t s g T =
    ap (λ (u : List ℕ). cond (within g (everyone_in u)) 0 3) T.words
    ∙ ap (λ (x : ℕ). cond (within g x) 0 3) (everyone_in_lem s T.form)

module _ (memory : List ℕ) (budget : ℕ) where
  -- a refused run takes no step and leaves the memory
  refusal-spares : (k : ℕ) → Spares memory budget (refused_run memory k)
  refusal-spares k = record { untouched = λ n. refl; within = omega arith }

  -- what may stand for a run that isn't reached
  pub unreached : Spares memory budget (refused_run memory 0) × OfState 0
  unreached = (refusal-spares 0, (Ok tt, refl))

module _ (script t memory : List ℕ) (authority budget : ℕ) where
  abbrev R : ℕ → Ran
  R = refused_run memory

  -- what is left to do where no principal is strange: on a sheet, and on any table
  onward : Sheet → Ran
  onward s =
      on_script R (script_of (counts_of s) script) (λ c.
      unless R (untyped s c) (
      unless R (memory_refusal s memory) (
      accepted_run s memory authority budget c)))

  onward_in : ℕ → Ran → Ran
  onward_in v run = on_script R (script_of (counts_in t) script) (λ _. unless R v (unless R (refusal_in t memory) run))

  pub run_stranger : (refusal : Refusal) → refusal_number refusal ≡ strangers_in t authority
      → RunsOn script t memory authority budget (answered_run (Err refusal) memory)
  unfolding run_in
  run_stranger refusal h = let (kept, of) = unreached memory budget in record {
    spares = refusal-spares memory budget _;
    ran = λ s T. stopped R refusal _ _ (h ∙ strangers_same t s authority T);
    in_table = (0, accepted-verdict, R 0, kept, of, stopped R refusal _ _ h);
  }

  module _ (h : 0 ≡ strangers_in t authority) where
    by_onward : (r : Ran) → Spares memory budget r → ((s : Sheet) → TableOf t s → r ≡ onward s)
        → (v : ℕ) → OfVerdict v → (run : Ran) → Spares memory budget run × OfState run.answer → r ≡ onward_in v run
        → RunsOn script t memory authority budget r
    unfolding onward onward_in run_in
    by_onward r k f v of run m e = record {
      spares = k;
      ran = λ s T. f s T ∙ sym (goes R (strangers s authority) _ (sym (h ∙ strangers_same t s authority T)));
      in_table = (v, of, run, m.0, m.1, e ∙ sym (goes R (strangers_in t authority) _ (sym h)));
    }

    -- 4, 5 and 6
    pub run-ill : (refusal : Refusal) (words : List ℕ) → Accepts script t (Err refusal) words
        → RunsOn script t memory authority budget (answered_run (Err refusal) memory)
    unfolding onward onward_in number_of number_in
    run-ill refusal words n =
        let (v, of, is) = n.in_table in
        by_onward _ (refusal-spares memory budget _)
        (λ s T. number_stops R _ (untyped s) _ _ (n.numbered s T) (refuses refusal))
        v of (R 0) (unreached memory budget) (number_stops R _ (λ _. v) _ _ is (refuses refusal))

    module _ (a : Accepted) (words : List ℕ) (n : Accepts script t (Ok a) words) where
      -- an accepted script: what is still to be done is by the memory alone
      by-memory : (s : Sheet) (T : TableOf t s)
          → onward s ≡ unless R (memory_refusal s memory)
          (accepted_run s memory authority budget (n.accepted.has_code s T).parsed)
      unfolding onward on_script
      by-memory s T = let c = n.accepted.has_code s T in rw c.is_its (goes R (untyped s c.parsed) _ c.typed)

      by-memory-in : (run : Ran) → onward_in n.in_table.0 run ≡ unless R (refusal_in t memory) run
      unfolding onward_in number_in
      by-memory-in run = number_goes R _ n.in_table.0 _ n.in_table.2

      -- 7 and 8
      pub run-refused : (refusal : Refusal) → refusal_number refusal ≡ refusal_in t memory
          → RunsOn script t memory authority budget (answered_run (Err refusal) memory)
      run-refused refusal m =
          by_onward _ (refusal-spares memory budget _)
          (λ s T. stopped R refusal _ _ (refusal_in_lem t memory _ m s T) ∙ sym (by-memory s T))
          n.in_table.0 n.in_table.1 (R 0) (unreached memory budget)
          (stopped R refusal _ _ m ∙ sym (by-memory-in (R 0)))

      pub run_ends : {ws : List ℕ} (o : Outcome) (left : List ℕ) → 0 ≡ refusal_in t memory
          → ws ≡ take (a.count * 3) words
          → RunsAccepted ws t memory authority budget (answered_run (Ok o) left)
          → RunsOn script t memory authority budget (answered_run (Ok o) left)
      run_ends o left m e ran =
          let r = answered_run (Ok o) left in
          by_onward r ran.spares (λ s T.
          let m' = refusal_in_lem t memory 0 m s T in
          let ran' = rw e at ran in
          ran'.ran s T script (n.accepted.has_code s T) (sym m')
          ∙ sym (by-memory s T ∙ goes R (memory_refusal s memory) _ (sym m')))
          n.in_table.0 n.in_table.1 r (ran.spares, ran.in_table)
          (sym (by-memory-in r ∙ goes R (refusal_in t memory) _ (sym m)))

-- ---- viewing

-- a view that is not refused by 1 to 3: the refusal k of its slices, or the words
left_by : (k : ℕ) (out view : List ℕ)
    → record { answer = k; view = leaves k out view } ≡ unless (refused_view view) k (record { answer = 0; view = out })
unfolding leaves unless
left_by zero out view = refl
left_by (suc k) out view = rw (ne_eqb (suc k) 0 (λ e. omega arith)) refl

pub view_stranger : (t memory : List ℕ) (group : ℕ) (view : List ℕ) (refusal : Refusal)
    → refusal_number refusal ≡ strangers_in t group
    → refused_view view (refusal_number refusal) ≡ viewed_in t memory group view
unfolding viewed_in
view_stranger t memory group view refusal h = stopped (refused_view view) refusal _ _ h

pub view_known : (t memory : List ℕ) (group : ℕ) (view : List ℕ) (r : ℕ) (left : List ℕ)
    → 0 ≡ strangers_in t group
    → r ≡ view_refusal_in t memory (length view) → left ≡ view_leaves_in t group memory view
    → record { answer = r; view = left } ≡ viewed_in t memory group view
unfolding viewed_in view_leaves_in
view_known t memory group view r left h p q =
    rw (p, q) (left_by (view_refusal_in t memory (length view)) (view_in t group memory) view)
    ∙ sym (goes (refused_view view) (strangers_in t group) _ (sym h))

-- on the table of a sheet it is that of simp_view on the sheet
pub view_in_lem : (t memory : List ℕ) (group : ℕ) (view : List ℕ) (r : Viewed) → r ≡ viewed_in t memory group view
    → (s : Sheet) → TableOf t s
    → r ≡ unless (refused_view view) (strangers s group)
    (unless (refused_view view) (view_refusal s memory (length view))
    (record { answer = 0; view = view_words s group memory }))
unfolding viewed_in
view_in_lem t memory group view r e s T =
    let a = table_agrees s T.form in
    e ∙ rw (strangers_same t s group T, T.words, a.view_refusal_lem memory (length view), a.view group memory) refl
