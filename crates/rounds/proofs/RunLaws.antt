-- One script of a round after another.
use mathlib.Core.Path.{◌≡◌, refl, sym, ap, ◌∙◌}
use mathlib.Core.List.{List, [], ◌∷◌}
use mathlib.Core.Option.{Option as Maybe, none, some}
use Prim.Native.Nat.{ℕ, ◌+◌, ◌-◌, ◌*◌, ◌≤◌, ◌<◌}
use native.Mathlib.Omega.{arith}
use lib.ListN.{length, take, drop, get_or, set, replicate, length-replicate}
use lib.Seq.{length-sets, length-take-le}
use lib.Dec.{leb}
use borrow.Author.Tests.{leb-true}
use Rattle.std.specs.Prelude.{Option, Option as Optional, option_map}
use Rattle.std.proofs.lemmas.List.{get_or-take}
use Rattle.logic.proofs.BooleanLaws.{cases}
use Rattle.stages.specs.declared.refusal.Refusal.{Refusal}
use Rattle.stages.specs.Refusals.{refusal_number}
use Rattle.language.specs.Syntax.{Script}
use Rattle.script.specs.Names.{Counts}
use Rattle.sheet.specs.Sheet.{Sheet}
use Rattle.script_text.specs.Counts.{counts_of}
use Rattle.script_text.specs.Script.{script_of}
use Rattle.script_text.specs.Reading.{written_of}
use Rattle.script_text.specs.Internal.Decoded.{counts_in, coded_text, decoded_script}
use Rattle.script_text.specs.declared.Decoded.{Decoded}
use Rattle.script_text.proofs.ScriptLaws.{counts-table}
use Rattle.script_text.proofs.ReadLaws.{script_coded}
use Rattle.memory.specs.Memory.{memory_refusal}
use Rattle.stages.specs.Answers.{Ran, refused_run}
use Rattle.stages.specs.Calls.{unless, strangers, on_script, untyped, number_of, accepted_run, run_on}
use Rattle.stages.specs.Internal.Stages.{TableOf, AcceptedCode, RunsAccepted}
use Rattle.stages.proofs.StageLaws.{goes, stopped, accepted_code, lines_read, unreached}
use Rattle.stages.proofs.Kept.{left_unrefused}
use Rattle.scripts.specs.Parting.{script_texts, most_scripts}
use Rattle.scripts.specs.Internal.Places.{script_texts_after, ends_from, kept_ends}
use Rattle.scripts.proofs.Places.{TextAt, text_at, texts_all, StartsAt, kept_end}
use Rattle.rounds.specs.Calls.{lowest}
use Rattle.rounds.specs.Internal.Stages.{Parted, turn_on, gate_in, ran_on, RunsScript, RunsTurn, RunsEach}
use Rattle.rounds.proofs.LowerLaws.{lower_none, lowest_more}
use Rattle.rounds.proofs.PlaceLaws.{rest, rest_more, rest_over, rest_all}

-- ---- one script

-- an accepted script on a memory that isn't refused: no number refuses its run
run_on-accepted : (s : Sheet) (authority budget : ℕ) (script memory ws : List ℕ) (a : AcceptedCode s script ws)
    → strangers s authority ≡ 0 → memory_refusal s memory ≡ 0
    → run_on s script memory authority budget ≡ accepted_run s memory authority budget a.parsed
unfolding on_script
run_on-accepted s authority budget script memory ws a g m =
    goes (refused_run memory) (strangers s authority) _ g
    ∙ rw a.is_its (goes (refused_run memory) (untyped s a.parsed) _ a.typed
    ∙ goes (refused_run memory) (memory_refusal s memory) _ m)

module _ (script t w : List ℕ) (r : Optional Decoded)
    (e : option_map (λ d. (d, w)) r ≡ coded_text (written_of script)) where
  -- what is decoded of an accepted script is its code
  decoded_accepted : (s : Sheet) → TableOf t s → number_of s script ≡ 0
      → option_map (λ d. (d, w)) r ≡ decoded_script (script_of (counts_in t) script)
  unfolding number_of on_script
  decoded_accepted s T n = go (script_of (counts_of s) script) refl n
    where
      k : counts_in t ≡ counts_of s
      k = ap counts_in T.words ∙ counts-table s

      go : (o : Maybe Script) → script_of (counts_of s) script ≡ o → on_script (λ j. j) o (λ c. untyped s c) ≡ 0
          → option_map (λ d. (d, w)) r ≡ decoded_script (script_of (counts_in t) script)
      go none x z = absurd (omega arith)
      go (some c) x z = e ∙ script_coded (counts_in t) script c (ap (λ (j : Counts). script_of j script) k ∙ x)

  pub runs_script : (memory ws : List ℕ) (authority budget : ℕ) (o : Ran) → ws ≡ take (lines_read r * 3) w
      → RunsAccepted ws t memory authority budget o → RunsScript script t memory authority budget o
  runs_script memory ws authority budget o l ran = record {
    spares = ran.spares;
    ran = λ s T g n m.
        let a = accepted_code t script w ws r (decoded_accepted s T n) l s T n in
        let q = ran.ran s T script a m in (
          q ∙ sym (run_on-accepted s authority budget script memory ws a g m),
          rw q (left_unrefused s a.parsed a.source a.names a.typed memory authority budget m),
        );
    in_table = ran.in_table;
  }

-- its turn: run where its gate has no number, else refused with it
pub turn_runs : (script t memory : List ℕ) (authority budget number : ℕ) (r : Ran) → number ≡ 0
    → RunsScript script t memory authority budget r
    → RunsTurn script number t memory authority budget r
unfolding unless
turn_runs script t memory authority budget number r z ran =
    rw z (record { ran = ran.ran; in_table = (r, ran.spares, ran.in_table, refl) })

pub turn_shut : (script t memory : List ℕ) (authority budget : ℕ) (refusal : Refusal)
    → RunsTurn script (refusal_number refusal) t memory authority budget
    (refused_run memory (refusal_number refusal))
turn_shut script t memory authority budget refusal =
    let (spares, of) = unreached memory budget in
    record {
      ran = λ s T g n m. (stopped (refused_run memory) refusal _ _ refl, m);
      in_table = (refused_run memory 0, spares, of, stopped (refused_run memory) refusal _ _ refl);
    }

-- ---- all of them

no_more : (ts : List (List ℕ)) → length ts ≡ 0 → ts ≡ []
no_more [] e = refl
no_more (t ∷ ts) e = absurd (omega arith)

kept-long : (scripts : List ℕ) → length (kept_ends scripts) ≡ most_scripts
unfolding kept_ends
kept-long scripts =
    length-sets (replicate most_scripts 0) 0 (ends_from 0 (script_texts scripts))
    ∙ length-replicate {A = ℕ} most_scripts 0

-- where a script is left, its start is within the text
some_left : (scripts : List ℕ) (at : ℕ) → 0 < length (script_texts_after scripts at) → at ≤ length scripts
unfolding script_texts_after
some_left scripts at l = cases (leb at (length scripts)) (λ e. leb-true _ _ e) (λ e. absurd (omega (arith, rw e at l)))

module _ (scripts ends : List ℕ) (i at : ℕ) (h : Parted scripts ends) (s : StartsAt scripts i at) where
  -- as many ends as scripts
  ends-all : length ends ≡ length (script_texts scripts)
  ends-all = ap length h.kept ∙ length-take-le (length (script_texts scripts)) (kept_ends scripts)
      (omega (arith, h.few, kept-long scripts))

  -- the script that starts at a place: where its end is kept
  pub script_at : (end : ℕ) → i < length ends → end ≡ get_or ends i 0 → TextAt scripts at end
  script_at end l e = text_at scripts at end inside (e
      ∙ ap (λ (es : List ℕ). get_or es i 0) h.kept
      ∙ get_or-take (length (script_texts scripts)) (kept_ends scripts) i 0 (omega (arith, l, ends-all))
      ∙ kept_end scripts i at s h.few inside)
    where
      inside : at ≤ length scripts
      inside = some_left scripts at (omega (arith, l, ends-all, s.counted))

  -- past the last end, none is left
  pub over : i ≡ length ends → script_texts_after scripts at ≡ []
  over e = no_more (script_texts_after scripts at) (omega (arith, e, ends-all, s.counted))

module _ (scripts : List ℕ) (gates : List (Option Refusal)) (t memory₀ : List ℕ) (authority budget : ℕ) where
  -- Where no number refuses the round: at place i, with the scripts from `at` on left, the rest of the
  -- round is the whole.
  pub record Going (s : Sheet) (i at : ℕ) (answers steps memory : List ℕ) : Type 0 where
    pub accepted : lowest (number_of s) (script_texts_after scripts at) ≡ 0
    pub unrefused : memory_refusal s memory ≡ 0
    pub whole : rest (turn_on (gate_in gates) s authority budget) i answers steps memory (script_texts_after scripts at)
        ≡ ran_on (gate_in gates) s authority budget (script_texts scripts) memory₀

  -- on every sheet of the table on which no number refuses it
  abbrev pub Goes : ℕ → ℕ → List ℕ → List ℕ → List ℕ → Type 0
  Goes i at answers steps memory =
      (s : Sheet) → TableOf t s → strangers s authority ≡ 0 → lowest (number_of s) (script_texts scripts) ≡ 0
      → memory_refusal s memory₀ ≡ 0
      → Going s i at answers steps memory

  pub goes_first : length (script_texts scripts) ≤ most_scripts
      → Goes 0 0 (replicate most_scripts 0) (replicate most_scripts 0) memory₀
  goes_first l s T g n m = record {
    accepted = rw (texts_all scripts) n;
    unrefused = m;
    whole =
        rw (texts_all scripts) (rest_all (turn_on (gate_in gates) s authority budget) memory₀ (script_texts scripts) l);
  }

  pub goes_on_lem : (i at end : ℕ) (answers steps memory : List ℕ) (r : Ran) → Goes i at answers steps memory
      → TextAt scripts at end
      → RunsTurn (take (end - at) (drop at scripts)) (gate_in gates i) t memory authority budget r
      → Goes (i + 1) (end + 1) (set answers i r.answer) (set steps i r.steps) r.memory
  goes_on_lem i at end answers steps memory r k p ran s T g n m =
      let h = k s T g n m in
      let script : List ℕ = take (end - at) (drop at scripts) in
      let left = script_texts_after scripts (end + 1) in
      let z = lower_none (number_of s script) (lowest (number_of s) left)
      (sym (lowest_more (number_of s) script left) ∙ ap (lowest (number_of s)) (sym p.texts) ∙ h.accepted) in
      let q = ran.ran s T g z.0 h.unrefused in
      record {
        accepted = z.1;
        unrefused = q.1;
        whole = rw q.0
            (sym (rest_more (turn_on (gate_in gates) s authority budget) i answers steps memory script left)
            ∙ ap (rest (turn_on (gate_in gates) s authority budget) i answers steps memory) (sym p.texts) ∙ h.whole);
      }

  pub goes_over : (i at : ℕ) (answers steps memory : List ℕ) → Goes i at answers steps memory
      → script_texts_after scripts at ≡ []
      → RunsEach scripts gates t memory₀ authority budget
      (record { answer = 0; answers = answers; steps = steps; memory = memory })
  goes_over i at answers steps memory k l = record {
    done = refl;
    ran = λ s T g n m.
        let h = k s T g n m in
        sym (rest_over (turn_on (gate_in gates) s authority budget) i answers steps memory)
        ∙ ap (rest (turn_on (gate_in gates) s authority budget) i answers steps memory) (sym l) ∙ h.whole;
  }
