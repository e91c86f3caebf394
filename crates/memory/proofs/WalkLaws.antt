-- Laws of the walk over a value's words, by the first word.
use mathlib.Core.Path.{◌≡◌, refl, sym, ap, ap₂, ◌∙◌}
use mathlib.Core.Bool.{Bool, false}
use mathlib.Core.List.{List, []}
use Prim.Native.Nat.{ℕ, ◌+◌, ◌≤◌, ◌<◌}
use native.Mathlib.Omega.{arith}
use lib.Dec.{ltb}
use lib.ListN.{length, get_or, drop, length-drop}
use Rattle.logic.specs.Booleans.{both}
use Rattle.language.specs.Syntax.{head_size, Value, blank}
use Rattle.memory.specs.Words.{Got, wrap, numbered, head_at, packaged, paired, read_of}
use Rattle.memory.specs.Internal.Post.{end_of, Walks, Numeral}
use Rattle.memory.specs.Memory.{proper_head, proper}
use Rattle.memory.proofs.WordLaws.{Side, to_left, to_right, Other}
use Rattle.memory.proofs.PlaceLaws.{here, past, at_past, at_numeral, at_side, at_package, at_pair, at_none}
use Rattle.memory.proofs.PlaceLaws.{headed, headless}

module _ (labels : ℕ) (ws : List ℕ) (at : ℕ) where
  -- nothing is left
  stopped : (got : Got) → got ≡ (blank, []) → length ws ≤ at → Walks labels ws at got false at
  unfolding proper
  stopped got e h = record {
    forward = omega arith;
    bounded = omega arith;
    told = rw e refl;
    after = past ws at h ∙ ap (λ (g : Got). g.1) (sym e);
  }

  pub walk_past : length ws ≤ at → Walks labels ws at (read_of (drop at ws)) false at
  walk_past h = stopped _ (at_past ws at h) h

  -- a number
  pub number_past : (f : ℕ → Value) → length ws ≤ at → Walks labels ws at (numbered f (drop at ws)) false at
  unfolding numbered
  number_past f h = stopped _ (rw (past ws at h) refl) h

  pub number_there : (f : ℕ → Value) (ok : Bool) → at < length ws → ok ≡ proper labels (f (get_or ws at 0))
      → Walks labels ws at (numbered f (drop at ws)) ok (at + 1)
  unfolding numbered
  number_there f ok h e =
      rw (here ws at _ h refl) (record { forward = omega arith; bounded = omega arith; told = e; after = refl })

  -- a head with its content
  pub package_past : length ws ≤ at → Walks labels ws at (packaged read_of (drop at ws)) false at
  package_past h = stopped _ (headless ws at h) h

  pub package_there : {ok : Bool} {next : ℕ} (ok' : Bool) → at + head_size ≤ length ws
      → ok' ≡ both (ltb (get_or ws at 0) labels) ok
      → Walks labels ws (at + head_size) (read_of (drop (at + head_size) ws)) ok next
      → Walks labels ws at (packaged read_of (drop at ws)) ok' next
  unfolding head_at wrap proper_head proper
  package_there ok' h e w =
      rw (headed ws at h)
      (record {
        forward = omega (arith, w.forward);
        bounded = omega (arith, w.bounded);
        told = e ∙ ap (both (ltb (get_or ws at 0) labels)) w.told;
        after = w.after;
      })

  -- a first word, and what follows it
  onward : {got : Got} {ok : Bool} {next : ℕ} (g : Got) → at < length ws → g ≡ got
      → Walks labels ws (at + 1) got ok next → Walks labels ws at g ok next
  onward g h e w =
      record {
        forward = omega (arith, w.forward);
        bounded = omega (arith, w.bounded);
        told = w.told ∙ ap (λ (x : Got). proper labels x.0) (sym e);
        after = w.after ∙ ap (λ (x : Got). x.1) (sym e);
      }

  module _ (h : at < length ws) {ok : Bool} {next : ℕ} where
    pub walk_numeral : {n : ℕ} {f : ℕ → Value} → Numeral n f → get_or ws at 0 ≡ n
        → Walks labels ws (at + 1) (numbered f (drop (at + 1) ws)) ok next
        → Walks labels ws at (read_of (drop at ws)) ok next
    walk_numeral k e w = onward _ h (at_numeral ws at h k e) w

    pub walk_pkg : get_or ws at 0 ≡ 5 → Walks labels ws (at + 1) (packaged read_of (drop (at + 1) ws)) ok next
        → Walks labels ws at (read_of (drop at ws)) ok next
    walk_pkg e w = onward _ h (at_package ws at h e) w

    pub walk_side : {n : ℕ} {f : Value → Value} → Side n f → get_or ws at 0 ≡ n
        → Walks labels ws (at + 1) (read_of (drop (at + 1) ws)) ok next
        → Walks labels ws at (read_of (drop at ws)) ok next
    unfolding wrap proper
    walk_side to_left e w =
        onward _ h (at_side ws at h to_left e)
        (record { forward = w.forward; bounded = w.bounded; told = w.told; after = w.after })
    walk_side to_right e w =
        onward _ h (at_side ws at h to_right e)
        (record { forward = w.forward; bounded = w.bounded; told = w.told; after = w.after })

    -- a pair: its second part starts where the first ends
    pub walk_pair : {ok' : Bool} {mid : ℕ} → get_or ws at 0 ≡ 6
        → Walks labels ws (at + 1) (read_of (drop (at + 1) ws)) ok mid
        → Walks labels ws mid (read_of (drop mid ws)) ok' next
        → Walks labels ws at (read_of (drop at ws)) (both ok ok') next
    unfolding paired wrap proper
    walk_pair e w k =
        rw (at_pair ws at h e, ← w.after)
        (record {
          forward = omega (arith, w.forward, k.forward);
          bounded = omega (arith, w.bounded, k.bounded);
          told = ap₂ both w.told k.told;
          after = k.after;
        })

  pub walk_none : at < length ws → Other (get_or ws at 0) → Walks labels ws at (read_of (drop at ws)) false (at + 1)
  unfolding proper
  walk_none h o = onward _ h (at_none ws at h o)
      (record { forward = omega arith; bounded = omega arith; told = refl; after = refl })

  -- where the value ends
  pub walk_end : {ok : Bool} {next : ℕ} → Walks labels ws at (read_of (drop at ws)) ok next → next ≡ end_of ws at
  unfolding end_of
  walk_end {next = next} w = omega
      (arith, w.forward, w.bounded, length-drop at ws, length-drop next ws, ap (λ (l : List ℕ). length l) w.after)
