-- A property of configurations that transitions keep, runs keep: what holds of every value in memory
-- and of the command.
use mathlib.Core.Path.{◌≡◌, refl, subst}
use mathlib.Core.Bool.{Bool, true, false, cond}
use Prim.Native.Nat.{ℕ}
use lib.Dec.{eqb, eqb→eq}
use Rattle.language.specs.Syntax.{Value, Cmd, skip, seq}
use Rattle.language.specs.World.{World, Mem}
use Rattle.language.specs.Substitution.{update}
use Rattle.language.specs.Evaluation.{Res, ok, long, stuck}
use Rattle.language.specs.Transition.{Next, final, to, too_long, no_rule, at_seq, at_assign, step, done, iterate}
use Rattle.logic.proofs.BooleanLaws.{T_of}
use Rattle.language.proofs.Results.{ResultHolds}
use Rattle.language.proofs.Traces.{Trace, t_none, t_more, Stops, stops_done, iterate_stops}

-- Q x holds of the value at each location x, and I of the command. Where no rule applies, X holds.
module _ (Q : ℕ → Value → Type 0) (I : Cmd → Type 0) (X : Type 0) where
  pub record Config (M : Mem) (c : Cmd) : Type 0 where
    pub memory : (x : ℕ) → Q x (M x)
    pub command : I c

  abbrev pub ConfigNext : Next → Type 0
  ConfigNext final = Unit {0}
  ConfigNext (to M c) = Config M c
  ConfigNext too_long = Unit {0}
  ConfigNext no_rule = X

  pub config_seq : ((a b : Cmd) → I a → I b → I (seq a b)) → (M : Mem) (c : Cmd) → Config M c → (n : Next)
      → ConfigNext n → ConfigNext (at_seq M c n)
  unfolding at_seq
  config_seq s M c i final h = i
  config_seq s M c i (to M' c') h = record { memory = h.memory; command = s _ _ h.command i.command }
  config_seq s M c i too_long h = tt
  config_seq s M c i no_rule h = h

  pub config_assign : I skip → (M : Mem) (x : ℕ) (r : Res) → ((y : ℕ) → Q y (M y)) → ResultHolds (Q x) X r
      → ConfigNext (at_assign M x r)
  unfolding at_assign update
  config_assign s M x (ok v) m h = record { memory = λ y. on y (eqb x y) refl; command = s }
    where
      on : (y : ℕ) (b : Bool) → eqb x y ≡ b → Q y (cond b v (M y))
      on y true e = subst (λ z. Q z v) (eqb→eq x y (T_of e)) h
      on y false e = m y
  config_assign s M x long m h = tt
  config_assign s M x stuck m h = h

  module _ (W : World) (on : (M : Mem) (c : Cmd) → Config M c → ConfigNext (step W M c)) where
    pub config_step : {M M' : Mem} {c c' : Cmd} → step W M c ≡ to M' c' → Config M c → Config M' c'
    config_step h i = subst ConfigNext h (on _ _ i)

    pub config_trace : {k : ℕ} {M M' : Mem} {c c' : Cmd} → Trace W k M c M' c' → Config M c → Config M' c'
    config_trace t_none i = i
    config_trace (t_more h t) i = config_trace t (config_step h i)

    config_stop : {b l : ℕ} {M M' : Mem} {c : Cmd} → Stops W b M c (done M' l) → Config M c → Config M' skip
    config_stop (stops_done e t) i = config_trace t i

    pub config_done : (b : ℕ) {l : ℕ} {M M' : Mem} {c : Cmd} → iterate W b M c ≡ done M' l → Config M c → Config M' skip
    config_done b {M = M} {c = c} h i = config_stop (subst (Stops W b M c) h (iterate_stops W b M c)) i
