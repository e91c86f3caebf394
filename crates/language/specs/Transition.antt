-- Figure 3 as a function; runs within a budget.
use Rattle.std.specs.Prelude.{[], ℕ, zero, suc}
use Rattle.language.specs.Syntax.{Value, int, err, inl, inr, pkg, pair, blank, Cmd, skip, seq, assign, while}
use Rattle.language.specs.Syntax.{case}
use Rattle.language.specs.World.{World, Mem}
use Rattle.language.specs.Substitution.{inst, update}
use Rattle.language.specs.Evaluation.{Res, ok, long, stuck, eval}

-- What follows a configuration: nothing, for skip alone; the next configuration; or none, since an expression has a
-- part that is too long, or since no rule applies.
pub data Next : Type 0 where
  final : Next
  to : Mem → Cmd → Next
  too_long no_rule : Next

-- EC-SEQ-SKIP and EC-SEQ-STRUCT
unfoldable pub at_seq : Mem → Cmd → Next → Next
at_seq M c final = to M c
at_seq M c (to M' c') = to M' (seq c' c)
at_seq M c too_long = too_long
at_seq M c no_rule = no_rule

-- EC-ASSIGN
unfoldable pub at_assign : Mem → ℕ → Res → Next
at_assign M x (ok v) = to (update M x v) skip
at_assign M x long = too_long
at_assign M x stuck = no_rule

-- left goes by l and right by r, with the value inside; for any other value n
unfoldable pub branch_v {ℓ} : {A : Type ℓ} → (Value → A) → (Value → A) → A → Value → A
branch_v l r n (int k) = n
branch_v l r n (err k) = n
branch_v l r n (inl v) = l v
branch_v l r n (inr v) = r v
branch_v l r n (pkg h v) = n
branch_v l r n (pair v w) = n
branch_v l r n blank = n

unfoldable pub branch {ℓ} : {A : Type ℓ} → (Value → A) → (Value → A) → A → A → Res → A
branch l r o n (ok v) = branch_v l r n v
branch l r o n long = o
branch l r o n stuck = n

-- One transition. A guard goes on for left and stops for right.
unfoldable pub step : World → Mem → Cmd → Next
step W M skip = final
step W M (seq a b) = at_seq M b (step W M a)
step W M (assign x e) = at_assign M x (eval W [] M e)
step W M (while e c) = branch (λ v. to M (seq c (while e c))) (λ v. to M skip) too_long no_rule (eval W [] M e)
step W M (case e a b) = branch (λ v. to M (inst v a)) (λ v. to M (inst v b)) too_long no_rule (eval W [] M e)

-- How a run within a budget ends: skip is reached, with the memory and the rest of the budget; the budget is used up
-- before; a step within it meets a value that is too long, with the rest of the budget before that step; no rule
-- applies.
pub data Out : Type 0 where
  done : Mem → ℕ → Out
  spent : Out
  over : ℕ → Out
  wrong : Out

-- What follows a transition: r goes on from the next configuration, k from skip.
unfoldable pub after : (Mem → Cmd → Out) → (Mem → ℕ → Out) → Out → Out → Mem → ℕ → Next → Out
after r k o w M b final = k M b
after r k o w M b (to M' c') = r M' c'
after r k o w M b too_long = o
after r k o w M b no_rule = w

-- Transitions from M, c, at most b of them; k goes on from skip with the rest of the budget.
unfoldable pub run : ℕ → World → (Mem → ℕ → Out) → Mem → Cmd → Out
run zero W k M c = after (λ M' c'. spent) k spent spent M zero (step W M c)
run (suc b) W k M c = after (λ M' c'. run b W k M' c') k (over (suc b)) wrong M (suc b) (step W M c)

-- A run from M, c within the budget b. The steps taken are b less its rest.
unfoldable pub iterate : World → ℕ → Mem → Cmd → Out
iterate W b M c = run b W done M c
