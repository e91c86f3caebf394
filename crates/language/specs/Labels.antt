-- Labels as typing uses them (the paper, section 2.2): the operations, and the laws that make least labels exact.
use Rattle.std.specs.Prelude.{◌≡◌, Bool, true}

-- The order, the join, the parts C and I, and bottom.
pub record Labels (L : Type 0) : Type 0 where
  pub leq : L → L → Bool
  pub join : L → L → L
  pub conf : L → L
  pub integ : L → L
  pub bot : L

-- With these laws least labels are exact: they pass exactly where figures 4 and 5 have a derivation.
pub record LeastLabelLaws {L : Type 0} (𝓛 : Labels L) : Type 0 where
  pub leq_refl : (a : L) → 𝓛.leq a a ≡ true
  pub leq_trans : (a b c : L) → 𝓛.leq a b ≡ true → 𝓛.leq b c ≡ true → 𝓛.leq a c ≡ true
  pub leq_antisym : (a b : L) → 𝓛.leq a b ≡ true → 𝓛.leq b a ≡ true → a ≡ b
  pub bot_leq : (a : L) → 𝓛.leq 𝓛.bot a ≡ true
  pub leq_join_left : (a b : L) → 𝓛.leq a (𝓛.join a b) ≡ true
  pub leq_join_right : (a b : L) → 𝓛.leq b (𝓛.join a b) ≡ true
  pub join_leq : (a b c : L) → 𝓛.leq a c ≡ true → 𝓛.leq b c ≡ true → 𝓛.leq (𝓛.join a b) c ≡ true
  pub conf_mono : (a b : L) → 𝓛.leq a b ≡ true → 𝓛.leq (𝓛.conf a) (𝓛.conf b) ≡ true
  pub conf_idem : (a : L) → 𝓛.conf (𝓛.conf a) ≡ 𝓛.conf a
  pub conf_join : (a b : L) → 𝓛.conf (𝓛.join a b) ≡ 𝓛.join (𝓛.conf a) (𝓛.conf b)
  pub integ_leq : (a : L) → 𝓛.leq (𝓛.integ a) a ≡ true
  pub integ_idem : (a : L) → 𝓛.integ (𝓛.integ a) ≡ 𝓛.integ a

-- The labels with one label only: over them every label condition is struck out.
abbrev pub struck : Labels Unit
struck = record { leq = λ a b. true; join = λ a b. tt; conf = λ a. tt; integ = λ a. tt; bot = tt }
