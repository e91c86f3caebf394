-- What each arm of `check_expr` shows.
use mathlib.Core.Path.{◌≡◌, refl, sym, ◌∙◌}
use mathlib.Core.Bool.{Bool, true, false}
use mathlib.Core.List.{List, [], ◌∷◌}
use Prim.Native.Nat.{ℕ, ◌+◌, ◌≤◌, ◌<◌}
use native.Mathlib.Omega.{arith}
use native.Mathlib.Decide.{dec_lt}
use lib.Dec.{eqb}
use lib.ListN.{drop}
use Rattle.logic.specs.Booleans.{both}
use Rattle.logic.proofs.BooleanLaws.{both_implied}
use Rattle.language.specs.Syntax.{int, Part, pick, Expr, val, loc, var, plus, left, right, pack, unpack, pairing, proj}
use Rattle.language.specs.Typing.{or_else, least, flow_e}
use Rattle.language.specs.Trust.{keeps_e}
use Rattle.script.specs.declared.Row.{Row}
use Rattle.script.specs.Lines.{ScriptLine, expr_lines}
use Rattle.script.specs.Internal.Code.{code, row_at}
use Rattle.script.specs.Internal.Pieces.{Sort, expression}
use Rattle.script.proofs.Rows.{row_of_lem, KindOf, not_here}
use Rattle.script.proofs.Nodes.{Makes, Node, n_int, n_loc, n_var, n_plus, n_left, n_right, n_pack, n_unpack, n_pair}
use Rattle.script.proofs.Nodes.{n_proj, OfOperands, of_operands}
use Rattle.sheet.specs.Internal.Tables.{left_in, right_in}
use Rattle.sheet.specs.Internal.TypeTest.{is_pair}
use Rattle.members.specs.Internal.Members.{whole_flows, confidentiality_flows}
use Rattle.checks.specs.declared.Typed.{Typed}
use Rattle.checker.specs.Internal.Numbers.{is_no, some_no, left_is_no, right_is_no, pair_is_no, part_no, given_no}
use Rattle.checker.specs.Internal.Numbers.{type_no}
use Rattle.checker.specs.declared.bindings.Bindings.{Bindings}
use Rattle.checker.specs.Internal.Bindings.{bound_type, bound_label, bound_types, bound_labels, Within}
use Rattle.checks.specs.Internal.Nodes.{is_type, nothing, int_typed, loc_typed, plus_typed}
use Rattle.checks.specs.Internal.Nodes.{sum_typed, pack_typed, unpack_typed, pair_typed, part_typed}
use Rattle.checker.specs.Internal.Bindings.{var_typed}
use Rattle.checker.specs.Internal.Post.{Finds, ChecksExpr}
use Rattle.checker.proofs.BindingLaws.{nth-up_to, nth_past, var_in, var_past, var_next}

-- ---- what a node finds, from what its operands' nodes found

pub is_type_lem : (x : Typed) (n : ℕ) → is_no n (given_no x.typed x.ty) ≡ is_type x n
unfolding is_no given_no both
is_type_lem x n = on x.typed
  where
    on : (b : Bool) → is_no n (given_no b x.ty) ≡ both b (eqb n x.ty)
    on true = refl
    on false = refl

some_type : (x : Typed) → some_no (given_no x.typed x.ty) ≡ x.typed
unfolding some_no given_no
some_type x = on x.typed
  where
    on : (b : Bool) → some_no (given_no b x.ty) ≡ b
    on true = refl
    on false = refl

part_type : (t : List ℕ) (q : Part) (x : Typed)
    → given_no (both x.typed (is_pair t x.ty)) (pick q (left_in t x.ty) (right_in t x.ty))
    ≡ part_no t q (given_no x.typed x.ty)
unfolding part_no given_no both
part_type t q x = on x.typed
  where
    on : (b : Bool) → given_no (both b (is_pair t x.ty)) (pick q (left_in t x.ty) (right_in t x.ty))
        ≡ part_no t q (given_no b x.ty)
    on true = refl
    on false = refl

module _ (t Γ Δ : List ℕ) where
  find_int : (n next : ℕ) → Finds t Γ Δ (val (int n)) (int_typed next)
  unfolding type_no least flow_e keeps_e given_no
  find_int n next = record { type_is = refl; label_is = refl; flow_is = refl; keeping_is = refl }

  find_loc : (x next : ℕ) → Finds t Γ Δ (loc x) (loc_typed t x next)
  unfolding type_no least flow_e keeps_e given_no
  find_loc x next = record { type_is = refl; label_is = refl; flow_is = refl; keeping_is = refl }

  module _ {e : Expr} {x : Typed} (p : Finds t Γ Δ e x) where
    find_plus : {f : Expr} {y : Typed} → Finds t Γ Δ f y → Finds t Γ Δ (plus e f) (plus_typed x y)
    unfolding type_no least flow_e keeps_e
    find_plus {f} {y} q = record {
      type_is = rw (← p.type_is, ← q.type_is, is_type_lem x 0, is_type_lem y 0);
      label_is = rw (p.label_is, q.label_is);
      flow_is = rw (p.flow_is, q.flow_is);
      keeping_is = rw (p.keeping_is, q.keeping_is);
    }

    find_left : (n : ℕ) → Finds t Γ Δ (left n e) (sum_typed t n (left_in t n) x)
    unfolding type_no left_is_no least flow_e keeps_e
    find_left n = record {
      type_is = rw (← p.type_is, is_type_lem x (left_in t n));
      label_is = p.label_is;
      flow_is = p.flow_is;
      keeping_is = p.keeping_is;
    }

    find_right : (n : ℕ) → Finds t Γ Δ (right n e) (sum_typed t n (right_in t n) x)
    unfolding type_no right_is_no least flow_e keeps_e
    find_right n = record {
      type_is = rw (← p.type_is, is_type_lem x (right_in t n));
      label_is = p.label_is;
      flow_is = p.flow_is;
      keeping_is = p.keeping_is;
    }

    find_pack : (l : ℕ) → Finds t Γ Δ (pack l e) (pack_typed t l x)
    unfolding type_no least flow_e keeps_e whole_flows
    find_pack l = record {
      type_is = rw (← p.type_is, some_type x);
      label_is = refl;
      flow_is = rw (← p.label_is, p.flow_is);
      keeping_is = both_implied _ true (λ h. refl) ∙ p.keeping_is;
    }

    find_unpack : (n l : ℕ) → Finds t Γ Δ (unpack n l e) (unpack_typed t n l x)
    unfolding type_no right_is_no is_no least flow_e keeps_e confidentiality_flows
    find_unpack n l = record {
      type_is = rw (← p.type_is, is_type_lem x 2);
      label_is = refl;
      flow_is = rw (← p.label_is, p.flow_is);
      keeping_is = rw (← p.label_is, p.keeping_is);
    }

    find_pair : (n : ℕ) {f : Expr} {y : Typed} → Finds t Γ Δ f y → Finds t Γ Δ (pairing n e f) (pair_typed t n x y)
    unfolding type_no pair_is_no least flow_e keeps_e
    find_pair n {f} {y} q = record {
      type_is = rw (← p.type_is, ← q.type_is, is_type_lem x (left_in t n), is_type_lem y (right_in t n));
      label_is = rw (p.label_is, q.label_is);
      flow_is = rw (p.flow_is, q.flow_is);
      keeping_is = rw (p.keeping_is, q.keeping_is);
    }

    find_part : (q : Part) → Finds t Γ Δ (proj q e) (part_typed t (pick q (left_in t x.ty) (right_in t x.ty)) x)
    unfolding type_no least flow_e keeps_e
    find_part q = record {
      type_is = rw (← p.type_is) (part_type t q x);
      label_is = p.label_is;
      flow_is = p.flow_is;
      keeping_is = p.keeping_is;
    }

find_var : (t : List ℕ) (b : Bindings) (i next : ℕ) → Within b
    → Finds t (bound_types b) (bound_labels b) (var i) (var_typed b i next)
unfolding type_no least flow_e keeps_e given_no or_else
find_var t b i next within = on (dec_lt i b.depth)
  where
    on : Dec (i < b.depth) → Finds t (bound_types b) (bound_labels b) (var i) (var_typed b i next)
    on (yes h) =
        rw (var_in b i next h (omega (arith, within.0)))
        (record {
          type_is = sym (nth-up_to (bound_type b.cases) b.depth i h);
          label_is = rw (nth-up_to (bound_label b.cases) b.depth i h);
          flow_is = refl;
          keeping_is = refl;
        })
    on (no h) =
        rw (var_past b i next (omega arith))
        (record {
          type_is = sym (nth_past (bound_type b.cases) b.depth i (omega arith));
          label_is = rw (nth_past (bound_label b.cases) b.depth i (omega arith));
          flow_is = refl;
          keeping_is = refl;
        })

-- ---- the arms: the row at `at`, what the operands' checks ensure, and what the node gives

-- x is what is found of e, and rest stands after it
abbrev Done : List ℕ → List ℕ → Bindings → List ScriptLine → Typed → Expr → Type 0
Done ws t b rest x e = Finds t (bound_types b) (bound_labels b) e x × (drop x.next ws ≡ code rest)

module _ {ws : List ℕ} {at : ℕ} {t : List ℕ} {b : Bindings} {row : Row} (q : row ≡ row_at ws at) where
  by_node : {ss : List Sort} {k : ℕ} {f : Makes ss Expr} (x : Typed) → Node expression ss k row.a row.b f
      → row.kind ≡ k → at ≤ x.next
      → (Within b → (rest : List ScriptLine)
      → OfOperands ws at rest expression ss f (λ more. more) (Done ws t b rest x))
      → ChecksExpr ws at t b x
  by_node x n h g m = record {
    onward = g;
    means = λ e rest src w room.
        of_operands ws at rest n (row_of_lem ws at expression e rest q h src w) (Done ws t b rest x) (m room rest);
  }

  pub arm_int : row.kind ≡ 6 → {x : Typed} → x ≡ int_typed (at + 3) → ChecksExpr ws at t b x
  arm_int h e = rw e (by_node _ n_int h (omega arith) (λ room rest w. (find_int t _ _ row.a (at + 3), w)))

  pub arm_loc : row.kind ≡ 7 → {x : Typed} → x ≡ loc_typed t row.a (at + 3) → ChecksExpr ws at t b x
  arm_loc h e = rw e (by_node _ n_loc h (omega arith) (λ room rest w. (find_loc t _ _ row.a (at + 3), w)))

  pub arm_var : row.kind ≡ 8 → {x : Typed} → x ≡ var_typed b row.a (at + 3) → ChecksExpr ws at t b x
  arm_var h e =
      let next = var_next b row.a (at + 3) in
      rw e (by_node _ n_var h (omega arith) (λ room rest w. (find_var t b row.a (at + 3) room, rw next w)))

  module _ {x : Typed} (cx : ChecksExpr ws (at + 3) t b x) where
    -- a line with two operands
    arm_two : {k : ℕ} {f : Expr → Expr → Expr} {y r : Typed}
        → Node expression (expression ∷ expression ∷ []) k row.a row.b f → row.kind ≡ k
        → ChecksExpr ws x.next t b y → r.next ≡ y.next
        → ((e g : Expr) → Finds t (bound_types b) (bound_labels b) e x
        → Finds t (bound_types b) (bound_labels b) g y
        → Finds t (bound_types b) (bound_labels b) (f e g) r)
        → ChecksExpr ws at t b r
    arm_two n h cy i find =
        by_node _ n h (omega (arith, cx.onward, cy.onward))
        (λ room rest e p g q w.
        let m = cx.means e (expr_lines g rest) p w room in
        let l = cy.means g rest q m.1 room in
        (find e g m.0 l.0, rw i l.1))

    pub arm_plus : row.kind ≡ 9 → {y : Typed} → ChecksExpr ws x.next t b y → {r : Typed} → r ≡ plus_typed x y
        → ChecksExpr ws at t b r
    arm_plus h cy e = rw e (arm_two n_plus h cy refl (λ e g p q. find_plus t _ _ p q))

    pub arm_pair : row.kind ≡ 14 → {y : Typed} → ChecksExpr ws x.next t b y → {r : Typed}
        → r ≡ pair_typed t row.a x y
        → ChecksExpr ws at t b r
    arm_pair h cy e = rw e (arm_two n_pair h cy refl (λ e g p q. find_pair t _ _ p row.a q))

    -- a line with one operand
    arm_one : {k : ℕ} {f : Expr → Expr} {r : Typed} → Node expression (expression ∷ []) k row.a row.b f
        → row.kind ≡ k → r.next ≡ x.next
        → ((e : Expr) → Finds t (bound_types b) (bound_labels b) e x
        → Finds t (bound_types b) (bound_labels b) (f e) r) → ChecksExpr ws at t b r
    arm_one n h i find =
        by_node _ n h (omega (arith, cx.onward))
        (λ room rest e p w. let m = cx.means e rest p w room in (find e m.0, rw i m.1))

    pub arm_left : row.kind ≡ 10 → {m : ℕ} → m ≡ left_in t row.a → {r : Typed} → r ≡ sum_typed t row.a m x
        → ChecksExpr ws at t b r
    arm_left h p e = rw (e, p) (arm_one n_left h refl (λ e g. find_left t _ _ g row.a))

    pub arm_right : row.kind ≡ 11 → {m : ℕ} → m ≡ right_in t row.a → {r : Typed} → r ≡ sum_typed t row.a m x
        → ChecksExpr ws at t b r
    arm_right h p e = rw (e, p) (arm_one n_right h refl (λ e g. find_right t _ _ g row.a))

    pub arm_pack : row.kind ≡ 12 → {r : Typed} → r ≡ pack_typed t row.a x → ChecksExpr ws at t b r
    arm_pack h e = rw e (arm_one n_pack h refl (λ e g. find_pack t _ _ g row.a))

    pub arm_unpack : row.kind ≡ 13 → {r : Typed} → r ≡ unpack_typed t row.a row.b x → ChecksExpr ws at t b r
    arm_unpack h e = rw e (arm_one n_unpack h refl (λ e g. find_unpack t _ _ g row.a row.b))

    pub arm_part : (q : Part) → row.kind ≡ pick q 15 16 → {m : ℕ}
        → m ≡ pick q (left_in t x.ty) (right_in t x.ty) → {r : Typed}
        → r ≡ part_typed t m x → ChecksExpr ws at t b r
    arm_part q h p e = rw (e, p) (arm_one (n_proj q) h refl (λ e g. find_part t _ _ g q))

  -- a row of another kind is no expression's
  pub arm_other : (KindOf expression row.kind → ⊥) → {x : Typed} → x ≡ nothing at → ChecksExpr ws at t b x
  arm_other f e = rw e (record {
    onward = omega arith;
    means = λ e rest src w room. absurd (not_here expression e rest ws at q f src w);
  })
