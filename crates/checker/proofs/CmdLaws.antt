-- What each arm of `check_cmd` shows.
use mathlib.Core.Path.{◌≡◌, refl, ◌∙◌}
use mathlib.Core.Bool.{Bool, true, false}
use mathlib.Core.List.{List, ◌∷◌}
use Prim.Native.Nat.{ℕ, suc, ◌+◌, ◌≤◌, ◌<◌}
use native.Mathlib.Numerals.{add-one}
use native.Mathlib.Omega.{arith}
use lib.Dec.{ltb}
use borrow.Author.Tests.{ltb-true}
use lib.ListN.{length, drop}
use Rattle.sets.specs.Sets.{union}
use Rattle.logic.specs.Booleans.{both}
use Rattle.logic.proofs.BooleanLaws.{both_left, both_right, both_implied}
use Rattle.language.specs.Syntax.{Expr, Cmd, skip, seq, assign, while, case}
use Rattle.language.specs.Typing.{least, flow}
use Rattle.language.specs.Trust.{keeps}
use Rattle.script.specs.declared.Row.{Row}
use Rattle.script.specs.Lines.{ScriptLine, cmd_lines}
use Rattle.script.specs.Internal.Code.{code, row_at}
use Rattle.script.specs.Names.{Counts, max_depth, named_e, named}
use Rattle.script.specs.Internal.Pieces.{Sort, command}
use Rattle.script.proofs.Rows.{row_of_lem, KindOf, not_here}
use Rattle.script.proofs.Nodes.{Makes, Node, n_skip, n_seq, n_assign, n_while, n_case, OfOperands, of_operands}
use Rattle.sheet.specs.Internal.TypeTest.{is_sum}
use Rattle.sheet.specs.Internal.Tables.{left_in, right_in, home_in, label_in}
use Rattle.checks.specs.declared.Typed.{Typed}
use Rattle.checks.specs.declared.Passed.{Passed}
use Rattle.checker.specs.Internal.Numbers.{on_sum_no, given_no, shape_no, conditions_on}
use Rattle.checker.specs.declared.bindings.Bindings.{Bindings}
use Rattle.checker.specs.Internal.Bindings.{Within, bound_types, bound_labels, enter_of, leave_of}
use Rattle.checks.specs.Internal.Nodes.{refused, skip_passed, seq_passed, assign_passed, while_passed, case_passed}
use Rattle.checker.specs.Internal.Post.{Finds, ChecksExpr, Kept, Passes, ChecksCmd}
use Rattle.checker.proofs.BindingLaws.{kept_same, kept_twice, kept_within, kept_left, entered_types, entered_labels}
use Rattle.checker.proofs.BindingLaws.{entered_within}
use Rattle.members.specs.Internal.Members.{whole_flows}
use Rattle.members.proofs.MemberLaws.{union_below}
use Rattle.checker.proofs.ExprLaws.{is_type_lem}

-- ---- what a node finds, from what its operands' nodes found

on_sum_lem : (t : List ℕ) (b : Bool) (n : ℕ) (k : ℕ → ℕ → Bool)
    → on_sum_no t (given_no b n) k ≡ both b (both (is_sum t n) (k (left_in t n) (right_in t n)))
unfolding on_sum_no given_no both
on_sum_lem t true n k = refl
on_sum_lem t false n k = refl

module _ (t Γ : List ℕ) (pc : ℕ) (Δ : List ℕ) where
  pass_skip : (next : ℕ) → Passes t Γ pc Δ skip (skip_passed next)
  unfolding shape_no flow keeps
  pass_skip next = record { typed_is = refl; flow_is = refl; keeping_is = refl }

  pass_seq : {c d : Cmd} {x y : Passed} → Passes t Γ pc Δ c x → Passes t Γ pc Δ d y
      → Passes t Γ pc Δ (seq c d) (seq_passed x y)
  unfolding shape_no flow keeps
  pass_seq p q = record {
    typed_is = rw (p.typed_is, q.typed_is);
    flow_is = rw (p.flow_is, q.flow_is);
    keeping_is = rw (p.keeping_is, q.keeping_is);
  }

  module _ {e : Expr} {x : Typed} (p : Finds t Γ Δ e x) where
    pass_assign : (n : ℕ) → Passes t Γ pc Δ (assign n e) (assign_passed t n pc x)
    unfolding shape_no flow keeps whole_flows
    pass_assign n = record {
      typed_is = rw (← p.type_is, is_type_lem x _);
      flow_is = rw (
        ← union_below t (least (conditions_on t) Δ e) pc (label_in t (home_in t n)),
        ← p.label_is,
        p.flow_is,
      );
      keeping_is = both_implied _ true (λ h. refl) ∙ p.keeping_is;
    }

    pass_while : {c : Cmd} {y : Passed} → Passes t Γ (union pc x.label) Δ c y
        → Passes t Γ pc Δ (while e c) (while_passed x y)
    unfolding shape_no flow keeps
    pass_while {c} {y} q = record {
      typed_is = rw (← p.type_is, is_type_lem x 3, q.typed_is);
      flow_is = rw (← p.label_is, p.flow_is, q.flow_is);
      keeping_is = rw (p.keeping_is, q.keeping_is);
    }

    pass_case : {c d : Cmd} {y z : Passed}
        → Passes t (left_in t x.ty ∷ Γ) (union pc x.label) (x.label ∷ Δ) c y
        → Passes t (right_in t x.ty ∷ Γ) (union pc x.label) (x.label ∷ Δ) d z
        → Passes t Γ pc Δ (case e c d) (case_passed t x y z)
    unfolding shape_no flow keeps
    pass_case q r = record {
      typed_is = rw (← p.type_is, on_sum_lem t x.typed x.ty _, q.typed_is, r.typed_is);
      flow_is = rw (← p.label_is, p.flow_is, q.flow_is, r.flow_is);
      keeping_is = rw (← p.label_is, p.keeping_is, q.keeping_is, r.keeping_is);
    }

-- ---- the arms: the row at `at`, what the operands' checks ensure, and what the node gives

-- what a case's names say
case_names : (k : Counts) (d : ℕ) (e : Expr) (f g : Cmd) → named k d (case e f g) ≡ true
    → (d < max_depth) × (named k (d + 1) f ≡ true) × (named k (d + 1) g ≡ true)
unfolding named
case_names k d e f g h =
    let inner = both_right (named_e k d e) _ h in
    let parts = both_right (ltb d max_depth) _ inner in (
      ltb-true d max_depth (both_left _ (both (named k (suc d) f) (named k (suc d) g)) inner),
      rw (add-one d) (both_left _ (named k (suc d) g) parts),
      rw (add-one d) (both_right (named k (suc d) f) _ parts),
    )

-- what is found where the same is bound
pass_kept : {t : List ℕ} {b b' : Bindings} {pc : ℕ} {c : Cmd} {x : Passed} → Kept b b'
    → Passes t (bound_types b') pc (bound_labels b') c x → Passes t (bound_types b) pc (bound_labels b) c x
pass_kept k p = record {
  typed_is = rw (← k.types) p.typed_is;
  flow_is = rw (← k.labels) p.flow_is;
  keeping_is = rw (← k.labels) p.keeping_is;
}

-- what is found where one case more is bound
pass_entered : (t : List ℕ) (b : Bindings) (n a : ℕ) → b.depth < max_depth → max_depth ≤ length b.cases
    → {pc pc' : ℕ} {c : Cmd} {x : Passed} → pc ≡ pc'
    → Passes t (bound_types (enter_of b n a)) pc (bound_labels (enter_of b n a)) c x
    → Passes t (n ∷ bound_types b) pc' (a ∷ bound_labels b) c x
pass_entered t b n a h l lab p = record {
  typed_is = rw (← entered_types b n a h l) p.typed_is;
  flow_is = rw (← entered_labels b n a h l, ← lab) p.flow_is;
  keeping_is = rw (← entered_labels b n a h l) p.keeping_is;
}

-- x is what is found of c, if its names are there, and rest stands after it
abbrev Done : List ℕ → List ℕ → Bindings → ℕ → Counts → List ScriptLine → Passed → Cmd → Type 0
Done ws t b pc k rest x c =
    named k b.depth c ≡ true → Passes t (bound_types b) pc (bound_labels b) c x × (drop x.next ws ≡ code rest)

module _ {ws : List ℕ} {at : ℕ} {t : List ℕ} {b : Bindings} {pc : ℕ} {row : Row} (q : row ≡ row_at ws at) where
  by_node : {ss : List Sort} {j : ℕ} {f : Makes ss Cmd} (x : Passed) → Node command ss j row.a row.b f
      → row.kind ≡ j → at ≤ x.next
      → {b' : Bindings} → Kept b b' → ((k : Counts) → Within b → (rest : List ScriptLine)
      → OfOperands ws at rest command ss f (λ more. more) (Done ws t b pc k rest x))
      → ChecksCmd ws at t b pc x b'
  by_node x n h g same m = record {
    onward = g;
    kept = same;
    means = λ k c rest src w names room.
        of_operands ws at rest n (row_of_lem ws at command c rest q h src w) (Done ws t b pc k rest x)
        (m k room rest) names;
  }

  pub arm_skip : row.kind ≡ 1 → {x : Passed} → x ≡ skip_passed (at + 3) → ChecksCmd ws at t b pc x b
  arm_skip h e =
      rw e (by_node _ n_skip h (omega arith) kept_same (λ k room rest w names. (pass_skip t _ pc _ (at + 3), w)))

  pub arm_seq : row.kind ≡ 2 → {x y : Passed} {b₁ b₂ : Bindings} → ChecksCmd ws (at + 3) t b pc x b₁
      → ChecksCmd ws x.next t b₁ pc y b₂
      → {r : Passed} → r ≡ seq_passed x y → ChecksCmd ws at t b pc r b₂
  unfolding named
  arm_seq h cx cy e =
      rw e (by_node _ n_seq h (omega (arith, cx.onward, cy.onward)) (kept_twice cx.kept cy.kept)
      (λ k room rest f p g r w names.
      let m = cx.means k f (cmd_lines g rest) p w (both_left _ (named k b.depth g) names) room in
      let n = cy.means k g rest r m.1 (rw cx.kept.depth (both_right (named k b.depth f) _ names))
      (kept_within cx.kept room) in
      (pass_seq t _ pc _ m.0 (pass_kept cx.kept n.0), n.1)))

  module _ {x : Typed} (cx : ChecksExpr ws (at + 3) t b x) where
    pub arm_assign : row.kind ≡ 3 → {r : Passed} → r ≡ assign_passed t row.a pc x → ChecksCmd ws at t b pc r b
    arm_assign h e =
        rw e (by_node _ n_assign h (omega (arith, cx.onward)) kept_same
        (λ k room rest f p w names. let m = cx.means f rest p w room in (pass_assign t _ pc _ m.0 row.a, m.1)))

    pub arm_while : row.kind ≡ 4 → {pc' : ℕ} → pc' ≡ union pc x.label → {y : Passed} {b₁ : Bindings}
        → ChecksCmd ws x.next t b pc' y b₁ → {r : Passed} → r ≡ while_passed x y → ChecksCmd ws at t b pc r b₁
    unfolding named
    arm_while h lab cy e =
        rw e (by_node _ n_while h (omega (arith, cx.onward, cy.onward)) cy.kept
        (λ k room rest f p c r w names.
        let m = cx.means f (cmd_lines c rest) p w room in
        let n = cy.means k c rest r m.1 (both_right (named_e k b.depth f) _ names) room in
        (pass_while t _ pc _ m.0 (rw lab at n.0), n.1)))

    -- a case, with what is bound after each step
    pub arm_case : row.kind ≡ 5 → b.depth < max_depth → max_depth ≤ length b.cases → {pc' : ℕ}
        → pc' ≡ union pc x.label
        → {y z : Passed} {m n : ℕ} {b₁ b₂ b₃ b₄ b₅ b₆ : Bindings}
        → m ≡ left_in t x.ty → b₁ ≡ enter_of b m x.label → ChecksCmd ws x.next t b₁ pc' y b₂
        → b₃ ≡ leave_of b₂ → n ≡ right_in t x.ty → b₄ ≡ enter_of b₃ n x.label
        → ChecksCmd ws y.next t b₄ pc' z b₅ → b₆ ≡ leave_of b₅
        → {r : Passed} → r ≡ case_passed t x y z → ChecksCmd ws at t b pc r b₆
    arm_case h shallow long lab {y} {z} {m} {n} {b₁} {b₂} {b₃} {b₄} {b₅} {b₆} tl el cy ll tr er cz lr e =
        rw e (by_node _ n_case h (omega (arith, cx.onward, cy.onward, cz.onward)) (kept_twice upto₃ upto₆)
        (λ k room rest e p f r g u w names.
        let ns = case_names k b.depth e f g names in
        let me = cx.means e (cmd_lines f (cmd_lines g rest)) p w room in
        let mf = cy.means k f (cmd_lines g rest) r me.1 (rw el ns.1)
        (rw el (entered_within b m x.label shallow long)) in
        let mg = cz.means k g rest u mf.1 (rw (er, upto₃.depth) ns.2)
        (rw er (entered_within b₃ n x.label shallow₃ long₃)) in (
          pass_case t _ pc _ me.0
              (rw tl at (pass_entered t b m x.label shallow long lab (rw el at mf.0)))
              (rw tr at (pass_kept_more upto₃ (pass_entered t b₃ n x.label shallow₃ long₃ lab (rw er at mg.0)))),
          mg.1,
        )))
      where
        upto₃ : Kept b b₃
        upto₃ = rw ll (kept_left b m x.label shallow long (rw el at cy.kept))

        shallow₃ : b₃.depth < max_depth
        shallow₃ = omega (arith, upto₃.depth)

        long₃ : max_depth ≤ length b₃.cases
        long₃ = omega (arith, upto₃.size)

        upto₆ : Kept b₃ b₆
        upto₆ = rw lr (kept_left b₃ n x.label shallow₃ long₃ (rw er at cz.kept))

        pass_kept_more : Kept b b₃ → {c : Cmd}
            → Passes t (n ∷ bound_types b₃) (union pc x.label) (x.label ∷ bound_labels b₃) c z
            → Passes t (n ∷ bound_types b) (union pc x.label) (x.label ∷ bound_labels b) c z
        pass_kept_more k p = record {
          typed_is = rw (← k.types) p.typed_is;
          flow_is = rw (← k.labels) p.flow_is;
          keeping_is = rw (← k.labels) p.keeping_is;
        }

  -- a case deeper than a script may nest
  pub arm_deep : row.kind ≡ 5 → max_depth ≤ b.depth → {x : Passed} → x ≡ refused at → ChecksCmd ws at t b pc x b
  arm_deep h deep e =
      rw e (by_node _ n_case h (omega arith) kept_same
      (λ k room rest e p f r g u w names. let n = case_names k b.depth e f g names in absurd (omega (arith, n.0))))

  -- a row of another kind is no command's
  pub arm_other : (KindOf command row.kind → ⊥) → {x : Passed} → x ≡ refused at → ChecksCmd ws at t b pc x b
  arm_other f e =
      rw e (record {
        onward = omega arith;
        kept = kept_same;
        means = λ k c rest src w names room. absurd (not_here command c rest ws at q f src w);
      })
