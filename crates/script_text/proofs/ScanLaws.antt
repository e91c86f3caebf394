-- An expression or a command is found at a row exactly if its lines stand there: a law for each number of operands.
use mathlib.Core.Path.{◌≡◌, refl, sym, ap, ◌∙◌}
use mathlib.Core.Logic.{◌⊎◌, inl, inr}
use mathlib.Core.Bool.{Bool, true, false}
use mathlib.Core.List.{List, [], ◌∷◌}
use Prim.Native.Nat.{ℕ, suc, ◌+◌, ◌≤◌, ◌<◌}
use native.Mathlib.Numerals.{add-one}
use native.Mathlib.Omega.{arith}
use lib.Dec.{ltb}
use lib.ListN.{drop}
use borrow.Author.Tests.{lt-ltb, le-ltb}
use Rattle.std.specs.Prelude.{Option, Some, None}
use Rattle.std.specs.Bool.{then_some}
use Rattle.logic.specs.Booleans.{both, either}
use Rattle.logic.proofs.BooleanLaws.{both_left, both_right, both_true}
use Rattle.language.specs.Syntax.{case}
use Rattle.script.specs.declared.Row.{Row}
use Rattle.script.specs.Lines.{ScriptLine}
use Rattle.script.specs.Internal.Code.{row_of, code, row_at}
use Rattle.script.specs.Internal.Pieces.{Sort, expression, command, Tree, SourceOf, lines_of}
use Rattle.script.specs.Names.{Counts, max_depth, named_e, named}
use Rattle.script.proofs.Rows.{row_of_lem, line_there, line_nowhere, KindOf, not_here, OneOf, one_between}
use Rattle.script.proofs.Nodes.{view, Makes, Node, n_case, no_node, Made, made, OfOperands, of_operands}
use Rattle.script.proofs.Nodes.{n_plus, n_left, n_right, n_pack, n_unpack, n_pair, n_first, n_second}
use Rattle.script_text.specs.Internal.Scan.{Scans, ScansExpr, ScansCmd, names_there}

pub false_true : {A : Type 0} (b : Bool) → b ≡ false → b ≡ true → A
false_true b f t = absurd (let z : ◌≡◌ {A = ℕ} 0 1 = cc in omega arith)

-- the lines of a tree, then others
lines_then_lem : (s : Sort) (x : Tree s) {ls mid end : List ScriptLine} → ls ≡ lines_of s x mid → mid ≡ end
    → ls ≡ lines_of s x end
lines_then_lem s x p q = p ∙ ap (lines_of s x) q

-- what stands at a word, where lines stand there: a tree of the sort, its names there, and where it ends
abbrev Found : (s : Sort) → (Tree s → Bool) → List ℕ → List ScriptLine → ℕ → Type 0
Found s names ws ls n =
    (x : Tree s) × (rest : List ScriptLine) × SourceOf s x × (names x ≡ true) × (ls ≡ lines_of s x rest)
    × (drop n ws ≡ code rest)

-- ---- what is found at a row, from its operands

module _ {s : Sort} {names : Tree s → Bool} {ws : List ℕ} {at : ℕ} {row : Row} (q : row ≡ row_at ws at) where
  -- where a tree of a line of a kind ends
  by_node : {ss : List Sort} {k : ℕ} {f : Makes ss (Tree s)} (n : ℕ) → Node s ss k row.a row.b f
      → row.kind ≡ k → at ≤ n
      → ((l : ScriptLine) (ls : List ScriptLine) → Made s ss f (λ rest. l ∷ rest) → drop (at + 3) ws ≡ code ls
      → Found s names ws (l ∷ ls) n)
      → ((rest : List ScriptLine) → OfOperands ws at rest s ss f (λ more. more)
      (λ x. names x ≡ true → drop n ws ≡ code rest))
      → Scans s names ws at (Some n)
  by_node n d k g sound complete =
      record {
        forward = g;
        sound =
            elim [
              | [] ↦ λ h. let z : row.kind ≡ 0 = ap (λ (x : Row). x.kind) q ∙ line_nowhere ws at h in
                  absurd (no_node (rw (sym k ∙ z) at d))
              | l ∷ ls ↦ λ h.
                  let w = line_there ws at l ls h in
                  let e : row_of l ≡ row = sym w.0 ∙ sym q in
                  sound l ls (made d (rw (e, k) at (view l))) w.1
            ];
        complete = λ x rest u m h. of_operands ws at rest d (row_of_lem ws at s x rest q k u h)
            (λ y. names y ≡ true → drop n ws ≡ code rest) (complete rest) m;
      }

  -- no tree of a line of a kind is there
  no_tree : {ss : List Sort} {k : ℕ} {f : Makes ss (Tree s)} → Node s ss k row.a row.b f → row.kind ≡ k
      → ((rest : List ScriptLine) → OfOperands ws at rest s ss f (λ more. more) (λ x. names x ≡ true → ⊥))
      → Scans s names ws at None
  no_tree d k none =
      record {
        forward = tt;
        sound = tt;
        complete = λ x rest u m h. absurd (of_operands ws at rest d (row_of_lem ws at s x rest q k u h)
            (λ y. names y ≡ true → ⊥) (none rest) m);
      }

  -- a line without operands, where a test passes
  pub scan_leaf : {k : ℕ} {x : Tree s} (ok : Bool) → Node s [] k row.a row.b x → row.kind ≡ k → ok ≡ names x
      → Scans s names ws at (then_some ok (at + 3))
  scan_leaf {x = x} true n k e =
      by_node _ n k (omega arith) (λ l ls m h. (x, ls, m.0, sym e, m.1 ls, h)) (λ rest h m. h)
  scan_leaf {x = x} false n k e = no_tree n k (λ rest h m. false_true _ (sym e) m)

  -- one operand
  pub scan_one : {t : Sort} {namesT : Tree t → Bool} {k : ℕ} {f : Tree t → Tree s} (a : Option ℕ)
      → Node s (t ∷ []) k row.a row.b f → row.kind ≡ k → Scans t namesT ws (at + 3) a
      → ((x : Tree t) → names (f x) ≡ namesT x) → Scans s names ws at a
  scan_one {f = f} (Some z) n k sa i =
      by_node z n k (omega (arith, sa.forward))
      (λ l ls m h.
      let g = sa.sound ls h in
      let w = m g.0 g.2 in
      (f g.0, g.1, w.0, i _ ∙ g.3, ap (λ (v : List ScriptLine). l ∷ v) g.4 ∙ w.1 g.1, g.5))
      (λ rest x u h m. sa.complete x rest u (sym (i x) ∙ m) h)
  scan_one None n k sa i = no_tree n k (λ rest x u h m. sa.complete x rest u (sym (i x) ∙ m) h)

  -- two operands, of which the first is there
  pub scan_two : {t v : Sort} {namesT : Tree t → Bool} {namesV : Tree v → Bool} {k : ℕ} {f : Tree t → Tree v → Tree s}
      {a : ℕ} (b : Option ℕ)
      → Node s (t ∷ v ∷ []) k row.a row.b f → row.kind ≡ k → Scans t namesT ws (at + 3) (Some a)
      → Scans v namesV ws a b
      → ((x : Tree t) (y : Tree v) → names (f x y) ≡ both (namesT x) (namesV y)) → Scans s names ws at b
  scan_two {t} {v} {f = f} (Some z) n k sa sb i =
      by_node z n k (omega (arith, sa.forward, sb.forward))
      (λ l ls m h.
      let g = sa.sound ls h in
      let g' = sb.sound g.1 g.5 in
      let w = m g.0 g.2 g'.0 g'.2 in (
        f g.0 g'.0,
        g'.1,
        w.0,
        i _ _ ∙ both_true g.3 g'.3,
        ap (λ (y : List ScriptLine). l ∷ y) (lines_then_lem t g.0 g.4 g'.4) ∙ w.1 g'.1,
        g'.5,
      ))
      (λ rest x u y w h m.
      let m' = sym (i x y) ∙ m in
      sb.complete y rest w (both_right _ _ m') (sa.complete x (lines_of v y rest) u (both_left _ _ m') h))
  scan_two {t} {v} None n k sa sb i =
      no_tree n k (λ rest x u y w h m.
      let m' = sym (i x y) ∙ m in
      sb.complete y rest w (both_right _ _ m') (sa.complete x (lines_of v y rest) u (both_left _ _ m') h))

  -- the same, where it isn't
  pub scan_two_none : {t v : Sort} {namesT : Tree t → Bool} {k : ℕ} {f : Tree t → Tree v → Tree s}
      → Node s (t ∷ v ∷ []) k row.a row.b f → row.kind ≡ k → Scans t namesT ws (at + 3) None
      → ((x : Tree t) (y : Tree v) → names (f x y) ≡ true → namesT x ≡ true) → Scans s names ws at None
  scan_two_none {t} {v} n k sa i =
      no_tree n k (λ rest x u y w h m. sa.complete x (lines_of v y rest) u (i x y m) h)

  -- a test of the line's own numbers fails
  pub scan_one_off : {t : Sort} {k : ℕ} {f : Tree t → Tree s} → Node s (t ∷ []) k row.a row.b f → row.kind ≡ k
      → ((x : Tree t) → names (f x) ≡ false) → Scans s names ws at None
  scan_one_off n k i = no_tree n k (λ rest x u h m. false_true _ (i x) m)

  pub scan_two_off : {t v : Sort} {k : ℕ} {f : Tree t → Tree v → Tree s} → Node s (t ∷ v ∷ []) k row.a row.b f
      → row.kind ≡ k → ((x : Tree t) (y : Tree v) → names (f x y) ≡ false) → Scans s names ws at None
  scan_two_off n k i = no_tree n k (λ rest x u y w h m. false_true _ (i x y) m)

  -- nothing is found where the row's kind is another
  pub scan_none : (KindOf s row.kind → ⊥) → Scans s names ws at None
  scan_none f =
      record {
        forward = tt;
        sound = tt;
        complete = λ x rest u n h. absurd (not_here s x rest ws at q f u h);
      }

-- ---- an expression with operands, and the numbers of its line

-- the test, where the kind is known
of_kind : (k : Counts) (row : Row) {test : Bool} → test ≡ names_there k row.kind row.a row.b
    → (n : ℕ) → row.kind ≡ n → names_there k n row.a row.b ≡ test
of_kind k row p n i = ap (λ (m : ℕ). names_there k m row.a row.b) (sym i) ∙ sym p

module _ (k : Counts) (d : ℕ) {ws : List ℕ} {at : ℕ} {row : Row} (q : row ≡ row_at ws at) {test : Bool}
    (p : test ≡ names_there k row.kind row.a row.b) where
  -- where the line's own numbers are there: the kinds with two operands
  module _ (t : test ≡ true) where
    pub scan_named_two : {a : ℕ} {b : Option ℕ} → (row.kind ≡ 9) ⊎ (row.kind ≡ 14)
        → ScansExpr k d ws (at + 3) (Some a) → ScansExpr k d ws a b → ScansExpr k d ws at b
    unfolding named_e either both
    scan_named_two (inl i) sa sb = scan_two q _ n_plus i sa sb (λ x y. refl)
    scan_named_two (inr i) sa sb =
        let there = of_kind k row p 14 i ∙ t in scan_two q _ n_pair i sa sb (λ x y. rw there refl)

    -- the kinds with one, between which that of a pair stands
    scan_one_of : {a : Option ℕ} → OneOf row.kind 10 6 → (row.kind ≡ 14 → ⊥) → ScansExpr k d ws (at + 3) a
        → ScansExpr k d ws at a
    unfolding named_e either both
    scan_one_of (inl i) f sa = let there = of_kind k row p 10 i ∙ t in scan_one q _ n_left i sa (λ x. rw there refl)
    scan_one_of (inr (inl i)) f sa =
        let there = of_kind k row p 11 i ∙ t in scan_one q _ n_right i sa (λ x. rw there refl)
    scan_one_of (inr (inr (inl i))) f sa =
        let there = of_kind k row p 12 i ∙ t in scan_one q _ n_pack i sa (λ x. rw there refl)
    scan_one_of (inr (inr (inr (inl i)))) f sa =
        let there = of_kind k row p 13 i ∙ t in scan_one q _ n_unpack i sa (λ x. rw there refl)
    scan_one_of (inr (inr (inr (inr (inl i))))) f sa = absurd (f i)
    scan_one_of (inr (inr (inr (inr (inr (inl i)))))) f sa = scan_one q _ n_first i sa (λ x. refl)
    scan_one_of (inr (inr (inr (inr (inr (inr i)))))) f sa = scan_one q _ n_second i sa (λ x. refl)

    pub scan_named_one : {a : Option ℕ} → 9 ≤ row.kind → row.kind ≤ 16 → (row.kind ≡ 9 → ⊥) → (row.kind ≡ 14 → ⊥)
        → ScansExpr k d ws (at + 3) a → ScansExpr k d ws at a
    scan_named_one l u f g sa = scan_one_of (one_between 10 6 (omega (arith, l, f)) u) g sa

    -- the first operand isn't there
    pub scan_named_none : 9 ≤ row.kind → row.kind ≤ 16 → ScansExpr k d ws (at + 3) None → ScansExpr k d ws at None
    unfolding named_e either both
    scan_named_none l u sa = go (one_between 9 7 l u)
      where
        other : OneOf row.kind 10 6 → (row.kind ≡ 14 → ⊥) → ScansExpr k d ws at None
        other o f = scan_one_of o f sa

        go : OneOf row.kind 9 7 → ScansExpr k d ws at None
        go (inl i) = scan_two_none q n_plus i sa (λ x y m. both_left _ _ m)
        go (inr (inl i)) = other (inl i) (λ j. omega arith)
        go (inr (inr (inl i))) = other (inr (inl i)) (λ j. omega arith)
        go (inr (inr (inr (inl i)))) = other (inr (inr (inl i))) (λ j. omega arith)
        go (inr (inr (inr (inr (inl i))))) = other (inr (inr (inr (inl i)))) (λ j. omega arith)
        go (inr (inr (inr (inr (inr (inl i)))))) =
            scan_two_none q n_pair i sa (λ x y m. both_left _ _ (both_right _ _ m))
        go (inr (inr (inr (inr (inr (inr (inl i))))))) = scan_one q _ n_first i sa (λ x. refl)
        go (inr (inr (inr (inr (inr (inr (inr i))))))) = scan_one q _ n_second i sa (λ x. refl)

  -- and where one isn't
  pub scan_unnamed : test ≡ false → 9 ≤ row.kind → row.kind ≤ 16 → ScansExpr k d ws at None
  unfolding named_e either both
  scan_unnamed t l u = go (one_between 9 7 l u)
    where
      go : OneOf row.kind 9 7 → ScansExpr k d ws at None
      go (inl i) = false_true test t (sym (of_kind k row p 9 i))
      go (inr (inl i)) = let no = of_kind k row p 10 i ∙ t in scan_one_off q n_left i (λ x. rw no refl)
      go (inr (inr (inl i))) = let no = of_kind k row p 11 i ∙ t in scan_one_off q n_right i (λ x. rw no refl)
      go (inr (inr (inr (inl i)))) = let no = of_kind k row p 12 i ∙ t in scan_one_off q n_pack i (λ x. rw no refl)
      go (inr (inr (inr (inr (inl i))))) =
          let no = of_kind k row p 13 i ∙ t in scan_one_off q n_unpack i (λ x. rw no refl)
      go (inr (inr (inr (inr (inr (inl i)))))) =
          let no = of_kind k row p 14 i ∙ t in scan_two_off q n_pair i (λ x y. rw no refl)
      go (inr (inr (inr (inr (inr (inr (inl i))))))) = false_true test t (sym (of_kind k row p 15 i))
      go (inr (inr (inr (inr (inr (inr (inr i))))))) = false_true test t (sym (of_kind k row p 16 i))

-- ---- a case, below d others

module _ (k : Counts) (d : ℕ) {ws : List ℕ} {at : ℕ} {row : Row} (q : row ≡ row_at ws at) (e : row.kind ≡ 5) where
  pub scan_deep : max_depth ≤ d → ScansCmd k d ws at None
  unfolding named
  scan_deep h =
      no_tree q n_case e
      (λ rest x sx y sy z sz g m. false_true (ltb d max_depth) (le-ltb _ _ h) (both_left _ _ (both_right _ _ m)))

  pub scan_case_none : ScansExpr k d ws (at + 3) None → ScansCmd k d ws at None
  unfolding named
  scan_case_none sa = no_tree q n_case e (λ rest x sx y sy z sz g m. sa.complete x _ sx (both_left _ _ m) g)

  module _ {a : ℕ} (sa : ScansExpr k d ws (at + 3) (Some a)) where
    pub scan_case_one : ScansCmd k (d + 1) ws a None → ScansCmd k d ws at None
    unfolding named
    scan_case_one sb =
        let in_b : ScansCmd k (suc d) ws a None = rw (add-one d) at sb in
        no_tree q n_case e
        (λ rest x sx y sy z sz g m.
        let m' = both_right _ _ (both_right _ _ m) in
        in_b.complete y _ sy (both_left _ _ m') (sa.complete x _ sx (both_left _ _ m) g))

    pub scan_case : {b : ℕ} (c : Option ℕ) → d < max_depth → ScansCmd k (d + 1) ws a (Some b)
        → ScansCmd k (d + 1) ws b c → ScansCmd k d ws at c
    unfolding named
    scan_case (Some n) h sb sc =
        let in_b : ScansCmd k (suc d) ws a _ = rw (add-one d) at sb in
        let in_c : ScansCmd k (suc d) ws _ (Some n) = rw (add-one d) at sc in
        by_node q n n_case e (omega (arith, sa.forward, sb.forward, sc.forward))
        (λ l ls m g.
        let x = sa.sound ls g in
        let y = in_b.sound x.1 x.5 in
        let z = in_c.sound y.1 y.5 in
        let w = m x.0 x.2 y.0 y.2 z.0 z.2 in (
          case x.0 y.0 z.0,
          z.1,
          w.0,
          both_true x.3 (both_true (lt-ltb _ _ h) (both_true y.3 z.3)),
          ap (λ (v : List ScriptLine). l ∷ v)
              (lines_then_lem expression x.0 x.4 (lines_then_lem command y.0 y.4 z.4))
              ∙ w.1 z.1,
          z.5,
        ))
        (λ rest x sx y sy z sz g m.
        let m' = both_right _ _ (both_right _ _ m) in
        in_c.complete z rest sz (both_right _ _ m')
        (in_b.complete y _ sy (both_left _ _ m') (sa.complete x _ sx (both_left _ _ m) g)))
    scan_case None h sb sc =
        let in_b : ScansCmd k (suc d) ws a _ = rw (add-one d) at sb in
        let in_c : ScansCmd k (suc d) ws _ None = rw (add-one d) at sc in
        no_tree q n_case e
        (λ rest x sx y sy z sz g m.
        let m' = both_right _ _ (both_right _ _ m) in
        in_c.complete z rest sz (both_right _ _ m')
        (in_b.complete y _ sy (both_left _ _ m') (sa.complete x _ sx (both_left _ _ m) g)))
