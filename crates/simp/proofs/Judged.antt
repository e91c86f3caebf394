-- The stages of a call's function against the rows of its table: each stage judges its rows, and goes on where none of
-- them applies.
use mathlib.Core.Logic.{◌⊎◌, inl, inr, ⊎_elim}
use mathlib.Core.Path.{◌≡◌, refl, sym, ◌∙◌, subst}
use mathlib.Core.Bool.{Bool, true, false, cond}
use mathlib.Core.List.{List, [], ◌∷◌}
use mathlib.Core.Option.{Option, none, some}
use Prim.Native.Nat.{ℕ}
use lib.ListN.{length}
use borrow.Author.Tests.{eqb-true, eqb-false}
use Rattle.language.specs.Syntax.{Script}
use Rattle.language.specs.Typing.{refusal}
use Rattle.language.proofs.Exactness.{shape_iff, script_iff}
use Rattle.sheet.specs.Sheet.{Sheet, repeats}
use Rattle.sheet.specs.Meaning.{labels_over, declarations_of}
use Rattle.sheet.proofs.MeaningLaws.{least_label_laws}
use Rattle.sheet_text.specs.Sheets.{ParsedSheet, malformed, repeating, accepted, sheet_of}
use Rattle.sheet_text.specs.Theorems.{IsSheet}
use Rattle.sheet_text.proofs.Theorems.{accepted_exact, repeating_exact, malformed_exact, one_sheet}
use Rattle.script_text.specs.Counts.{counts_of}
use Rattle.script_text.specs.Script.{script_of}
use Rattle.script_text.specs.Theorems.{IsScript}
use Rattle.script_text.proofs.ScriptLaws.{script_exact}
use Rattle.memory.specs.Memory.{well_formed, slice_refusal, refusal_by, memory_refusal}
use Rattle.memory.specs.View.{view_refusal}
use Rattle.stages.specs.Calls.{on_sheet, unless, strangers, on_script, untyped}
use Rattle.numbers.specs.Rows.{Row, ◌when◌, First}
use Rattle.simp.specs.Judgements.{OnSheet, OfSheet, OfScript, NoSheet, Repeats, Strangers, NoScript, IllTyped}
use Rattle.simp.specs.Judgements.{IllLabelled, OtherSize, IllFormed, Principals, Typable, TypableUnlabelled}
use Rattle.simp.specs.Judgements.{Sized}
use Rattle.logic.proofs.OptionLaws.{none_some}
use Rattle.logic.proofs.BooleanLaws.{fails}

-- ---- a text is that of one sheet, and on it of one script

pub read : {sheet : List ℕ} {s : Sheet} → OnSheet sheet s → sheet_of sheet ≡ accepted s
read {sheet} {s} h = (accepted_exact sheet s).1 (h.form, h.once)

pub parsed : {sheet : List ℕ} {s : Sheet} (script : List ℕ) {p : Script} → OnSheet sheet s
    → IsScript (counts_of s) script p → script_of (counts_of s) script ≡ some p
parsed {s = s} script {p} h i = (script_exact s h.form.is_formed script p).1 i

-- what holds of the text's sheet holds of this one
pub its : {sheet : List ℕ} {s : Sheet} (P : Sheet → Type 0) → IsSheet sheet s → OfSheet sheet P → P s
its {sheet} {s} P i h = subst P (one_sheet sheet h.0 s h.1 i) h.2

pub one_script : {sheet : List ℕ} {s : Sheet} (script : List ℕ) {p p' : Script} → OnSheet sheet s
    → IsScript (counts_of s) script p → IsScript (counts_of s) script p'
    → p' ≡ p
one_script script h i i' = let x = parsed script h i in let y = parsed script h i' in cc

pub their : {sheet script : List ℕ} {s : Sheet} {p : Script} (P : Sheet → Script → Type 0) → OnSheet sheet s
    → IsScript (counts_of s) script p
    → OfScript sheet script P → P s p
their {sheet} {script} {s} P h i o =
    let d = its (λ (z : Sheet). (p : Script) × IsScript (counts_of z) script p × P z p) h.form o in
    subst (P s) (one_script script h i d.1) d.2

-- ---- the stages

module _ {A : Type 0} (refuse : ℕ → A) (Else : A → Type 0) where
  pub past_all : {r : A} → Else r → First refuse Else [] r
  unfolding First
  past_all e = e

  pub past_2 : (sheet : List ℕ) (rows : List Row) (go : Sheet → A)
      → ((s : Sheet) → OnSheet sheet s → First refuse Else rows (go s))
      → First refuse Else (1 when NoSheet sheet ∷ 2 when Repeats sheet ∷ rows) (on_sheet refuse (sheet_of sheet) go)
  unfolding First on_sheet
  past_2 sheet rows go k = on (sheet_of sheet) refl
    where
      on : (a : ParsedSheet) → sheet_of sheet ≡ a
          → First refuse Else (1 when NoSheet sheet ∷ 2 when Repeats sheet ∷ rows) (on_sheet refuse a go)
      on malformed e = inl ((malformed_exact sheet).0 e, refl)
      on repeating e = let r = (repeating_exact sheet).0 e in inr (λ n. n r.0 r.1, inl (r, refl))
      on (accepted s) e =
          let h = (accepted_exact sheet s).0 e in
          inr (
            λ n. n s h.0,
            inr (
              λ r. fails h.1 (its (λ (z : Sheet). repeats z ≡ true) h.0 r),
              k s (record { form = h.0; once = h.1 }),
            ),
          )

  -- a test that gives the number k where it fails
  tests : (b : Bool) (k j : ℕ) {P : Type 0} (go : A) (rows : List Row) → unless refuse k go ≡ refuse k → (b ≡ false → P)
      → (b ≡ true → First refuse Else (k when P ∷ rows) (unless refuse j go))
      → First refuse Else (k when P ∷ rows) (unless refuse (cond b j k) go)
  unfolding First
  tests true k j go rows e p q = q refl
  tests false k j go rows e p q = inl (p refl, e)

  -- a row that does not apply
  row : {P : Type 0} (k : ℕ) (rows : List Row) (r : A) → ¬ P → First refuse Else rows r
      → First refuse Else (k when P ∷ rows) r
  unfolding First
  row k rows r n f = inr (n, f)

  module _ {sheet : List ℕ} {s : Sheet} (h : OnSheet sheet s) (rows : List Row) where
    no : (P : Sheet → Type 0) → P s → ¬ OfSheet sheet (λ z. ¬ P z)
    no P p o = its (λ (z : Sheet). ¬ P z) h.form o p

    pub past_3 : (g : ℕ) (go : A) → (Principals s g → First refuse Else rows go)
        → First refuse Else (3 when Strangers sheet g ∷ rows) (unless refuse (strangers s g) go)
    unfolding unless strangers
    past_3 g go k =
        tests _ 3 0 go rows refl (λ f. (s, h.form, fails f)) (λ t. row 3 rows go (no (λ z. Principals z g) t) (k t))

    pub past_4 : (script : List ℕ) (go : Script → A)
        → ((p : Script) → IsScript (counts_of s) script p → First refuse Else rows (go p))
        → First refuse Else (4 when NoScript sheet script ∷ rows) (on_script refuse (script_of (counts_of s) script) go)
    unfolding First on_script
    past_4 script go k = on (script_of (counts_of s) script) refl
      where
        on : (o : Option Script) → script_of (counts_of s) script ≡ o
            → First refuse Else (4 when NoScript sheet script ∷ rows) (on_script refuse o go)
        on none e = inl ((s, h.form, λ p i. none_some (sym e ∙ parsed script h i)), refl)
        on (some p) e =
            let i = (script_exact s h.form.is_formed script p).0 e in inr (λ o. its _ h.form o p i, k p i)

    pub past_6 : (script : List ℕ) (p : Script) (go : A) → IsScript (counts_of s) script p
        → (Typable s p → First refuse Else rows go)
        → First refuse Else (5 when IllTyped sheet script ∷ 6 when IllLabelled sheet script ∷ rows)
        (unless refuse (untyped s p) go)
    unfolding unless untyped refusal
    past_6 script p go i k =
        let D = declarations_of s in
        let typed = script_iff (labels_over s.principals) (least_label_laws s.principals) D p in
        tests _ 5 _ go _ refl (λ f. (s, h.form, (p, i, λ d. fails f ((shape_iff D p).1 d)))) λ t.
        row 5 _ _ (λ o. their (λ z d. ¬ TypableUnlabelled z d) h i o ((shape_iff D p).0 t))
        (tests _ 6 0 go rows refl (λ f. (s, h.form, (p, i, λ d. fails f (typed.1 d).1))) λ u.
        row 6 rows go (λ o. their (λ z d. ¬ Typable z d) h i o (typed.0 (t, u))) (k (typed.0 (t, u))))

    pub past_8 : (memory : List ℕ) (go : A) → (Sized s memory → well_formed s memory ≡ true → First refuse Else rows go)
        → First refuse Else (7 when OtherSize sheet memory ∷ 8 when IllFormed sheet memory ∷ rows)
        (unless refuse (memory_refusal s memory) go)
    unfolding unless memory_refusal refusal_by slice_refusal
    past_8 memory go k =
        tests _ 7 _ go _ refl (λ f. (s, h.form, eqb-false _ _ f)) λ t.
        row 7 _ _ (no (λ z. Sized z memory) (eqb-true _ _ t))
        (tests _ 8 0 go rows refl (λ f. (s, h.form, f)) λ w.
        row 8 rows go (λ o. fails (its _ h.form o) w) (k (eqb-true _ _ t) w))

    pub past_view_8 : (memory view : List ℕ) (go : A)
        → (Sized s memory → Sized s view → well_formed s memory ≡ true → First refuse Else rows go)
        → First refuse Else
        (7 when (OtherSize sheet memory ⊎ OtherSize sheet view) ∷ 8 when IllFormed sheet memory ∷ rows)
        (unless refuse (view_refusal s memory (length view)) go)
    unfolding unless view_refusal memory_refusal refusal_by slice_refusal
    past_view_8 memory view go k =
        tests _ 7 _ go _ refl (λ f. inr (s, h.form, eqb-false _ _ f)) λ v.
        tests _ 7 _ go _ refl (λ f. inl (s, h.form, eqb-false _ _ f)) λ t.
        row 7 _ _ (⊎_elim (no (λ z. Sized z memory) (eqb-true _ _ t)) (no (λ z. Sized z view) (eqb-true _ _ v)))
        (tests _ 8 0 go rows refl (λ f. (s, h.form, f)) λ w.
        row 8 rows go (λ o. fails (its _ h.form o) w) (k (eqb-true _ _ t) (eqb-true _ _ v) w))
