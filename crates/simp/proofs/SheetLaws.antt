-- From the answer of the sheet's reader to that of a call.
use denote.Ref.{Bor}
use mathlib.Core.Path.{◌≡◌, refl, sym, ap, ◌∙◌}
use mathlib.Core.List.{List}
use Prim.Native.Nat.{ℕ}
use native.Mathlib.Omega.{arith}
use Rattle.std.specs.Prelude.{Result, Ok, Err}
use Rattle.std.specs.Fn.{Mut, Called}
use Rattle.sheet.specs.Sheet.{Sheet}
use Rattle.sheet_text.specs.Sheets.{ParsedSheet, malformed, repeating, accepted, sheet_of}
use Rattle.sheet_text.specs.Verdict.{sheet_number}
use Rattle.sheet_text.specs.Internal.Decoded.{Decoded, refused_by, decoded_sheet}
use Rattle.sheet_text.proofs.Theorems.{accepted_exact}
use Rattle.stages.specs.declared.refusal.Refusal.{Refusal}
use Rattle.stages.specs.Refusals.{refusal_number, answer_number}
use Rattle.stages.specs.Calls.{on_sheet}
use Rattle.stages.specs.Internal.Stages.{TableOf}
use Rattle.stages.proofs.StageLaws.{refuses}
use Rattle.simp.specs.Internal.Sheets.{CallsOn}

module _ {F A : Type 0} (g : Mut F (Bor (List ℕ) × Unit {0}) (Result A Refusal)) (sheet : List ℕ) (d : Decoded)
    (e : d ≡ decoded_sheet (sheet_of sheet)) (f : F) where
  -- a refused sheet
  pub calls_none : (refusal : Refusal) → refusal_number refusal ≡ sheet_number d.verdict
      → CallsOn g (sheet_of sheet) f (Err refusal) f
  unfolding CallsOn decoded_sheet refused_by sheet_number
  calls_none refusal n = at (sheet_of sheet) (n ∙ ap (λ (x : Decoded). sheet_number x.verdict) e)
    where
      at : (a : ParsedSheet) → refusal_number refusal ≡ sheet_number (decoded_sheet a).verdict
          → CallsOn g a f (Err refusal) f
      at malformed p = (p, refl)
      at repeating p = (p, refl)
      at (accepted s) p = absurd (refuses refusal p)

  -- a sheet that isn't refused
  pub calls_one : 0 ≡ sheet_number d.verdict → (p : Bor (List ℕ)) → p.now ≡ d.table → (r : Result A Refusal) (f' : F)
      → Called g f (p, tt) r f'
      → CallsOn g (sheet_of sheet) f r f'
  unfolding CallsOn decoded_sheet refused_by sheet_number
  calls_one n p t r f' k =
      at (sheet_of sheet) (n ∙ ap (λ (x : Decoded). sheet_number x.verdict) e) (t ∙ ap (λ (x : Decoded). x.table) e)
    where
      at : (a : ParsedSheet) → 0 ≡ sheet_number (decoded_sheet a).verdict → p.now ≡ (decoded_sheet a).table
          → CallsOn g a f r f'
      at malformed z q = absurd (omega (arith, z))
      at repeating z q = absurd (omega (arith, z))
      at (accepted s) z q = (p, k, q)

-- what a call answers by what its stage gives on the table of a sheet
module _ {F A B : Type 0} {g : Mut F (Bor (List ℕ) × Unit {0}) (Result A Refusal)} (refuse : ℕ → B) (go : Sheet → B)
    (sheet : List ℕ) {f : F} {r : Result A Refusal} {f' : F} (h : CallsOn g (sheet_of sheet) f r f') (b : B) where
  pub answers : ((refusal : Refusal) → r ≡ Err refusal → f' ≡ f → b ≡ refuse (refusal_number refusal))
      → ((s : Sheet) → sheet_of sheet ≡ accepted s → (p : Bor (List ℕ)) → TableOf p.now s → Called g f (p, tt) r f'
      → b ≡ go s)
      → b ≡ on_sheet refuse (sheet_of sheet) go
  unfolding CallsOn on_sheet
  answers refused called = at (sheet_of sheet) refl h
    where
      by_number : (k : ℕ) → ¬ (k ≡ 0) → (q : Result A Refusal) → r ≡ q → answer_number q ≡ k → f' ≡ f → b ≡ refuse k
      by_number k n (Ok x) p z w = absurd (n (sym z))
      by_number k n (Err refusal) p z w = refused refusal p w ∙ ap refuse z

      at : (a : ParsedSheet) → sheet_of sheet ≡ a → CallsOn g a f r f' → b ≡ on_sheet refuse a go
      at malformed p k = by_number 1 (λ z. omega (arith, z)) r refl k.0 k.1
      at repeating p k = by_number 2 (λ z. omega (arith, z)) r refl k.0 k.1
      at (accepted s) p k =
          let x = (accepted_exact sheet s).0 p in
          called s p k.0 (record { form = x.0.is_formed; once = x.1; words = k.2 }) k.1
