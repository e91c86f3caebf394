-- What a call on the table of a sheet's text leaves.
use denote.Ref.{Bor}
use Rattle.std.specs.Prelude.{◌≡◌, List, ℕ, Result}
use Rattle.std.specs.Fn.{Mut, Called}
use Rattle.sheet.specs.Internal.Tables.{table_of}
use Rattle.sheet_text.specs.Sheets.{ParsedSheet, malformed, repeating, accepted}
use Rattle.stages.specs.declared.refusal.Refusal.{Refusal}
use Rattle.stages.specs.Refusals.{answer_number}

-- r is what the call f gives at a reference to t, and f' is the call after it
abbrev pub CalledAt : {F R : Type 0} → Mut F (Bor (List ℕ) × Unit {0}) R → F → List ℕ → R → F → Type 0
CalledAt g f t r f' = (p : Bor (List ℕ)) × Called g f (p, tt) r f' × (p.now ≡ t)

-- a sheet that is refused, with 1 or 2, is not called on
unfoldable pub CallsOn : {F A : Type 0} → Mut F (Bor (List ℕ) × Unit {0}) (Result A Refusal) → ParsedSheet → F
    → Result A Refusal → F → Type 0
CallsOn g malformed f r f' = (answer_number r ≡ 1) × (f' ≡ f)
CallsOn g repeating f r f' = (answer_number r ≡ 2) × (f' ≡ f)
CallsOn g (accepted s) f r f' = CalledAt g f (table_of s) r f'
