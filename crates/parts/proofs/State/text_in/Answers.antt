-- The places of the text, or as many as the buffer has of them.
use Rattle.std.proofs.Common.{◌≡◌, ◌⊎◌, ℕ, ◌+◌, ◌*◌, ◌<◌, ◌≤◌, List, length, drop, sym, ap, ◌∙◌, arith}
use Rattle.std.proofs.Common.{Option, Some, None, Bor, drop_of_length-le}
use Rattle.std.proofs.lemmas.List.{take_rest, get_or_read}
use Rattle.std.proofs.lemmas.Option.{MatchOption-at_none, MatchOption-at_some}
use Rattle.std.specs.List.{slice_range}
use Rattle.std.specs.Option.{MatchOption, unwrap_or}
use Rattle.parts.specs.Parts.{keep}
use Rattle.parts.specs.Feeding.{count}
use Rattle.parts.proofs.Places.{text_past, text_short, text_long}
use Rattle.parts.proofs.State.text_in.Goals as goal

-- the range that is found, or the list in its place
found : (o : Option (Bor (List ℕ))) (r d : Bor (List ℕ)) (xs : List ℕ) (a b : ℕ) (t : List ℕ) → r ≡ unwrap_or o d
    → MatchOption o ((b < a) ⊎ (length xs < b))
    (λ x. (a ≤ b) × (b ≤ length xs) × (x.now ≡ slice_range xs a b) × (length x.now + a ≡ b))
    → ((b < a) ⊎ (length xs < b) → d.now ≡ t)
    → slice_range xs a b ≡ t
    → r.now ≡ t
found None r d xs a b t e m f g = rw e (f m)
found (Some x) r d xs a b t e m f g = rw e (m.2 ∙ g)

pub returns-in_default : goal.returns-in_default
returns-in_default c =
    let a = c.args in
    text_past a.self.now a.buffer.now a.i (MatchOption-at_none _ _ c.in_default.is c.get.ensures.lookup.3)

pub returns : goal.returns
returns c =
    let a = c.args in
    let from = drop (a.i * keep) a.buffer.now in
    let rest : c.unwrap_or-rest.result.now ≡ from =
    found c.get-2.result _ _ a.buffer.now (a.i * keep) (length a.buffer.now) from c.unwrap_or-rest.ensures
    c.get-2.ensures.lookup.0 (λ h. sym (drop_of_length-le a.buffer.now (omega (arith, h))))
    (take_rest a.buffer.now (a.i * keep)) in
    let kept : c.in-Some.field-0.now ≡ count a.self.now a.i =
    get_or_read a.self.now.kept a.i _ (MatchOption-at_some _ _ _ c.in-Some.is c.get.ensures.lookup.3).0
    c.in-Some.ensures.lookup.1 0 in
    found c.get-3.result _ _ c.unwrap_or-rest.result.now 0 c.in-Some.field-0.now _ c.unwrap_or.ensures
    c.get-3.ensures.lookup.0
    (λ h. rest ∙ text_short a.self.now a.buffer.now a.i (omega (arith, h, kept, ap length rest)))
    (rw (rest, kept) (text_long a.self.now a.buffer.now a.i))
