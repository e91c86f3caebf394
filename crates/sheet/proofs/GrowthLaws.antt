-- Lists that grow at their end: an entry more, or a policy of the last label.
use mathlib.Core.Path.{◌≡◌, refl, ap}
use mathlib.Core.List.{List, [], ◌∷◌, ◌++◌}
use Prim.Native.Nat.{suc, ◌+◌, ◌≤◌}
use native.Mathlib.Omega.{arith}
use lib.ListN.{length, length-append}
use Rattle.labels.specs.Labels.{Policy}
use Rattle.sheet.specs.Internal.Growth.{to_last}

pub length_more : {A : Type 0} (xs : List A) (x : A) → length (xs ++ (x ∷ [])) ≡ length xs + 1
length_more xs x = length-append xs (x ∷ [])

pub length-to_last : (p : Policy) (pss : List (List Policy)) → length (to_last p pss) ≡ length pss
unfolding to_last
length-to_last p [] = refl
length-to_last p (ps ∷ []) = refl
length-to_last p (ps ∷ qs ∷ pss) = ap suc (length-to_last p (qs ∷ pss))

pub to_last_more : (p : Policy) (pss : List (List Policy)) (ps : List Policy)
    → to_last p (pss ++ (ps ∷ [])) ≡ pss ++ ((ps ++ (p ∷ [])) ∷ [])
unfolding to_last
to_last_more p [] ps = refl
to_last_more p (qs ∷ []) ps = refl
to_last_more p (qs ∷ rs ∷ pss) ps = ap (◌∷◌ qs) (to_last_more p (rs ∷ pss) ps)

-- some labels are some before the last, and the last
pub labels_split : {P : Type 0} (pss : List (List Policy)) → 1 ≤ length pss
    → ((before : List (List Policy)) (ps : List Policy) → pss ≡ before ++ (ps ∷ []) → P) → P
labels_split [] h f = absurd (omega arith)
labels_split (ps ∷ []) h f = f [] ps refl
labels_split (ps ∷ qs ∷ pss) h f =
    labels_split (qs ∷ pss) (omega arith) (λ before rs e. f (ps ∷ before) rs (ap (◌∷◌ ps) e))
