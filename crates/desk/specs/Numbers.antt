-- The first number that applies is given, in the order judged (the scope, "From the input" and "From the state"), where
-- a text that isn't of its form has a number too.
use Rattle.std.specs.Prelude.{ℕ, suc, cond, List, [], ◌∷◌, Option, Some, None, eqb, ltb}
use Rattle.text.specs.Reading.{Read}
use Rattle.text.specs.Reading.Read.{got, bad}
use Rattle.stages.specs.declared.refusal.Refusal.{Refusal}
use Rattle.stages.specs.declared.refusal.Refusal.TheVariants.{PrincipalUnknown, MemoryIllFormed}
use Rattle.stages.specs.Refusals.{refusal_number}

-- the order in which a view judges
abbrev pub order : List ℕ
order = 1 ∷ 2 ∷ 3 ∷ 7 ∷ 8 ∷ []

-- the rank of a number in an order, 0 for the first; what isn't in it, such as 0, which is no number, comes after all
-- of it
unfoldable pub rank_of : List ℕ → ℕ → ℕ
rank_of [] k = 0
rank_of (n ∷ ns) k = cond (eqb k n) 0 (suc (rank_of ns k))

-- b where it comes before a in the order, else a
unfoldable pub earlier : ℕ → ℕ → ℕ
earlier a b = cond (ltb (rank_of order b) (rank_of order a)) b a

-- what the texts are refused for: that of the group where it isn't of its form, else that of the memory
unfoldable pub unread : Option ℕ → Read (List ℕ) → Option Refusal
unread None _ = Some PrincipalUnknown
unread (Some _) bad = Some MemoryIllFormed
unread (Some _) (got _ _) = None

-- its number: 3 or 8, or 0 where neither is refused
unfoldable pub other_number : Option Refusal → ℕ
other_number None = 0
other_number (Some refusal) = refusal_number refusal

-- A memory text with another number of lines than the sheet has locations isn't of its form: 8 stands for 7.
unfoldable pub as_text : ℕ → ℕ
as_text answer = cond (eqb answer 7) 8 answer
