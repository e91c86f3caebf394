-- All of them where there is no place for more; else 1 << n, less one.
use Rattle.std.proofs.Common.{ℕ, ◌-◌, sym, ap, ◌∙◌, arith}
use lib.Pow.{pow_pos}
use Rattle.sets.specs.Sets.{width, single, everyone}
use Rattle.sets.proofs.SetLaws.{restrict_single, restrict-everyone, restrict-everyone_full}
use Rattle.sets.proofs.everyone.Goals as goal

pub returns-then-n-ge-WIDTH : goal.returns-then-n-ge-WIDTH
unfolding everyone
returns-then-n-ge-WIDTH c = sym (restrict-everyone_full width c.args.n (omega arith))

pub overflow_sub-result : goal.overflow_sub-result
unfolding single
overflow_sub-result c =
    let n = c.args.n in
    omega (arith, c.single.ensures ∙ restrict_single width n (omega arith), pow_pos n)

pub returns : goal.returns
unfolding single everyone
returns c =
    let n = c.args.n in
    ap (λ (x : ℕ). x - 1) (c.single.ensures ∙ restrict_single width n (omega arith))
    ∙ sym (restrict-everyone width n (omega arith))
