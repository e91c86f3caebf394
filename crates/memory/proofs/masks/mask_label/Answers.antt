use Rattle.std.proofs.Common.{refl, sym, ◌∙◌, arith}
use Rattle.memory.proofs.MaskLaws as laws
use Rattle.memory.proofs.masks.mask_label.Goals as goal

pub returns-then-words-at : goal.returns-then-words-at
returns-then-words-at c = let p = c.push.ensures in laws.package-past _ _ _ _ _ (omega arith) p.words refl p.end

pub returns-then-reads : goal.returns-then-reads
returns-then-reads c =
    let p = c.push-2.ensures in
    let q = c.push-3.ensures in
    laws.package-shown _ _ _ _ _ (omega arith) (sym c.reads.ensures ∙ c.if-reads.true) p.words
    (rw p.end at q.words) (rw p.end at q.end)

pub returns : goal.returns
returns c =
    let p = c.push-2.ensures in
    let q = c.push-3.ensures in
    let r = c.push-4.ensures in
    let e = rw p.end at q.end in
    laws.package-hidden _ _ _ _ _ (omega arith) (sym c.reads.ensures ∙ c.if-reads.false) p.words
    (rw p.end at q.words) (rw e at r.words) (rw e at r.end) c.value_at-content.ensures
