use Rattle.std.proofs.Common.{refl, arith}
use Rattle.memory.proofs.MaskLaws as laws
use Rattle.memory.proofs.masks.mask_number.Goals as goal

pub returns-then-words-number : goal.returns-then-words-number
returns-then-words-number c shows f k =
    let p = c.push.ensures in laws.mask_no_number shows _ _ _ _ f (omega arith) p.words refl p.end

pub returns : goal.returns
returns c shows f k =
    let p = c.push-2.ensures in
    let q = c.push-3.ensures in
    laws.mask-number shows _ _ _ _ f k (omega arith) p.words (rw p.end at q.words) refl (rw p.end at q.end)
