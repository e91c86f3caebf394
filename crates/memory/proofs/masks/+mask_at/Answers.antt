use Rattle.std.proofs.Common.{refl, rules, arith}
use Rattle.sheet.specs.Internal.Tables.{reads_in}
use Rattle.memory.specs.Internal.Post.{num_int, num_err}
use Rattle.memory.proofs.WordLaws.{to_left, to_right}
use Rattle.memory.proofs.MaskLaws as laws
use Rattle.memory.proofs.masks.+mask_at.Goals as goal
use Rattle.memory.proofs.masks.+mask_at.Goals.{in-3, in-4, in-5+in_default-mask_label, in-6}

pub returns-then-words-at : goal.returns-then-words-at
returns-then-words-at t c = let p = c.push.ensures in laws.mask_past _ _ _ _ _ (omega arith) p.words refl p.end

pub returns-in-1 : goal.returns-in-1
returns-in-1 t c = laws.mask-numeral _ _ _ _ _ (omega arith) num_int c.in-1.is (c.mask_number.ensures _)

pub returns-in-2 : goal.returns-in-2
returns-in-2 t c = laws.mask-numeral _ _ _ _ _ (omega arith) num_err c.in-2.is (c.mask_number-in-2.ensures _)

pub returns-in-Some : goal.returns-in-Some
returns-in-Some t c = laws.mask-closed _ _ _ _ _ (omega arith) c.in-5.is c.in-Some.ensures

pub returns-in_default : goal.returns-in_default
returns-in_default t c =
    let p = c.push-in_default.ensures in
    laws.mask_none _ _ _ _ _ (omega arith) (search rules) p.words refl p.end

pub mask_at-requires : goal.mask_at-requires
mask_at-requires t c =
    let h = c.if-words-at.false in
    let shows = reads_in c.args.source.now.table.now c.args.source.now.group in
    elim c.match-words-at.branch [
      | in-3 w ↦ let p = w.push-in-3.ensures in
          let l = laws.last_side shows _ _ _ _ h w.out-is w.last-is to_left w.in-3.is refl p.words p.end in
          (omega (arith, l.later), omega (arith, l.room))
      | in-4 w ↦ let p = w.push-in-4.ensures in
          let l = laws.last_side shows _ _ _ _ h w.out-is w.last-is to_right w.in-4.is refl p.words p.end in
          (omega (arith, l.later), omega (arith, l.room))
      | in-5+in_default-mask_label w ↦
          let o = w.in_default-mask_label.ensures in
          let l = laws.last_content shows _ _ _ _ h w.out-is w.last-is w.in-5.is refl o in
          (omega (arith, l.later), omega (arith, l.room))
      | in-6 w ↦ let p = w.push-in-6.ensures in
          let m = w.mask_at-last.ensures in
          let l = laws.last_second shows _ _ _ _ h w.out-is w.last-is w.in-6.is p.words p.end m in
          (omega (arith, l.later), omega (arith, l.room))
    ]

pub returns : goal.returns
returns t c =
    let h = c.if-words-at.false in
    let rest = c.mask_at.ensures in
    elim c.match-words-at.branch [
      | in-3 w ↦ let p = w.push-in-3.ensures in
          let l = laws.last_side _ _ _ _ _ h w.out-is w.last-is to_left w.in-3.is refl p.words p.end in
          l.whole _ _ _ rest
      | in-4 w ↦ let p = w.push-in-4.ensures in
          let l = laws.last_side _ _ _ _ _ h w.out-is w.last-is to_right w.in-4.is refl p.words p.end in
          l.whole _ _ _ rest
      | in-5+in_default-mask_label w ↦
          let o = w.in_default-mask_label.ensures in
          let l = laws.last_content _ _ _ _ _ h w.out-is w.last-is w.in-5.is refl o in
          l.whole _ _ _ rest
      | in-6 w ↦ let p = w.push-in-6.ensures in
          let m = w.mask_at-last.ensures in
          let l = laws.last_second _ _ _ _ _ h w.out-is w.last-is w.in-6.is p.words p.end m in
          l.whole _ _ _ rest
    ]
