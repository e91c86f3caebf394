-- A line without words, and one that begins with the first.
use Rattle.std.proofs.Common.{◌≡◌, ◌≤◌, List, [], ℕ, length, ◌∷◌, ap, ◌∙◌, arith, rules, refl}
use Rattle.std.proofs.lemmas.List.{length-take}
use Rattle.text.specs.Number.{most}
use Rattle.memory_text.proofs.Writes.{used_kept, number-reach, empty_puts, line_puts}
use Rattle.memory_text.proofs.write.put_line.Goals as goal

none : (l : List ℕ) → length l ≡ 0 → l ≡ []
none [] h = refl
none (x ∷ xs) h = absurd (omega arith)

pub returns-in_default : goal.returns-in_default
returns-in_default c =
    let u = c.used-n.ensures in
    let k = used_kept c.args.row.now c.used-n.result u.few u.last u.zeros in
    empty_puts _ _ _ _ _ (k ∙ none _ c.in_default.ensures.cases) c.put_byte.ensures.value
    c.put_byte.ensures.out_after (omega arith)

pub put_fields-q-requires : goal.put_fields-q-requires
put_fields-q-requires c =
    let m : c.in-Some.first.now ≤ most = search rules in
    omega (
      arith,
      c.in-Some.ensures.cases.1,
      length-take c.used-n.result c.args.row.now,
      c.used-n.ensures.few,
      c.put_number-p.auto.out,
      number-reach _ _ _ _ c.put_number-p.ensures.value m (omega arith),
    )

pub returns : goal.returns
returns c =
    let u = c.used-n.ensures in
    let k = used_kept c.args.row.now c.used-n.result u.few u.last u.zeros in
    let m : c.in-Some.first.now ≤ most = search rules in
    line_puts _ _ _ _ _ _ _ _ _ _ _ (k ∙ c.in-Some.ensures.cases.0)
    (omega (arith, ap length k, length-take c.used-n.result c.args.row.now, u.few))
    c.put_number-p.ensures.value c.put_number-p.ensures.out_after c.put_fields-q.ensures
    c.put_byte-2.ensures.value c.put_byte-2.ensures.out_after (c.put_fields-q.auto.out ∙ c.put_number-p.auto.out) m
    (omega arith)
