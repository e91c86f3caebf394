-- One law for each way out.
use borrow.Author.Rules.{rules}
use lib.Seq.{set_out}
use Rattle.parts.proofs.Steps.{stored_past, stored_full, stored_room}
use Rattle.parts.proofs.State.store.Goals as goal

pub returns-then-self-ge-TEXTS : goal.returns-then-self-ge-TEXTS
returns-then-self-ge-TEXTS c =
    let a = c.args in
    rw (stored_past a.self.now a.buffer.now a.b c.if-self-ge-TEXTS.true) (search rules)

pub returns-then-kept-ge-KEEP : goal.returns-then-kept-ge-KEEP
returns-then-kept-ge-KEEP c =
    let a = c.args in
    rw (stored_full a.self.now a.buffer.now a.b c.if-self-ge-TEXTS.false c.if-kept-ge-KEEP.true) (search rules)

pub returns-then-at-buffer : goal.returns-then-at-buffer
returns-then-at-buffer c =
    let a = c.args in
    rw (stored_room a.self.now a.buffer.now a.b c.if-self-ge-TEXTS.false c.if-kept-ge-KEEP.false) (search rules)

pub returns-else-at-buffer : goal.returns-else-at-buffer
returns-else-at-buffer c =
    let a = c.args in
    rw (stored_room a.self.now a.buffer.now a.b c.if-self-ge-TEXTS.false c.if-kept-ge-KEEP.false)
    (rw (set_out a.buffer.now _ a.b c.if-at-buffer.false) (search rules))
