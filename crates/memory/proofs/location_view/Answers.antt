use Rattle.memory.proofs.ViewLaws.{hidden_view, shown-view}
use Rattle.memory.proofs.location_view.Goals as goal
use Rattle.memory.proofs.location_view.Goals.{then-reads, else-reads}

pub returns : goal.returns
returns c s =
    let a = c.args in
    elim c.if-reads.branch [
      | then-reads w ↦ rw w.out-is
          (shown-view a.table.now a.group a.x c.location_label.ensures c.reads.ensures w.if-reads.true
          w.mask_at.ensures s)
      | else-reads w ↦ rw w.out-is
          (hidden_view a.table.now a.group a.x c.location_label.ensures c.reads.ensures _ w.if-reads.false)
    ]
