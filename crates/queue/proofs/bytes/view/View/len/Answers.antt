use Rattle.queue.specs.bytes.ViewAs.{hex_long, shown_raw}
use Rattle.std.proofs.Common.{ap, sym, length}
use Rattle.queue.proofs.bytes.view.View.len.Goals as goal

pub returns-then-self-clause-is : goal.returns-then-self-clause-is
returns-then-self-clause-is c = rw (← c.self.view_is) (sym (hex_long c.self.inside.bytes.now c.if-self.true))

pub returns-else-self-clause-is : goal.returns-else-self-clause-is
returns-else-self-clause-is c = rw (← c.self.view_is) (ap length (sym (shown_raw c.self.inside.bytes.now c.if-self.false)))
