use Rattle.std.specs.Prelude.{ℕ, ◌+◌}
use Rattle.std.proofs.Common.{ap, arith}
use Rattle.queue.proofs.bytes.PutLaws.{kept}
use Rattle.queue.proofs.change.WriteLaws.{long_need}
use Rattle.queue.proofs.change.WritePlanLaws.{planned_done, planned_room}
use Rattle.queue.specs.layout.HeadAs.{front_len}
use Rattle.queue.proofs.change.write.put_planned.Goals as goal

pub put_rows-e-requires : goal.put_rows-e-requires
put_rows-e-requires c = (c.requires.0.area, c.requires.0.bytes, c.requires.0.fit, omega (arith, planned_room c.requires.0 c.tip_len-to.ensures.long, c.tip_len-to.ensures.size.0, c.requires.1))

pub put_front-requires : goal.put_front-requires
put_front-requires c = (omega (arith, long_need c.requires.0.area.read, c.tip_len-to.ensures.size.0, c.tip_len-to.ensures.size.1, kept c.put_rows-e.ensures, c.requires.1), c.requires.0.area.read.store.head.fit, c.requires.0.small)

pub fill_zero-requires : goal.fill_zero-requires
fill_zero-requires c = record { order = omega (arith, planned_room c.requires.0 c.tip_len-to.ensures.long, c.tip_len-to.ensures.size.0, c.put_rows-e.ensures.next); inside = omega (arith, kept c.put_rows-e.ensures, kept c.put_front.ensures, c.requires.1) }

pub returns : goal.returns
returns c = planned_done c.requires.0 c.requires.1 (ap (λ (k : ℕ). front_len + k) c.tip_len-to.ensures.size.0) c.put_rows-e.ensures c.put_front.ensures c.fill_zero.ensures
