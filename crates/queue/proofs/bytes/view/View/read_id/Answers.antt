use Rattle.queue.specs.bytes.ReaderLaws.{not_spanned}
use Rattle.queue.specs.layout.FrameCodec.{spans_id}
use Rattle.queue.proofs.bytes.ReadLaws.{id_is}
use Rattle.queue.proofs.bytes.view.View.read_id.Goals as goal

pub returns-in_err-next : goal.returns-in_err-next
returns-in_err-next c = rw c.from_residual.ensures (not_spanned spans_id c.in_err-next.ensures)

pub returns : goal.returns
returns c = id_is c.in_ok-next.ensures c.id.ensures.is
