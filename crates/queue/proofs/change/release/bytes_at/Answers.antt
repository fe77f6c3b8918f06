use Rattle.std.proofs.Common.{arith}
use Rattle.std.specs.Prelude.{false}
use Rattle.queue.specs.layout.FrameCodec.{rec_c}
use Rattle.queue.specs.layout.FormsCodec.{stands_in}
use Rattle.queue.proofs.change.ReleaseLaws.{bytes_is}
use Rattle.queue.proofs.change.release.bytes_at.Goals as goal

pub returns : goal.returns
returns c = bytes_is c.args.s.now c.args.p c.requires c.record_at-x.ensures

pub record_at-x-requires : goal.record_at-x-requires
record_at-x-requires c = stands_in rec_c false c.args.s.now 1 c.requires.0 c.requires.1 (omega arith)
