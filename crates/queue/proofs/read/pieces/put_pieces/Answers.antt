use Rattle.queue.specs.layout.FrameCodec.{rec_c}
use Rattle.queue.specs.layout.FormsCodec.{stands_in}
use Rattle.std.specs.Prelude.{false}
use Rattle.queue.proofs.read.PiecesLaws.{writing_end, writing_go, writing_in, writing_room, writing_start, writing_within}
use Rattle.std.proofs.Common.{arith}
use Rattle.queue.proofs.read.pieces.put_pieces.Goals as goal

pub loop-left-init : goal.loop-left-init
loop-left-init c = writing_start _ _ _ c.requires.0.0 c.requires.0.1

pub record_at-x-requires : goal.record_at-x-requires
record_at-x-requires c = stands_in rec_c false _ _ c.loop-left.invariant.within c.loop-left.invariant.all c.loop-left-test.true

pub add_piece-o-requires : goal.add_piece-o-requires
add_piece-o-requires c = (writing_in c.loop-left.invariant c.loop-left-test.true c.record_at-x.ensures, writing_room c.loop-left.invariant c.loop-left-test.true c.record_at-x.ensures c.requires.1)

pub after_in-i-requires : goal.after_in-i-requires
after_in-i-requires c = writing_within c.loop-left.invariant c.loop-left-test.true c.record_at-x.ensures

pub loop-left-preserved : goal.loop-left-preserved
loop-left-preserved c = writing_go c.loop-left.invariant c.loop-left-test.true c.record_at-x.ensures c.after_in-i.ensures c.add_piece-o.ensures

pub returns : goal.returns
returns c = writing_end c.loop-left.invariant (omega arith)
