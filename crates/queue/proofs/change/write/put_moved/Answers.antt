use Rattle.queue.proofs.change.WritePlanLaws.{moved_done, moved_plan}
use Rattle.queue.proofs.change.write.put_moved.Goals as goal

pub put_plain-requires : goal.put_plain-requires
put_plain-requires c = (moved_plan c.requires.0, c.requires.1)

pub returns : goal.returns
returns c = λ q e. moved_done c.requires.0 c.args.dst.now e c.put_plain.ensures
