use Rattle.queue.proofs.change.OwnLaws.{queued_in, skipped}
use Rattle.queue.proofs.change.own.add_outputs.Goals as goal

pub returns-then-f : goal.returns-then-f
returns-then-f c = (skipped _ _ _ _ _ c.args.x _ c.if-f.true, c.requires.3)

pub add_rows-requires : goal.add_rows-requires
add_rows-requires c = (c.requires.0, c.requires.1, c.requires.2, c.requires.3, c.requires.4, c.requires.5, c.requires.6, c.requires.7)

pub returns : goal.returns
returns c = (queued_in _ _ _ _ _ c.args.x _ c.if-f.false c.add_rows.ensures.0, c.add_rows.ensures.1)
