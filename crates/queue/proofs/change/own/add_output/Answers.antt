use Rattle.queue.proofs.change.OwnLaws.{row_new_law, row_room, row_unseen}
use Rattle.queue.specs.change.OwnAs.{bits_in}
use Rattle.std.specs.Prelude.{take, refl}
use Rattle.std.proofs.Common.{arith}
use Rattle.queue.proofs.change.own.add_output.Goals as goal

pub seen-requires : goal.seen-requires
seen-requires c = c.requires.5

pub returns-then-not-seen : goal.returns-then-not-seen
returns-then-not-seen c = (row_unseen c.args.s.now _ c.args.t.now (bits_in c.args.flags.now) (take c.args.k c.args.v.now) c.args.w c.requires.6 c.seen.ensures c.if-not-seen.true, c.requires.3)

pub returns-then-k-v : goal.returns-then-k-v
returns-then-k-v c = (row_room c.args.s.now _ c.args.t.now (bits_in c.args.flags.now) c.args.v.now c.args.k c.args.w c.if-k-v.true refl, omega arith)

pub flag_rows-requires : goal.flag_rows-requires
flag_rows-requires c = (c.requires.0, c.requires.1, c.requires.2)

pub returns : goal.returns
returns c = (row_new_law c.args.s.now _ c.args.t.now (bits_in c.args.flags.now) c.args.v.now c.args.k c.args.w (omega (arith, c.if-k-v.false)) c.flag_rows.ensures (omega (arith, c.requires.4)) refl, omega (arith, c.requires.4))
