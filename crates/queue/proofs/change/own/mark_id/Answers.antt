use Rattle.queue.proofs.change.OwnLaws.{id_none, id_row, id_set}
use Rattle.queue.specs.bytes.Parts.{part}
use Rattle.queue.specs.bytes.ViewAs.{view}
use Rattle.queue.specs.change.OwnAs.{bits_in}
use Rattle.std.specs.Prelude.{false}
use Rattle.std.proofs.Common.{arith}
use Rattle.queue.proofs.change.own.mark_id.Goals as goal

pub flag_at-requires : goal.flag_at-requires
flag_at-requires c = c.requires.3

pub returns-then-flag_at : goal.returns-then-flag_at
returns-then-flag_at c = id_set c.args.s.now c.args.v.now (part 32 (view false c.args.s.now c.args.base) c.args.i) (bits_in c.args.flags.now) c.args.g c.flag_at.ensures c.if-flag_at.true

pub row_at-y-requires : goal.row_at-y-requires
row_at-y-requires c = (c.requires.0, c.requires.1, omega arith)

pub any_later-requires : goal.any_later-requires
any_later-requires c = c.requires.2

pub set_flag-requires : goal.set_flag-requires
set_flag-requires c = c.requires.3

pub returns-then-any_later : goal.returns-then-any_later
returns-then-any_later c = id_row c.args.s.now c.args.v.now (part 32 (view false c.args.s.now c.args.base) c.args.i) (bits_in c.args.flags.now) c.args.g c.row_at-y.result c.row_at-y.ensures.0 c.row_at-y.ensures.1 c.any_later.ensures c.if-any_later.true c.set_flag.ensures

pub returns-else-any_later : goal.returns-else-any_later
returns-else-any_later c = id_none c.args.s.now c.args.v.now (part 32 (view false c.args.s.now c.args.base) c.args.i) (bits_in c.args.flags.now) c.args.g c.row_at-y.result c.row_at-y.ensures.0 c.row_at-y.ensures.1 c.any_later.ensures c.if-any_later.false
