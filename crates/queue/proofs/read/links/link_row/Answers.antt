use Rattle.std.specs.Prelude.{◌/◌, ◌%◌, refl}
use Rattle.std.proofs.Common.{arith}
use Rattle.queue.proofs.read.LinksNameLaws.{no_is, row_off, row_set, row_wide, word_room}
use Rattle.queue.proofs.read.links.link_row.Goals as goal

pub returns-then-not-found : goal.returns-then-not-found
returns-then-not-found c = row_off c.args.bits.now c.args.l.width c.args.l.start c.args.l.row c.args.x c.args.found c.requires.0 c.requires.1 c.if-not-found.true

pub returns-then-l-a : goal.returns-then-l-a
returns-then-l-a c = row_wide c.args.bits.now c.args.l.width c.args.l.start c.args.l.row c.args.x c.args.found c.requires.0 c.requires.1 (no_is c.args.x) refl refl c.if-l-a.true

pub overflow_mul-bits : goal.overflow_mul-bits
overflow_mul-bits c = omega (arith, word_room c.others-y.result (c.args.x % 4294967296 / 65536) c.others-y.ensures.small refl c.bit.ensures)

pub returns : goal.returns
returns c = row_set c.args.bits.now c.args.l.width c.args.l.start c.args.l.row c.args.x c.args.found c.requires.0 c.requires.1 (no_is c.args.x) c.if-not-found.false refl refl (omega (arith, c.if-l-a.false)) c.others-y.ensures refl refl c.bit.ensures refl
