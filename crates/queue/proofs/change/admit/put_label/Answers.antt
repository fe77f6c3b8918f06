use Rattle.queue.proofs.bytes.PutLaws.{kept}
use Rattle.queue.proofs.change.AdmitLaws.{label_none, label_put, opt_long, opt_short}
use Rattle.std.specs.Prelude.{length}
use Rattle.std.proofs.Common.{arith}
use Rattle.queue.proofs.change.admit.put_label.Goals as goal

pub put_u8-a-requires : goal.put_u8-a-requires
put_u8-a-requires c = let h = opt_long c.args.flag (length c.args.label.now) 2 c.args.at (length c.args.dst.now) c.if-flag-eq1.true c.requires.0 in omega arith

pub put_be-b-requires : goal.put_be-b-requires
put_be-b-requires c = let h = opt_long c.args.flag (length c.args.label.now) 2 c.args.at (length c.args.dst.now) c.if-flag-eq1.true c.requires.0 in omega (arith, c.put_u8-a.ensures.next, kept c.put_u8-a.ensures)

pub copy_part-requires : goal.copy_part-requires
copy_part-requires c = let h = opt_long c.args.flag (length c.args.label.now) 2 c.args.at (length c.args.dst.now) c.if-flag-eq1.true c.requires.0 in record { read = omega arith; written = omega (arith, c.put_u8-a.ensures.next, kept c.put_u8-a.ensures, c.put_be-b.ensures.next, kept c.put_be-b.ensures) }

pub returns-then-flag-eq1 : goal.returns-then-flag-eq1
returns-then-flag-eq1 c = label_put c.args.flag c.args.label.now c.if-flag-eq1.true (c.requires.1 c.if-flag-eq1.true) c.put_u8-a.ensures c.put_be-b.ensures c.copy_part.ensures

pub put_u8-requires : goal.put_u8-requires
put_u8-requires c = opt_short c.args.flag (length c.args.label.now) 2 c.args.at (length c.args.dst.now) c.if-flag-eq1.false c.requires.0

pub returns : goal.returns
returns c = label_none c.args.flag c.args.label.now c.if-flag-eq1.false c.put_u8.ensures
