use Rattle.queue.proofs.check.SuspectsRowLaws.{look_here, look_none}
use Rattle.std.proofs.Common.{arith}
use Rattle.queue.proofs.check.suspects.any_later.Goals as goal

pub bisect-b-requires : goal.bisect-b-requires
bisect-b-requires c = c.requires c.if-ordered.true

pub returns-then-v-b : goal.returns-then-v-b
returns-then-v-b c = look_none c.args.hex c.args.s.now c.args.v.now (c.requires c.if-ordered.true) c.bisect-b.ensures c.if-v-b.true

pub returns-then-ordered : goal.returns-then-ordered
returns-then-ordered c = look_here c.args.hex c.args.s.now c.args.v.now (c.requires c.if-ordered.true) c.bisect-b.ensures c.cmp_rows.result (omega (arith, c.if-v-b.false)) c.is_eq.ensures c.cmp_rows.ensures

pub returns : goal.returns
returns c = c.look_all.ensures
