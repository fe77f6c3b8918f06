use Rattle.queue.proofs.bytes.PutLaws.{kept}
use Rattle.queue.proofs.change.CallsLaws.{fresh_1, fresh_2, fresh_5, fresh_done, fresh_range, need_512}
use Rattle.queue.proofs.check.AreaLaws.{ranged}
use Rattle.queue.specs.paper.Calls.{limits_of}
use Rattle.std.specs.Prelude.{refl}
use Rattle.std.proofs.Common.{arith}
use Rattle.queue.proofs.layout.limits.Limits.fresh.Goals as goal

pub returns-then-not-right : goal.returns-then-not-right
returns-then-not-right c = fresh_1 c.args.p c.args.b c.args.t c.args.k c.args.shares.now c.args.area.now c.lent_shares-lent.ensures c.check.ensures c.shares_fit.ensures refl c.if-not-right.true

pub need-n-requires : goal.need-n-requires
need-n-requires c = fresh_range c.args.p c.args.b c.args.t c.args.k c.args.shares.now c.args.area.now c.lent_shares-lent.ensures c.check.ensures c.shares_fit.ensures refl c.if-not-right.false

pub returns-then-area-n : goal.returns-then-area-n
returns-then-area-n c = fresh_2 c.args.p c.args.b c.args.t c.args.k c.args.shares.now c.args.area.now c.lent_shares-lent.ensures c.check.ensures c.shares_fit.ensures refl c.if-not-right.false c.need-n.ensures.0 c.if-area-n.true

pub returns-then-shares-ne64 : goal.returns-then-shares-ne64
returns-then-shares-ne64 c = fresh_5 c.args.p c.args.b c.args.t c.args.k c.args.shares.now c.args.area.now c.lent_shares-lent.ensures c.check.ensures c.shares_fit.ensures refl c.if-not-right.false c.need-n.ensures.0 c.if-area-n.false c.if-shares-ne64.true

pub put_front-e-requires : goal.put_front-e-requires
put_front-e-requires c = let g = ranged _ (fresh_range c.args.p c.args.b c.args.t c.args.k c.args.shares.now c.args.area.now c.lent_shares-lent.ensures c.check.ensures c.shares_fit.ensures refl c.if-not-right.false) in (omega (arith, c.need-n.ensures.0, need_512 (limits_of c.args.p c.args.b c.args.t c.args.k c.lent_shares-lent.result), c.if-area-n.false), record { p = omega (arith, g.p2); b = omega (arith, g.b2); t = omega (arith, g.t2); k = omega (arith, g.k2); long = c.lent_shares-lent.ensures.long; small = c.lent_shares-lent.ensures.small }, record { persisted = omega arith; revision = omega arith; cursor = omega arith; counter = omega arith; count = omega arith })

pub fill_zero-requires : goal.fill_zero-requires
fill_zero-requires c = record { order = omega (arith, c.need-n.ensures.0, need_512 (limits_of c.args.p c.args.b c.args.t c.args.k c.lent_shares-lent.result), c.put_front-e.ensures.next); inside = omega (arith, kept c.put_front-e.ensures, c.if-area-n.false) }

pub returns : goal.returns
returns c = fresh_done c.args.p c.args.b c.args.t c.args.k c.args.shares.now c.lent_shares-lent.ensures c.check.ensures c.shares_fit.ensures refl c.if-not-right.false c.if-shares-ne64.false c.need-n.ensures.0 c.if-area-n.false c.put_front-e.ensures c.fill_zero.ensures
