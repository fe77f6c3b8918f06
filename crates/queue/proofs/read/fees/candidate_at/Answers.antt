use Rattle.std.proofs.Common.{arith}
use Rattle.queue.proofs.read.FeesLaws.{candidate_is, fee_room, stands_at, terms_after}
use Rattle.queue.proofs.read.fees.candidate_at.Goals as goal

pub record_at-x-requires : goal.record_at-x-requires
record_at-x-requires c = stands_at c.args.s.now c.args.p c.requires

pub overflow_sub-x : goal.overflow_sub-x
overflow_sub-x c = terms_after c.args.s.now c.args.p c.requires c.record_at-x.ensures

pub be-requires-clause-inside : goal.be-requires-clause-inside
be-requires-clause-inside c = rw c.new.ensures (fee_room c.args.s.now c.args.p c.requires c.record_at-x.ensures)

pub returns : goal.returns
returns c = candidate_is c.args.s.now c.args.p c.requires c.record_at-x.ensures (λ j. omega (arith, c.type_inv.s j)) (rw c.new.ensures at c.be.ensures.is)
