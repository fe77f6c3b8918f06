use Rattle.std.proofs.Common.{arith}
use Rattle.queue.proofs.read.FeesLaws.{filling_end, filling_go, filling_start, known_at}
use Rattle.queue.proofs.read.fees.fill.Goals as goal

pub loop-j-init : goal.loop-j-init
loop-j-init c = filling_start _ _ _ c.requires.1

pub candidate_at-requires : goal.candidate_at-requires
candidate_at-requires c = (known_at c.args.s.now c.args.at.now c.loop-j.j c.requires.2 c.loop-j-test.true).stands

pub bounds-candidates-j : goal.bounds-candidates-j
bounds-candidates-j c = omega (arith, c.loop-j.invariant.len, c.loop-j-test.true, c.requires.0)

pub loop-j-preserved : goal.loop-j-preserved
loop-j-preserved c = filling_go c.requires.0 c.loop-j.invariant c.loop-j-test.true c.candidate_at.ensures.0 c.candidate_at.ensures.1

pub returns : goal.returns
returns c = filling_end c.requires.0 c.loop-j.invariant (omega arith) c.loop-j-test.false
