use Rattle.std.proofs.Common.{sym, ◌∙◌}
use Rattle.queue.proofs.check.ScanLaws.{two_end, two_go, two_start}
use Rattle.queue.proofs.check.scan.zeros_two.Goals as goal

pub loop-i-init : goal.loop-i-init
loop-i-init c = two_start _ c.args.from c.args.n

pub loop-i-preserved : goal.loop-i-preserved
loop-i-preserved c = sym (two_go _ c.args.from c.args.n c.loop-i.i c.loop-i.bits c.loop-i-test.true c.requires) ∙ c.loop-i.invariant

pub returns : goal.returns
returns c = sym (two_end _ c.args.from c.args.n c.loop-i.i c.loop-i.bits c.loop-i-test.false) ∙ c.loop-i.invariant
