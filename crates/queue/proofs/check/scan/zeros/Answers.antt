use Rattle.std.specs.Prelude.{◌+◌, ◌-◌, ◌%◌}
use Rattle.std.proofs.Common.{arith}
use Rattle.queue.proofs.check.ScanLaws.{zero_three}
use Rattle.queue.proofs.check.scan.zeros.Goals as goal

pub returns-then-to-from : goal.returns-then-to-from
returns-then-to-from c = c.zeros_part.ensures

pub returns : goal.returns
returns c = (zero_three _ c.args.from (c.args.from + (64 - c.args.from % 64)) _ _ (omega arith) (omega arith) c.requires.1 c.zeros_part-x.ensures c.zeros_two-y.ensures c.zeros_part-z.ensures)
