use Rattle.queue.proofs.read.FeesSearchLaws.{shape_start, told_none, told_some}
use Rattle.queue.proofs.read.FeesWalkLaws.{many_fees, many_sizes}
use Rattle.queue.specs.read.FeesAs.{fees_of, sizes_of}
use Rattle.std.proofs.Common.{arith, subst, sym, ◌∙◌}
use Rattle.queue.specs.read.fees.Masks.{Shape}
use Rattle.queue.proofs.read.fees.search.Goals as goal

pub walk-x-requires : goal.walk-x-requires
walk-x-requires c = subst (λ n. Shape (sizes_of c.args.candidates.now) (fees_of c.args.candidates.now) n 1 0 0) (many_sizes c.args.candidates.now) (shape_start (sizes_of c.args.candidates.now) (fees_of c.args.candidates.now) (many_sizes c.args.candidates.now ∙ sym (many_fees c.args.candidates.now)) (omega (arith, many_sizes c.args.candidates.now, c.requires.0)) c.requires.1)

pub returns-then-bound-fee : goal.returns-then-bound-fee
returns-then-bound-fee c = told_none (sizes_of c.args.candidates.now) (fees_of c.args.candidates.now) c.args.limit c.args.budget c.requires.2 (rw (← many_sizes c.args.candidates.now) at c.walk-x.ensures) c.if-bound-fee.true

pub returns : goal.returns
returns c = told_some (sizes_of c.args.candidates.now) (fees_of c.args.candidates.now) c.args.limit c.args.budget c.requires.2 (rw (← many_sizes c.args.candidates.now) at c.walk-x.ensures)
