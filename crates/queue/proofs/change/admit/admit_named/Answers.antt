use Rattle.queue.proofs.read.ReadingLaws.{stands_here}
use Rattle.queue.specs.change.AdmitAs.{raw}
use Rattle.queue.proofs.RefusalLaws.{handed, numbered}
use Rattle.queue.proofs.change.AdmitExitLaws.{few_callers, ins_lent, new_refused, reads_lent, told_new, told_old}
use Rattle.queue.proofs.change.AdmitLaws.{tally_asks}
use Rattle.queue.specs.change.AdmitAs.{args_of}
use Rattle.queue.proofs.change.admit.admit_named.Goals as goal

pub find_spot-p-requires : goal.find_spot-p-requires
find_spot-p-requires c = (tally_asks c.requires.0).0

pub holder_at-requires : goal.holder_at-requires
holder_at-requires c = λ t. stands_here _ _ (c.find_spot-p.ensures.here t).2

pub tell_old-requires : goal.tell_old-requires
tell_old-requires c = let y = c.find_spot-p.ensures.here (c.holder_at.ensures.0 c.if-holder_at.true) in (y.0, rw c.at.ensures y.2)

pub returns-then-holder_at : goal.returns-then-holder_at
returns-then-holder_at c = told_old c.requires.0 (args_of (raw c.args.x) c.args.x.id c.args.inputs.now c.args.outputs.now c.args.reads.now c.args.bytes.now c.args.label.now c.args.tip.now) c.find_spot-p.ensures c.holder_at.ensures _ _ c.if-holder_at.true (rw c.at.ensures at c.tell_old.ensures)

pub new_refusal-requires : goal.new_refusal-requires
new_refusal-requires c = (c.requires.0, few_callers c.requires.0 c.requires.1, ins_lent c.requires.0 c.requires.1, reads_lent c.requires.0 c.requires.1)

pub returns-in_err-new_refusal : goal.returns-in_err-new_refusal
returns-in_err-new_refusal c = rw (handed _ c.from_residual.ensures.1) (told_new c.requires.0 (args_of (raw c.args.x) c.args.x.id c.args.inputs.now c.args.outputs.now c.args.reads.now c.args.bytes.now c.args.label.now c.args.tip.now) c.find_spot-p.ensures c.holder_at.ensures _ _ c.if-holder_at.false (new_refused c.requires.0 c.requires.1 _ _ c.in_err-new_refusal.ensures (numbered _)))

pub admit_free-requires : goal.admit_free-requires
admit_free-requires c = ((c.requires.0, c.find_spot-p.ensures), c.requires.1, c.in_ok-new_refusal.ensures, c.requires.2)

pub returns : goal.returns
returns c = told_new c.requires.0 (args_of (raw c.args.x) c.args.x.id c.args.inputs.now c.args.outputs.now c.args.reads.now c.args.bytes.now c.args.label.now c.args.tip.now) c.find_spot-p.ensures c.holder_at.ensures _ _ c.if-holder_at.false c.admit_free.ensures
