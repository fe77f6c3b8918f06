use Rattle.queue.proofs.bytes.PutLaws.{sized}
use Rattle.queue.proofs.change.WriteNextLaws.{step_no, step_room, step_yes}
use Rattle.queue.specs.change.TouchAs.{verdict_numbers}
use Rattle.queue.proofs.change.VerdictLaws.{code_not}
use Rattle.queue.specs.change.VerdictAs.{verdict_code}
use Rattle.queue.specs.declared.change.verdict.Verdict.TheVariants.{Forgotten}
use Rattle.std.specs.Prelude.{length}
use Rattle.std.proofs.Common.{ap}
use Rattle.queue.proofs.change.write.put_step.Goals as goal

pub returns-in-Forgotten : goal.returns-in-Forgotten
returns-in-Forgotten c = step_no c.args.src.now c.args.base c.args.x c.args.t.now (verdict_numbers c.args.v) c.args.n.0 c.args.dst.now c.args.at (ap verdict_code c.in-Forgotten.is)

pub put_next-requires : goal.put_next-requires
put_next-requires c = (c.requires.0, c.requires.1, c.requires.2, step_room c.args.src.now c.args.base c.args.x c.args.t.now (verdict_numbers c.args.v) c.args.n.0 c.args.at (length c.args.dst.now) (code_not Forgotten c.in_default.not-Forgotten) c.requires.0 c.requires.1 c.requires.3)

pub returns-in_default : goal.returns-in_default
returns-in_default c = sized c.put_next.ensures (step_yes c.args.src.now c.args.base c.args.x c.args.t.now (verdict_numbers c.args.v) c.args.n.0 (code_not Forgotten c.in_default.not-Forgotten))
