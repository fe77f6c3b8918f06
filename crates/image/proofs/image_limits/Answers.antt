use Rattle.queue.proofs.RefusalLaws.{handed}
use Rattle.image.proofs.ImageLaws.{limits_100, limits_16, limits_4}
use Rattle.image.proofs.image_limits.Goals as goal

pub returns-in_err-x : goal.returns-in_err-x
returns-in_err-x c = λ old. rw (handed _ c.from_residual.ensures.1, c.in_err-x.ensures.refusal) (limits_16 _ old _ c.in_err-x.ensures.is)

pub returns-then-shares-lt64 : goal.returns-then-shares-lt64
returns-then-shares-lt64 c = λ old. limits_4 c.in_ok-x.ensures old _ c.if-shares-lt64.true

pub returns : goal.returns
returns c = λ old. limits_100 c.in_ok-x.ensures old _ c.if-shares-lt64.false c.put_shares.ensures
