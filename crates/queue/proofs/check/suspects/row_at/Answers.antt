use Rattle.queue.proofs.check.SuspectsRowLaws.{row_id, row_no}
use Rattle.queue.proofs.check.suspects.row_at.Goals as goal

pub returns : goal.returns
returns c = (row_id _ _ _ _ _ _ c.place-p.ensures.0 c.requires.0 c.requires.2, row_no _ c.requires.2)
