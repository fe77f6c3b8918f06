use Rattle.queue.proofs.read.ReadingLaws.{place_part, no_part}
use Rattle.queue.proofs.read.reading.signed_bytes.Goals as goal

pub returns-in-Ok : goal.returns-in-Ok
returns-in-Ok c = place_part c.in-Ok.ensures

pub returns-in-Err : goal.returns-in-Err
returns-in-Err c = no_part _ _ _ c.in-Err.ensures
