use Rattle.queue.proofs.RefusalLaws.{unsound}
use Rattle.pokerbox.proofs.ExportLaws.{sound_no, sound_yes}
use Rattle.pokerbox.proofs.sound.Goals as goal

pub returns-in_err-read : goal.returns-in_err-read
returns-in_err-read c = rw (unsound _ c.from_residual.ensures.1 c.in_err-read.ensures) (sound_no _ c.in_err-read.ensures.is)

pub returns : goal.returns
returns c = sound_yes c.in_ok-read.ensures
