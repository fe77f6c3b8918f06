use Rattle.queue.specs.check.RulesAs.{right_f}
use Rattle.queue.proofs.check.rules.right.Goals as goal

pub returns : goal.returns
unfolding right_f
returns c = simp (c.held_right.ensures, c.reason_right.ensures, c.place_right.ensures, c.is_some.ensures, c.mark_right.ensures, c.finish_right.ensures, c.sizes_right-d.ensures)
