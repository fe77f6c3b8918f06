use Rattle.queue.proofs.check.AreaLaws.{filled_all, filled_dirty, filled_over, filled_short, filled_unsound, sound_range}
use Rattle.std.proofs.Common.{sym, ◌∙◌}
use Rattle.queue.proofs.check.area.filled.Goals as goal

pub returns-then-not-sound_at : goal.returns-then-not-sound_at
returns-then-not-sound_at c = filled_unsound c.sound_at.ensures c.if-not-sound_at.true

pub need-m-requires : goal.need-m-requires
need-m-requires c = sound_range _ _ _ (sym c.sound_at.ensures ∙ c.if-not-sound_at.false)

pub returns-then-s-m : goal.returns-then-s-m
returns-then-s-m c = filled_short c.sound_at.ensures c.if-not-sound_at.false c.need-m.ensures.0 c.if-s-m.true

pub returns-then-m-e : goal.returns-then-m-e
returns-then-m-e c = filled_over c.sound_at.ensures c.if-not-sound_at.false c.need-m.ensures.0 c.if-s-m.false c.if-m-e.true

pub returns-then-not-zeros : goal.returns-then-not-zeros
returns-then-not-zeros c = filled_dirty c.sound_at.ensures c.if-not-sound_at.false c.need-m.ensures.0 c.if-s-m.false c.if-m-e.false c.zeros.ensures c.if-not-zeros.true

pub returns : goal.returns
returns c = filled_all c.sound_at.ensures c.if-not-sound_at.false c.need-m.ensures.0 c.if-s-m.false c.if-m-e.false c.zeros.ensures c.if-not-zeros.false c.need-m.ensures.1
