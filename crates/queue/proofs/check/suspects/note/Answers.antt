use Rattle.queue.proofs.check.SuspectsLaws.{full_twice, held_row, note_new, row_noted}
use Rattle.std.proofs.Common.{◌∙◌}
use Rattle.queue.specs.Basics.{some_cases}
use Rattle.queue.proofs.check.suspects.note.Goals as goal

pub add-requires : goal.add-requires
add-requires c = (c.requires.0, c.requires.1, c.requires.2, c.requires.3, c.requires.4)

pub returns-then-seen : goal.returns-then-seen
returns-then-seen c = some_cases c.add.result (λ e. rw e (full_twice c.args.t.now c.requires.8 (rw e at c.add.ensures))) (λ n e. rw e (let g = rw e at c.add.ensures in (row_noted _ c.hash-h.ensures c.seen.ensures.is c.if-seen.true (c.row_at-w.ensures.0 ∙ c.requires.7) c.row_at-w.ensures.1 c.requires.8 (held_row c.args.form.hex c.args.s.now _ c.args.k _ _ (c.row_at-w.ensures.0 ∙ c.requires.7) c.row_at-w.ensures.1 c.requires.9) g.0, g.1)))

pub returns : goal.returns
returns c = (note_new _ c.hash-h.ensures c.seen.ensures.is c.if-seen.false c.seen.ensures.some c.mark.ensures.is c.requires.8, c.requires.3)
