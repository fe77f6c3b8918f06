use Rattle.queue.proofs.check.AreaLaws.{list_length}
use Rattle.queue.proofs.check.ReadsLaws.{asked_skip, full_spent, row_asked}
use Rattle.queue.specs.layout.FormsCodec.{rec_in_value}
use Rattle.std.proofs.Common.{◌∙◌, arith}
use Rattle.queue.specs.Basics.{some_cases}
use Rattle.queue.proofs.check.reads.note_read.Goals as goal

pub suspect-requires : goal.suspect-requires
suspect-requires c = (c.requires.5, rw c.new-frame.ensures c.requires.6, rw c.new-frame.ensures c.requires.7)

pub row_at-w-requires : goal.row_at-w-requires
row_at-w-requires c = (c.requires.8, c.requires.1, omega arith)

pub add-requires : goal.add-requires
add-requires c = (c.requires.0, c.requires.1, c.requires.2, c.requires.3, c.requires.4)

pub returns-then-suspect : goal.returns-then-suspect
returns-then-suspect c = some_cases c.add.result (λ e. rw e (full_spent c.requires.10 (rw e at c.add.ensures))) (λ n e. rw e (let g = rw e at c.add.ensures in (row_asked _ c.args.t.now (rw c.new-frame.ensures at c.suspect.ensures) c.requires.10 c.if-suspect.true (c.row_at-w.ensures.0 ∙ c.requires.9) c.row_at-w.ensures.1 c.requires.12 (let l = list_length (rec_in_value c.args.form) _ _ _ c.requires.0.1 in omega (arith, l, c.requires.2)) g.0, g.1)))

pub returns : goal.returns
returns c = (asked_skip _ c.args.t.now (rw c.new-frame.ensures at c.suspect.ensures) c.requires.10 c.if-suspect.false c.requires.11, c.requires.3)
