use Rattle.queue.proofs.check.FilterLaws.{new_held, new_tomb}
use Rattle.queue.specs.bytes.ReaderLaws.{false_true}
use Rattle.std.specs.Prelude.{refl}
use Rattle.std.proofs.Common.{◌∙◌}
use Rattle.queue.proofs.check.scan.new_record.Goals as goal

pub returns-then-not-clear : goal.returns-then-not-clear
returns-then-not-clear c = (refl, λ u. false_true u)

pub new_ids-requires : goal.new_ids-requires
new_ids-requires c = (c.requires.0, c.requires.1)

pub returns-then-not-new_ids : goal.returns-then-not-new_ids
returns-then-not-new_ids c = (c.new_ids.ensures.0, λ u. false_true u)

pub returns-then-f : goal.returns-then-f
returns-then-f c = (c.new_ids.ensures.0, λ _. new_held c.if-not-clear.false (c.new_ids.ensures.1 c.if-not-new_ids.false) c.if-f.true)

pub returns : goal.returns
returns c = (c.new_number.ensures.0 ∙ c.new_ids.ensures.0, λ u. new_tomb c.if-not-clear.false (c.new_ids.ensures.1 c.if-not-new_ids.false) c.if-f.false (c.new_number.ensures.1 u))
