use Rattle.queue.specs.check.RulesAs.{weight}
use Rattle.queue.specs.paper.Lists.{one}
use Rattle.std.specs.Prelude.{refl, not, ◌&&◌, eqb}
use Rattle.std.proofs.Common.{ap, ◌∙◌, arith, eq-eqb, ne_eqb}
use Rattle.queue.specs.Basics.{one_of, one_most}
use Rattle.queue.proofs.check.rules.weigh.Goals as goal

pub returns-in-Holders : goal.returns-in-Holders
unfolding weight
returns-in-Holders c = (rw c.in-Holders.is (c.from.ensures ∙ one_of c.args.f.holder), omega (arith, c.from.ensures, one_most c.args.f.holder))

pub returns-in-HeldBytes : goal.returns-in-HeldBytes
unfolding weight
returns-in-HeldBytes c = (rw c.in-HeldBytes.is (refl), omega arith)

pub returns-in-MinedHolders : goal.returns-in-MinedHolders
unfolding weight
returns-in-MinedHolders c = (rw c.in-MinedHolders.is (c.from-in-MinedHolders.ensures ∙ one_of (eqb c.args.f.state 2 && c.args.f.holder)), omega (arith, c.from-in-MinedHolders.ensures, one_most (eqb c.args.f.state 2 && c.args.f.holder)))

pub returns-then-f : goal.returns-then-f
unfolding weight
returns-then-f c = (rw (c.in-MinedBytes.is, eq-eqb _ _ c.if-f.true) (refl), omega arith)

pub returns-else-f : goal.returns-else-f
unfolding weight
returns-else-f c = (rw (c.in-MinedBytes.is, ne_eqb _ _ c.if-f.false) (refl), omega arith)

pub returns-in-Tombstones : goal.returns-in-Tombstones
unfolding weight
returns-in-Tombstones c = (rw c.in-Tombstones.is (c.from-in-Tombstones.ensures ∙ one_of (not c.args.f.holder)), omega (arith, c.from-in-Tombstones.ensures, one_most (not c.args.f.holder)))

pub returns-in-Due : goal.returns-in-Due
unfolding weight
returns-in-Due c = (rw c.in-Due.is (c.from-in-Due.ensures ∙ one_of c.is_due.result ∙ ap one c.is_due.ensures), omega (arith, c.from-in-Due.ensures, one_most c.is_due.result))

pub returns-in-PendingOf : goal.returns-in-PendingOf
unfolding weight
returns-in-PendingOf c = (rw c.in-PendingOf.is (c.from-in-PendingOf.ensures ∙ one_of (c.pending.result && eqb c.args.f.caller c.in-PendingOf.c) ∙ rw c.pending.ensures refl), omega (arith, c.from-in-PendingOf.ensures, one_most (c.pending.result && eqb c.args.f.caller c.in-PendingOf.c)))
