use Rattle.std.specs.Prelude.{refl}
use Rattle.std.proofs.Common.{ap, arith}
use Rattle.std.specs.Prelude.{not}
use Rattle.queue.proofs.read.ParentsLaws.{lower_first, lower_idle, lower_later, lower_off, lower_out}
use Rattle.queue.proofs.read.parents.lower_if.Goals as goal

pub returns-then-not-odd : goal.returns-then-not-odd
returns-then-not-odd c = lower_off c.args.odd _ _ (ap not c.if-not-odd.true)

pub returns-then-cs-k : goal.returns-then-cs-k
returns-then-cs-k c = lower_out c.args.odd c.args.k _ _ (ap not c.if-not-odd.false) c.if-cs-k.true

pub returns-then-c-eq0 : goal.returns-then-c-eq0
returns-then-c-eq0 c = lower_idle c.args.odd c.args.k _ (ap not c.if-not-odd.false) c.if-c-eq0.true

pub returns-then-c-k : goal.returns-then-c-k
returns-then-c-k c = lower_first c.args.odd c.args.k c.args.cs.now c.args.from (ap not c.if-not-odd.false) (omega (arith, c.if-cs-k.false)) refl c.if-c-k.true

pub returns : goal.returns
returns c = lower_later c.args.odd c.args.k c.args.cs.now c.args.from (ap not c.if-not-odd.false) (omega (arith, c.if-cs-k.false)) refl c.if-c-eq0.false c.if-c-k.false
