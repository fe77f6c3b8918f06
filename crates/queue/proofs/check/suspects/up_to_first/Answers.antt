use Rattle.queue.proofs.check.SuspectsRowLaws.{up_first, up_last, up_none}
use Rattle.queue.specs.bytes.ViewAs.{view_small}
use Rattle.std.specs.Prelude.{◌/◌, false}
use Rattle.std.proofs.Common.{arith}
use Rattle.queue.proofs.check.suspects.up_to_first.Goals as goal

pub returns-then-len-lt32 : goal.returns-then-len-lt32
returns-then-len-lt32 c = λ e. up_none false c.args.s.now c.args.x c.args.y c.new-a.ensures e.0 (let k = c.len.ensures.is in omega (arith, k, c.if-len-lt32.true))

pub returns-then-w-first : goal.returns-then-w-first
returns-then-w-first c = λ e. up_first false c.args.s.now c.args.x c.args.y c.new-a.ensures e.0 (let k = c.len.ensures.is in omega (arith, k, c.if-len-lt32.false)) c.len.ensures.bytes (view_small false c.args.s.now (c.args.y / 4294967296) (λ j _. omega (arith, c.type_inv.s j))) c.be-w.ensures.is e.1 c.if-w-first.true

pub returns-then-first-w : goal.returns-then-first-w
returns-then-first-w c = λ e. up_last false c.args.s.now c.args.x c.args.y c.new-a.ensures e.0 (let k = c.len.ensures.is in omega (arith, k, c.if-len-lt32.false)) c.len.ensures.bytes (view_small false c.args.s.now (c.args.y / 4294967296) (λ j _. omega (arith, c.type_inv.s j))) c.be-w.ensures.is e.1 c.if-first-w.true

pub returns : goal.returns
returns c = λ e. c.up_to.ensures
