use Rattle.queue.proofs.check.SuspectsRowLaws.{cmp_less, cmp_more}
use Rattle.queue.specs.check.SuspectsAs.{id_r}
use Rattle.queue.specs.paper.Ids.{cmp_l}
use Rattle.std.specs.Prelude.{◌≡◌, Bool, false}
use Rattle.std.proofs.Common.{arith, subst, sym}
use Rattle.queue.proofs.check.suspects.cmp_rows.Goals as goal

pub returns-then-p-q : goal.returns-then-p-q
returns-then-p-q c = subst (λ (h : Bool). 0 ≡ cmp_l (id_r h c.args.s.now c.args.x) (id_r h c.args.s.now c.args.y)) (sym c.if-not-hex.true) (cmp_less false c.args.s.now c.args.x c.args.y c.new-a.ensures c.new-b.ensures (let k = c.len.ensures.is in omega (arith, k, c.if-len-ge32.true)) (let k = c.len-then-len-ge32.ensures.is in omega (arith, k, c.if-len-ge32-2.true)) c.len.ensures.bytes c.len-then-len-ge32.ensures.bytes c.be-p.ensures.is c.be-q.ensures.is c.if-p-q.true)

pub returns-then-q-p : goal.returns-then-q-p
returns-then-q-p c = subst (λ (h : Bool). 2 ≡ cmp_l (id_r h c.args.s.now c.args.x) (id_r h c.args.s.now c.args.y)) (sym c.if-not-hex.true) (cmp_more false c.args.s.now c.args.x c.args.y c.new-a.ensures c.new-b.ensures (let k = c.len.ensures.is in omega (arith, k, c.if-len-ge32.true)) (let k = c.len-then-len-ge32.ensures.is in omega (arith, k, c.if-len-ge32-2.true)) c.len.ensures.bytes c.len-then-len-ge32.ensures.bytes c.be-p.ensures.is c.be-q.ensures.is c.if-q-p.true)
