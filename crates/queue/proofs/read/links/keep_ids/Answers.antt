use Rattle.queue.proofs.layout.TurnLaws.{id_room}
use Rattle.std.specs.Prelude.{refl}
use Rattle.std.proofs.Common.{◌∙◌, arith}
use Rattle.queue.proofs.check.SuspectsLaws.{id_bytes}
use Rattle.queue.proofs.layout.TurnLaws.{here}
use Rattle.queue.proofs.read.LinksLaws.{kept_sizes, rowing, rowing_end, rowing_go}
use Rattle.queue.proofs.read.links.keep_ids.Goals as goal

pub group_mask-g-requires : goal.group_mask-g-requires
group_mask-g-requires c = c.requires.3

pub loop-left-init : goal.loop-left-init
loop-left-init c = (rowing c.args.s.now c.args.m _ _ _ _ _ _ c.requires.0 c.requires.1, omega arith, refl)

pub id-requires : goal.id-requires
id-requires c = rw c.new-frame.ensures (id_room c.loop-left.invariant.0.scan c.loop-left-test.true)

pub row_at-w-requires : goal.row_at-w-requires
row_at-w-requires c = ((id_bytes (here c.loop-left.invariant.0.scan c.loop-left-test.true (rw c.new-frame.ensures at c.id.ensures.found))).1, c.requires.2, c.group_mask-g.ensures.1)

pub keep_row-n-requires : goal.keep_row-n-requires
keep_row-n-requires c = omega (arith, c.requires.4, c.loop-left.invariant.1, c.loop-left.invariant.2, c.loop-left-test.true)

pub loop-left-preserved : goal.loop-left-preserved
loop-left-preserved c = let z = kept_sizes c.loop-left.slots c.loop-left.t c.loop-left.v c.hash_all-h.result c.row_at-w.result c.loop-left.n c.keep_row-n.ensures in
    (rowing_go c.loop-left.v c.loop-left.n c.loop-left.invariant.0 c.row_at-w.result c.loop-left-test.true (rw c.new-frame.ensures at c.id.ensures.found) c.hash_all-h.ensures c.row_at-w.ensures.0 (c.row_at-w.ensures.1 ∙ c.group_mask-g.ensures.0) (omega (arith, c.requires.4, c.loop-left.invariant.1, c.loop-left.invariant.2, c.loop-left-test.true)) c.keep_row-n.ensures, omega (arith, z.2, c.loop-left.invariant.1, c.loop-left-test.true), z.3 ∙ c.loop-left.invariant.2)

pub shape_of-v : goal.shape_of-v
shape_of-v c = c.loop-left.invariant.2

pub returns : goal.returns
returns c = (rowing_end c.loop-left.v c.loop-left.n c.loop-left.invariant.0 (omega (arith, c.loop-left-test.false)), omega (arith, c.loop-left.invariant.1))
