use Rattle.queue.specs.bytes.ReaderAs.{list_at}
use Rattle.queue.specs.bytes.ViewAs.{view}
use Rattle.queue.specs.layout.FrameCodec.{id_c}
use Rattle.queue.specs.paper.Sound.{among?}
use Rattle.std.specs.Prelude.{Bool, false, ◌&&◌}
use Rattle.std.proofs.Common.{sym, ap, ◌∙◌, eq-eqb, ne_eqb}
use Rattle.queue.proofs.change.touch.in_outputs.Goals as goal

pub returns-then-f : goal.returns-then-f
returns-then-f c = sym (ap (λ (b : Bool). b && among? c.args.id (list_at id_c c.args.x.facts.outs (view false c.args.s.now c.args.base) c.args.x.outs)) (ne_eqb c.args.x.facts.state 0 c.if-f.true))

pub has_id-requires : goal.has_id-requires
has_id-requires c = rw c.new.ensures (c.requires.0, c.requires.1)

pub returns : goal.returns
returns c = (rw c.new.ensures at c.has_id.ensures) ∙ sym (ap (λ (b : Bool). b && among? c.args.id (list_at id_c c.args.x.facts.outs (view false c.args.s.now c.args.base) c.args.x.outs)) (eq-eqb c.args.x.facts.state 0 c.if-f.false))
