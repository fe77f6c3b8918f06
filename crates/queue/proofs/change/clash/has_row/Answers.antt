use Rattle.std.specs.Prelude.{refl}
use Rattle.queue.proofs.change.ClashLaws.{has_here, has_none}
use Rattle.std.proofs.Common.{◌∙◌, arith}
use Rattle.queue.proofs.change.IdLaws.{alike}
use Rattle.queue.proofs.change.clash.has_row.Goals as goal

pub bisect_id-b-requires : goal.bisect_id-b-requires
bisect_id-b-requires c = c.requires

pub returns-then-v-b : goal.returns-then-v-b
returns-then-v-b c = has_none c.args.ids.now c.args.v.now c.args.id c.requires c.bisect_id-b.ensures c.if-v-b.true

pub returns : goal.returns
returns c = alike c.cmp_row.result c.is_eq.ensures c.cmp_row.ensures ∙ has_here c.args.ids.now c.args.v.now c.args.id c.requires c.bisect_id-b.ensures (omega (arith, c.if-v-b.false)) refl
