use Rattle.queue.specs.Basics.{one_most, one_of}
use Rattle.queue.specs.change.AdmitAs.{raw}
use Rattle.std.specs.Prelude.{ℕ, ◌+◌, cond, refl}
use Rattle.std.proofs.Common.{ap, mod-lt, arith, ◌∙◌}
use Rattle.queue.proofs.bytes.PutLaws.{kept}
use Rattle.queue.proofs.change.AdmitLaws.{new_id, with_area, with_done, with_few, with_room}
use Rattle.queue.proofs.change.WriteLaws.{long_need}
use Rattle.queue.specs.layout.HeadAs.{front_len}
use Rattle.queue.proofs.change.admit.put_with.Goals as goal

pub put_among-e-requires : goal.put_among-e-requires
put_among-e-requires c = let w = c.requires.0 in let r = with_room c.args.t w (new_id (raw c.args.x) c.args.x.id c.args.inputs.now c.args.outputs.now c.args.reads.now c.args.bytes.now c.args.label.now) c.requires.1 refl refl c.tip_len-to.ensures.long in (with_area c.args.t w, c.requires.1, c.requires.2, omega (arith, r, c.tip_len-to.ensures.size.0, c.requires.3))

pub overflow_add-marks : goal.overflow_add-marks
overflow_add-marks c = omega (arith, c.requires.0.read.store.head.count_small)

pub overflow_sub-marks : goal.overflow_sub-marks
overflow_sub-marks c = omega (arith, c.from.ensures, one_most c.is_occupied.result)

pub put_front-requires : goal.put_front-requires
put_front-requires c = let w = c.requires.0 in let h = w.read.store.head in (omega (arith, long_need w.read, c.tip_len-to.ensures.size.0, c.tip_len-to.ensures.size.1, kept c.put_among-e.ensures, c.requires.3), h.fit, record { persisted = w.small; revision = rw c.wrapping_add_u64.ensures.value (mod-lt _ (omega arith)); cursor = w.small; counter = h.counter_small; count = with_few c.args.t w (new_id (raw c.args.x) c.args.x.id c.args.inputs.now c.args.outputs.now c.args.reads.now c.args.bytes.now c.args.label.now) c.requires.1 (c.from.ensures ∙ one_of c.is_occupied.result ∙ ap (λ b. cond b 1 0) c.is_occupied.ensures) })

pub fill_zero-requires : goal.fill_zero-requires
fill_zero-requires c = let w = c.requires.0 in let r = with_room c.args.t w (new_id (raw c.args.x) c.args.x.id c.args.inputs.now c.args.outputs.now c.args.reads.now c.args.bytes.now c.args.label.now) c.requires.1 (c.from.ensures ∙ one_of c.is_occupied.result ∙ ap (λ b. cond b 1 0) c.is_occupied.ensures) refl c.tip_len-to.ensures.long in record { order = omega (arith, r, c.tip_len-to.ensures.size.0, c.put_among-e.ensures.next); inside = omega (arith, kept c.put_among-e.ensures, kept c.put_front.ensures, c.requires.3) }

pub returns : goal.returns
returns c = let w = c.requires.0 in λ q e. with_done c.args.t w (new_id (raw c.args.x) c.args.x.id c.args.inputs.now c.args.outputs.now c.args.reads.now c.args.bytes.now c.args.label.now) c.requires.1 (c.from.ensures ∙ one_of c.is_occupied.result ∙ ap (λ b. cond b 1 0) c.is_occupied.ensures) c.wrapping_add_u64.ensures.value c.tip_len-to.ensures.long e c.requires.3 (ap (λ (k : ℕ). front_len + k) c.tip_len-to.ensures.size.0) c.put_among-e.ensures c.put_front.ensures c.fill_zero.ensures
