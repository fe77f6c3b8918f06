use Rattle.queue.proofs.bytes.PutLaws.{kept, recast, then}
use Rattle.queue.specs.change.PlanAs.{next_bytes}
use Rattle.std.specs.Prelude.{refl}
use Rattle.std.proofs.Common.{arith}
use Rattle.queue.proofs.change.write.put_next.Goals as goal

pub state_next-requires : goal.state_next-requires
state_next-requires c = c.requires.2.0

pub reason_next-requires : goal.reason_next-requires
reason_next-requires c = c.requires.2.1

pub put_lead-a-requires : goal.put_lead-a-requires
put_lead-a-requires c = omega (arith, c.requires.3, c.requires.0.up)

pub overflow_add-base : goal.overflow_add-base
overflow_add-base c = omega (arith, c.requires.0.within, c.requires.0.up_place, c.requires.0.up_body, c.requires.0.up, c.well_formed.0)

pub overflow_sub-p : goal.overflow_sub-p
overflow_sub-p c = c.requires.0.up

pub copy_part-b-requires : goal.copy_part-b-requires
copy_part-b-requires c = record { read = omega (arith, c.requires.0.within, c.requires.0.up_place, c.requires.0.up_body, c.requires.0.up); written = omega (arith, c.requires.3, c.requires.0.up, c.put_lead-a.ensures.next, kept c.put_lead-a.ensures) }

pub put_place-c-requires : goal.put_place-c-requires
put_place-c-requires c = (c.requires.0, c.requires.1, omega (arith, c.requires.3, c.requires.0.up, c.put_lead-a.ensures.next, kept c.put_lead-a.ensures, c.copy_part-b.ensures.next, kept c.copy_part-b.ensures))

pub mark_next-requires : goal.mark_next-requires
mark_next-requires c = (c.requires.2.0, c.requires.2.2)

pub put_be-d-requires : goal.put_be-d-requires
put_be-d-requires c = omega (arith, c.requires.3, c.requires.0.up, c.put_lead-a.ensures.next, kept c.put_lead-a.ensures, c.copy_part-b.ensures.next, kept c.copy_part-b.ensures, c.put_place-c.ensures.next, kept c.put_place-c.ensures)

pub put_tail-requires : goal.put_tail-requires
put_tail-requires c = (c.requires.0, omega (arith, c.requires.3, c.requires.0.up, c.put_lead-a.ensures.next, kept c.put_lead-a.ensures, c.copy_part-b.ensures.next, kept c.copy_part-b.ensures, c.put_place-c.ensures.next, kept c.put_place-c.ensures, c.put_be-d.ensures.next, kept c.put_be-d.ensures))

pub returns : goal.returns
unfolding next_bytes
returns c = recast (then (then (then (then c.put_lead-a.ensures c.copy_part-b.ensures) c.put_place-c.ensures) c.put_be-d.ensures) c.put_tail.ensures) (rw (c.state_next.ensures.0, c.reason_next.ensures.0, c.mark_next.ensures.0)) (omega (arith, c.requires.0.up)) refl
