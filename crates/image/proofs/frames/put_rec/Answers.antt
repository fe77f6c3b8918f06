use Rattle.std.specs.Prelude.{◌+◌, ℕ}
use Rattle.std.proofs.Common.{ap, arith}
use Rattle.image.proofs.ImageLaws.{narrow_enc_is, narrow_in, narrow_size, rec_same, same_long}
use Rattle.queue.proofs.bytes.PutLaws.{kept, sized, then}
use Rattle.std.proofs.lemmas.Bool.{le-leb, lt-leb}
use Rattle.image.proofs.frames.put_rec.Goals as goal

pub copy_view-requires-clause-read : goal.copy_view-requires-clause-read
copy_view-requires-clause-read c = omega (arith, c.requires.frame.within)

pub copy_view-requires-clause-written : goal.copy_view-requires-clause-written
copy_view-requires-clause-written c = omega (arith, c.requires.room, same_long c.args.kind c.requires.is c.requires.frame (le-leb 6 c.args.kind c.if-kind-ge-WIDE.true))

pub returns-then-kind-ge-WIDE : goal.returns-then-kind-ge-WIDE
returns-then-kind-ge-WIDE c = λ y w f. sized c.copy_view.ensures (rec_same c.args.kind w f (le-leb 6 c.args.kind c.if-kind-ge-WIDE.true))

pub put_lead-a-requires : goal.put_lead-a-requires
put_lead-a-requires c = c.requires

pub overflow_sub-p : goal.overflow_sub-p
overflow_sub-p c = omega (arith, c.caller_end-from.ensures, c.priority_from-p.ensures, (narrow_in c.args.kind c.requires.is c.requires.frame (lt-leb 6 c.args.kind c.if-kind-ge-WIDE.false)).0)

pub copy_view-b-requires-clause-read : goal.copy_view-b-requires-clause-read
copy_view-b-requires-clause-read c = let i = narrow_in c.args.kind c.requires.is c.requires.frame (lt-leb 6 c.args.kind c.if-kind-ge-WIDE.false) in let p = c.put_lead-a.ensures c.requires.rec c.requires.is c.requires.frame in omega (arith, c.caller_end-from.ensures, c.priority_from-p.ensures, i.0, i.1, i.2)

pub copy_view-b-requires-clause-written : goal.copy_view-b-requires-clause-written
copy_view-b-requires-clause-written c = let i = narrow_in c.args.kind c.requires.is c.requires.frame (lt-leb 6 c.args.kind c.if-kind-ge-WIDE.false) in let p = c.put_lead-a.ensures c.requires.rec c.requires.is c.requires.frame in omega (arith, c.caller_end-from.ensures, c.priority_from-p.ensures, i.0, c.requires.room, narrow_size c.args.kind c.requires.is c.requires.frame (lt-leb 6 c.args.kind c.if-kind-ge-WIDE.false), p.next, kept p)

pub put_be-c-requires : goal.put_be-c-requires
put_be-c-requires c = let p = c.put_lead-a.ensures c.requires.rec c.requires.is c.requires.frame in omega (arith, c.caller_end-from.ensures, c.priority_from-p.ensures, c.requires.room, narrow_size c.args.kind c.requires.is c.requires.frame (lt-leb 6 c.args.kind c.if-kind-ge-WIDE.false), p.next, kept p, c.copy_view-b.ensures.next, kept c.copy_view-b.ensures)

pub overflow_add-p : goal.overflow_add-p
overflow_add-p c = let i = narrow_in c.args.kind c.requires.is c.requires.frame (lt-leb 6 c.args.kind c.if-kind-ge-WIDE.false) in omega (arith, c.priority_from-p.ensures, i.1)

pub put_back-requires : goal.put_back-requires
put_back-requires c = let t = lt-leb 6 c.args.kind c.if-kind-ge-WIDE.false in let p = c.put_lead-a.ensures c.requires.rec c.requires.is c.requires.frame in record { rec = c.requires.rec; is = c.requires.is; frame = c.requires.frame; narrow = t; here = ap (λ (n : ℕ). n + 4) c.priority_from-p.ensures; room = omega (arith, c.caller_end-from.ensures, c.priority_from-p.ensures, c.requires.room, narrow_size c.args.kind c.requires.is c.requires.frame t, p.next, kept p, c.copy_view-b.ensures.next, kept c.copy_view-b.ensures, c.put_be-c.ensures.next, kept c.put_be-c.ensures) }

pub returns : goal.returns
returns c = λ y w f. let t = lt-leb 6 c.args.kind c.if-kind-ge-WIDE.false in sized (then (then (then (c.put_lead-a.ensures y w f) (rw (c.caller_end-from.ensures, c.priority_from-p.ensures) at c.copy_view-b.ensures)) c.put_be-c.ensures) (c.put_back.ensures y w f t (ap (λ (n : ℕ). n + 4) c.priority_from-p.ensures))) (narrow_enc_is c.args.kind w f t)
