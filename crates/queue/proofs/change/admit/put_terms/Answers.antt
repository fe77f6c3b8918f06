use Rattle.queue.specs.change.AdmitAs.{raw}
use Rattle.queue.proofs.bytes.PutLaws.{kept}
use Rattle.queue.proofs.change.AdmitLaws.{terms_put}
use Rattle.std.proofs.Common.{arith}
use Rattle.queue.proofs.change.admit.put_terms.Goals as goal

pub put_be-g-requires : goal.put_be-g-requires
put_be-g-requires c = omega (arith, c.requires.1, c.put_be-a.ensures.next, kept c.put_be-a.ensures, c.put_time-b.ensures.next, kept c.put_time-b.ensures, c.put_height-c.ensures.next, kept c.put_height-c.ensures, c.put_be-d.ensures.next, kept c.put_be-d.ensures, c.put_label-e.ensures.next, kept c.put_label-e.ensures, c.put_be-f.ensures.next, kept c.put_be-f.ensures)

pub put_be-requires : goal.put_be-requires
put_be-requires c = omega (arith, c.requires.1, c.put_be-a.ensures.next, kept c.put_be-a.ensures, c.put_time-b.ensures.next, kept c.put_time-b.ensures, c.put_height-c.ensures.next, kept c.put_height-c.ensures, c.put_be-d.ensures.next, kept c.put_be-d.ensures, c.put_label-e.ensures.next, kept c.put_label-e.ensures, c.put_be-f.ensures.next, kept c.put_be-f.ensures, c.put_be-g.ensures.next, kept c.put_be-g.ensures)

pub shape_of-dst : goal.shape_of-dst
shape_of-dst c = kept (terms_put (raw c.args.x) c.args.label.now c.args.n c.requires.0 c.put_be-a.ensures c.put_time-b.ensures c.put_height-c.ensures c.put_be-d.ensures c.put_label-e.ensures c.put_be-f.ensures c.put_be-g.ensures c.put_be.ensures)

pub returns : goal.returns
returns c = terms_put (raw c.args.x) c.args.label.now c.args.n c.requires.0 c.put_be-a.ensures c.put_time-b.ensures c.put_height-c.ensures c.put_be-d.ensures c.put_label-e.ensures c.put_be-f.ensures c.put_be-g.ensures c.put_be.ensures
