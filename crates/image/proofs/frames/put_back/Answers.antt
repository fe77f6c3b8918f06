use Rattle.image.proofs.ImageLaws.{back_older, back_same, back_same_long, narrow_in, older_in, older_long}
use Rattle.queue.proofs.bytes.PutLaws.{kept, sized, then}
use Rattle.std.proofs.Common.{arith}
use Rattle.std.proofs.lemmas.Bool.{le-leb, lt-leb}
use Rattle.image.proofs.frames.put_back.Goals as goal

pub overflow_sub-x : goal.overflow_sub-x
overflow_sub-x c = omega (arith, c.requires.here, (narrow_in c.args.kind c.requires.is c.requires.frame c.requires.narrow).1)

pub copy_view-requires-clause-read : goal.copy_view-requires-clause-read
copy_view-requires-clause-read c = omega (arith, c.requires.here, (narrow_in c.args.kind c.requires.is c.requires.frame c.requires.narrow).1, c.requires.frame.within)

pub copy_view-requires-clause-written : goal.copy_view-requires-clause-written
copy_view-requires-clause-written c = omega (arith, c.requires.here, c.requires.room, back_same_long c.args.kind c.requires.is c.requires.frame c.requires.narrow (le-leb 5 c.args.kind c.if-kind-ge-READS.true))

pub returns-then-kind-ge-READS : goal.returns-then-kind-ge-READS
returns-then-kind-ge-READS c = λ y w f t h. sized (rw h at c.copy_view.ensures) (back_same c.args.kind w f t (le-leb 5 c.args.kind c.if-kind-ge-READS.true))

pub overflow_sub-x-2 : goal.overflow_sub-x-2
overflow_sub-x-2 c = omega (arith, c.requires.here, (older_in c.args.kind c.requires.is c.requires.frame c.requires.narrow (lt-leb 5 c.args.kind c.if-kind-ge-READS.false)).0)

pub copy_view-a-requires-clause-read : goal.copy_view-a-requires-clause-read
copy_view-a-requires-clause-read c = let i = older_in c.args.kind c.requires.is c.requires.frame c.requires.narrow (lt-leb 5 c.args.kind c.if-kind-ge-READS.false) in omega (arith, c.requires.here, i.0, i.1, i.2)

pub copy_view-a-requires-clause-written : goal.copy_view-a-requires-clause-written
copy_view-a-requires-clause-written c = let i = older_in c.args.kind c.requires.is c.requires.frame c.requires.narrow (lt-leb 5 c.args.kind c.if-kind-ge-READS.false) in omega (arith, c.requires.here, i.0, c.requires.room, older_long c.args.kind c.requires.is c.requires.frame c.requires.narrow (lt-leb 5 c.args.kind c.if-kind-ge-READS.false))

pub put_unread-b-requires : goal.put_unread-b-requires
put_unread-b-requires c = let i = older_in c.args.kind c.requires.is c.requires.frame c.requires.narrow (lt-leb 5 c.args.kind c.if-kind-ge-READS.false) in omega (arith, c.requires.here, i.0, c.requires.room, older_long c.args.kind c.requires.is c.requires.frame c.requires.narrow (lt-leb 5 c.args.kind c.if-kind-ge-READS.false), c.copy_view-a.ensures.next, kept c.copy_view-a.ensures)

pub overflow_sub-x-3 : goal.overflow_sub-x-3
overflow_sub-x-3 c = (older_in c.args.kind c.requires.is c.requires.frame c.requires.narrow (lt-leb 5 c.args.kind c.if-kind-ge-READS.false)).1

pub copy_view-requires-2-clause-read : goal.copy_view-requires-2-clause-read
copy_view-requires-2-clause-read c = let i = older_in c.args.kind c.requires.is c.requires.frame c.requires.narrow (lt-leb 5 c.args.kind c.if-kind-ge-READS.false) in omega (arith, i.1, i.2)

pub copy_view-requires-2-clause-written : goal.copy_view-requires-2-clause-written
copy_view-requires-2-clause-written c = let i = older_in c.args.kind c.requires.is c.requires.frame c.requires.narrow (lt-leb 5 c.args.kind c.if-kind-ge-READS.false) in omega (arith, c.requires.here, i.0, c.requires.room, older_long c.args.kind c.requires.is c.requires.frame c.requires.narrow (lt-leb 5 c.args.kind c.if-kind-ge-READS.false), c.copy_view-a.ensures.next, kept c.copy_view-a.ensures, c.put_unread-b.ensures.next, kept c.put_unread-b.ensures)

pub returns : goal.returns
returns c = λ y w f t h. sized (then (then (rw h at c.copy_view-a.ensures) c.put_unread-b.ensures) c.copy_view-2.ensures) (back_older c.args.kind w f t (lt-leb 5 c.args.kind c.if-kind-ge-READS.false))
