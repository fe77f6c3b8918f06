use Rattle.image.proofs.ImageLaws.{lead_has, lead_in, lead_no, lead_not, lead_yes}
use Rattle.queue.proofs.bytes.PutLaws.{kept, recast, then}
use Rattle.std.proofs.Common.{arith}
use Rattle.std.specs.Prelude.{refl}
use Rattle.std.proofs.lemmas.Bool.{le-leb, lt-leb}
use Rattle.image.proofs.frames.put_lead.Goals as goal

pub copy_view-requires-clause-read : goal.copy_view-requires-clause-read
copy_view-requires-clause-read c = let l = lead_in c.args.kind c.requires.is c.requires.frame in omega (arith, l.0, lead_has c.args.kind c.requires.is c.requires.frame (le-leb 4 c.args.kind c.if-kind-ge-CALLERS.true))

pub copy_view-requires-clause-written : goal.copy_view-requires-clause-written
copy_view-requires-clause-written c = let l = lead_in c.args.kind c.requires.is c.requires.frame in omega (arith, l.1, c.requires.room)

pub returns-then-kind-ge-CALLERS : goal.returns-then-kind-ge-CALLERS
returns-then-kind-ge-CALLERS c = λ y w f. recast c.copy_view.ensures (lead_yes c.args.kind w f (le-leb 4 c.args.kind c.if-kind-ge-CALLERS.true)) refl refl

pub copy_view-a-requires-clause-read : goal.copy_view-a-requires-clause-read
copy_view-a-requires-clause-read c = let l = lead_in c.args.kind c.requires.is c.requires.frame in omega (arith, l.0, lead_not c.args.kind c.requires.is c.requires.frame (lt-leb 4 c.args.kind c.if-kind-ge-CALLERS.false))

pub copy_view-a-requires-clause-written : goal.copy_view-a-requires-clause-written
copy_view-a-requires-clause-written c = let l = lead_in c.args.kind c.requires.is c.requires.frame in omega (arith, l.1, c.requires.room)

pub put_u8-requires : goal.put_u8-requires
put_u8-requires c = let l = lead_in c.args.kind c.requires.is c.requires.frame in omega (arith, l.1, c.requires.room, c.copy_view-a.ensures.next, kept c.copy_view-a.ensures)

pub returns : goal.returns
returns c = λ y w f. recast (then c.copy_view-a.ensures c.put_u8.ensures) (lead_no c.args.kind w f (lt-leb 4 c.args.kind c.if-kind-ge-CALLERS.false)) refl refl
