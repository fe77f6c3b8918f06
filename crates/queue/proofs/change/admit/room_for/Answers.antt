use Rattle.queue.proofs.change.AdmitLaws.{bytes_is, many_is, pendings_are, room_0, room_10, room_11, room_11', room_18}
use Rattle.std.proofs.Common.{arith}
use Rattle.queue.proofs.change.admit.room_for.Goals as goal

pub overflow_sub-m : goal.overflow_sub-m
overflow_sub-m c = omega (arith, (many_is c.requires.0 c.requires.0.read.store.sums.holders c.requires.0.read.store.sums.mined))

pub returns-then-l-m : goal.returns-then-l-m
returns-then-l-m c = room_10 c.requires.0 c.args.caller _ c.args.a.open.sums.mined (many_is c.requires.0 c.requires.0.read.store.sums.holders c.requires.0.read.store.sums.mined) c.if-l-m.true

pub share_full-requires : goal.share_full-requires
share_full-requires c = (c.requires.0, c.requires.1, pendings_are c.requires.0 c.args.a.open.sums.mined (many_is c.requires.0 c.requires.0.read.store.sums.holders c.requires.0.read.store.sums.mined))

pub returns-then-share_full : goal.returns-then-share_full
returns-then-share_full c = room_18 c.requires.0 c.args.caller _ c.args.a.open.sums.mined (many_is c.requires.0 c.requires.0.read.store.sums.holders c.requires.0.read.store.sums.mined) c.if-l-m.false c.share_full.ensures c.if-share_full.true

pub returns-then-b-n : goal.returns-then-b-n
returns-then-b-n c = room_11 c.requires.0 c.args.caller _ c.args.a.open.sums.mined (many_is c.requires.0 c.requires.0.read.store.sums.holders c.requires.0.read.store.sums.mined) c.if-l-m.false c.share_full.ensures c.if-share_full.false c.if-b-n.true

pub overflow_sub-u : goal.overflow_sub-u
overflow_sub-u c = omega (arith, (bytes_is c.requires.0 c.requires.0.read.store.sums.bytes c.requires.0.read.store.sums.minedbytes))

pub returns-then-b-n-2 : goal.returns-then-b-n-2
returns-then-b-n-2 c = room_11' c.requires.0 c.args.caller _ c.args.a.open.sums.mined (many_is c.requires.0 c.requires.0.read.store.sums.holders c.requires.0.read.store.sums.mined) c.if-l-m.false c.share_full.ensures c.if-share_full.false c.if-b-n.false c.args.a.open.sums.minedbytes (bytes_is c.requires.0 c.requires.0.read.store.sums.bytes c.requires.0.read.store.sums.minedbytes) c.if-b-n-2.true

pub returns : goal.returns
returns c = room_0 c.requires.0 c.args.caller _ c.args.a.open.sums.mined (many_is c.requires.0 c.requires.0.read.store.sums.holders c.requires.0.read.store.sums.mined) c.if-l-m.false c.share_full.ensures c.if-share_full.false c.if-b-n.false c.args.a.open.sums.minedbytes (bytes_is c.requires.0 c.requires.0.read.store.sums.bytes c.requires.0.read.store.sums.minedbytes) c.if-b-n-2.false
