use Rattle.queue.proofs.check.ReadsLaws.{suspect_new, suspect_seen}
use Rattle.queue.specs.bytes.ReaderAs.{list_at}
use Rattle.queue.specs.layout.FrameCodec.{id_c}
use Rattle.queue.proofs.check.reads.suspect.Goals as goal

pub seen-requires : goal.seen-requires
seen-requires c = c.requires.0

pub has_id-requires : goal.has_id-requires
has_id-requires c = (c.requires.1, c.requires.2)

pub returns-then-seen : goal.returns-then-seen
returns-then-seen c = suspect_seen c.args.t.now _ (list_at id_c c.args.k c.args.v.now c.args.ins) c.hash.ensures c.seen.ensures c.if-seen.true c.has_id.ensures

pub returns : goal.returns
returns c = suspect_new c.args.t.now _ (list_at id_c c.args.k c.args.v.now c.args.ins) c.hash.ensures c.seen.ensures c.if-seen.false
