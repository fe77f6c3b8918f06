use Rattle.queue.proofs.read.LinksLaws.{begins_no, begins_yes}
use Rattle.queue.proofs.read.links.link_rows.Goals as goal

pub bisect-b-requires : goal.bisect-b-requires
bisect-b-requires c = c.requires.0 c.if-ordered.true

pub link_run-requires : goal.link_run-requires
link_run-requires c = (begins_yes c.if-ordered.true c.requires.0 c.bisect-b.ensures, c.requires.1, c.requires.2, c.requires.3)

pub link_run-requires-2 : goal.link_run-requires-2
link_run-requires-2 c = (begins_no, c.requires.1, c.requires.2, c.requires.3)
