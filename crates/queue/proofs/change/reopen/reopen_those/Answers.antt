use Rattle.queue.proofs.change.ReopenLaws.{again_from, told_100, told_102}
use Rattle.queue.specs.change.ReopenAs.{ids_at}
use Rattle.queue.proofs.change.reopen.reopen_those.Goals as goal

pub returns-then-not-any_listed : goal.returns-then-not-any_listed
returns-then-not-any_listed c = told_100 c.requires.0 (ids_at c.args.ids.now c.args.k) c.any_listed.ensures _ c.if-not-any_listed.true

pub put_opened-requires : goal.put_opened-requires
put_opened-requires c = (again_from c.requires.0 (ids_at c.args.ids.now c.args.k) c.any_listed.ensures c.if-not-any_listed.false, c.requires.1, c.requires.2)

pub returns : goal.returns
returns c = told_102 c.requires.0 (ids_at c.args.ids.now c.args.k) c.any_listed.ensures _ c.if-not-any_listed.false c.put_opened.ensures
