use Rattle.queue.proofs.change.TouchLaws.{own_no, own_yes}
use Rattle.queue.proofs.change.touch.owned.Goals as goal

pub find_lent-requires : goal.find_lent-requires
find_lent-requires c = c.requires.1

pub returns-then-find_lent : goal.returns-then-find_lent
returns-then-find_lent c = own_yes c.args.id _ _ c.find_lent.ensures c.if-find_lent.true

pub is_output-requires : goal.is_output-requires
is_output-requires c = c.requires.0

pub returns : goal.returns
returns c = own_no c.args.id _ _ c.find_lent.ensures c.if-find_lent.false c.is_output.ensures
