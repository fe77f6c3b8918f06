use Rattle.std.proofs.lemmas.Bool.{le-leb, lt-leb}
use Rattle.image.proofs.frames.caller_end.Goals as goal

pub returns-then-kind-ge-CALLERS : goal.returns-then-kind-ge-CALLERS
returns-then-kind-ge-CALLERS c = rw (le-leb 4 c.args.kind c.if-kind-ge-CALLERS.true)

pub returns-else-kind-ge-CALLERS : goal.returns-else-kind-ge-CALLERS
returns-else-kind-ge-CALLERS c = rw (lt-leb 4 c.args.kind c.if-kind-ge-CALLERS.false)
