use Rattle.queue.proofs.change.OwnFlagLaws.{when_no, when_yes}
use Rattle.queue.specs.change.OwnAs.{bits_in}
use Rattle.queue.specs.check.FilterAs.{hash_l, mark_l}
use Rattle.std.specs.Prelude.{set, refl}
use Rattle.std.proofs.Common.{ap, ◌∙◌}
use Rattle.queue.proofs.change.own.note_id.Goals as goal

pub set_flag-requires : goal.set_flag-requires
set_flag-requires c = c.requires.0

pub mark-requires : goal.mark-requires
mark-requires c = c.requires.1

pub returns-then-found : goal.returns-then-found
returns-then-found c = (when_yes c.args.found (set (bits_in c.args.flags.now) c.args.g 1) (bits_in c.args.flags.now) c.if-found.true c.set_flag.ensures, when_yes c.args.found c.args.t.now (mark_l c.args.t.now (hash_l c.args.id)) c.if-found.true refl)

pub returns : goal.returns
returns c = (when_no c.args.found (set (bits_in c.args.flags.now) c.args.g 1) (bits_in c.args.flags.now) c.if-found.false refl, when_no c.args.found c.args.t.now (mark_l c.args.t.now (hash_l c.args.id)) c.if-found.false (c.mark.ensures ∙ ap (mark_l c.args.t.now) c.hash.ensures))
