use Rattle.queue.proofs.RefusalLaws.{unsound}
use Rattle.std.specs.Prelude.{◌/◌, length}
use Rattle.std.proofs.Common.{sym, ◌∙◌, ap}
use Rattle.queue.proofs.change.ReopenLaws.{lent_are, lent_in, lent_mod, lent_whole, reopen_2, reopen_3, reopen_5, reopen_5', reopen_rest}
use Rattle.queue.proofs.change.reopen.reopen.Goals as goal

pub returns-in_err-a : goal.returns-in_err-a
returns-in_err-a c = rw (unsound _ c.from_residual.ensures.1 c.in_err-a.ensures) (reopen_3 _ _ _ c.in_err-a.ensures.is)

pub returns-then-next-a : goal.returns-then-next-a
returns-then-next-a c = reopen_2 _ _ _ c.in_ok-a.ensures c.if-next-a.true

pub returns-then-n-ne0 : goal.returns-then-n-ne0
returns-then-n-ne0 c = reopen_5 _ _ _ c.in_ok-a.ensures c.if-next-a.false (λ e. c.if-n-ne0.true (lent_mod c.args.ids.now (c.len-n.ensures.is ∙ ap length c.new.ensures) e))

pub rise-requires : goal.rise-requires
rise-requires c = lent_in c.args.ids.now (c.len-n.ensures.is ∙ ap length c.new.ensures) (rw c.new.ensures at c.len-n.ensures.bytes) c.if-n-ne0.false

pub returns-then-not-rise : goal.returns-then-not-rise
returns-then-not-rise c = reopen_5' _ _ _ c.in_ok-a.ensures c.if-next-a.false (c.len-n.result / 32) (lent_whole c.args.ids.now (c.len-n.ensures.is ∙ ap length c.new.ensures) (rw c.new.ensures at c.len-n.ensures.bytes) c.if-n-ne0.false) (lent_are c.args.ids.now (c.len-n.ensures.is ∙ ap length c.new.ensures) (rw c.new.ensures at c.len-n.ensures.bytes) c.if-n-ne0.false) c.rise.ensures c.if-not-rise.true

pub reopen_those-requires : goal.reopen_those-requires
reopen_those-requires c = (c.in_ok-a.ensures, record { all = lent_in c.args.ids.now (c.len-n.ensures.is ∙ ap length c.new.ensures) (rw c.new.ensures at c.len-n.ensures.bytes) c.if-n-ne0.false; rise = sym c.rise.ensures ∙ c.if-not-rise.false }, c.if-next-a.false)

pub returns : goal.returns
returns c = reopen_rest _ _ _ c.in_ok-a.ensures c.if-next-a.false (c.len-n.result / 32) (lent_whole c.args.ids.now (c.len-n.ensures.is ∙ ap length c.new.ensures) (rw c.new.ensures at c.len-n.ensures.bytes) c.if-n-ne0.false) (lent_are c.args.ids.now (c.len-n.ensures.is ∙ ap length c.new.ensures) (rw c.new.ensures at c.len-n.ensures.bytes) c.if-n-ne0.false) c.rise.ensures c.if-not-rise.false c.reopen_those.ensures
