use Rattle.queue.proofs.RefusalLaws.{handed, numbered, unsound}
use Rattle.queue.proofs.change.AdmitExitLaws.{admit_2, admit_3, admit_refused, admit_rest, asked_in, asked_rest, found_rest}
use Rattle.std.specs.Prelude.{refl}
use Rattle.queue.proofs.change.admit.admit_asked.Goals as goal

pub returns-in_err-a : goal.returns-in_err-a
returns-in_err-a c = rw (unsound _ c.from_residual.ensures.1 c.in_err-a.ensures) (admit_3 _ _ _ _ c.in_err-a.ensures.is)

pub returns-then-next-a : goal.returns-then-next-a
returns-then-next-a c = admit_2 c.args.cur.now c.args.next.now c.args.out.now c.in_ok-a.ensures _ c.if-next-a.true

pub asked_refusal-requires : goal.asked_refusal-requires
asked_refusal-requires c = c.requires.0

pub returns-in_err-asked_refusal : goal.returns-in_err-asked_refusal
returns-in_err-asked_refusal c = rw (handed _ c.from_residual-in_err-asked_refusal.ensures.1) (admit_refused c.args.cur.now c.args.next.now c.args.out.now c.in_ok-a.ensures c.if-next-a.false c.args.x c.in_err-asked_refusal.ensures (numbered _))

pub admit_named-requires : goal.admit_named-requires
admit_named-requires c = (c.in_ok-a.ensures, asked_rest c.args.x _ c.asked_by_flags-y.ensures (asked_in c.args.cur.now c.args.next.now c.args.out.now c.in_ok-a.ensures c.if-next-a.false c.args.x c.in_ok-asked_refusal.ensures refl c.requires.1), c.if-next-a.false)

pub returns : goal.returns
returns c = admit_rest c.args.cur.now c.args.next.now c.args.out.now c.in_ok-a.ensures c.if-next-a.false c.args.x c.in_ok-asked_refusal.ensures refl c.requires.1 (found_rest c.args.x c.args.inputs.now c.args.outputs.now c.args.reads.now c.args.bytes.now c.args.label.now c.args.tip.now c.args.cur.now c.args.next.now c.args.out.now c.asked_by_flags-y.ensures c.admit_named.ensures)
