use Rattle.queue.proofs.bytes.PutLaws.{kept}
use Rattle.queue.proofs.change.WriteNextLaws.{new_room, none_room, old_room, place_gone, place_new, place_old}
use Rattle.std.specs.Prelude.{length}
use Rattle.std.proofs.Common.{ap, arith}
use Rattle.queue.specs.change.TouchAs.{verdict_numbers}
use Rattle.queue.proofs.change.VerdictLaws.{code_not}
use Rattle.queue.specs.change.VerdictAs.{verdict_code}
use Rattle.queue.specs.declared.change.verdict.Verdict.TheVariants.{Confirmed, Reopened}
use Rattle.queue.proofs.change.write.put_place.Goals as goal

pub put_u8-a-requires : goal.put_u8-a-requires
put_u8-a-requires c = omega (arith, new_room c.args.src.now c.args.base c.args.x c.args.t.now (verdict_numbers c.args.v) c.args.at (length c.args.dst.now) (ap verdict_code c.in-Confirmed.is) c.requires.2)

pub overflow_add-v : goal.overflow_add-v
overflow_add-v c = omega (arith, c.requires.1 (ap verdict_code c.in-Confirmed.is), c.well_formed.1)

pub copy_part-requires : goal.copy_part-requires
copy_part-requires c = record { read = omega (arith, c.requires.1 (ap verdict_code c.in-Confirmed.is)); written = omega (arith, new_room c.args.src.now c.args.base c.args.x c.args.t.now (verdict_numbers c.args.v) c.args.at (length c.args.dst.now) (ap verdict_code c.in-Confirmed.is) c.requires.2, c.put_u8-a.ensures.next, kept c.put_u8-a.ensures) }

pub returns-in-Confirmed : goal.returns-in-Confirmed
returns-in-Confirmed c = place_new c.args.src.now c.args.base c.args.x c.args.t.now (verdict_numbers c.args.v) (ap verdict_code c.in-Confirmed.is) c.put_u8-a.ensures c.copy_part.ensures

pub put_u8-requires : goal.put_u8-requires
put_u8-requires c = none_room c.args.src.now c.args.base c.args.x c.args.t.now (verdict_numbers c.args.v) c.args.at (length c.args.dst.now) (λ e. let y : ⊥ = omega (arith, ap verdict_code c.in-Reopened.is) in y) (ap verdict_code c.in-Reopened.is) c.requires.2

pub returns-in-Reopened : goal.returns-in-Reopened
returns-in-Reopened c = place_gone c.args.src.now c.args.base c.args.x c.args.t.now (verdict_numbers c.args.v) (λ e. let y : ⊥ = omega (arith, ap verdict_code c.in-Reopened.is) in y) (ap verdict_code c.in-Reopened.is) c.put_u8.ensures

pub overflow_add-base : goal.overflow_add-base
overflow_add-base c = omega (arith, c.requires.0.within, c.requires.0.up_place, c.requires.0.up_body, c.well_formed.0)

pub overflow_sub-x : goal.overflow_sub-x
overflow_sub-x c = c.requires.0.up_place

pub copy_part-requires-in_default : goal.copy_part-requires-in_default
copy_part-requires-in_default c = record { read = omega (arith, c.requires.0.within, c.requires.0.up_place, c.requires.0.up_body); written = old_room c.args.src.now c.args.base c.args.x c.args.t.now (verdict_numbers c.args.v) c.args.at (length c.args.dst.now) (code_not Confirmed c.in_default.not-Confirmed) (code_not Reopened c.in_default.not-Reopened) c.requires.2 }

pub returns-in_default : goal.returns-in_default
returns-in_default c = place_old c.args.src.now c.args.base c.args.x c.args.t.now (verdict_numbers c.args.v) (code_not Confirmed c.in_default.not-Confirmed) (code_not Reopened c.in_default.not-Reopened) c.copy_part-in_default.ensures
