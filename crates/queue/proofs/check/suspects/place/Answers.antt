use Rattle.queue.proofs.check.SuspectsRowLaws.{place_hex, place_raw}
use Rattle.queue.specs.bytes.ViewAs.{view_hex, view_raw}
use Rattle.std.proofs.Common.{arith}
use Rattle.queue.proofs.check.suspects.place.Goals as goal

pub overflow_mul-result : goal.overflow_mul-result
overflow_mul-result c = let h = view_hex c.args.s.now c.args.base c.if-hex.true in omega (arith, h, c.requires, c.well_formed.0)

pub overflow_add-result : goal.overflow_add-result
overflow_add-result c = let h = view_hex c.args.s.now c.args.base c.if-hex.true in omega (arith, h, c.requires, c.well_formed.0)

pub returns-then-hex : goal.returns-then-hex
returns-then-hex c = let h = view_hex c.args.s.now c.args.base c.if-hex.true in (place_hex c.args.hex _ _ _ c.if-hex.true, omega (arith, h, c.requires))

pub overflow_add-result-2 : goal.overflow_add-result-2
overflow_add-result-2 c = let h = view_raw c.args.s.now c.args.base c.if-hex.false in omega (arith, h, c.requires, c.well_formed.0)

pub returns : goal.returns
returns c = let h = view_raw c.args.s.now c.args.base c.if-hex.false in (place_raw c.args.hex _ _ _ c.if-hex.false, omega (arith, h, c.requires))
