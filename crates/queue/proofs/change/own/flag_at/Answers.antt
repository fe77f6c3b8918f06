use Rattle.std.specs.Prelude.{◌%◌, length, refl}
use Rattle.std.proofs.Common.{arith}
use Rattle.queue.proofs.change.OwnFlagLaws.{bit_of, flag_is, pow_some, word_of}
use Rattle.queue.proofs.change.own.flag_at.Goals as goal

pub offset_bounds-flags-g : goal.offset_bounds-flags-g
offset_bounds-flags-g c = omega (arith, word_of c.args.g (length c.args.flags.now) c.requires)

pub bounds-flags-g : goal.bounds-flags-g
bounds-flags-g c = word_of c.args.g (length c.args.flags.now) c.requires

pub bit-b-requires : goal.bit-b-requires
bit-b-requires c = bit_of c.args.g

pub nonzero_div-result : goal.nonzero_div-result
nonzero_div-result c = omega (arith, pow_some (c.args.g % 64) c.bit-b.ensures)

pub returns : goal.returns
returns c = flag_is c.args.flags.now c.args.g c.requires refl c.bit-b.ensures refl
