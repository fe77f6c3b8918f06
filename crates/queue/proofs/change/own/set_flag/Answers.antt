use Rattle.queue.proofs.change.OwnFlagLaws.{bit_of, flag_set, word_of}
use Rattle.std.specs.Prelude.{length, refl}
use Rattle.std.proofs.Common.{arith}
use Rattle.queue.proofs.change.own.set_flag.Goals as goal

pub bit-b-requires : goal.bit-b-requires
bit-b-requires c = bit_of c.args.g

pub offset_bounds-flags-i : goal.offset_bounds-flags-i
offset_bounds-flags-i c = omega (arith, word_of c.args.g (length c.args.flags.now) c.requires)

pub bounds-flags-i : goal.bounds-flags-i
bounds-flags-i c = word_of c.args.g (length c.args.flags.now) c.requires

pub offset_bounds-flags-i-2 : goal.offset_bounds-flags-i-2
offset_bounds-flags-i-2 c = omega (arith, word_of c.args.g (length c.args.flags.now) c.requires)

pub bounds-flags-i-2 : goal.bounds-flags-i-2
bounds-flags-i-2 c = word_of c.args.g (length c.args.flags.now) c.requires

pub returns : goal.returns
returns c = flag_set c.args.flags.now c.args.g c.requires refl c.bit-b.ensures refl refl
