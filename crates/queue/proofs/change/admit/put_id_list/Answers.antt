use Rattle.queue.proofs.bytes.PutLaws.{kept}
use Rattle.queue.proofs.change.AdmitLaws.{ids_put}
use Rattle.std.proofs.Common.{arith}
use Rattle.queue.proofs.change.admit.put_id_list.Goals as goal

pub copy_part-requires : goal.copy_part-requires
copy_part-requires c = record { read = omega arith; written = omega (arith, c.requires.2, c.put_be-a.ensures.next, kept c.put_be-a.ensures) }

pub returns : goal.returns
returns c = ids_put c.args.ids.now c.requires.0 c.requires.1 c.put_be-a.ensures c.copy_part.ensures
