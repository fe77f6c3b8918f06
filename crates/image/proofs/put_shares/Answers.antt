use Rattle.std.specs.Prelude.{ℕ, length, List, ◌≡◌, refl}
use Rattle.std.proofs.Common.{rules, take_all, arith}
use Rattle.queue.proofs.bytes.PutLaws.{recast}
use Rattle.image.proofs.put_shares.Goals as goal

pub returns : goal.returns
returns c = let s : List ℕ = c.args.shares in let l : length s ≡ 64 = search rules in recast c.copy_part.ensures (take_all 64 s (omega arith)) refl refl
