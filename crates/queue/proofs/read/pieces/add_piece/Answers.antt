use Rattle.queue.proofs.read.PiecesLaws.{add_no, add_room, add_yes}
use Rattle.queue.proofs.read.pieces.add_piece.Goals as goal

pub put_piece-requires : goal.put_piece-requires
put_piece-requires c = (c.requires.0, add_room c.args.w c.args.x _ _ c.passes.ensures c.if-passes.true c.requires.1)

pub returns-then-passes : goal.returns-then-passes
returns-then-passes c = add_yes c.args.w c.args.src.now c.args.base c.args.x c.passes.ensures c.if-passes.true c.put_piece.ensures

pub returns : goal.returns
returns c = add_no c.args.w c.args.src.now c.args.base c.args.x c.passes.ensures c.if-passes.false _ _
