use Rattle.std.proofs.Common.{◌∙◌, length-take-le}
use Rattle.device.specs.Calls.{reply_room}
use Rattle.board.proofs.Played.{put_front}
use Rattle.board.proofs.log.front.Goals as goal

pub returns : goal.returns
returns c = c.put.ensures ∙ put_front _ _ (length-take-le reply_room c.args.reply.now c.requires)
