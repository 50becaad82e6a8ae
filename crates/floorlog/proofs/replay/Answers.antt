-- from the first line on, what is printed and left is what the log prints and leaves
use Rattle.std.proofs.Common.{arith}
use Rattle.std.proofs.lemmas.Option.{IfSome_then}
use Rattle.textio.specs.Ahead.{left_in}
use Rattle.textio.specs.Lines.{count_most, IsTooLong}
use Rattle.textio.proofs.Failures.{comes_of, short_enough}
use Rattle.textio.proofs.Fronts.{same_error}
use Rattle.textio.proofs.LinesCounted.{too_long_bytes}
use Rattle.floorlog.proofs.Observing.{on_failed}
use Rattle.floorlog.proofs.Replayed.{all_printed, all_played, played_so_far, too_long}
use Rattle.floorlog.proofs.replay.Goals as goal

pub returns-clause-whole : goal.returns-clause-whole
returns-clause-whole g c = grind (arith, all_played)

pub returns-clause-front : goal.returns-clause-front
returns-clause-front g c = grind (arith, all_printed)

pub returns-in_err-follow-clause-front : goal.returns-in_err-follow-clause-front
returns-in_err-follow-clause-front g c = grind (arith, all_printed)

pub returns-in_err-follow-clause-err : goal.returns-in_err-follow-clause-err
returns-in_err-follow-clause-err g c =
    same_error _ c.from_residual.result _
    (comes_of g.R.ByteSource.fails_with g.W.ByteSink.fails_with _ (left_in g.R.ByteSource.remaining c.args.from.now) _
    (too_long c.new-player.ensures.played c.new-player.ensures.device) c.in_err-follow.ensures.err)
    c.from_residual.ensures.1

pub returns-in_err-follow-clause-short : goal.returns-in_err-follow-clause-short
returns-in_err-follow-clause-short g c =
    short_enough g.R.ByteSource.fails_with g.W.ByteSink.fails_with IsTooLong count_most too_long_bytes
    (left_in g.R.ByteSource.remaining c.args.from.now) _ (returns-in_err-follow-clause-err g c)

pub returns-in_err-follow-clause-broken : goal.returns-in_err-follow-clause-broken
returns-in_err-follow-clause-broken g c =
    same_error _ c.from_residual.result _
    (on_failed _ (λ p. IfSome_then (left_in g.R.ByteSource.remaining c.args.from.now) p
    (λ log q. IfSome_then (left_in g.R.ByteSource.remaining c.follow.new.from) q
    (λ left b. played_so_far c.new-player.ensures.played c.new-player.ensures.device b)))
    c.in_err-follow.ensures.broken)
    c.from_residual.ensures.1
