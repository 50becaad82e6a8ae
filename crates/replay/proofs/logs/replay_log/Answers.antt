-- from the first line on, what is printed is what the log of its kind prints
use Rattle.std.proofs.Common.{subst, sym, ◌∙◌}
use Rattle.std.proofs.lemmas.Option.{IfSome_then}
use Rattle.std.specs.Io.KnownBytes.{Appends}
use Rattle.textio.specs.Ahead.{left_in}
use Rattle.textio.specs.Fronts.{WritesFront}
use Rattle.textio.specs.Lines.{count_most, IsTooLong}
use Rattle.textio.proofs.Failures.{comes_of, short_enough}
use Rattle.textio.proofs.Fronts.{same_error}
use Rattle.textio.proofs.LinesCounted.{too_long_bytes}
use Rattle.floorlog.proofs.Observing.{on_failed}
use Rattle.replay.proofs.LogsPlayed.{begins, all_text, unplayed_found, too_long, so_far}
use Rattle.replay.proofs.logs.replay_log.Goals as goal

pub returns-in_err-follow-clause-front : goal.returns-in_err-follow-clause-front
returns-in_err-follow-clause-front g c =
    let b = begins c.new-players.ensures.observers c.new-players.ensures.kind c.new-events.ensures.device
    c.new-events.ensures.played c.new-events.ensures.unplayed c.new-history.ensures.device c.new-history.ensures.log
    c.new-history.ensures.lines c.new-history.ensures.stray in
    IfSome_then (left_in g.R.ByteSource.remaining c.args.from.now) c.follow.ensures.front
    (λ log f. subst (WritesFront _ _) (all_text b log) f)

pub returns-in_err-follow-clause-err : goal.returns-in_err-follow-clause-err
returns-in_err-follow-clause-err g c =
    let b = begins c.new-players.ensures.observers c.new-players.ensures.kind c.new-events.ensures.device
    c.new-events.ensures.played c.new-events.ensures.unplayed c.new-history.ensures.device c.new-history.ensures.log
    c.new-history.ensures.lines c.new-history.ensures.stray in
    same_error _ c.from_residual.result _
    (comes_of g.R.ByteSource.fails_with g.W.ByteSink.fails_with _ (left_in g.R.ByteSource.remaining c.args.from.now) _
    (too_long b) c.in_err-follow.ensures.err)
    c.from_residual.ensures.1

pub returns-in_err-follow-clause-short : goal.returns-in_err-follow-clause-short
returns-in_err-follow-clause-short g c =
    short_enough g.R.ByteSource.fails_with g.W.ByteSink.fails_with IsTooLong count_most too_long_bytes
    (left_in g.R.ByteSource.remaining c.args.from.now) _ (returns-in_err-follow-clause-err g c)

pub returns-in_err-follow-clause-broken : goal.returns-in_err-follow-clause-broken
returns-in_err-follow-clause-broken g c =
    let b = begins c.new-players.ensures.observers c.new-players.ensures.kind c.new-events.ensures.device
    c.new-events.ensures.played c.new-events.ensures.unplayed c.new-history.ensures.device c.new-history.ensures.log
    c.new-history.ensures.lines c.new-history.ensures.stray in
    same_error _ c.from_residual.result _
    (on_failed _ (λ p. IfSome_then (left_in g.R.ByteSource.remaining c.args.from.now) p
    (λ log q. IfSome_then (left_in g.R.ByteSource.remaining c.follow.new.from) q
    (λ left k. so_far b k)))
    c.in_err-follow.ensures.broken)
    c.from_residual.ensures.1

pub returns-else-is_history-clause-whole : goal.returns-else-is_history-clause-whole
returns-else-is_history-clause-whole g c =
    let b = begins c.new-players.ensures.observers c.new-players.ensures.kind c.new-events.ensures.device
    c.new-events.ensures.played c.new-events.ensures.unplayed c.new-history.ensures.device c.new-history.ensures.log
    c.new-history.ensures.lines c.new-history.ensures.stray in
    IfSome_then (left_in g.R.ByteSource.remaining c.args.from.now) c.in_ok-follow.ensures.whole
    (λ log w. subst (Appends _ _) (all_text b log) w)

pub returns-else-is_history-clause-front : goal.returns-else-is_history-clause-front
returns-else-is_history-clause-front g c =
    let b = begins c.new-players.ensures.observers c.new-players.ensures.kind c.new-events.ensures.device
    c.new-events.ensures.played c.new-events.ensures.unplayed c.new-history.ensures.device c.new-history.ensures.log
    c.new-history.ensures.lines c.new-history.ensures.stray in
    IfSome_then (left_in g.R.ByteSource.remaining c.args.from.now) c.follow.ensures.front
    (λ log f. subst (WritesFront _ _) (all_text b log) f)

pub returns-else-is_history-clause-unplayed : goal.returns-else-is_history-clause-unplayed
returns-else-is_history-clause-unplayed g c =
    let b = begins c.new-players.ensures.observers c.new-players.ensures.kind c.new-events.ensures.device
    c.new-events.ensures.played c.new-events.ensures.unplayed c.new-history.ensures.device c.new-history.ensures.log
    c.new-history.ensures.lines c.new-history.ensures.stray in
    IfSome_then (left_in g.R.ByteSource.remaining c.args.from.now) c.in_ok-follow.ensures.left
    (λ log left. c.unplayed.ensures ∙ unplayed_found b c.follow.new.observer log left
    (sym c.is_history.ensures ∙ c.if-is_history.false))
