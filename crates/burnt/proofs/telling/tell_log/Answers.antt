-- what stands before the first stretch, and then what is told of the log, by the observer of its kind
use Rattle.std.proofs.Common.{arith, ◌^◌, ◌∙◌}
use Rattle.std.proofs.lemmas.Option.{IfSome_then}
use Rattle.textio.specs.Ahead.{left_in}
use Rattle.textio.proofs.Failures.{comes_of, short_enough}
use Rattle.floorlog.specs.Kept.{kept_lines}
use Rattle.floorlog.proofs.Observing.{on_failed}
use Rattle.burnt.specs.Told.{head_of}
use Rattle.burnt.specs.LogTold.{told, IsTooMuch}
use Rattle.burnt.proofs.LinesTold.{begun_whole, begun_front, begun_cut}
use Rattle.burnt.proofs.ByKinds.{writes, begun_so, too_much_bytes, all_told, unplayed_left_so, too_much}
use Rattle.burnt.proofs.ByKinds.{stray_left_so, seconds_left_so, count_left_so, told_so_far}
use Rattle.burnt.proofs.telling.tell_log.Goals as goal

pub returns-in_err-map_err-clause-front : goal.returns-in_err-map_err-clause-front
returns-in_err-map_err-clause-front g c =
    let n = begun_so c.args.begun c.args.sum c.args.report c.new.result c.new.ensures.watch
    c.new.ensures.report c.new.ensures.starts c.new.ensures.lines c.new.ensures.unplayed c.new-2.result
    c.new-2.ensures.watch c.new-2.ensures.report
    c.new-2.ensures.starts c.new-2.ensures.log c.new-2.ensures.lines c.new-2.ensures.stray c.new-teller.result
    c.new-teller.ensures.observers c.new-teller.ensures.kind in
    begun_cut (left_in g.R.ByteSource.remaining c.args.from.now) _ _ (head_of c.args.report c.args.names)
    (λ log. writes c.new-teller.result (kept_lines log))
    (told c.args.begun c.args.sum (head_of c.args.report c.args.names) c.args.report)
    (all_told (head_of c.args.report c.args.names) n)
    c.begin.ensures.front

pub returns-in-Ok-clause-front : goal.returns-in-Ok-clause-front
returns-in-Ok-clause-front g c =
    let n = begun_so c.args.begun c.args.sum c.args.report c.new.result c.new.ensures.watch
    c.new.ensures.report c.new.ensures.starts c.new.ensures.lines c.new.ensures.unplayed c.new-2.result
    c.new-2.ensures.watch c.new-2.ensures.report
    c.new-2.ensures.starts c.new-2.ensures.log c.new-2.ensures.lines c.new-2.ensures.stray c.new-teller.result
    c.new-teller.ensures.observers c.new-teller.ensures.kind in
    begun_front (left_in g.R.ByteSource.remaining c.args.from.now) _ _ _ (head_of c.args.report c.args.names)
    (λ log. writes c.new-teller.result (kept_lines log))
    (told c.args.begun c.args.sum (head_of c.args.report c.args.names) c.args.report)
    (all_told (head_of c.args.report c.args.names) n)
    (grind arith) c.follow.ensures.front

pub returns-in-Err-clause-front : goal.returns-in-Err-clause-front
returns-in-Err-clause-front g c =
    let n = begun_so c.args.begun c.args.sum c.args.report c.new.result c.new.ensures.watch
    c.new.ensures.report c.new.ensures.starts c.new.ensures.lines c.new.ensures.unplayed c.new-2.result
    c.new-2.ensures.watch c.new-2.ensures.report
    c.new-2.ensures.starts c.new-2.ensures.log c.new-2.ensures.lines c.new-2.ensures.stray c.new-teller.result
    c.new-teller.ensures.observers c.new-teller.ensures.kind in
    begun_front (left_in g.R.ByteSource.remaining c.args.from.now) _ _ _ (head_of c.args.report c.args.names)
    (λ log. writes c.new-teller.result (kept_lines log))
    (told c.args.begun c.args.sum (head_of c.args.report c.args.names) c.args.report)
    (all_told (head_of c.args.report c.args.names) n)
    (grind arith) c.follow.ensures.front

pub returns-in-Ok-clause-whole : goal.returns-in-Ok-clause-whole
returns-in-Ok-clause-whole g c =
    let n = begun_so c.args.begun c.args.sum c.args.report c.new.result c.new.ensures.watch
    c.new.ensures.report c.new.ensures.starts c.new.ensures.lines c.new.ensures.unplayed c.new-2.result
    c.new-2.ensures.watch c.new-2.ensures.report
    c.new-2.ensures.starts c.new-2.ensures.log c.new-2.ensures.lines c.new-2.ensures.stray c.new-teller.result
    c.new-teller.ensures.observers c.new-teller.ensures.kind in
    begun_whole (left_in g.R.ByteSource.remaining c.args.from.now) _ _ _ (head_of c.args.report c.args.names)
    (λ log. writes c.new-teller.result (kept_lines log))
    (told c.args.begun c.args.sum (head_of c.args.report c.args.names) c.args.report)
    (all_told (head_of c.args.report c.args.names) n)
    (grind arith) c.in-Ok.ensures.whole

pub returns-in-Err-clause-broken : goal.returns-in-Err-clause-broken
returns-in-Err-clause-broken g c =
    let n = begun_so c.args.begun c.args.sum c.args.report c.new.result c.new.ensures.watch
    c.new.ensures.report c.new.ensures.starts c.new.ensures.lines c.new.ensures.unplayed c.new-2.result
    c.new-2.ensures.watch c.new-2.ensures.report
    c.new-2.ensures.starts c.new-2.ensures.log c.new-2.ensures.lines c.new-2.ensures.stray c.new-teller.result
    c.new-teller.ensures.observers c.new-teller.ensures.kind in
    on_failed c.in-Err.failure (λ p. IfSome_then (left_in g.R.ByteSource.remaining c.args.from.now) p
    (λ log q. IfSome_then (left_in g.R.ByteSource.remaining c.follow.new.from) q
    (λ left b. told_so_far (head_of c.args.report c.args.names) n (grind arith) b)))
    c.in-Err.ensures.broken

pub returns-in-Err-clause-err : goal.returns-in-Err-clause-err
returns-in-Err-clause-err g c =
    let n = begun_so c.args.begun c.args.sum c.args.report c.new.result c.new.ensures.watch
    c.new.ensures.report c.new.ensures.starts c.new.ensures.lines c.new.ensures.unplayed c.new-2.result
    c.new-2.ensures.watch c.new-2.ensures.report
    c.new-2.ensures.starts c.new-2.ensures.log c.new-2.ensures.lines c.new-2.ensures.stray c.new-teller.result
    c.new-teller.ensures.observers c.new-teller.ensures.kind in
    comes_of g.R.ByteSource.fails_with g.W.ByteSink.fails_with _ (left_in g.R.ByteSource.remaining c.args.from.now)
    c.in-Err.failure (too_much (head_of c.args.report c.args.names) n)
    c.in-Err.ensures.err

pub returns-in-Err-clause-short : goal.returns-in-Err-clause-short
returns-in-Err-clause-short g c =
    short_enough g.R.ByteSource.fails_with g.W.ByteSink.fails_with IsTooMuch (2 ^ 32) too_much_bytes
    (left_in g.R.ByteSource.remaining c.args.from.now) _ (returns-in-Err-clause-err g c)

pub returns-in-Ok-clause-ending : goal.returns-in-Ok-clause-ending
returns-in-Ok-clause-ending g c =
    let n = begun_so c.args.begun c.args.sum c.args.report c.new.result c.new.ensures.watch
    c.new.ensures.report c.new.ensures.starts c.new.ensures.lines c.new.ensures.unplayed c.new-2.result
    c.new-2.ensures.watch c.new-2.ensures.report
    c.new-2.ensures.starts c.new-2.ensures.log c.new-2.ensures.lines c.new-2.ensures.stray c.new-teller.result
    c.new-teller.ensures.observers c.new-teller.ensures.kind in
    IfSome_then (left_in g.R.ByteSource.remaining c.args.from.now) c.in-Ok.ensures.left
    (λ log left. record {
      stray = c.ending_of.ensures.stray ∙ stray_left_so (head_of c.args.report c.args.names) n
          c.follow.new.observer log left;
      unplayed = c.ending_of.ensures.unplayed ∙ unplayed_left_so (head_of c.args.report c.args.names) n
          c.follow.new.observer log left;
      seconds = c.ending_of.ensures.seconds ∙ seconds_left_so (head_of c.args.report c.args.names) n
          c.follow.new.observer log left;
      lines = c.ending_of.ensures.lines ∙ count_left_so (head_of c.args.report c.args.names) n
          c.follow.new.observer log left;
    })
