-- what is written so far is a front of what is written of the log; in the end it is all
use Rattle.std.proofs.Common.{arith}
use Rattle.std.proofs.lemmas.Option.{IfSome_then}
use Rattle.std.proofs.lemmas.Result.{on_ok_weaker}
use Rattle.textio.specs.Ahead.{left_in}
use Rattle.textio.proofs.Fronts.{same_error}
use Rattle.floorlog.specs.KeptText.{kept_line}
use Rattle.floorlog.proofs.Observing.{begun, flushed, so_far, observed, broken, breaks, on_failed, ended, left_so}
use Rattle.floorlog.proofs.observer.follow.Goals as goal

pub loop-init : goal.loop-init
loop-init g c = grind (arith, begun)

pub loop-preserved : goal.loop-preserved
loop-preserved g c =
    let next = c.in_ok-read.ensures.next c.if-not-branch.false in
    IfSome_then (left_in g.R.ByteSource.remaining c.args.from.now) c.loop.invariant
    (λ log u. observed (flushed u c.read.ensures.keeps) _ (kept_line c.read.new.self) next c.in_ok-line.ensures.ok)

pub returns-in_err-read-clause-front : goal.returns-in_err-read-clause-front
returns-in_err-read-clause-front g c = grind (arith, so_far)

pub returns-then-not-branch-clause-whole : goal.returns-then-not-branch-clause-whole
returns-then-not-branch-clause-whole g c = grind (arith, ended)

pub returns-then-not-branch-clause-left : goal.returns-then-not-branch-clause-left
returns-then-not-branch-clause-left g c =
    let none = c.in_ok-read.ensures.end c.if-not-branch.true in
    on_ok_weaker c.map_err.result
    (λ h. IfSome_then (left_in g.R.ByteSource.remaining c.args.from.now) c.loop.invariant
    (λ log u. left_so u none _ h)) (grind arith)

pub returns-then-not-branch-clause-front : goal.returns-then-not-branch-clause-front
returns-then-not-branch-clause-front g c =
    let none = c.in_ok-read.ensures.end c.if-not-branch.true in
    IfSome_then (left_in g.R.ByteSource.remaining c.args.from.now) c.loop.invariant
    (λ log u. (ended (flushed u c.read.ensures.keeps) none c.end.ensures.text).front)

pub returns-in_err-line-clause-front : goal.returns-in_err-line-clause-front
returns-in_err-line-clause-front g c =
    let next = c.in_ok-read.ensures.next c.if-not-branch.false in
    IfSome_then (left_in g.R.ByteSource.remaining c.args.from.now) c.loop.invariant
    (λ log u. broken (flushed u c.read.ensures.keeps) _ (kept_line c.read.new.self) next c.in_err-line.ensures.front)

pub returns-clause-front : goal.returns-clause-front
returns-clause-front g c = grind (arith, so_far)

pub returns-in_err-read-clause-broken : goal.returns-in_err-read-clause-broken
returns-in_err-read-clause-broken g c =
    same_error _ c.from_residual.result _
    (on_failed _ (λ p. IfSome_then (left_in g.R.ByteSource.remaining c.args.from.now) c.loop.invariant
    (λ log u. breaks u _ _ p c.read.ensures.keeps)) c.in_err-read.ensures.part)
    c.from_residual.ensures.1
