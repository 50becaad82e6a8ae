-- the parts of the line that is read, up to its LF or to the end
use Rattle.std.proofs.Common.{rules, ◌+◌, [], arith, subst, ℕ, List, sym}
use Rattle.std.proofs.KnownBytes.{Keeps-refl}
use Rattle.textio.specs.Ahead.{left_in}
use Rattle.textio.specs.NextLine.{TakesPart}
use Rattle.textio.proofs.Parts.{none_read, joined, read_part, whole_line, last_line, endless}
use Rattle.textio.proofs.lines.next_line.Goals as goal

pub loop-init : goal.loop-init
loop-init g c = record { read = none_read _ c.args.line.now; keeps = Keeps-refl _; room = search rules }

pub loop-preserved : goal.loop-preserved
loop-preserved g c = grind (arith, joined)

pub returns-in-Ok-Whole-clause-next : goal.returns-in-Ok-Whole-clause-next
returns-in-Ok-Whole-clause-next g c =
    let read = joined c.loop.invariant.read (rw c.in-Ok-Whole.field-0-is at c.in-Ok-Whole.ensures.ok) (omega arith) in
    whole_line (left_in g.R.ByteSource.remaining c.args.from.now)
    (left_in g.R.ByteSource.remaining c.take_shown.new.from)
    c.take_shown.new.line (c.loop.counter + 0) c.in-Ok-Whole.place read

pub returns-in-Ok-End-2-clause-next : goal.returns-in-Ok-End-2-clause-next
returns-in-Ok-End-2-clause-next g c =
    let end = rw c.in-Ok-End.field-0-is at c.in-Ok-End.ensures.ok in
    let old = left_in g.R.ByteSource.remaining c.args.from.now in
    let mid = left_in g.R.ByteSource.remaining c.loop.from in
    let read =
    subst (λ (m : List ℕ). TakesPart old mid c.loop.counter [] m c.loop.held []) (sym end.2) c.loop.invariant.read in
    last_line old (left_in g.R.ByteSource.remaining c.take_shown.new.from) c.take_shown.new.line mid c.loop.counter
    c.loop.held read end.0 end.1 (omega arith)

pub returns-clause-err : goal.returns-clause-err
returns-clause-err g c =
    endless (left_in g.R.ByteSource.remaining c.args.from.now) (left_in g.R.ByteSource.remaining c.loop.from)
    c.loop.line
    (left_in g.R.ByteSource.remaining c.loop.from) c.loop.counter c.loop.held c.loop.invariant.read (omega arith)

-- a read fails only where no byte was read ahead, and then nothing waits
pub returns-in-Err-clause-none_waits : goal.returns-in-Err-clause-none_waits
returns-in-Err-clause-none_waits g c = grind arith

pub returns-in-Err-clause-part : goal.returns-in-Err-clause-part
returns-in-Err-clause-part g c = read_part c.loop.invariant.read c.in-Err.ensures.kept
