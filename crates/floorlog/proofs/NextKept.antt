-- What is kept of the next line, in front of a memory that has room for a byte more.
-- Assumes nothing.
use Rattle.std.proofs.Common.{None, Some, Ok, Err, Result, IfOk, IfSome, ℕ, ◌≤◌, ◌≡◌, List, [], arith, length, take}
use Rattle.std.proofs.Common.{take-take}
use Rattle.std.proofs.lemmas.Option.{IfSome_then}
use Rattle.std.specs.declared.option.Option.{Option}
use Rattle.textio.specs.NextLine.{line_in, IsLine, IsNextLine}
use Rattle.textio.specs.declared.lines.LineRead.{LineRead}
use Rattle.textio.specs.declared.lines.Failure.{Failure}
use Rattle.floorlog.specs.Kept.{kept_most}

module _ (left left_then : Option (List ℕ)) (whole memory : List ℕ) (front : take kept_most whole ≡ memory)
    (long : length memory ≡ kept_most) where
  pub next_kept : (r : Result (Option LineRead) Failure) → IfOk r (λ held. IfSome held (λ l. l.held ≤ length memory))
      → IfOk r (λ held. IfSome left (λ log. IsNextLine log left_then memory held))
      → IfOk r (λ held. IfSome held (λ l. IfSome left (λ log. IsLine log left_then kept_most (line_in whole l))))
  next_kept (Ok (Some l)) inside next =
      IfSome_then left next
      (λ log line. rw (long, ← front, take-take l.held kept_most whole (omega (arith, inside, long))) at line)
  next_kept (Ok None) inside next = tt
  next_kept (Err e) inside next = tt

pub none_kept : (left left_then : Option (List ℕ)) (memory : List ℕ) (r : Result (Option LineRead) Failure)
    → IfOk r (λ held. IfSome left (λ log. IsNextLine log left_then memory held))
    → IfOk r (λ held. held ≡ None → IfSome left (λ log. log ≡ []))
none_kept left left_then memory r h = grind arith
