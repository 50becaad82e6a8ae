-- No log prints a failure line last by itself: before the last LF of what is printed for a whole log stands a digit, or
-- the `s` of `lamps`, and before that of a failure line a `d` or an `f`.
-- Assumes nothing.
use Rattle.std.proofs.Common.{◌≡◌, refl, sym, ◌∙◌, List, ◌++◌, append_assoc, ℕ, codes}
use Prim.Native.Char.{code}
use Rattle.record.specs.declared.types.Device.{Device}
use Rattle.textio.specs.declared.lines.Failure.{Failure}
use Rattle.textio.specs.declared.lines.Failure.TheVariants.{Read, Write, TooLong}
use Rattle.floorlog.specs.Playing.{replay_text}
use Rattle.floorlog.proofs.LastLineEnds.{no_log_ends_in}
use Rattle.floorlog.specs.Cuts.{failure_line}

pub no_log_prints : (f : Failure) (d : Device) (log before : List ℕ) → replay_text d log ≡ before ++ failure_line f → ⊥
no_log_prints (Read x) d log before e =
    no_log_ends_in d log (before ++ codes "! read faile") (code "d") refl
    (e ∙ sym (append_assoc before (codes "! read faile") (codes "d\n")))
no_log_prints (Write x) d log before e =
    no_log_ends_in d log (before ++ codes "! write faile") (code "d") refl
    (e ∙ sym (append_assoc before (codes "! write faile") (codes "d\n")))
no_log_prints TooLong d log before e =
    no_log_ends_in d log (before ++ codes "! broken of") (code "f") refl
    (e ∙ sym (append_assoc before (codes "! broken of") (codes "f\n")))
