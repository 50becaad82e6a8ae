-- A call of the recorder that returns what is promised of a served one was served.
-- Assumes nothing.
use Rattle.std.specs.Result.{is_ok}
use Rattle.std.proofs.Common.{ℕ, ◌≡◌, true, Result, arith}
use Rattle.text.specs.Outcomes.{CallResult, with_length}
use Rattle.record.specs.declared.refusal.Refusal.{Refusal}
use Rattle.history.specs.declared.recorder.Recorder.{Recorder}

pub served_ok : (r : Result ℕ Refusal) (w : CallResult Refusal (Unit {0}) Recorder) → r ≡ with_length w
    → is_ok w.says ≡ true
    → is_ok r ≡ true
served_ok r w e h = grind arith
