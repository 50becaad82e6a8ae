-- What a host records ends with a line's end: nothing stands behind its last LF.
-- Assumes nothing.
use Rattle.std.proofs.lemmas.List.Elements.{All-nil}
use Rattle.std.proofs.Common.{ℕ, ◌≡◌, ◌≢◌, refl, ap, ◌∙◌, Bool, true, false, List, [], ◌∷◌, ◌++◌, append_assoc, codes}
use Rattle.text.specs.Outcomes.{CallResult}
use Rattle.text.proofs.Choices.{if_yes, if_no}
use Rattle.record.specs.declared.types.Device.{Device}
use Rattle.record.specs.declared.refusal.Refusal.{Refusal}
use Rattle.textio.specs.Lines.{cut_end}
use Rattle.textio.proofs.LinesEnded.{cut_last, cut_later}
use Rattle.history.specs.Entries.{LogEntry, call, is_sayable_entry, entry_text, entry_line}
use Rattle.history.specs.Recording.{header_next}
use Rattle.history.specs.declared.recorder.Recorder.{Recorder}
use Rattle.history.proofs.Chain.{Tried, served, refused, tried, stated_tried}
use Rattle.history.proofs.Logs.{no_lf}
use Rattle.history.proofs.Printable.{entry_no_lf}
use Rattle.recorded.specs.Recorded.{is_served, recorded_call}
use Rattle.recorded.specs.Hosts.{HostStep, begins, makes, states, step_written, device_by, host_log}

-- a line that was written, or none
line_end : (e : LogEntry) (more : List ℕ) → is_sayable_entry e ≡ true
    → cut_end [] (entry_line e ++ more) ≡ cut_end [] more
line_end e more h =
    ap (cut_end []) (append_assoc (entry_text e) (codes "\n") more)
    ∙ cut_later [] (entry_text e) more (no_lf (entry_text e) (entry_no_lf e h))

tried_end : {r : Recorder} {e : LogEntry} {w : CallResult Refusal (Unit {0}) Recorder} (more : List ℕ) → Tried r e w
    → cut_end [] (w.bytes ++ more) ≡ cut_end [] more
tried_end {e = e} more (served h free said bytes next) =
    ap (λ (b : List ℕ). cut_end [] (b ++ more)) bytes ∙ line_end e more h
tried_end more (refused said bytes next) = ap (λ (b : List ℕ). cut_end [] (b ++ more)) bytes

step_end : (r : Recorder) (d : Device) (s : HostStep) (n : ℕ) (more : List ℕ)
    → cut_end [] ((step_written r d s n).bytes ++ more) ≡ cut_end [] more
step_end r d (begins t) n more = tried_end more (tried r (header_next r t) n)
step_end r d states n more = tried_end more (stated_tried r d n)
step_end r d (makes c) n more = by (is_served d c) refl
  where
    by : (t : Bool) → is_served d c ≡ t → cut_end [] ((step_written r d (makes c) n).bytes ++ more) ≡ cut_end [] more
    by true h =
        ap (λ (w : CallResult Refusal (Unit {0}) Recorder). cut_end [] (w.bytes ++ more)) (if_yes _ _ h)
        ∙ tried_end more (tried r (call (recorded_call d c)) n)
    by false h = ap (λ (w : CallResult Refusal (Unit {0}) Recorder). cut_end [] (w.bytes ++ more)) (if_no _ _ h)

none_end : cut_end [] [] ≡ []
none_end = cut_last [] [] (All-nil (λ b. b ≢ 10))

pub host_log_ends : (ss : List (HostStep × ℕ)) (r : Recorder) (d : Device) → cut_end [] (host_log r d ss) ≡ []
host_log_ends [] r d = none_end
host_log_ends ((s, n) ∷ ss) r d =
    step_end r d s n (host_log (step_written r d s n).leaves (device_by d s) ss)
    ∙ host_log_ends ss (step_written r d s n).leaves (device_by d s)
