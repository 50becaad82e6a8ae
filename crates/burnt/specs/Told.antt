-- What `burnt` writes of a log, and what of one of the first kind (RULES, Floor log).
--   tellings_text r ts       what is written of stretches that end one after the other, where the report stands at r
--   report_after r ts        how the report stands then
--   told_within s es         the stretches that end with the steps es, from the state s on, and not with the log
--   told_from end r s es     what is written of the steps es, from the state s on, and at their end: the stretches that
--                            are under way, and then what `end` says of the report and the state there
--   head_of r names          what is written before the first stretch, of a log in these files
--   words_unplayed u         the words for what was not played, if anything was not
--   totals_text starts u r s   what stands at the end of a log of the first kind that began with these seconds of its
--                            lamps, of which u was not played, and that leaves the state s
--   log_told d head way log  what is written of a whole log of the first kind that begins with the device d, as the
--                            report `way` has it: first the text `head`
--   IsUntold log             it has more lines, or more bytes in one, or lets more seconds pass, than 64 bits count
-- Assumes nothing.
use Rattle.std.specs.Prelude.{ℕ, ◌+◌, ◌==◌, ◌⊎◌, min, if◌then◌else◌, List, [], ◌∷◌, ◌++◌, Option, Some, None}
use Rattle.record.specs.declared.types.Device.{Device}
use Rattle.clock.specs.Second.{marks_in}
use Rattle.textio.specs.Lines.{IsTooLong}
use Rattle.floorlog.specs.Unplayed.{unplayed_text}
use Rattle.floorlog.specs.declared.unplayed.Unplayed.{Unplayed}
use Rattle.watch.specs.Watching.{Step, Watching, watching_from, watched_on, burnt_by}
use Rattle.watch.specs.Telling.{log_steps, LitStretch, told_on, lit_stretches, after_log, floor_unplayed, IsUncounted}
use Rattle.report.specs.Reports.{begun_text, given_text, texts_given, report_told, told_text, ended_text}
use Rattle.report.specs.declared.page.FileNames.{FileNames}
use Rattle.report.specs.declared.Report.{Report}

unfoldable pub tellings_text : Report → List LitStretch → List ℕ
tellings_text r [] = []
tellings_text r (t ∷ ts) =
    let lit = marks_in t.device.settings t.device.own in
    told_text r lit t.from t.to ++ tellings_text (report_told r lit t.from t.to) ts

unfoldable pub report_after : Report → List LitStretch → Report
report_after r [] = r
report_after r (t ∷ ts) = report_after (report_told r (marks_in t.device.settings t.device.own) t.from t.to) ts

unfoldable pub told_within : Watching → List Step → List LitStretch
told_within s [] = []
told_within s (e ∷ es) = told_on s e ++ told_within (watched_on s e) es

abbrev pub told_from : (Report → Watching → List ℕ) → Report → Watching → List Step → List ℕ
told_from end r s es = let ts = lit_stretches s es in tellings_text r ts ++ end (report_after r ts) (after_log s es)

abbrev pub head_of : Report → FileNames → List ℕ
head_of r names = begun_text r (given_text names.form) (texts_given names.logs.now)

-- ---- of a log of the first kind

abbrev pub words_unplayed : Unplayed → Option (List ℕ)
words_unplayed u = if u.misread + u.refused == 0 then None else Some (unplayed_text u)

abbrev pub totals_text : List ℕ → Unplayed → Report → Watching → List ℕ
totals_text starts u r s =
    ended_text r s.time (min s.device.settings.lamp_count 8) starts (burnt_by s) s.device.own.lamps (words_unplayed u)

abbrev pub log_told : Device → List ℕ → Report → List ℕ → List ℕ
log_told d head way log =
    head
    ++ told_from (totals_text d.own.lamps (floor_unplayed d log)) way (watching_from d) (log_steps d log)

abbrev pub IsUntold : List ℕ → Type 0
IsUntold log = IsTooLong log ⊎ IsUncounted log
