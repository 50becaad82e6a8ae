-- What `burnt` writes of a log of the second kind (RULES, History of a board): of its lines up to the first that does
-- not belong, and then of that one.
--   entries_left s r d ls    what the lines ls say that belong, where s is a line before them that did not;
--   stray_left s n r d ls    and the first that does not
--   chain_ended starts n stray r s   what stands at the end of a log that began with these seconds of its lamps and
--                                    leaves
--                            the state s, n lines of which belong
--   chain_told_from ..       what is written of the lines ls
--   chain_told d sum head way log   what is written of a whole log that begins with the device d, as the report `way`
--                                   has it: first the text `head`
--   chain_seconds d sum log  the seconds that it lets pass
--   chain_stray d sum log    its first line that does not belong
--   IsChainUntold log        it has more lines, or more bytes in one, or says more seconds, than 64 bits count
-- Assumes nothing.
use Rattle.std.specs.Prelude.{ℕ, ◌+◌, ◌^◌, ◌≤◌, ◌⊎◌, min, List, [], ◌++◌, length, sum_by}
use Rattle.std.specs.Prelude.{Option, Some, None, option_map}
use Rattle.record.specs.declared.types.Device.{Device}
use Rattle.textio.specs.Lines.{LogLine, texts_of, IsTooLong}
use Rattle.floorlog.specs.Kept.{kept_lines}
use Rattle.history.specs.Entries.{LogEntry}
use Rattle.history.specs.declared.recorder.Recorder.{Recorder}
use Rattle.recorded.specs.Following.{chain_begun, belonging, FirstStray, stray_from, stray_text}
use Rattle.watch.specs.CallSteps.{entry_steps, said_seconds}
use Rattle.watch.specs.Watching.{Watching, watching_from, burnt_by}
use Rattle.watch.specs.Telling.{after_log}
use Rattle.report.specs.Reports.{ended_until}
use Rattle.report.specs.declared.Report.{Report}
use Rattle.burnt.specs.Told.{told_from}

abbrev pub entries_left : Option FirstStray → Recorder → Device → List LogLine → List LogEntry
entries_left (Some s) r d ls = []
entries_left None r d ls = belonging r d ls

abbrev pub stray_left : Option FirstStray → ℕ → Recorder → Device → List LogLine → Option FirstStray
stray_left (Some s) n r d ls = Some s
stray_left None n r d ls = stray_from n r d ls

abbrev pub chain_ended : List ℕ → ℕ → Option FirstStray → Report → Watching → List ℕ
chain_ended starts n stray r s =
    ended_until r s.time (min s.device.settings.lamp_count 8) starts (burnt_by s) s.device.own.lamps n
    (option_map stray_text stray)

abbrev pub chain_told_from : List ℕ → Option FirstStray → ℕ → Recorder → Report → Watching → List LogLine → List ℕ
chain_told_from starts stray n log r s ls =
    let es = entries_left stray log s.device ls in
    told_from (chain_ended starts (n + length es) (stray_left stray n log s.device ls)) r s (entry_steps s.device es)

abbrev pub chain_told : Device → ℕ → List ℕ → Report → List ℕ → List ℕ
chain_told d sum head way log =
    head ++ chain_told_from d.own.lamps None 0 (chain_begun sum) way (watching_from d) (kept_lines log)

abbrev pub chain_seconds : Device → ℕ → List ℕ → ℕ
chain_seconds d sum log =
    (after_log (watching_from d) (entry_steps d (belonging (chain_begun sum) d (kept_lines log)))).time

abbrev pub chain_stray : Device → ℕ → List ℕ → Option FirstStray
chain_stray d sum log = stray_from 0 (chain_begun sum) d (kept_lines log)

abbrev pub IsChainUntold : List ℕ → Type 0
IsChainUntold log = IsTooLong log ⊎ (2 ^ 64 ≤ sum_by said_seconds (texts_of (kept_lines log)))
