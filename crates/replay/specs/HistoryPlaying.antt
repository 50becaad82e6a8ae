-- What a `HistoryPlayer` prints of the lines that are left of a history, and how they leave it.
--   entries_then s r d ls  what the lines ls say that belong, where s is a line before them that did not;
--   stray_with s n r d ls  and the first that does not
--   printed_then s n r d ls   what is printed for them
--   player_prints p ls     this, for the player p
--   IsHistoryLeft p ls last     they leave it so
-- Assumes nothing.
use Rattle.std.specs.Prelude.{ℕ, ◌≡◌, List, [], Option, Some, None, option_map}
use Rattle.textio.specs.Lines.{LogLine}
use Rattle.record.specs.declared.types.Device.{Device}
use Rattle.floorlog.specs.LastLine.{last_device_line}
use Rattle.history.specs.Entries.{LogEntry}
use Rattle.history.specs.declared.recorder.Recorder.{Recorder}
use Rattle.recorded.specs.Following.{belonging, FirstStray, stray_seen, stray_from}
use Rattle.replay.specs.HistoryText.{device_after, end_text_of, history_text}
use Rattle.replay.specs.declared.playing.HistoryPlayer.{HistoryPlayer}

abbrev pub entries_then : Option FirstStray → Recorder → Device → List LogLine → List LogEntry
entries_then (Some s) r d ls = []
entries_then None r d ls = belonging r d ls

abbrev pub stray_with : Option FirstStray → ℕ → Recorder → Device → List LogLine → Option FirstStray
stray_with (Some s) n r d ls = Some s
stray_with None n r d ls = stray_from n r d ls

abbrev pub printed_then : Option FirstStray → ℕ → Recorder → Device → List LogLine → List ℕ
printed_then (Some s) n r d ls = end_text_of d (Some s)
printed_then None n r d ls = history_text n r d ls

abbrev pub player_prints : HistoryPlayer → List LogLine → List ℕ
player_prints p ls = printed_then (option_map stray_seen p.stray) p.lines p.log p.tested.device ls

pub record IsHistoryLeft (p : HistoryPlayer) (ls : List LogLine) (last : HistoryPlayer) : Type 0 where
  pub stray : option_map stray_seen last.stray
      ≡ stray_with (option_map stray_seen p.stray) p.lines p.log p.tested.device ls
  pub shows : last_device_line last.tested.device
      ≡ last_device_line (device_after p.tested.device
      (entries_then (option_map stray_seen p.stray) p.log p.tested.device ls))
