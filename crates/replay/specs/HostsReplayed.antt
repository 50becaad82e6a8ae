-- What `replay` prints for a log that a host recorded, beside the replies that the host's board gave (RULES, History of
-- a board).
--   replied_lines n ss    lines numbered from n + 1 on, which were replied ss
--   entry_replies es ss   what each of the entries es was replied, where the calls among them were replied ss: a header
--                         and a stated line get no reply
--   cut_stray log         what follows the last LF of the log, if anything does, which does not belong
--   HostReplayed d ss log stray text   the lines of the log are those of the steps ss, made on the record d; the text
--                         gives each its number and the reply that the host's board gave, and then the power and lamps
--                         of that board; and no line is stray but what a cut left
--   HostReplays d sum ss  that is so of all that a host writes; and of what is left of it, cut at any byte, for a front
--                         of what the host did
--   HostsReplayed         that is so of each host
-- Assumes nothing.
use Rattle.std.specs.Prelude.{ℕ, ◌+◌, ◌≤◌, ◌<◌, ◌^◌, ◌≡◌, ◌==◌, List, [], ◌∷◌, ◌++◌, length, take, map, if◌then◌else◌}
use Rattle.std.specs.Prelude.{Option, Some, None}
use Rattle.textio.specs.Lines.{lines_ended, cut_end}
use Rattle.record.specs.declared.types.Device.{Device}
use Rattle.ours.specs.Board.{ours}
use Rattle.demands.specs.Calls.{run}
use Rattle.history.specs.Entries.{LogEntry, call, entry_in}
use Rattle.recorded.specs.Recorded.{recorded, replies_of}
use Rattle.recorded.specs.Playing.{entry_calls}
use Rattle.recorded.specs.Chain.{unended}
use Rattle.recorded.specs.Following.{chain_begun, FirstStray}
use Rattle.recorded.specs.Hosts.{HostStep, host_log, step_calls, AreKept, AreTypedSteps}
use Rattle.replay.specs.HistoryText.{replied_line, end_text_of, recorded_text, recorded_stray}
use Rattle.replay.specs.LogText.{any_log_text, log_stray}

abbrev pub replied_lines : ℕ → List (List ℕ) → List ℕ
replied_lines n [] = []
replied_lines n (s ∷ ss) = replied_line (n + 1) s ++ replied_lines (n + 1) ss

abbrev pub entry_replies : List LogEntry → List (List ℕ) → List (List ℕ)
entry_replies [] ss = []
entry_replies (call c ∷ es) (s ∷ ss) = s ∷ entry_replies es ss
entry_replies (call c ∷ es) [] = [] ∷ entry_replies es []
entry_replies (e ∷ es) ss = [] ∷ entry_replies es ss

abbrev pub cut_stray : List ℕ → Option FirstStray
cut_stray log =
    if length (cut_end [] log) == 0 then None
    else Some (record { line = length (lines_ended [] log) + 1; why = unended })

pub record HostReplayed (d : Device) (ss : List (HostStep × ℕ)) (log : List ℕ) (stray : Option FirstStray)
    (text : List ℕ) : Type 0 where
  -- what the lines say
  pub entries : List LogEntry
  pub said : map entry_in (lines_ended [] log) ≡ map Some entries
  -- and the calls among that are the host's
  pub calls : entry_calls entries ≡ recorded d (step_calls ss)
  pub printed : text ≡ replied_lines 0 (entry_replies entries (replies_of d (step_calls ss)))
      ++ end_text_of (run ours d (step_calls ss)) stray
  pub cut : stray ≡ cut_stray log

pub record HostReplays (d : Device) (sum : ℕ) (ss : List (HostStep × ℕ)) : Type 0 where
  pub whole : let log = host_log (chain_begun sum) d ss in
      (log_stray d sum log ≡ None) × HostReplayed d ss log None (any_log_text d sum log)
  pub cut : (n : ℕ) → let log = take n (host_log (chain_begun sum) d ss) in
      (k : ℕ) × (k ≤ length ss)
      × HostReplayed d (take k ss) log (recorded_stray d sum log) (recorded_text d sum log)
  -- four bytes are enough that it is known as a history, and so played
  pub known : (n : ℕ) → 4 ≤ n → let log = take n (host_log (chain_begun sum) d ss) in
      (log_stray d sum log ≡ recorded_stray d sum log) × (any_log_text d sum log ≡ recorded_text d sum log)

abbrev pub HostsReplayed : Type 0
HostsReplayed = (d : Device) (sum : ℕ) → sum < 2 ^ 32 → (ss : List (HostStep × ℕ)) → AreTypedSteps ss
    → AreKept (chain_begun sum) d ss
    → HostReplays d sum ss
