-- What a `ChainTeller` writes of the lines that are left of a log of the second kind, and how they leave it.
--   entries_of t ls      what they say that belong;    steps_of t ls   the steps of these
--   stray_then t ls      the first line that does not belong, of these or before them
--   teller_writes t ls   what is written
--   IsChainLeft t ls last     they leave it so
--   ChainOverflows t ls  they are more, or say more seconds, than 64 bits count
-- Assumes nothing.
use Rattle.std.specs.Prelude.{ℕ, ◌+◌, ◌^◌, ◌≤◌, ◌≡◌, ◌⊎◌, List, length, sum_by, Option, option_map}
use Rattle.textio.specs.Lines.{LogLine, texts_of}
use Rattle.history.specs.Entries.{LogEntry}
use Rattle.recorded.specs.Following.{FirstStray, stray_seen}
use Rattle.watch.specs.CallSteps.{entry_steps, said_seconds}
use Rattle.watch.specs.Watching.{Step}
use Rattle.watch.specs.Telling.{after_log}
use Rattle.watch.specs.States.{state_of, IsLeft}
use Rattle.burnt.specs.Told.{report_after, told_within}
use Rattle.burnt.specs.ChainTold.{entries_left, stray_left, chain_told_from}
use Rattle.burnt.specs.declared.chained.ChainTeller.{ChainTeller}

abbrev pub stray_now : ChainTeller → Option FirstStray
stray_now t = option_map stray_seen t.stray

abbrev pub entries_of : ChainTeller → List LogLine → List LogEntry
entries_of t ls = entries_left (stray_now t) t.log t.watch.tested.device ls

abbrev pub steps_of : ChainTeller → List LogLine → List Step
steps_of t ls = entry_steps t.watch.tested.device (entries_of t ls)

abbrev pub stray_then : ChainTeller → List LogLine → Option FirstStray
stray_then t ls = stray_left (stray_now t) t.lines t.log t.watch.tested.device ls

abbrev pub teller_writes : ChainTeller → List LogLine → List ℕ
teller_writes t ls = chain_told_from t.starts (stray_now t) t.lines t.log t.report (state_of t.watch) ls

pub record IsChainLeft (t : ChainTeller) (ls : List LogLine) (last : ChainTeller) : Type 0 where
  pub starts : last.starts ≡ t.starts
  pub report : last.report ≡ report_after t.report (told_within (state_of t.watch) (steps_of t ls))
  pub watch : IsLeft (after_log (state_of t.watch) (steps_of t ls)) (state_of last.watch)
  pub lines : last.lines ≡ t.lines + length (entries_of t ls)
  pub stray : stray_now last ≡ stray_then t ls

abbrev pub ChainOverflows : ChainTeller → List LogLine → Type 0
ChainOverflows t ls =
    (2 ^ 64 ≤ t.lines + length ls) ⊎ (2 ^ 64 ≤ t.watch.time + sum_by said_seconds (texts_of ls))
