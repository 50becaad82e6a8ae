-- A line of a history as the player plays it: what it prints and leaves, by whether it belongs.
-- Assumes nothing.
use Rattle.std.proofs.Common.{ℕ, ◌+◌, ◌≡◌, refl, sym, ap, ◌∙◌, true, List, [], ◌∷◌, ◌++◌, take, Result, Ok, Err}
use Rattle.std.proofs.Common.{Option, Some, None}
use Rattle.text.specs.Words.{over}
use Rattle.textio.specs.Lines.{LogLine}
use Rattle.record.specs.declared.types.Device.{Device}
use Rattle.floorlog.specs.LastLine.{last_line_of, last_device_line}
use Rattle.history.specs.Entries.{LogEntry}
use Rattle.history.specs.declared.recorder.Recorder.{Recorder}
use Rattle.recorded.specs.Chain.{why_seen, entry_told, made_told, made_seen, device_made, reply_made, log_made}
use Rattle.recorded.specs.Following.{FirstStray}
use Rattle.recorded.specs.declared.chain.Why.{Why}
use Rattle.recorded.proofs.Followed.{belonging_none, stray_none, belonging_more, stray_more, belonging_stray}
use Rattle.recorded.proofs.Followed.{stray_here}
use Rattle.recorded.proofs.Followed.{line_belongs, line_stray}
use Rattle.recorded.proofs.StrayKeeps.{KeepsOwn, stray_keeps}
use Rattle.replay.specs.HistoryText.{replied_line, device_after, stray_ending, end_text_of}
use Rattle.replay.specs.HistoryMade.{LineMade, LineStray, IsMadeAgain}
use Rattle.replay.specs.HistoryPlaying.{entries_then, stray_with, printed_then}
use Rattle.replay.proofs.Made.{made_long, made_fills}
use Rattle.replay.proofs.HistoryPlayed.{device_after_none, device_after_more, history_text_none, history_text_more}
use Rattle.replay.proofs.HistoryPlayed.{history_text_stray}

-- a line that says what stands there is made again, or does not belong
pub made_so : (r : Recorder) (d : Device) (l : LogLine) (e : LogEntry) → l.ended ≡ true → entry_told r d l.text ≡ Ok e
    → (res : Result ℕ Why) (log : Recorder) (after : Device) (old new : List ℕ)
    → made_seen res ≡ made_told d e
    → log ≡ log_made r d e l.text
    → after ≡ device_made d e
    → new ≡ over (reply_made d e) old
    → IsMadeAgain r d l res log after new
made_so r d l e ended told (Ok n) log after old new made log_is device put = record {
  entry = e;
  told = line_belongs r d l ended told (sym made);
  device = device;
  log_is = log_is;
  reply = made_fills d e n old new (sym made) put;
  inside = (made_long d e n (sym made)).inside;
}
made_so r d l e ended told (Err why) log after old new made log_is device put =
    let keeps : KeepsOwn d (device_made d e) = stray_keeps d e (why_seen why) (sym made) in record {
      told = line_stray r d l ended told (sym made);
      settings = ap (λ (x : Device). x.settings) device ∙ keeps.settings;
      own = ap (λ (x : Device). x.own) device ∙ keeps.own;
    }

-- the last line is of settings and of what is not of a place
same_last : (d after : Device) → after.settings ≡ d.settings → after.own ≡ d.own
    → last_device_line d ≡ last_device_line after
same_last d after settings own =
    (λ i. last_line_of (sym own i).power (take (sym settings i).lamp_count (sym own i).lamps))

module _ (n : ℕ) (r : Recorder) (d : Device) where
  -- no line is left
  pub printed_none : (s : Option FirstStray) → printed_then s n r d [] ≡ end_text_of d s
  printed_none None = history_text_none n r d
  printed_none (Some s) = refl

  pub stray_left_none : (s : Option FirstStray) → s ≡ stray_with s n r d []
  stray_left_none None = sym (stray_none r d n)
  stray_left_none (Some s) = refl

  pub device_left_none : (s : Option FirstStray)
      → last_device_line d ≡ last_device_line (device_after d (entries_then s r d []))
  device_left_none None =
      ap last_device_line
      (sym (ap (λ (es : List LogEntry). device_after d es) (belonging_none r d) ∙ device_after_none d))
  device_left_none (Some s) = ap last_device_line (sym (device_after_none d))

  module _ {s : Option FirstStray} (none : s ≡ None) (l : LogLine) {log : Recorder} {after : Device} {number : ℕ}
      (next : number ≡ n + 1) where
    -- a line that belongs
    module _ {k : ℕ} {m : List ℕ} (h : LineMade r d l k log after m) (ls : List LogLine) where
      pub line_prints : printed_then s n r d (l ∷ ls)
          ≡ replied_line number (take k m) ++ printed_then s number log after ls
      line_prints =
          ap (λ (t : Option FirstStray). printed_then t n r d (l ∷ ls)) none
          ∙ history_text_more n r d l ls h.told
          ∙ (λ i. replied_line (sym next i) (sym h.reply i)
          ++ printed_then None (sym next i) (sym h.log_is i) (sym h.device i) ls)
          ∙ ap (λ (t : Option FirstStray). replied_line number (take k m) ++ printed_then t number log after ls)
          (sym none)

      pub line_strays : stray_with s n r d (l ∷ ls) ≡ stray_with s number log after ls
      line_strays =
          ap (λ (t : Option FirstStray). stray_with t n r d (l ∷ ls)) none
          ∙ stray_more r d l ls n h.told
          ∙ (λ i. stray_with None (sym next i) (sym h.log_is i) (sym h.device i) ls)
          ∙ ap (λ (t : Option FirstStray). stray_with t number log after ls) (sym none)

      pub line_leaves : device_after d (entries_then s r d (l ∷ ls)) ≡ device_after after (entries_then s log after ls)
      line_leaves =
          ap (λ (t : Option FirstStray). device_after d (entries_then t r d (l ∷ ls))) none
          ∙ ap (λ (es : List LogEntry). device_after d es) (belonging_more r d l ls h.told)
          ∙ device_after_more d h.entry _
          ∙ (λ i. device_after (sym h.device i) (entries_then None (sym h.log_is i) (sym h.device i) ls))
          ∙ ap (λ (t : Option FirstStray). device_after after (entries_then t log after ls)) (sym none)

-- one that does not
abbrev pub found_at : ℕ → Why → FirstStray
found_at number why = record { line = number; why = why_seen why }

module _ (n : ℕ) (r : Recorder) (d : Device) {s : Option FirstStray} (none : s ≡ None) (l : LogLine) {after : Device}
    {number : ℕ} (next : number ≡ n + 1) {why : Why} (h : LineStray r d l why after) (ls : List LogLine) where
  pub stray_prints : printed_then s n r d (l ∷ ls) ≡ end_text_of after (Some (found_at number why))
  stray_prints =
      ap (λ (t : Option FirstStray). printed_then t n r d (l ∷ ls)) none
      ∙ history_text_stray n r d l ls h.told
      ∙ (λ i. same_last d after h.settings h.own i ++ stray_ending (Some (found_at (sym next i) why)))

  pub stray_is : Some (found_at number why) ≡ stray_with s n r d (l ∷ ls)
  stray_is =
      sym (ap (λ (t : Option FirstStray). stray_with t n r d (l ∷ ls)) none
      ∙ stray_here r d l ls n h.told ∙ (λ i. Some (found_at (sym next i) why)))

  pub stray_leaves : last_device_line (device_after after [])
      ≡ last_device_line (device_after d (entries_then s r d (l ∷ ls)))
  stray_leaves =
      ap last_device_line (device_after_none after)
      ∙ sym (same_last d after h.settings h.own)
      ∙ ap last_device_line (sym (ap (λ (t : Option FirstStray). device_after d (entries_then t r d (l ∷ ls))) none
      ∙ ap (λ (es : List LogEntry). device_after d es) (belonging_stray r d l ls h.told)
      ∙ device_after_none d))
