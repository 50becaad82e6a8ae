-- What a host records, from the start of a chain on, is no byte or begins with a header's word; so it is known as a
-- history by four bytes.
--   LogBegun log    the log is or begins so
-- Assumes nothing.
use Rattle.std.proofs.Common.{ℕ, suc, zero, ◌≤◌, ◌≡◌, refl, sym, ap, subst, ◌∙◌, Bool, true, false, List, [], ◌∷◌, ◌++◌}
use Rattle.std.proofs.Common.{arith, codes, map, take, append-nil, Option, None, ◌+◌, if◌then◌else◌}
use Rattle.std.proofs.Math.Seq.{take-nil}
use Rattle.text.specs.Outcomes.{CallResult}
use Rattle.text.proofs.Choices.{if_yes, if_no}
use Rattle.record.specs.declared.types.Device.{Device}
use Rattle.record.specs.declared.refusal.Refusal.{Refusal}
use Rattle.textio.specs.Lines.{LogLine, texts_of}
use Rattle.textio.proofs.LinesEnded.{lines_none}
use Rattle.floorlog.specs.Kept.{kept, kept_lines}
use Rattle.floorlog.specs.Kinds.{is_history}
use Rattle.floorlog.specs.Events.{event}
use Rattle.floorlog.specs.LastLine.{last_device_line}
use Rattle.floorlog.specs.Playing.{replay_text}
use Rattle.floorlog.proofs.HistoriesKnown.{word_known}
use Rattle.floorlog.proofs.Replayed.{printed_from, all_printed, printed_none}
use Rattle.history.specs.Entries.{header, call, entry_line}
use Rattle.history.specs.Recording.{header_next}
use Rattle.history.specs.declared.recorder.Recorder.{Recorder}
use Rattle.history.proofs.Chain.{served, refused, tried, stated_tried}
use Rattle.history.proofs.HeaderWord.{header_word}
use Rattle.recorded.specs.Recorded.{is_served, recorded_call}
use Rattle.recorded.specs.Following.{chain_begun, stray_from}
use Rattle.recorded.specs.Hosts.{HostStep, begins, makes, states, step_written, device_by, host_log}
use Rattle.recorded.specs.Hosts.{IsKept, AreKept}
use Rattle.recorded.proofs.Followed.{stray_none}
use Rattle.replay.specs.HistoryText.{recorded_text, recorded_stray, history_text}
use Rattle.replay.specs.LogText.{any_log_text, log_stray}
use Rattle.replay.proofs.HistoryPlayed.{history_text_none}

pub data LogBegun (log : List ℕ) : Type 0 where
  nothing : log ≡ [] → LogBegun log
  a_header : (rest : List ℕ) → log ≡ codes "LOG " ++ rest → LogBegun log

-- ---- what a host writes

header_begins : (f s : ℕ) (t : Option (List ℕ)) (more : List ℕ) → LogBegun (entry_line (header f s t) ++ more)
header_begins f s t more =
    let (rest, begun) = header_word f s t more in a_header rest begun

-- no line is recorded before a header is
step_begins : (r : Recorder) (d : Device) (s : HostStep) (n : ℕ) (more : List ℕ) → r.file ≡ 0 → IsKept r d s n
    → ((step_written r d s n).leaves ≡ r → LogBegun more)
    → LogBegun ((step_written r d s n).bytes ++ more)
step_begins r d (begins t) n more none kept later =
    elim (tried r (header_next r t) n) [
      | served h free said bytes next ↦
          subst LogBegun (sym (ap (λ (b : List ℕ). b ++ more) bytes)) (header_begins (r.file + 1) r.sum t more)
      | refused said bytes next ↦ subst LogBegun (sym (ap (λ (b : List ℕ). b ++ more) bytes)) (later next)
    ]
step_begins r d states n more none kept later =
    elim (stated_tried r d n) [
      | served h free said bytes next ↦ absurd (grind (arith, free, none))
      | refused said bytes next ↦ subst LogBegun (sym (ap (λ (b : List ℕ). b ++ more) bytes)) (later next)
    ]
step_begins r d (makes c) n more none kept later = by (is_served d c) refl
  where
    by : (t : Bool) → is_served d c ≡ t → LogBegun ((step_written r d (makes c) n).bytes ++ more)
    by true e = elim (tried r (call (recorded_call d c)) n) [
      | served h free said bytes next ↦ absurd (grind (arith, free, none))
      | refused said bytes next ↦ absurd (grind (arith, kept e, said))
    ]
    by false e =
        subst LogBegun (sym (ap (λ (w : CallResult Refusal (Unit {0}) Recorder). w.bytes ++ more) (if_no _ _ e)))
        (later (ap (λ (w : CallResult Refusal (Unit {0}) Recorder). w.leaves) (if_no _ _ e)))

pub host_log_begins : (ss : List (HostStep × ℕ)) (r : Recorder) (d : Device) → r.file ≡ 0 → AreKept r d ss
    → LogBegun (host_log r d ss)
host_log_begins [] r d none kept = nothing refl
host_log_begins ((s, n) ∷ ss) r d none (one, kept) =
    step_begins r d s n (host_log (step_written r d s n).leaves (device_by d s) ss) none one
    (λ same.
    host_log_begins ss (step_written r d s n).leaves (device_by d s) (ap (λ (q : Recorder). q.file) same ∙ none) kept)

-- cut behind its first word, or later
take_word : (n : ℕ) → 4 ≤ n → (rest : List ℕ)
    → (front : List ℕ) × (take n (codes "LOG " ++ rest) ≡ codes "LOG " ++ front)
take_word (suc (suc (suc (suc n)))) h rest = (take n rest, refl)
take_word zero h rest = absurd (omega (arith, h))
take_word (suc zero) h rest = absurd (omega (arith, h))
take_word (suc (suc zero)) h rest = absurd (omega (arith, h))
take_word (suc (suc (suc zero))) h rest = absurd (omega (arith, h))

pub front_begins : (n : ℕ) → 4 ≤ n → {log : List ℕ} → LogBegun log → LogBegun (take n log)
front_begins n h (nothing e) = nothing (ap (take n) e ∙ take-nil n)
front_begins n h (a_header rest e) =
    let (front, same) = take_word n h rest in a_header front (ap (take n) e ∙ same)

-- ---- and how it is known

none_kept : kept_lines [] ≡ []
none_kept = ap (map kept) lines_none

-- no line at all is of either kind
none_played : (d : Device) → replay_text d [] ≡ last_device_line d
none_played d =
    sym (all_printed {n = 0} refl refl [])
    ∙ ap (λ (ls : List LogLine). printed_from 0 d (map event (texts_of ls))) none_kept
    ∙ printed_none d 0

module _ (d : Device) (sum : ℕ) where
  none_text : any_log_text d sum [] ≡ recorded_text d sum []
  none_text =
      ap (λ (ls : List LogLine). if is_history ls then recorded_text d sum [] else replay_text d []) none_kept
      ∙ none_played d
      ∙ sym (append-nil (last_device_line d))
      ∙ sym (ap (history_text 0 (chain_begun sum) d) none_kept ∙ history_text_none 0 (chain_begun sum) d)

  none_stray : log_stray d sum [] ≡ recorded_stray d sum []
  none_stray =
      ap (λ (ls : List LogLine). if is_history ls then stray_from 0 (chain_begun sum) d ls else None) none_kept
      ∙ sym (ap (stray_from 0 (chain_begun sum) d) none_kept ∙ stray_none (chain_begun sum) d 0)

  pub known_by : {log : List ℕ} → LogBegun log
      → (log_stray d sum log ≡ recorded_stray d sum log) × (any_log_text d sum log ≡ recorded_text d sum log)
  known_by (nothing e) = (
    ap (log_stray d sum) e ∙ none_stray ∙ sym (ap (recorded_stray d sum) e),
    ap (any_log_text d sum) e ∙ none_text ∙ sym (ap (recorded_text d sum) e),
  )
  known_by {log} (a_header rest e) =
      let known : is_history (kept_lines log) ≡ true
      = ap (λ (l : List ℕ). is_history (kept_lines l)) e ∙ word_known rest in
      (if_yes _ _ known, if_yes _ _ known)
