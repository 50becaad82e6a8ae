-- What the recorder writes of recorded calls says them, and so plays back as they were.
-- Assumes nothing.
use Rattle.std.specs.Option.{option_map}
use Rattle.std.proofs.Common.{ℕ, ◌≤◌, ◌≡◌, List, [], ◌∷◌, length, take, refl, ap, ◌∙◌, Option, Some, map}
use Rattle.words.specs.Codec.{◌>>=◌}
use Rattle.crc32.proofs.Changes.{AreBytes}
use Rattle.record.specs.declared.types.Device.{Device}
use Rattle.ours.specs.Board.{ours}
use Rattle.demands.specs.Calls.{Call}
use Rattle.demands.specs.History.{history}
use Rattle.history.specs.Calls.{LogCall}
use Rattle.history.specs.Entries.{LogEntry}
use Rattle.history.specs.Logs.{begun_at}
use Rattle.history.specs.Recording.{Asked, AreTyped, recorder_begun, entries_recorded, bytes_recorded}
use Rattle.history.proofs.Chain.{Recorded, recorded_begun}
use Rattle.history.proofs.Logs.{log_back, log_cut}
use Rattle.recorded.specs.Recorded.{recorded}
use Rattle.recorded.specs.Playing.{played_call, played, replies_played, entry_calls, all_said, log_calls, PlaysAs}
use Rattle.recorded.proofs.Played.{played_back, replies_back}
use Rattle.recorded.proofs.Histories.{history_back}
use Rattle.recorded.proofs.Fronts.{calls_front, recorded_front}

pub all_said-map : (es : List LogEntry) → all_said (map Some es) ≡ Some es
all_said-map [] = refl
all_said-map (e ∷ es) = ap (option_map (λ (l : List LogEntry). e ∷ l)) (all_said-map es)

pub plays_as : (d : Device) (cs : List Call) (log : List ℕ) → log_calls log ≡ Some (recorded d cs) → PlaysAs d cs log
plays_as d cs log e = record {
  calls = e;
  device = ap (λ (o : Option (List LogCall)). o >>= λ ls. played d ls) e ∙ played_back d cs;
  replied = ap (option_map (replies_played d)) e ∙ ap Some (replies_back d cs);
  history = λ w. ap (option_map (λ (ls : List LogCall). history ours d w (map played_call ls))) e
      ∙ ap Some (history_back d w cs);
}

module _ (form : List ℕ) (bytes : AreBytes form) (asked : List (Asked × ℕ)) (t : AreTyped asked) where
  abbrev entries : List LogEntry
  entries = entries_recorded (recorder_begun form) asked

  abbrev log : List ℕ
  log = bytes_recorded (recorder_begun form) asked

  abbrev facts : Recorded (begun_at form) (recorder_begun form) asked
  facts = recorded_begun form bytes asked t

  module _ (d : Device) (cs : List Call) (same : entry_calls entries ≡ recorded d cs) where
    pub written_plays : PlaysAs d cs log
    written_plays =
        plays_as d cs log
        (ap log_calls facts.written
        ∙ ap (λ l. option_map entry_calls (all_said l)) (log_back entries facts.sayable)
        ∙ ap (option_map entry_calls) (all_said-map entries)
        ∙ ap Some same)

    pub cut_plays : (n : ℕ) → (k : ℕ) × (k ≤ length cs) × PlaysAs d (take k cs) (take n log)
    cut_plays n =
        let (m, few, said) = log_cut entries facts.sayable n in
        let (j, front) = calls_front entries m in
        let (k, within, of_calls) = recorded_front d cs j in (
          k,
          within,
          plays_as d (take k cs) (take n log)
              (ap (λ (l : List ℕ). log_calls (take n l)) facts.written
              ∙ ap (λ l. option_map entry_calls (all_said l)) said
              ∙ ap (option_map entry_calls) (all_said-map (take m entries))
              ∙ ap Some (front ∙ ap (take j) same ∙ of_calls)),
        )
