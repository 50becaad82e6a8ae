-- A log of either kind from its start on: what is printed, which line does not belong, and what is so far.
-- Assumes nothing.
use Rattle.std.proofs.Common.{ℕ, ◌+◌, ◌^◌, ◌≤◌, ◌≡◌, refl, sym, ap, ◌∙◌, subst, Bool, true, false, List, [], ◌++◌, map}
use Rattle.std.proofs.Common.{append-nil, arith, length, ◌⊎◌, ⊎_elim, inl, if◌then◌else◌, MatchBool}
use Rattle.std.proofs.Common.{Option, None, option_map}
use Rattle.std.proofs.lemmas.List.{length-map, append_cancel_right}
use Rattle.std.specs.Io.KnownBytes.{Appends}
use Rattle.text.proofs.Choices.{if_yes, if_no}
use Rattle.textio.specs.Lines.{LogLine, lines_in, texts_of, IsTooLong}
use Rattle.record.specs.declared.types.Device.{Device}
use Rattle.floorlog.specs.Kept.{kept, kept_lines}
use Rattle.floorlog.specs.Kinds.{is_history, is_history_from}
use Rattle.floorlog.specs.LastLine.{last_device_line}
use Rattle.floorlog.specs.Events.{event}
use Rattle.floorlog.specs.Playing.{state_after}
use Rattle.floorlog.specs.Observing.{BreaksOff}
use Rattle.floorlog.specs.declared.kinds.LogKind.{LogKind}
use Rattle.floorlog.specs.declared.kinds.LogKind.TheVariants.{Unbegun}
use Rattle.floorlog.specs.declared.kinds.ByKind.{ByKind}
use Rattle.floorlog.specs.declared.playing.Player.{Player}
use Rattle.floorlog.specs.Unplayed.{none_unplayed}
use Rattle.floorlog.proofs.Replayed.{printed_from, all_printed, printed_none, PlayerLeft, left_so}
use Rattle.floorlog.proofs.UnplayedBy.{all_unplayed}
use Rattle.recorded.specs.Following.{chain_begun, belonging, stray_seen, stray_from}
use Rattle.replay.specs.HistoryText.{device_after, stray_ending, end_text_of}
use Rattle.replay.specs.LogText.{any_log_text, log_stray, log_unplayed, lines_text, IsPrintedSoFar}
use Rattle.replay.specs.HistoryPlaying.{entries_then, stray_with, printed_then, player_prints, IsHistoryLeft}
use Rattle.replay.specs.declared.playing.HistoryPlayer.{HistoryPlayer}
use Rattle.replay.proofs.HistoryPlayed.{history_text_is}
use Rattle.replay.proofs.LinesPlayed.{printed_none as history_printed_none, stray_left_none, device_left_none}

abbrev pub Players : Type 0
Players = ByKind Player HistoryPlayer

abbrev pub events_print : Player → List LogLine → List ℕ
events_print p ls = printed_from p.played p.tested.device (map event (texts_of ls))

abbrev pub players_print : Players → List LogLine → List ℕ
players_print o ls = if is_history_from o.kind ls then player_prints o.history ls else events_print o.events ls

abbrev pub EventsLeft : Player → List LogLine → Player → Type 0
EventsLeft p ls last = PlayerLeft p ls last

abbrev pub PlayersLeft : Players → List LogLine → Players → Type 0
PlayersLeft o ls last =
    (is_history_from last.kind [] ≡ is_history_from o.kind ls)
    × MatchBool (is_history_from o.kind ls) (IsHistoryLeft o.history ls last.history)
    (EventsLeft o.events ls last.events)

abbrev pub PlayersOverflow : Players → List LogLine → Type 0
PlayersOverflow o ls =
    MatchBool (is_history_from o.kind ls) (2 ^ 64 ≤ o.history.lines + length ls) (2 ^ 64 ≤ o.events.played + length ls)

-- before the first line
pub record Begun (o : Players) (d : Device) (sum : ℕ) : Type 0 where
  pub kind : o.kind ≡ Unbegun
  pub played : o.events.played ≡ 0
  pub events : o.events.tested.device ≡ d
  pub unplayed : o.events.unplayed ≡ none_unplayed
  pub device : o.history.tested.device ≡ d
  pub log : o.history.log ≡ chain_begun sum
  pub lines : o.history.lines ≡ 0
  pub stray : o.history.stray ≡ None

pub begins : {o : Players} {p : Player} {h : HistoryPlayer} {d : Device} {sum : ℕ} → (o.events ≡ p) × (o.history ≡ h)
    → o.kind ≡ Unbegun
    → p.tested.device ≡ d
    → p.played ≡ 0
    → p.unplayed ≡ none_unplayed
    → h.tested.device ≡ d
    → h.log ≡ chain_begun sum
    → h.lines ≡ 0
    → h.stray ≡ None
    → Begun o d sum
begins same kind events played unplayed device log lines stray = record {
  kind = kind;
  played = ap (λ (p : Player). p.played) same.0 ∙ played;
  events = ap (λ (p : Player). p.tested.device) same.0 ∙ events;
  unplayed = ap (λ (p : Player). p.unplayed) same.0 ∙ unplayed;
  device = ap (λ (h : HistoryPlayer). h.tested.device) same.1 ∙ device;
  log = ap (λ (h : HistoryPlayer). h.log) same.1 ∙ log;
  lines = ap (λ (h : HistoryPlayer). h.lines) same.1 ∙ lines;
  stray = ap (λ (h : HistoryPlayer). h.stray) same.1 ∙ stray;
}

-- each part of what a choice makes
if_parts : {A : Type 0} (t : Bool) {a b x y : A} → a ≡ x → b ≡ y → (if t then a else b) ≡ (if t then x else y)
if_parts true p q = p
if_parts false p q = q

match_true : (P Q : Type 0) {t : Bool} → t ≡ true → MatchBool t P Q → P
match_true P Q e h = subst (λ (t : Bool). MatchBool t P Q) e h

match_false : (P Q : Type 0) {t : Bool} → t ≡ false → MatchBool t P Q → Q
match_false P Q e h = subst (λ (t : Bool). MatchBool t P Q) e h

match_by : {P Q : Type 0} (t : Bool) → P → Q → MatchBool t P Q
match_by true p q = p
match_by false p q = q

module _ {o : Players} {d : Device} {sum : ℕ} (b : Begun o d sum) where
  history_prints : (ls : List LogLine) → player_prints o.history ls ≡ printed_then None 0 (chain_begun sum) d ls
  history_prints ls = (λ i. printed_then (option_map stray_seen (b.stray i)) (b.lines i) (b.log i) (b.device i) ls)

  history_strays : (ls : List LogLine)
      → stray_with (option_map stray_seen o.history.stray) o.history.lines o.history.log o.history.tested.device ls
      ≡ stray_from 0 (chain_begun sum) d ls
  history_strays ls = (λ i. stray_with (option_map stray_seen (b.stray i)) (b.lines i) (b.log i) (b.device i) ls)

  pub all_text : (log : List ℕ) → players_print o (kept_lines log) ≡ any_log_text d sum log
  all_text log =
      ap (λ (k : LogKind). if is_history_from k (kept_lines log) then player_prints o.history (kept_lines log)
      else events_print o.events (kept_lines log)) b.kind
      ∙ if_parts (is_history (kept_lines log)) (history_prints (kept_lines log)) (all_printed b.played b.events log)

  module _ (last : Players) (log : List ℕ) (left : PlayersLeft o (kept_lines log) last) where
    kind_is : is_history_from last.kind [] ≡ is_history (kept_lines log)
    kind_is = left.0 ∙ ap (λ (k : LogKind). is_history_from k (kept_lines log)) b.kind

    pub stray_found : is_history_from last.kind [] ≡ true
        → option_map stray_seen last.history.stray ≡ log_stray d sum log
    stray_found h =
        (match_true (IsHistoryLeft o.history (kept_lines log) last.history)
        (EventsLeft o.events (kept_lines log) last.events) (sym left.0 ∙ h) left.1).stray
        ∙ history_strays (kept_lines log)
        ∙ sym (if_yes _ _ (sym kind_is ∙ h))

    pub none_found : is_history_from last.kind [] ≡ false → option_map stray_seen None ≡ log_stray d sum log
    none_found h = sym (if_no _ _ (sym kind_is ∙ h))

    pub unplayed_found : is_history_from last.kind [] ≡ false → last.events.unplayed ≡ log_unplayed d log
    unplayed_found h =
        (match_false (IsHistoryLeft o.history (kept_lines log) last.history)
        (EventsLeft o.events (kept_lines log) last.events) (sym left.0 ∙ h) left.1).1
        ∙ all_unplayed b.unplayed b.played b.events log
        ∙ sym (if_no _ _ (sym kind_is ∙ h))

    pub none_unplayed_found : is_history_from last.kind [] ≡ true → none_unplayed ≡ log_unplayed d log
    none_unplayed_found h = sym (if_yes _ _ (sym kind_is ∙ h))

  pub too_long : (log : List ℕ) → IsTooLong log ⊎ PlayersOverflow o (kept_lines log) → IsTooLong log
  too_long log h =
      ⊎_elim (λ (e : IsTooLong log). e)
      (λ (e : PlayersOverflow o (kept_lines log)). by (is_history_from o.kind (kept_lines log)) e) h
    where
      many : (m : ℕ) → m ≡ 0 → 2 ^ 64 ≤ m + length (kept_lines log) → IsTooLong log
      many m none e =
          inl (omega (
            arith,
            e,
            none,
            length-map (lines_in log) kept,
            length-map (lines_in log) (λ (l : LogLine). l.text),
          ))

      by : (t : Bool) → MatchBool t (2 ^ 64 ≤ o.history.lines + length (kept_lines log))
          (2 ^ 64 ≤ o.events.played + length (kept_lines log)) → IsTooLong log
      by true e = many o.history.lines b.lines e
      by false e = many o.events.played b.played e

  -- where a read fails
  pub so_far : {at : Players} {log left : List ℕ} {old new : Option (List ℕ)}
      → BreaksOff players_print PlayersLeft o at log left old new → IsPrintedSoFar d sum log left old new
  so_far {at} {log} {left} {old} {new} k = record {
    told = k.told;
    part = k.part;
    one_line = k.one_line;
    lines = k.lines;
    printed = subst (Appends old new) (text_is (is_history k.told) refl) k.written;
  }
    where
      itself : PlayersLeft at [] at
      itself = (
        refl,
        match_by (is_history_from at.kind [])
            (record {
              stray = stray_left_none at.history.lines at.history.log at.history.tested.device
                  (option_map stray_seen at.history.stray);
              shows = device_left_none at.history.lines at.history.log at.history.tested.device
                  (option_map stray_seen at.history.stray);
            })
            (left_so at.events),
      )

      left_at : PlayersLeft o k.told at
      left_at = k.leaves at itself

      kind_o : is_history_from o.kind k.told ≡ is_history k.told
      kind_o = ap (λ (q : LogKind). is_history_from q k.told) b.kind

      ends : k.text ++ players_print at [] ≡ players_print o k.told
      ends = sym (ap (players_print o) (sym (append-nil k.told)) ∙ k.then [])

      text_is : (t : Bool) → is_history k.told ≡ t → k.text ≡ lines_text d sum k.told
      text_is true h =
          let m = match_true (IsHistoryLeft o.history k.told at.history) (EventsLeft o.events k.told at.events)
          (kind_o ∙ h) left_at.1 in
          let es = belonging (chain_begun sum) d k.told in
          let stray = stray_from 0 (chain_begun sum) d k.told in
          let shows : last_device_line at.history.tested.device ≡ last_device_line (device_after d es) =
          m.shows ∙ (λ i. last_device_line (device_after (b.device i)
          (entries_then (option_map stray_seen (b.stray i)) (b.log i) (b.device i) k.told))) in
          let found : option_map stray_seen at.history.stray ≡ stray = m.stray ∙ history_strays k.told in
          let at_end : players_print at [] ≡ end_text_of (device_after d es) stray =
          if_yes _ _ (left_at.0 ∙ kind_o ∙ h)
          ∙ history_printed_none at.history.lines at.history.log at.history.tested.device
          (option_map stray_seen at.history.stray)
          ∙ (λ i. shows i ++ stray_ending (found i)) in
          append_cancel_right _ _ (end_text_of (device_after d es) stray)
          (ap (λ (t : List ℕ). k.text ++ t) (sym at_end) ∙ ends
          ∙ if_yes _ _ (kind_o ∙ h) ∙ history_prints k.told ∙ history_text_is 0 (chain_begun sum) d k.told)
          ∙ sym (if_yes _ _ h)
      text_is false h =
          let m = match_false (IsHistoryLeft o.history k.told at.history) (EventsLeft o.events k.told at.events)
          (kind_o ∙ h) left_at.1 in
          let es = map event (texts_of k.told) in
          let at_end : players_print at [] ≡ last_device_line (state_after d es) =
          if_no _ _ (left_at.0 ∙ kind_o ∙ h)
          ∙ printed_none at.events.tested.device at.events.played
          ∙ ap last_device_line (m.0 ∙ ap (λ (x : Device). state_after x es) b.events) in
          append_cancel_right _ _ (last_device_line (state_after d es))
          (ap (λ (t : List ℕ). k.text ++ t) (sym at_end) ∙ ends
          ∙ if_no _ _ (kind_o ∙ h) ∙ (λ i. printed_from (b.played i) (b.events i) es))
          ∙ sym (if_no _ _ h)
