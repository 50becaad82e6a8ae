-- What is printed for a log that a host recorded is what its board replied, and the power and lamps of the board.
-- Assumes nothing.
use Rattle.std.proofs.Common.{ℕ, ◌+◌, ◌≤◌, ◌<◌, ◌^◌, ◌≡◌, refl, sym, subst, ap, ◌∙◌, Bool, true, false, List, [], ◌∷◌}
use Rattle.std.proofs.Common.{◌++◌, arith, length, take, map, append-nil, ◌==◌, if◌then◌else◌}
use Rattle.std.proofs.Common.{Option, Some, None, Result, Ok, Err}
use Rattle.text.proofs.Choices.{if_yes, if_no}
use Rattle.record.specs.declared.types.Device.{Device}
use Rattle.ours.specs.Board.{ours}
use Rattle.demands.specs.Calls.{after, run}
use Rattle.textio.specs.Lines.{LogLine, ended_line, last_line, lines_ended, cut_end}
use Rattle.floorlog.specs.Kept.{kept_most, kept, kept_lines}
use Rattle.floorlog.proofs.ShortLines.{short_kept}
use Rattle.history.specs.Entries.{LogEntry, header, call, stated, entry_in}
use Rattle.history.specs.declared.recorder.Recorder.{Recorder}
use Rattle.recorded.specs.Recorded.{recorded, replied_by, replies_of}
use Rattle.recorded.specs.Playing.{played_call, belongs, played, replies_played, entry_calls}
use Rattle.recorded.specs.Chain.{Misfit, unended, device_made, log_made, Followed, followed}
use Rattle.recorded.specs.Following.{chain_begun, line_told, belonging, FirstStray, stray_from}
use Rattle.recorded.specs.Hosts.{HostStep, host_log, step_calls, host_left, AreKept, AreTypedSteps}
use Rattle.recorded.proofs.Believed.{believed, front_believed}
use Rattle.recorded.proofs.Followed.{belonging_none, stray_none, line_unended, line_said, belonging_more, stray_more}
use Rattle.recorded.proofs.Followed.{belonging_stray, stray_here}
use Rattle.recorded.proofs.FollowedSays.{Says, followed_says}
use Rattle.recorded.proofs.HostsEnd.{host_log_ends}
use Rattle.recorded.proofs.Played.{played_back, replies_back}
use Rattle.replay.specs.HistoryText.{replied_line, entries_text, device_after, end_text_of, recorded_text}
use Rattle.replay.specs.HistoryText.{recorded_stray}
use Rattle.replay.specs.HostsReplayed.{replied_lines, entry_replies, cut_stray, HostReplayed, HostReplays}
use Rattle.replay.proofs.HistoryPlayed.{entries_text_none, device_after_none, entries_text_more, device_after_more}
use Rattle.replay.proofs.HistoryPlayed.{history_text_is}
use Rattle.replay.proofs.LogsBegun.{LogBegun, host_log_begins, front_begins, known_by}

-- ---- what is printed of entries

replied_are : (es : List LogEntry) (n : ℕ) (d : Device)
    → entries_text n d es ≡ replied_lines n (entry_replies es (replies_played d (entry_calls es)))
replied_are [] n d = entries_text_none d n
replied_are (header f s t ∷ es) n d =
    entries_text_more d (header f s t) es n
    ∙ ap (λ (l : List ℕ). replied_line (n + 1) [] ++ l) (replied_are es (n + 1) d)
replied_are (stated k s shown ∷ es) n d =
    entries_text_more d (stated k s shown) es n
    ∙ ap (λ (l : List ℕ). replied_line (n + 1) [] ++ l) (replied_are es (n + 1) d)
replied_are (call c ∷ es) n d =
    entries_text_more d (call c) es n
    ∙ ap (λ (l : List ℕ). replied_line (n + 1) (replied_by d (played_call c)) ++ l)
    (replied_are es (n + 1) (after ours d (played_call c)))

-- their calls leave the record that they were played to
some_is : (d e : Device) → Some d ≡ Some e → d ≡ e
some_is d e h = cc

none_is : (e : Device) → ◌≡◌ {A = Option Device} None (Some e) → ⊥
none_is e h = cc

played_after : (es : List LogEntry) (d e : Device) → played d (entry_calls es) ≡ Some e → device_after d es ≡ e
played_after [] d e h = device_after_none d ∙ some_is d e h
played_after (header f s t ∷ es) d e h = device_after_more d (header f s t) es ∙ played_after es d e h
played_after (stated k s shown ∷ es) d e h = device_after_more d (stated k s shown) es ∙ played_after es d e h
played_after (call c ∷ es) d e h = by (belongs d c) refl (played_after es (after ours d (played_call c)) e)
  where
    by : (t : Bool) → belongs d c ≡ t
        → (played (after ours d (played_call c)) (entry_calls es) ≡ Some e
        → device_after (after ours d (played_call c)) es ≡ e)
        → device_after d (call c ∷ es) ≡ e
    by true is later = device_after_more d (call c) es ∙ later (sym (if_yes _ _ is) ∙ h)
    by false is later = absurd (none_is e (sym (if_no _ _ is) ∙ h))

-- where no line is stray, each says what belongs
stray_is_some : (s : FirstStray) → ◌≡◌ {A = Option FirstStray} (Some s) None → ⊥
stray_is_some s h = cc

abbrev EachSaid : List (List ℕ) → Type 0
EachSaid ls = (n : ℕ) (r : Recorder) (d : Device) → stray_from n r d (map ended_line ls ++ []) ≡ None
    → map entry_in ls ≡ map Some (belonging r d (map ended_line ls ++ []))

line_and_more : (l : List ℕ) (ls : List (List ℕ)) → EachSaid ls → (n : ℕ) (r : Recorder) (d : Device)
    → stray_from n r d (map ended_line (l ∷ ls) ++ []) ≡ None
    → (t : Result LogEntry Misfit) → line_told r d (ended_line l) ≡ t
    → map entry_in (l ∷ ls) ≡ map Some (belonging r d (map ended_line (l ∷ ls) ++ []))
line_and_more l ls each n r d h (Ok e) told =
    let more = map ended_line ls ++ [] in
    (λ i. line_said r d (ended_line l) told i
    ∷ each (n + 1) (log_made r d e l) (device_made d e)
    (sym (stray_more r d (ended_line l) more n told) ∙ h) i)
    ∙ sym (ap (map Some) (belonging_more r d (ended_line l) more told))
line_and_more l ls each n r d h (Err why) told =
    absurd (stray_is_some _ (sym (stray_here r d (ended_line l) (map ended_line ls ++ []) n told) ∙ h))

each_said : (ls : List (List ℕ)) → EachSaid ls
each_said [] n r d h = ap (map Some) (sym (belonging_none r d))
each_said (l ∷ ls) n r d h = line_and_more l ls (each_said ls) n r d h (line_told r d (ended_line l)) refl

-- ---- the lines of such a log

module _ (d : Device) (sum : ℕ) (log : List ℕ) (f : Followed)
    (h : followed (chain_begun sum) d (lines_ended [] log) ≡ Some f) where
  abbrev ls : List (List ℕ)
  ls = lines_ended [] log

  abbrev left : List ℕ
  left = cut_end [] log

  says : Says (chain_begun sum) d ls f
  says = followed_says ls (chain_begun sum) d f h

  -- what stands behind the last LF does not belong
  abbrev cut_line : LogLine
  cut_line = record { text = take kept_most left; ended = false }

  none_more : belonging f.log f.device (map kept (last_line left)) ≡ []
  none_more = by (length left == 0) refl
    where
      by : (t : Bool) → (length left == 0) ≡ t → belonging f.log f.device (map kept (last_line left)) ≡ []
      by true e =
          ap (λ (l : List LogLine). belonging f.log f.device (map kept l)) (if_yes _ _ e)
          ∙ belonging_none f.log f.device
      by false e =
          ap (λ (l : List LogLine). belonging f.log f.device (map kept l)) (if_no _ _ e)
          ∙ belonging_stray f.log f.device cut_line [] (line_unended f.log f.device cut_line refl)

  more_stray : (n : ℕ) → stray_from n f.log f.device (map kept (last_line left))
      ≡ (if length left == 0 then None else Some (record { line = n + 1; why = unended }))
  more_stray n = by (length left == 0) refl
    where
      by : (t : Bool) → (length left == 0) ≡ t → stray_from n f.log f.device (map kept (last_line left))
          ≡ (if length left == 0 then None else Some (record { line = n + 1; why = unended }))
      by true e =
          ap (λ (l : List LogLine). stray_from n f.log f.device (map kept l)) (if_yes _ _ e)
          ∙ stray_none f.log f.device n ∙ sym (if_yes _ _ e)
      by false e =
          ap (λ (l : List LogLine). stray_from n f.log f.device (map kept l)) (if_no _ _ e)
          ∙ stray_here f.log f.device cut_line [] n (line_unended f.log f.device cut_line refl) ∙ sym (if_no _ _ e)

  all_belong : belonging (chain_begun sum) d (kept_lines log) ≡ says.es
  all_belong =
      ap (belonging (chain_begun sum) d) (short_kept log says.short)
      ∙ says.belong (map kept (last_line left))
      ∙ ap (λ (es : List LogEntry). says.es ++ es) none_more
      ∙ append-nil says.es

  stray_is : recorded_stray d sum log ≡ cut_stray log
  stray_is =
      ap (stray_from 0 (chain_begun sum) d) (short_kept log says.short)
      ∙ says.stray 0 (map kept (last_line left))
      ∙ more_stray (0 + length ls)
      ∙ ap (λ (n : ℕ). if length left == 0 then None else Some (record { line = n + 1; why = unended }))
      (omega arith)

  all_said : map entry_in ls ≡ map Some says.es
  all_said =
      each_said ls 0 (chain_begun sum) d (says.stray 0 [] ∙ stray_none f.log f.device (0 + length ls))
      ∙ ap (map Some) (says.belong []
      ∙ ap (λ (es : List LogEntry). says.es ++ es) (belonging_none f.log f.device) ∙ append-nil says.es)

  module _ (ss : List (HostStep × ℕ)) (calls : f.calls ≡ recorded d (step_calls ss)) where
    host_calls : entry_calls says.es ≡ recorded d (step_calls ss)
    host_calls = says.calls ∙ calls

    host_replies : entries_text 0 d says.es ≡ replied_lines 0 (entry_replies says.es (replies_of d (step_calls ss)))
    host_replies =
        replied_are says.es 0 d
        ∙ ap (λ (l : List (List ℕ)). replied_lines 0 (entry_replies says.es l))
        (ap (replies_played d) host_calls ∙ replies_back d (step_calls ss))

    host_device : device_after d says.es ≡ run ours d (step_calls ss)
    host_device =
        played_after says.es d (run ours d (step_calls ss))
        (ap (played d) host_calls ∙ played_back d (step_calls ss))

    replayed : HostReplayed d ss log (recorded_stray d sum log) (recorded_text d sum log)
    replayed = record {
      entries = says.es;
      said = all_said;
      calls = host_calls;
      printed = history_text_is 0 (chain_begun sum) d (kept_lines log)
          ∙ (λ i. entries_text 0 d (all_belong i)
          ++ end_text_of (device_after d (all_belong i)) (recorded_stray d sum log))
          ∙ (λ i. host_replies i ++ end_text_of (host_device i) (recorded_stray d sum log));
      cut = stray_is;
    }

-- ---- of a host

module _ (d : Device) (sum : ℕ) (small : sum < 2 ^ 32) (ss : List (HostStep × ℕ)) (typed : AreTypedSteps ss)
    (kept_all : AreKept (chain_begun sum) d ss) where
  abbrev all : List ℕ
  all = host_log (chain_begun sum) d ss

  begun : LogBegun all
  begun = host_log_begins ss (chain_begun sum) d refl kept_all

  of_all : HostReplayed d ss all (recorded_stray d sum all) (recorded_text d sum all)
  of_all =
      replayed d sum all (host_left (chain_begun sum) d ss)
      (believed (chain_begun sum) d ss (omega arith) small typed kept_all).0 ss refl

  no_stray : recorded_stray d sum all ≡ None
  no_stray =
      of_all.cut
      ∙ if_yes _ _ (ap (λ (c : List ℕ). length c == 0) (host_log_ends ss (chain_begun sum) d))

  pub host_replays : HostReplays d sum ss
  host_replays = record {
    whole = (
      (known_by d sum begun).0 ∙ no_stray,
      subst (HostReplayed d ss all None) (sym (known_by d sum begun).1)
          (subst (λ (x : Option FirstStray). HostReplayed d ss all x (recorded_text d sum all)) no_stray of_all),
    );
    cut = λ n. of_front n;
    known = λ n h. known_by d sum (front_begins n h begun);
  }
    where
      of_front : (n : ℕ) → let log = take n all in
          (k : ℕ) × (k ≤ length ss)
          × HostReplayed d (take k ss) log (recorded_stray d sum log) (recorded_text d sum log)
      of_front n =
          let (k, few, front, plays) = front_believed (chain_begun sum) d ss (omega arith) small typed kept_all n in (
            k,
            few,
            replayed d sum (take n all) (host_left (chain_begun sum) d (take k ss)) front (take k ss) refl,
          )
