-- A log of either kind, as the observer of its kind tells it.
-- Assumes nothing.
use Rattle.std.proofs.Common.{ℕ, ◌^◌, ◌≤◌, ◌≡◌, refl, sym, subst, ap, ◌∙◌, Bool, true, false, List, [], ◌++◌}
use Rattle.std.proofs.Common.{arith, map, length, ◌⊎◌, inl, inr, if◌then◌else◌, MatchBool}
use Rattle.std.proofs.Common.{Option, None}
use Rattle.std.specs.Io.KnownBytes.{Appends}
use Rattle.std.proofs.KnownBytes.{Appends-trans}
use Rattle.text.proofs.Choices.{if_yes, if_no}
use Rattle.record.specs.declared.types.Device.{Device}
use Rattle.textio.specs.Lines.{LogLine, texts_of, IsTooLong}
use Rattle.floorlog.specs.Kept.{kept_lines}
use Rattle.floorlog.specs.Kinds.{is_history, is_history_from}
use Rattle.floorlog.specs.Observing.{BreaksOff}
use Rattle.floorlog.specs.declared.kinds.ByKind.{ByKind}
use Rattle.floorlog.specs.declared.kinds.LogKind.TheVariants.{Unbegun}
use Rattle.floorlog.specs.Unplayed.{none_unplayed}
use Rattle.recorded.specs.Following.{chain_begun, belonging}
use Rattle.watch.specs.Telling.{floor_unplayed, after_log}
use Rattle.watch.specs.Marking.{floor_event, floor_steps}
use Rattle.watch.specs.CallSteps.{entry_steps}
use Rattle.watch.specs.Watching.{Watching, watching_from}
use Rattle.watch.specs.States.{state_of}
use Rattle.report.specs.declared.Report.{Report}
use Rattle.burnt.specs.Told.{tellings_text, told_within, log_told, IsUntold}
use Rattle.burnt.specs.ChainTold.{chain_told, chain_stray, IsChainUntold}
use Rattle.burnt.specs.ChainTelling.{stray_now, entries_of, teller_writes, IsChainLeft, ChainOverflows}
use Rattle.burnt.specs.LogTold.{told, stray_in, unplayed_in, steps_in, log_seconds, count_in, IsTooMuch}
use Rattle.burnt.specs.LogTold.{IsToldSoFar}
use Rattle.burnt.specs.declared.telling.Teller.{Teller}
use Rattle.burnt.specs.declared.chained.ChainTeller.{ChainTeller}
use Rattle.burnt.proofs.LinesTold.{broken_text}
use Rattle.burnt.proofs.FloorTold.{untold, untold_bytes, teller_told, TellerLeft, teller_begun, teller_so_far}
use Rattle.burnt.proofs.FloorTold.{teller_itself, TellerOverflows, all_unplayed}
use Rattle.burnt.proofs.ChainBegun.{left_itself, chain_begins, begun_stray, chain_so_far, chain_untold}
use Rattle.burnt.proofs.ChainBegun.{chain_untold_bytes, begun_entries}

abbrev pub Both : Type 0
Both = ByKind Teller ChainTeller

abbrev pub writes : Both → List LogLine → List ℕ
writes o ls = if is_history_from o.kind ls then teller_writes o.history ls else teller_told o.events ls

abbrev pub Left : Both → List LogLine → Both → Type 0
Left o ls last =
    (is_history_from last.kind [] ≡ is_history_from o.kind ls)
    × MatchBool (is_history_from o.kind ls) (IsChainLeft o.history ls last.history) (TellerLeft o.events ls last.events)

abbrev pub Overflows : Both → List LogLine → Type 0
Overflows o ls =
    MatchBool (is_history_from o.kind ls) (ChainOverflows o.history ls) (TellerOverflows o.events ls)

-- a log that cannot be told has as many bytes
pub too_much_bytes : (log : List ℕ) → IsTooMuch log → 2 ^ 32 ≤ length log
too_much_bytes log h = by (is_history (kept_lines log)) h
  where
    by : (t : Bool) → MatchBool t (IsChainUntold log) (IsUntold log) → 2 ^ 32 ≤ length log
    by true = chain_untold_bytes log
    by false = untold_bytes log

itself : (o : Both) → Left o [] o
itself o = (refl, by (is_history_from o.kind []))
  where
    by : (t : Bool) → MatchBool t (IsChainLeft o.history [] o.history) (TellerLeft o.events [] o.events)
    by true = left_itself o.history
    by false = teller_itself o.events

-- before a log that begins with that device
pub record IsBegun (begun : Device) (sum : ℕ) (way : Report) (o : Both) : Type 0 where
  pub kind : o.kind ≡ Unbegun
  pub starts : o.events.starts ≡ begun.own.lamps
  pub report : o.events.report ≡ way
  pub watch : state_of o.events.watch ≡ watching_from begun
  pub floor_lines : o.events.lines ≡ 0
  pub unplayed : o.events.unplayed ≡ none_unplayed
  pub chain_starts : o.history.starts ≡ begun.own.lamps
  pub chain_report : o.history.report ≡ way
  pub chain_watch : state_of o.history.watch ≡ watching_from begun
  pub log : o.history.log ≡ chain_begun sum
  pub lines : o.history.lines ≡ 0
  pub stray : o.history.stray ≡ None

pub begun_so : (begun : Device) (sum : ℕ) (way : Report) (a : Teller)
    → state_of a.watch ≡ watching_from begun → a.report ≡ way → a.starts ≡ begun.own.lamps
    → a.lines ≡ 0
    → a.unplayed ≡ none_unplayed
    → (b : ChainTeller)
    → state_of b.watch ≡ watching_from begun
    → b.report ≡ way
    → b.starts ≡ begun.own.lamps
    → b.log ≡ chain_begun sum
    → b.lines ≡ 0
    → b.stray ≡ None
    → (o : Both)
    → (o.events ≡ a) × (o.history ≡ b)
    → o.kind ≡ Unbegun
    → IsBegun begun sum way o
begun_so begun sum way a aw ar at al au b bw br bt bl bn bx o is kind = record {
  kind = kind;
  starts = ap (λ (t : Teller). t.starts) is.0 ∙ at;
  report = ap (λ (t : Teller). t.report) is.0 ∙ ar;
  watch = ap (λ (t : Teller). state_of t.watch) is.0 ∙ aw;
  floor_lines = ap (λ (t : Teller). t.lines) is.0 ∙ al;
  unplayed = ap (λ (t : Teller). t.unplayed) is.0 ∙ au;
  chain_starts = ap (λ (t : ChainTeller). t.starts) is.1 ∙ bt;
  chain_report = ap (λ (t : ChainTeller). t.report) is.1 ∙ br;
  chain_watch = ap (λ (t : ChainTeller). state_of t.watch) is.1 ∙ bw;
  log = ap (λ (t : ChainTeller). t.log) is.1 ∙ bl;
  lines = ap (λ (t : ChainTeller). t.lines) is.1 ∙ bn;
  stray = ap (λ (t : ChainTeller). t.stray) is.1 ∙ bx;
}

module _ {begun : Device} {sum : ℕ} (head : List ℕ) {way : Report} {o : Both} (n : IsBegun begun sum way o)
  where
    of_kind : (ls : List LogLine) → is_history_from o.kind ls ≡ is_history ls
    of_kind ls = ap (λ k. is_history_from k ls) n.kind

    pub all_told : (log : List ℕ)
        → head ++ writes o (kept_lines log) ≡ told begun sum head way log
    all_told log =
        ap (λ (t : Bool). head
        ++ (if t then teller_writes o.history (kept_lines log) else teller_told o.events (kept_lines log)))
        (of_kind (kept_lines log))
        ∙ by (is_history (kept_lines log))
      where
        by : (t : Bool)
            → head
            ++ (if t then teller_writes o.history (kept_lines log) else teller_told o.events (kept_lines log))
            ≡ (if t then chain_told begun sum head way log else log_told begun head way log)
        by true =
            chain_begins begun sum head way o.history n.chain_starts n.chain_report n.chain_watch n.log n.lines n.stray
            log
        by false = teller_begun begun head way o.events n.starts n.report n.watch n.floor_lines n.unplayed log

    pub too_much : (log : List ℕ) → IsTooLong log ⊎ Overflows o (kept_lines log) → IsTooMuch log
    too_much log h = by (is_history (kept_lines log)) (moved h)
      where
        moved : IsTooLong log ⊎ Overflows o (kept_lines log)
            → IsTooLong log ⊎ MatchBool (is_history (kept_lines log)) (ChainOverflows o.history (kept_lines log))
            (TellerOverflows o.events (kept_lines log))
        moved (inl e) = inl e
        moved (inr e) =
            inr (subst (λ (t : Bool). MatchBool t (ChainOverflows o.history (kept_lines log))
            (TellerOverflows o.events (kept_lines log))) (of_kind (kept_lines log)) e)

        by : (t : Bool)
            → IsTooLong log ⊎ MatchBool t (ChainOverflows o.history (kept_lines log))
            (TellerOverflows o.events (kept_lines log))
            → MatchBool t (IsChainUntold log) (IsUntold log)
        by true e = chain_untold o.history n.lines (ap (λ (s : Watching). s.time) n.chain_watch) log e
        by false e = untold (ap (λ (s : Watching). s.time) n.watch) n.floor_lines log e

    -- the line that did not belong
    pub stray_left_so : (last : Both) (log : List ℕ) → Left o (kept_lines log) last
        → (if is_history_from last.kind [] then stray_now last.history else None) ≡ stray_in begun sum log
    stray_left_so last log (kind, left) =
        ap (λ (t : Bool). if t then stray_now last.history else None) (kind ∙ of_kind (kept_lines log))
        ∙ by (is_history (kept_lines log))
        (subst (λ (t : Bool). MatchBool t (IsChainLeft o.history (kept_lines log) last.history)
        (TellerLeft o.events (kept_lines log) last.events)) (of_kind (kept_lines log)) left)
      where
        by : (t : Bool)
            → MatchBool t (IsChainLeft o.history (kept_lines log) last.history)
            (TellerLeft o.events (kept_lines log) last.events)
            → (if t then stray_now last.history else None) ≡ (if t then chain_stray begun sum log else None)
        by true h =
            h.stray
            ∙ begun_stray begun sum head way o.history n.chain_starts n.chain_report n.chain_watch n.log n.lines n.stray
            (kept_lines log)
        by false h = refl

    -- what was not played
    pub unplayed_left_so : (last : Both) (log : List ℕ) → Left o (kept_lines log) last
        → (if is_history_from last.kind [] then none_unplayed else last.events.unplayed) ≡ unplayed_in begun log
    unplayed_left_so last log (kind, left) =
        ap (λ (t : Bool). if t then none_unplayed else last.events.unplayed) (kind ∙ of_kind (kept_lines log))
        ∙ by (is_history (kept_lines log))
        (subst (λ (t : Bool). MatchBool t (IsChainLeft o.history (kept_lines log) last.history)
        (TellerLeft o.events (kept_lines log) last.events)) (of_kind (kept_lines log)) left)
      where
        by : (t : Bool)
            → MatchBool t (IsChainLeft o.history (kept_lines log) last.history)
            (TellerLeft o.events (kept_lines log) last.events)
            → (if t then none_unplayed else last.events.unplayed)
            ≡ (if t then none_unplayed else floor_unplayed begun log)
        by true h = refl
        by false h = h.3 ∙ all_unplayed o.events begun n.unplayed n.floor_lines n.watch log

    -- its seconds, and its lines
    pub seconds_left_so : (last : Both) (log : List ℕ) → Left o (kept_lines log) last
        → (if is_history_from last.kind [] then last.history.watch.time else last.events.watch.time)
        ≡ log_seconds begun sum log
    seconds_left_so last log (kind, left) =
        ap (λ (t : Bool). if t then last.history.watch.time else last.events.watch.time)
        (kind ∙ of_kind (kept_lines log))
        ∙ by (is_history (kept_lines log)) refl
        (subst (λ (t : Bool). MatchBool t (IsChainLeft o.history (kept_lines log) last.history)
        (TellerLeft o.events (kept_lines log) last.events)) (of_kind (kept_lines log)) left)
      where
        by : (t : Bool) → is_history (kept_lines log) ≡ t
            → MatchBool t (IsChainLeft o.history (kept_lines log) last.history)
            (TellerLeft o.events (kept_lines log) last.events)
            → (if t then last.history.watch.time else last.events.watch.time) ≡ log_seconds begun sum log
        by true is h =
            h.watch.time
            ∙ (λ i. (after_log (n.chain_watch i) (entry_steps (n.chain_watch i).device
            (chain_entries i))).time)
            ∙ ap (λ es. (after_log (watching_from begun) es).time) (sym (if_yes _ _ is))
          where
            chain_entries : entries_of o.history (kept_lines log) ≡ belonging (chain_begun sum) begun (kept_lines log)
            chain_entries =
                begun_entries begun sum head way o.history n.chain_starts n.chain_report n.chain_watch n.log n.lines
                n.stray (kept_lines log)
        by false is h =
            ap (λ (s : Watching). s.time) h.2
            ∙ (λ i. (after_log (n.watch i)
            (floor_steps (n.watch i).device (map floor_event (texts_of (kept_lines log))))).time)
            ∙ ap (λ es. (after_log (watching_from begun) es).time) (sym (if_no _ _ is))

    pub count_left_so : (last : Both) (log : List ℕ) → Left o (kept_lines log) last
        → (if is_history_from last.kind [] then last.history.lines else last.events.lines) ≡ count_in begun sum log
    count_left_so last log (kind, left) =
        ap (λ (t : Bool). if t then last.history.lines else last.events.lines) (kind ∙ of_kind (kept_lines log))
        ∙ by (is_history (kept_lines log))
        (subst (λ (t : Bool). MatchBool t (IsChainLeft o.history (kept_lines log) last.history)
        (TellerLeft o.events (kept_lines log) last.events)) (of_kind (kept_lines log)) left)
      where
        by : (t : Bool) → MatchBool t (IsChainLeft o.history (kept_lines log) last.history)
            (TellerLeft o.events (kept_lines log) last.events)
            → (if t then last.history.lines else last.events.lines)
            ≡ (if t then length (belonging (chain_begun sum) begun (kept_lines log)) else length (kept_lines log))
        by true h =
            omega (
              arith,
              h.lines,
              n.lines,
              ap length (begun_entries begun sum head way o.history n.chain_starts
                  n.chain_report n.chain_watch n.log n.lines n.stray (kept_lines log)),
            )
        by false h = omega (arith, h.4, n.floor_lines)

    -- where a read fails
    pub told_so_far : {after : Both} {log left : List ℕ} {old mid now : Option (List ℕ)}
        → Appends old mid (head) → BreaksOff writes Left o after log left mid now
        → IsToldSoFar begun sum head way log left old now
    told_so_far {after} {log} {left} {old} {mid} {now} w b = record {
      lines_told = b.told;
      part = b.part;
      one_line = b.one_line;
      lines = b.lines;
      printed = Appends-trans old mid now _ _ w (subst (Appends mid now) text_is b.written);
    }
      where
        at : Left o b.told after
        at = b.leaves after (itself after)

        all : writes o b.told ≡ b.text ++ writes after []
        all = broken_text b

        by : (t : Bool) → is_history b.told ≡ t
            → b.text ≡ tellings_text way
            (told_within (watching_from begun) (steps_in begun sum b.told))
        by true is =
            let mine : is_history_from o.kind b.told ≡ true = of_kind b.told ∙ is in
            let chain : IsChainLeft o.history b.told after.history
            = subst (λ (t : Bool). MatchBool t (IsChainLeft o.history b.told after.history)
            (TellerLeft o.events b.told after.events)) mine at.1 in
            chain_so_far begun sum head way o.history n.chain_starts n.chain_report n.chain_watch n.log n.lines n.stray
            after.history b.told chain b.text
            (sym (if_yes (teller_writes o.history b.told) (teller_told o.events b.told) mine)
            ∙ all ∙ ap (λ (l : List ℕ). b.text ++ l) (if_yes _ _ (at.0 ∙ mine)))
            ∙ sym (ap (λ es. tellings_text way (told_within (watching_from begun) es)) (if_yes _ _ is))
        by false is =
            let mine : is_history_from o.kind b.told ≡ false = of_kind b.told ∙ is in
            let floor : TellerLeft o.events b.told after.events
            = subst (λ (t : Bool). MatchBool t (IsChainLeft o.history b.told after.history)
            (TellerLeft o.events b.told after.events)) mine at.1 in
            teller_so_far begun head way o.events n.starts n.report n.watch n.floor_lines n.unplayed after.events b.told
            b.text
            (sym (if_no (teller_writes o.history b.told) (teller_told o.events b.told) mine)
            ∙ all ∙ ap (λ (l : List ℕ). b.text ++ l) (if_no _ _ (at.0 ∙ mine))) floor
            ∙ sym (ap (λ es. tellings_text way (told_within (watching_from begun) es)) (if_no _ _ is))

        text_is : b.text ≡ tellings_text way
            (told_within (watching_from begun) (steps_in begun sum b.told))
        text_is = by (is_history b.told) refl
