-- DEMAND 3 holds of our calls. The fleet's question (RULES, Lamps): while no lamp reaches the limit, the seconds that
-- the lamps gained are, added up, the seconds of burning, each counted once for each mark that stood. The hours that
-- LAMP answers are the whole hours in the history, at each place, and the lamps are told lit where the history says
-- so.
-- Assumes nothing.
use Rattle.std.proofs.Common.{ℕ, zero, suc, ◌+◌, ◌-◌, ◌≤◌, ◌<◌, ◌≡◌, refl, sym, ap, ◌∙◌, Bool, true, false, ◌&&◌, List}
use Rattle.std.proofs.Common.{[], ◌∷◌, arith, length, slice_index_or, set, length-set, ⊎_elim, add-zero, zero-add, take}
use Rattle.std.proofs.Common.{length-take, ext_get_or, if◌then◌else◌}
use Rattle.text.specs.Outcomes.{CallResult}
use Rattle.record.specs.declared.refusal.Refusal.{Refusal}
use Rattle.record.specs.Refusals.{refusal_number}
use Rattle.record.specs.Views.{marks_seen}
use Rattle.record.specs.Limits.{lamp_limit, phase_open, is_lit}
use Rattle.record.specs.Wanted.{Wanted}
use Rattle.ours.specs.Board.{ours, given_in, reply}
use Rattle.demands.specs.Calls.{Call}
use Rattle.demands.specs.History.{HistoryEvent, switched, a_second, mark_switched, Stage, steady, next_stage}
use Rattle.demands.specs.History.{is_burning_stage}
use Rattle.demands.specs.History.{burnt_in, burning_from, burning_seconds, Streams, marks_after, stage_after}
use Rattle.demands.specs.CountsSeconds.{Beginning, start_marks, IsAccepted, run_of, history_of, count_set}
use Rattle.demands.specs.CountsSeconds.{burnt_by_marks}
use Rattle.demands.specs.CountsSeconds.{sum_of, lamp_then, each_place, lamps_then, LampsTold, CountsSeconds}
use Rattle.demands.proofs.HistoryTold.{history_told, marks_many}
use Rattle.pjlink.specs.Commands.{command_line}
use Rattle.pjlink.specs.declared.command.Command.TheVariants.{Query}
use Rattle.pjlink.specs.declared.body.Body.TheVariants.{Lamp}
use Rattle.pjlink.specs.Said.{lamps_are}
use Rattle.words.specs.declared.lamp.LampHours.{LampHours}
use Rattle.record.specs.declared.types.Settings.{Settings}
use Rattle.record.specs.declared.types.Device.{Device}
use Rattle.record.proofs.Rules.{class_one_of}
use Rattle.record.proofs.SettingsTold.{class_told}
use Rattle.record.proofs.LegalTold.{legal_settings, own_of_legal}
use Rattle.meaning.specs.Meaning.{lamp_said, lamps_of}
use Rattle.meaning.proofs.LampsSaid.{length-lamps_said}
use Rattle.meaning.proofs.LampsTold.{lamps_answered, lamp_told}
use Rattle.device.specs.Calls.{reply_room, received_at}
use Rattle.device.proofs.CommandsReceived.{reply_to, command_received}
use Rattle.controller.specs.Reading.{meaning, read_reply}
use Rattle.demands.proofs.WrittenAndRead.{is_between, command_reads_back}
use Rattle.demands.specs.SpeaksPjlink.{BetweenLines}
use Rattle.demands.proofs.KeepsRunning.{over_front}
use Rattle.demands.proofs.Agrees.{Agrees, lit_shown}
use Rattle.record.proofs.FactsTold.{settings_is}
use Rattle.clock.specs.Second.{times, second}
use Rattle.clock.proofs.Cases.{passed_by}
use Rattle.clock.proofs.TimeAdds.{time_adds}
use Rattle.demands.specs.CallsDone.{Leaves}

-- ---- sums

sum_same : (n : ℕ) (f g : ℕ → ℕ) → ((k : ℕ) → k < n → f k ≡ g k) → sum_of n f ≡ sum_of n g
sum_same zero f g e = refl
sum_same (suc n) f g e =
    let rest = sum_same n f g (λ k h. e k (omega arith)) in
    let last = e n (omega arith) in
    omega arith

sum_of-add : (n : ℕ) (f g : ℕ → ℕ) → sum_of n (λ k. f k + g k) ≡ sum_of n f + sum_of n g
sum_of-add zero f g = omega arith
sum_of-add (suc n) f g = let rest = sum_of-add n f g in omega arith

sum_none : (n : ℕ) → sum_of n (λ k. 0) ≡ 0
sum_none zero = refl
sum_none (suc n) = let rest = sum_none n in omega arith

sum_first : (n : ℕ) (f : ℕ → ℕ) → sum_of (suc n) f ≡ f 0 + sum_of n (λ k. f (suc k))
sum_first zero f = omega arith
sum_first (suc n) f = let rest = sum_first n f in omega arith

-- ---- one second, over the lamps

abbrev one : Bool → ℕ
one m = if m then 1 else 0

set_counted : (ms : List Bool) → sum_of (length ms) (λ k. one (slice_index_or ms k false)) ≡ count_set ms
set_counted [] = refl
set_counted (m ∷ ms) = grind (arith, sum_first, set_counted ms)

second_counted : (lit : Bool) (ms : List Bool)
    → sum_of (length ms) (λ k. if lit && slice_index_or ms k false then 1 else 0)
    ≡ (if lit then count_set ms else 0)
second_counted true ms = set_counted ms
second_counted false ms = sum_none (length ms)

-- ---- any history

pub burnt_adds_up : (w : Wanted) (g : Stage) (ms : List Bool) (es : List HistoryEvent)
    → sum_of (length ms) (λ k. burning_from w g ms k es) ≡ burnt_by_marks w g ms es
burnt_adds_up w g ms [] = sum_none (length ms)
burnt_adds_up w g ms (a_second ∷ es) =
    sum_of-add (length ms) (λ k. burnt_in g ms k a_second) (λ k. burning_from w (next_stage w g a_second) ms k es)
    ∙ (λ i. second_counted (is_burning_stage g) ms i + burnt_adds_up w (next_stage w g a_second) ms es i)
burnt_adds_up w g ms (switched wanted ∷ es) =
    sum_of-add (length ms) (λ k. 0) (λ k. burning_from w (next_stage w g (switched wanted)) ms k es)
    ∙ (λ i. sum_none (length ms) i + burnt_adds_up w (next_stage w g (switched wanted)) ms es i)
    ∙ omega arith
burnt_adds_up w g ms (mark_switched lamp mark ∷ es) =
    grind (arith, length-set, burnt_adds_up w (next_stage w g (mark_switched lamp mark)) (set ms lamp mark) es)

pub fleet_adds_up : (b : Beginning) (w : Wanted) (cs : List Call) → IsAccepted ours b w
    → ((k : ℕ) → k < length w.lamps
    → slice_index_or w.lamps k 0 + burning_seconds w (start_marks b w) k (history_of ours b w cs) ≤ lamp_limit)
    → sum_of (length w.lamps) (λ k. slice_index_or (run_of ours b w cs).own.lamps k 0 - slice_index_or w.lamps k 0)
    ≡ burnt_by_marks w (steady false) (start_marks b w) (history_of ours b w cs)
fleet_adds_up b w cs h below =
    let ms = start_marks b w in
    let es = history_of ours b w cs in
    let told = (history_told b w cs h).1 in
    sum_same (length w.lamps) _ (λ k. burning_seconds w ms k es)
    (λ k inside. let now = told.lamps k inside in let low = below k inside in omega arith)
    ∙ ap (λ (n : ℕ). sum_of n (λ k. burning_seconds w ms k es)) (sym (marks_many b w h))
    ∙ burnt_adds_up w (steady false) ms es

-- what stands at a place, each place told for itself
length-each_place : {A : Type 0} (f : ℕ → ℕ → A) (k : ℕ) (l : List ℕ) → length (each_place f k l) ≡ length l
length-each_place f k [] = refl
length-each_place f k (x ∷ l) = ap suc (length-each_place f (suc k) l)

each_at : {A : Type 0} (f : ℕ → ℕ → A) (k : ℕ) (l : List ℕ) (i : ℕ) (d : A) → i < length l
    → slice_index_or (each_place f k l) i d ≡ f (k + i) (slice_index_or l i 0)
each_at f k [] i d h = absurd (omega arith)
each_at f k (x ∷ l) zero d h = ap (λ (j : ℕ). f j x) (sym (add-zero k))
each_at f k (x ∷ l) (suc i) d h = grind (arith, each_at f (suc k) l i d (omega arith))

module _ (w : Wanted) (ms : List Bool) (es : List HistoryEvent) {stream : Streams} {d : Device}
    (a : Agrees w (stage_after w es) (marks_after ms es) (λ k. burning_seconds w ms k es) stream d) {p : ℕ}
    (between : BetweenLines phase_open d p) where
  count : d.settings.lamp_count ≡ length w.lamps
  count = ap (λ (s : Settings). s.lamp_count) a.settings

  lit : is_lit d.own.power ≡ is_burning_stage (stage_after w es)
  lit = ap is_lit a.power ∙ lit_shown (stage_after w es)

  abbrev none : LampHours
  none = record { hours = 0; lit = false }

  lamp_same : (k : ℕ) → k < length w.lamps
      → slice_index_or (lamps_of d.settings d.own) k none ≡ slice_index_or (lamps_then w ms es) k none
  lamp_same k inside =
      let kept = (own_of_legal d between.legal).lamps in
      lamp_told d.settings d.own k none (omega (arith, count))
      (omega (arith, kept.long, kept.inside, count))
      ∙ (λ i. lamp_said (lit i && a.marks k inside i) (a.lamps k inside i))
      ∙ ap (λ (j : ℕ). lamp_then w ms es j (slice_index_or w.lamps k 0)) (sym (zero-add k))
      ∙ sym (each_at (lamp_then w ms es) 0 w.lamps k none inside)

  lamps_same : lamps_of d.settings d.own ≡ lamps_then w ms es
  lamps_same =
      let kept = (own_of_legal d between.legal).lamps in
      let many : length (lamps_of d.settings d.own) ≡ length w.lamps
      = length-lamps_said (is_lit d.own.power) (marks_seen d.own) (take d.settings.lamp_count d.own.lamps)
      ∙ omega (arith, length-take d.settings.lamp_count d.own.lamps, kept.long, kept.inside, count) in
      ext_get_or none _ _ (many ∙ sym (length-each_place (lamp_then w ms es) 0 w.lamps))
      (λ k inside. lamp_same k (omega (arith, many)))

  -- LAMP is of Class 1, which every set-up takes (RULES, Class 2)
  any_class : 1 ≤ d.settings.class_number
  any_class =
      let k = d.settings.class_number in
      let told = (settings_is d.settings).0 (legal_settings d between.legal) in
      ⊎_elim (λ (e : k ≡ 1). omega arith) (λ (e : k ≡ 2). omega arith) (class_one_of k (class_told d.settings told))

  pub hours_told : (m : List ℕ) → 1 ≤ length w.lamps → reply_room ≤ length m
      → LampsTold ours (lamps_then w ms es) (reply (ours.receive d p (command_line (Query Lamp)) m))
  hours_told m some enough =
      let result = received_at d p (command_line (Query Lamp)) (length m) in
      let line = is_between d p between.there between.legal between.unmarked between.none_held in
      let back = command_reads_back d p between.there between.legal line (Query Lamp) refl any_class (length m) enough
      between.in_phase in
      let said = command_received d p between.there (length m) between.legal enough between.unmarked
      between.none_held
      (Query Lamp) refl any_class between.in_phase in
      let lamps = lamps_answered d.settings d.own (omega (arith, count)) ∙ ap lamps_are lamps_same in
      let seam = over_front result.bytes m in
      record {
        bytes = seam ∙ ap (λ (c : CallResult Refusal ℕ Device). c.bytes) said ∙ ap (reply_to (Query Lamp)) lamps;
        read = ap (read_reply (Query Lamp)) seam ∙ back.said ∙ ap meaning lamps;
      }

pub ours_counts_seconds : CountsSeconds ours
ours_counts_seconds = record {
  time_adds = λ d a b legal within. ap (given_in refusal_number) (time_adds a b d within);
  second_by_second = λ d n. passed_by (λ c. Leaves ours (given_in refusal_number c) (times second n d)) d n
      (λ h e. absurd (omega arith)) (λ h e. refl);
  lamps_tell_the_history = λ b w cs place accepted inside. (history_told b w cs accepted).1.lamps place inside;
  hours_told = λ b w cs p m accepted some between enough.
      hours_told w (start_marks b w) (history_of ours b w cs) (history_told b w cs accepted).1 between m some enough;
  fleet_adds_up = fleet_adds_up;
}
