-- Demand 3: the lamps tell the history. A device that was just set up, or loaded, agrees with someone who saw nothing
-- yet, and what he notes of each call agrees with it; so they agree after any calls. Of a power set he sees this: a
-- stream that ends in its line, with a reply that says OK, shows that set and no other; and he sees none where the
-- reply says anything else.
--   IsNoted a c    so it is of the call c, where what he knew before agreed with the device
-- Assumes nothing.
use Rattle.std.proofs.Common.{ℕ, ◌+◌, ◌-◌, ◌≡◌, ap, ◌∙◌, Bool, true, false, List, [], ◌∷◌, ◌++◌, arith, length, drop}
use Rattle.std.proofs.Common.{length-append, codes, refl, sym, subst, take, replicate, ◌==◌, eqb-true, eq-eqb, ne_eqb}
use Rattle.std.proofs.Common.{◌≤◌, ◌<◌, zero-add, add_assoc, slice_index_or, if◌then◌else◌, Ok}
use Rattle.std.proofs.Math.Seq.{drop-append_seam, take-append_seam}
use Rattle.text.specs.Outcomes.{CallResult, call_number, number_answered}
use Rattle.text.proofs.Choices.{if_yes, both_left}
use Rattle.pjlink.specs.declared.body.Body.TheVariants.{Powr}
use Rattle.pjlink.specs.Bodies.{is_body}
use Rattle.stream.proofs.LastBytes.{Ends, ends_unheld}
use Rattle.device.proofs.PowerLines.{is_power_okay, power_line, power_line_read, power_line_not_other, okay_reply}
use Rattle.demands.specs.History.{HistoryEvent, switched, power_set, a_second, mark_switched, Stage, steady}
use Rattle.demands.specs.History.{towards, next_stage, Streams, going_on_at, streams_after, seen, no_streams, history}
use Rattle.demands.specs.History.{stage_from, marks_after, burning_from, burning_seconds, stage_after}
use Rattle.pjlink.specs.declared.command.Command.TheVariants.{PowerSet}
use Rattle.pjlink.specs.Said.{okay}
use Rattle.record.specs.declared.refusal.Refusal.{Refusal}
use Rattle.record.specs.Refusals.{refusal_number}
use Rattle.record.specs.Limits.{lamp_limit}
use Rattle.record.specs.Wanted.{Wanted}
use Rattle.record.specs.Places.{connection_at, no_connection}
use Rattle.record.specs.declared.types.Settings.{Settings}
use Rattle.record.specs.declared.types.Own.{Own}
use Rattle.record.specs.declared.types.Device.{Device}
use Rattle.record.proofs.Calls.{fault_set_by, errors_set_by, mark_set_by, set_up_in_range, set_up_accepted}
use Rattle.record.proofs.LegalTold.{own_of_legal}
use Rattle.record.proofs.MarksTold.{marks_long}
use Rattle.record.proofs.ConnectionsTold.{placed_elsewhere}
use Rattle.clock.proofs.Cases.{passed_by}
use Rattle.meaning.specs.Meaning.{answer_for, after_request}
use Rattle.meaning.proofs.PowerSets.{power_set_only, on_when_off, on_otherwise, off_when_on, off_otherwise}
use Rattle.stream.specs.Collecting.{line_text}
use Rattle.device.specs.Calls.{accepted_taken}
use Rattle.device.proofs.Cases.{takes, received_by}
use Rattle.device.proofs.Histories.{StreamEffect, stays, turns, Tells, received_tells, tells_on, opening_tells}
use Rattle.device.proofs.Histories.{closing_tells}
use Rattle.device.proofs.Untouched.{opening_keeps_settings, opening_keeps_own, closing_keeps_settings}
use Rattle.device.proofs.Untouched.{closing_keeps_own}
use Rattle.ours.specs.Board.{ours, received_in, reply}
use Rattle.demands.specs.Calls.{Call, opens, closes, receives, passes, faults, reports, enables, after, run}
use Rattle.demands.proofs.Agrees.{power_of, left_of, Shows, Agrees, agrees_at, remarked, recounted, Then, agrees_none}
use Rattle.demands.proofs.Agrees.{agrees_switched, agrees_seconds, agrees_marked, stage_from-append, marks_after-append}
use Rattle.demands.proofs.Agrees.{burning_from-append}
use Rattle.std.proofs.lemmas.List.{length-replicate}
use Rattle.record.specs.Record.{all_closed, settings_of, start_own, start_device}
use Rattle.record.specs.SetUp.{is_set_up}
use Rattle.record.proofs.ConnectionTold.{closed_holds_none}
use Rattle.record.proofs.OwnTold.{lamp_at}
use Rattle.record.proofs.Started.{started_legal, started_parts, started_lamp, set_up_started}
use Rattle.stored.specs.Loading.{started_with}
use Rattle.stored.proofs.FormsLoad.{form_loads, form_marks, marked_form_loads, marked_form_marks, old_form_loads}
use Rattle.stored.proofs.Marks.{started_with-replicate, slice_index_or-mark_room}
use Rattle.demands.specs.CountsSeconds.{Beginning, sets_up, loads, loads_marked, loads_old, start_marks, begun_by}
use Rattle.demands.specs.CountsSeconds.{IsAccepted, run_of, history_of}

module _ (a b c d : ℕ) (powr : is_body 1 (a ∷ b ∷ c ∷ d ∷ []) Powr ≡ true) (stream reply : List ℕ)
    (okay : is_power_okay reply ≡ true) where
  abbrev line : Bool → List ℕ
  line wanted = power_line a b c d wanted ++ codes "\r"

  -- the line is the last nine bytes
  last_nine : (wanted : Bool) → Ends stream (line wanted) → drop (length stream - 9) stream ≡ line wanted
  last_nine wanted e =
      let long : length stream ≡ length e.before + 9
      = ap length e.split ∙ length-append e.before (line wanted) in
      let nine : length stream - 9 ≡ length e.before = omega arith in
      (λ i. drop (nine i) (e.split i)) ∙ drop-append_seam e.before (line wanted)

  pub set_seen : (wanted : Bool) → Ends stream (line wanted) → power_set stream reply ≡ switched wanted ∷ []
  unfolding power_set
  set_seen wanted e = grind (arith, last_nine, power_line_read, power_line_not_other)

pub none_seen : (stream reply : List ℕ) → is_power_okay reply ≡ false → power_set stream reply ≡ []
unfolding power_set
none_seen stream reply e = rw e

-- whatever it is, it is one set or none
pub one_or_none : (P : List HistoryEvent → Type 0) (stream reply : List ℕ) → P []
    → ((wanted : Bool) → P (switched wanted ∷ []))
    → P (power_set stream reply)
unfolding power_set
one_or_none P stream reply none one = grind arith

-- ---- a power set that was answered OK

module _ (w : Wanted) (s : Settings) (o : Own) (warm : s.warm ≡ w.warm) (cool : s.cool ≡ w.cool) where
  turned : (g : Stage) (wanted : Bool) → o.power ≡ power_of g → o.left ≡ left_of g
      → answer_for s o (Ok (PowerSet wanted)) ≡ okay
      → Shows (next_stage w g (switched wanted)) (after_request s o (Ok (PowerSet wanted)))
  turned g wanted p l m = grind (arith, on_otherwise, off_when_on, on_when_off, off_otherwise, power_set_only)

module _ {w : Wanted} {g : Stage} {ms : List Bool} {n : ℕ → ℕ} {stream : Streams} {d : Device}
    (a : Agrees w g ms n stream d) where
  -- ---- receiving

  abbrev Seen : Streams → ℕ → List ℕ → Device → Type 0
  Seen now p answer e = Then w g ms n (power_set (now p) answer) now e

  module _ (now : Streams) (p : ℕ) (answer : List ℕ) (e : Device) (settings : e.settings ≡ d.settings)
      (last : (q : ℕ) → Ends (now q) (line_text (connection_at e q).line)) where
    by_effect : e.own.lamps ≡ d.own.lamps → e.own.enabled ≡ d.own.enabled
        → StreamEffect d.settings d.own (now p) answer e.own
        → Seen now p answer e
    by_effect m same (stays other k l) = grind (arith, none_seen, agrees_none, agrees_at)
    by_effect m same (turns b1 b2 b3 b4 wanted powr line said passed own) =
        let yes = ap is_power_okay said ∙ okay_reply b1 b2 b3 b4 powr in
        let warm = ap (λ (s : Settings). s.warm) a.settings in
        let cool = ap (λ (s : Settings). s.cool) a.settings in
        let shows : Shows (next_stage w g (switched wanted)) (after_request d.settings d.own (Ok (PowerSet wanted)))
        = turned w d.settings d.own warm cool g wanted a.power a.left passed in
        rw (set_seen b1 b2 b3 b4 powr (now p) answer yes wanted line)
        (agrees_switched wanted g
        (agrees_at a (next_stage w g (switched wanted)) now e settings (ap (λ (k : Own). k.power) own ∙ shows.power)
        (ap (λ (k : Own). k.left) own ∙ shows.left) m same last))

  module _ (p : ℕ) (bs m : List ℕ) where
    abbrev Told : CallResult Refusal ℕ Device → Type 0
    Told r =
        Tells d.settings d.own (line_text (connection_at d p).line ++ take (number_answered r) bs)
        r.bytes r.leaves.own (connection_at r.leaves p)

    -- what is held at each place ends its stream
    going_on : (r : CallResult Refusal ℕ Device)
        → ((q : ℕ) → (q ≡ p → ⊥) → connection_at r.leaves q ≡ connection_at d q)
        → Ends (stream p ++ take (number_answered r) bs) (line_text (connection_at r.leaves p).line)
        → (q : ℕ) (t : Bool) → (q == p) ≡ t
        → Ends (if t then stream q ++ take (number_answered r) bs else stream q)
        (line_text (connection_at r.leaves q).line)
    going_on r others last q t e = grind arith

    -- the reply is read off the lent memory; at every other place all is as it was
    handed : (r : CallResult Refusal ℕ Device) → r.leaves.settings ≡ d.settings
        → ((q : ℕ) → (q ≡ p → ⊥) → connection_at r.leaves q ≡ connection_at d q) → Told r
        → Seen (going_on_at stream p (take (number_answered r) bs)) p (reply (received_in r m)) r.leaves
    handed r settings others t =
        let more = take (number_answered r) bs in
        let told = tells_on d.settings d.own (a.last p) more t in
        let here : going_on_at stream p more p ≡ stream p ++ more = if_yes _ _ (eq-eqb p p refl) in
        rw (take-append_seam r.bytes (drop (length r.bytes) m))
        (by_effect (going_on_at stream p more) p r.bytes r.leaves settings
        (λ q. going_on r others told.last q (q == p) refl)
        told.lamps told.marks
        (subst (λ (k : List ℕ). StreamEffect d.settings d.own k r.bytes r.leaves.own) (sym here)
        told.effect))

  -- ---- any call

  -- one that takes nothing and tells nothing
  abbrev Quiet : Device → Type 0
  Quiet e = Then w g ms n [] stream e

  quiet : (e : Device) → e.settings ≡ d.settings → e.own.power ≡ d.own.power → e.own.left ≡ d.own.left
      → e.own.lamps ≡ d.own.lamps → e.own.enabled ≡ d.own.enabled
      → ((q : ℕ) → Ends (stream q) (line_text (connection_at e q).line)) → Quiet e
  quiet e s p l m same last = agrees_none (agrees_at a g stream e s (p ∙ a.power) (l ∙ a.left) m same last)

  kept : Quiet d
  kept = quiet d refl refl refl refl refl a.last

  -- one that changes connections at most
  reconnected : (e : Device) → e.settings ≡ d.settings → e.own ≡ d.own
      → ((q : ℕ) → Ends (stream q) (line_text (connection_at e q).line)) → Quiet e
  reconnected e s o last = grind (arith, quiet)

  abbrev pub IsNoted : Call → Type 0
  IsNoted c =
      Then w g ms n (seen ours d (streams_after ours d stream c) c) (streams_after ours d stream c) (after ours d c)

  abbrev QuietBy : CallResult Refusal (Unit {0}) Device → Type 0
  QuietBy c = Quiet c.leaves

  pub noted : (c : Call) → IsNoted c
  noted (opens random m) = grind (arith, reconnected, opening_keeps_settings, opening_keeps_own, opening_tells)
  noted (closes p) = grind (arith, reconnected, closing_keeps_settings, closing_keeps_own, closing_tells)
  noted (faults fault) =
      fault_set_by d QuietBy fault kept (λ legal. quiet _ refl refl refl refl refl a.last)
  noted (reports errors) =
      errors_set_by d QuietBy errors kept kept (λ legal right. quiet _ refl refl refl refl refl a.last)
  noted (enables lamp mark) =
      mark_set_by d Enabled lamp mark (λ e z. rw (ne_eqb (refusal_number e) 0 z) kept)
      (λ legal there left idle.
      let own = own_of_legal d legal in
      let count : d.settings.lamp_count ≡ length w.lamps
      = ap (λ (s : Settings). s.lamp_count) a.settings in
      let room = marks_long d.settings.lamp_count d.own.enabled own.marks in
      agrees_marked ms lamp mark g (mark_still g)
      (remarked a lamp mark (omega (arith, count)) (omega (arith, room, own.lamps.inside))))
    where
      Enabled : CallResult Refusal (Unit {0}) Device → Type 0
      Enabled c =
          Then w g ms n (if call_number refusal_number c == 0 then mark_switched lamp mark ∷ [] else []) stream c.leaves

      mark_still : (h : Stage) → next_stage w h (mark_switched lamp mark) ≡ h
      mark_still (steady on) = refl
      mark_still (towards on k) = refl
  noted (passes k) = passed_by Passed d k (λ illegal. kept) (λ legal. agrees_seconds k legal a)
    where
      Passed : CallResult Refusal (Unit {0}) Device → Type 0
      Passed c =
          Then w g ms n (if call_number refusal_number c == 0 then replicate k a_second else []) stream c.leaves
  noted (receives p bs m) =
      received_by d p bs (length m) (λ r. Told p bs m r → Received r) (λ e z t. rw (ne_eqb (refusal_number e) 0 z) kept)
      (λ h s i c t. handed p bs m (accepted_taken d p (takes d p bs)) refl
      (λ q other. placed_elsewhere d d.own p _ q other) t)
      (received_tells d p bs (length m))
    where
      Received : CallResult Refusal ℕ Device → Type 0
      Received c =
          let r = received_in c m in
          let now = if r.number == 0 then going_on_at stream p (take r.taken bs) else stream in
          Then w g ms n (if r.number == 0 then power_set (now p) (reply r) else []) now r.device

-- ---- set-up, or load

module _ (w : Wanted) (ms : List Bool) (h : is_set_up w ≡ true) (many : length ms ≡ length w.lamps) where
  abbrev fresh : Device
  fresh = started_with w ms

  parts : start_device w ≡ record { settings = settings_of w; own = start_own w.lamps; connections = all_closed }
  parts = started_parts w

  start_within : (place : ℕ) → place < length w.lamps → slice_index_or (start_device w).own.lamps place 0 ≤ lamp_limit
  start_within place inside =
      lamp_at (start_device w).settings (start_device w).own (own_of_legal (start_device w) (started_legal w h)) place
      (rw parts inside)

  -- no place holds a byte
  none_held : (q : ℕ) → (slice_index_or all_closed q no_connection).line.held ≡ 0
  none_held q = grind (arith, closed_holds_none)

  agrees_started : Agrees w (steady false) ms (λ k. 0) no_streams (started_with w ms)
  agrees_started = record {
    settings = ap (λ (d : Device). d.settings) parts;
    power = ap (λ (d : Device). d.own.power) parts;
    left = ap (λ (d : Device). d.own.left) parts;
    lamps = λ place inside.
        let within = start_within place inside in
        let same = started_lamp w place inside in
        omega arith;
    marks_long = many;
    marks = λ place inside. slice_index_or-mark_room ms place;
    last = λ q.
        ends_unheld [] (connection_at (start_device w) q).line
        (ap (λ (d : Device). (connection_at d q).line.held) parts ∙ none_held q);
  }

-- ---- any calls

-- the last record agrees with the whole history, and with some streams
run_agrees : (cs : List Call) (w : Wanted) (g : Stage) (ms : List Bool) (n : ℕ → ℕ) (stream : Streams) (d : Device)
    → Agrees w g ms n stream d → (now : Streams) × Then w g ms n (history ours d stream cs) now (run ours d cs)
run_agrees [] w g ms n stream d a = (stream, agrees_none a)
run_agrees (c ∷ cs) w g ms n stream d a =
    let now = streams_after ours d stream c in
    let es = seen ours d now c in
    let fs = history ours (after ours d c) now cs in
    let rest = run_agrees cs w (stage_from w g es) (marks_after ms es) (λ k. n k + burning_from w g ms k es) now
    (after ours d c) (noted a c) in (
      rest.0,
      rw (stage_from-append w g es fs, marks_after-append ms es fs)
          (recounted rest.1
          (λ k. add_assoc (n k) (burning_from w g ms k es) (burning_from w (stage_from w g es) (marks_after ms es) k fs)
          ∙ ap (λ (c : ℕ). n k + c) (sym (burning_from-append w g ms k es fs)))),
    )

-- however it begins, it is the set-up of its settings, with the marks that it begins with
set_up_too : (b : Beginning) (w : Wanted) → IsAccepted ours b w → is_set_up w ≡ true
set_up_too b w h = grind (arith, set_up_in_range)

begins_so : (b : Beginning) (w : Wanted) → IsAccepted ours b w
    → (begun_by ours b w).device ≡ started_with w (start_marks b w)
begins_so sets_up w h = set_up_started w h ∙ sym (started_with-replicate w (set_up_in_range w h))
begins_so (loads ms) w h = grind (arith, form_loads, form_marks)
begins_so (loads_marked ms) w h = grind (arith, marked_form_loads, marked_form_marks)
begins_so loads_old w h = grind (arith, old_form_loads, set_up_accepted, started_with-replicate)

pub marks_many : (b : Beginning) (w : Wanted) → IsAccepted ours b w → length (start_marks b w) ≡ length w.lamps
marks_many sets_up w h = length-replicate (length w.lamps) true
marks_many (loads ms) w h =
    eqb-true (length ms) (length w.lamps) (both_left _ _ (form_marks w h.0 ms h.1))
marks_many (loads_marked ms) w h =
    eqb-true (length ms) (length w.lamps)
    (both_left _ _ (marked_form_marks w h.0.set_up h.0.class_1 ms h.1))
marks_many loads_old w h = length-replicate (length w.lamps) true

pub begun_agrees : (b : Beginning) (w : Wanted) → IsAccepted ours b w
    → Agrees w (steady false) (start_marks b w) (λ k. 0) no_streams (begun_by ours b w).device
begun_agrees b w h = grind (arith, begins_so, agrees_started, set_up_too, marks_many)

module _ (b : Beginning) (w : Wanted) (cs : List Call) (h : IsAccepted ours b w) where
  abbrev ms : List Bool
  ms = start_marks b w

  abbrev known : List HistoryEvent
  known = history_of ours b w cs

  pub history_told : (now : Streams)
      × Agrees w (stage_after w known) (marks_after ms known) (λ k. burning_seconds w ms k known) now
      (run_of ours b w cs)
  history_told =
      let all = run_agrees cs w (steady false) ms (λ k. 0) no_streams (begun_by ours b w).device (begun_agrees b w h) in
      (all.0, recounted all.1 (λ k. zero-add (burning_seconds w ms k known)))
