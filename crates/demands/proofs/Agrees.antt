-- The invariant of demand 3's history: the outsider's clock shows the device's power and seconds left, his counts are
-- in the lamps and his marks theirs, and the bytes that the device holds at a place are the last of his stream there.
--   seen_in g                    the stage g, as the power is seen
--   power_of g, left_of g        the power and the seconds left that it shows
--   Shows g o                    the own part o has them
--   Agrees w g ms n stream d     the stage g, the marks ms, the counts n, one a lamp, and the streams agree with the
--                                device d, set up with w
--   Then w g ms n es stream d    so they do after the events es
-- Assumes nothing.
use Rattle.std.proofs.Common.{ℕ, ◌+◌, ◌<◌, ◌≡◌, refl, sym, ap, subst, ◌∙◌, Bool, true, false, ◌&&◌, List, arith, length}
use Rattle.std.proofs.Common.{slice_index_or, set, length-set, get_or-set_same, get_or-set_other, eqb-true, zero, suc}
use Rattle.std.proofs.Common.{[], ◌∷◌, ◌++◌, add-zero, zero-add, add_assoc, replicate, if◌then◌else◌}
use Rattle.std.proofs.lemmas.Bool.{eqb-false}
use Rattle.record.specs.Views.{marks_seen}
use Rattle.text.proofs.FlagsTold.{raised_set, raised_many}
use Rattle.text.specs.Flags.{flag_of}
use Rattle.record.specs.Limits.{is_lit}
use Rattle.record.specs.Wanted.{Wanted}
use Rattle.record.specs.Legal.{is_legal}
use Rattle.record.specs.Record.{closed, settings_of}
use Rattle.record.specs.declared.types.Settings.{Settings}
use Rattle.record.specs.declared.types.Own.{Own}
use Rattle.record.specs.Places.{connection_at}
use Rattle.record.specs.Updates.{with_own, with_marks}
use Rattle.record.specs.declared.types.CollectedLine.{CollectedLine}
use Rattle.record.specs.declared.types.Connection.{Connection}
use Rattle.record.specs.declared.types.Device.{Device}
use Rattle.record.proofs.ConnectionTold.{closed_holds_none}
use Rattle.record.proofs.PowerSeen.{seen_again}
use Rattle.record.specs.Views.{power_number, power_left}
use Rattle.record.specs.declared.views.Power.{Power}
use Rattle.record.specs.declared.views.Power.TheVariants.{Off, WarmUp, On, Cooling}
use Rattle.clock.specs.Second.{power_second, times, own_second, second}
use Rattle.clock.specs.After.{lamp_after}
use Rattle.clock.proofs.ConnectionsAge.{line_then}
use Rattle.clock.proofs.InOneGo.{parts_pass, place_passes}
use Rattle.clock.proofs.LampsByPlace.{lamp_after_seconds}
use Rattle.clock.proofs.PowerByTime.{power_in_a_second, left_in_a_second}
use Rattle.clock.proofs.Untouched.{own_else_stays}
use Rattle.stream.specs.Collecting.{line_text}
use Rattle.stream.proofs.LastBytes.{Ends, ends_unheld}
use Rattle.demands.specs.History.{Streams, a_second, Stage, steady, towards, next_stage, is_burning_stage, burnt_in}
use Rattle.demands.specs.History.{lamp_with}
use Rattle.demands.specs.History.{HistoryEvent, switched, mark_switched, marks_next, marks_after, stage_from}
use Rattle.demands.specs.History.{burning_from}
use Rattle.clock.proofs.TimeAdds.{no_seconds, seconds_add}
use Rattle.clock.proofs.TimeLegal.{time_legal}

pub record PowerThen (p l : ℕ) (o : Own) : Type 0 where
  pub power : o.power ≡ p
  pub left : o.left ≡ l

-- the stage, as the power is seen
abbrev pub seen_in : Stage → Power
seen_in (steady true) = On
seen_in (steady false) = Off
seen_in (towards true n) = WarmUp n
seen_in (towards false n) = Cooling n

abbrev pub power_of : Stage → ℕ
power_of g = power_number (seen_in g)

abbrev pub left_of : Stage → ℕ
left_of g = power_left (seen_in g)

abbrev pub Shows : Stage → Own → Type 0
Shows g o = PowerThen (power_of g) (left_of g) o

pub record Agrees (w : Wanted) (g : Stage) (ms : List Bool) (n : ℕ → ℕ) (stream : Streams) (d : Device)
    : Type 0 where
  pub settings : d.settings ≡ settings_of w
  pub power : d.own.power ≡ power_of g
  pub left : d.own.left ≡ left_of g
  pub lamps : (place : ℕ) → place < length w.lamps
      → slice_index_or d.own.lamps place 0 ≡ lamp_with (n place) (slice_index_or w.lamps place 0)
  pub marks_long : length ms ≡ length w.lamps
  pub marks : (place : ℕ) → place < length w.lamps →
      slice_index_or (marks_seen d.own) place false ≡ slice_index_or ms place false
  pub last : (q : ℕ) → Ends (stream q) (line_text (connection_at d q).line)

pub lit_shown : (g : Stage) → is_lit (power_of g) ≡ is_burning_stage g
lit_shown g = grind arith

-- ---- one second

power_second-seen_in : (w : Wanted) (g : Stage) → power_second (seen_in g) ≡ seen_in (next_stage w g a_second)
power_second-seen_in w g = grind arith

power_second_lem : (w : Wanted) (s : Settings) (o : Own) (g : Stage) → o.power ≡ power_of g → o.left ≡ left_of g
    → Shows (next_stage w g a_second) (times (own_second s) 1 o)
power_second_lem w s o g p l = grind (arith, seen_again, power_second-seen_in, power_in_a_second, left_in_a_second)

lamp_second : (g : Stage) (mark : Bool) (n x : ℕ)
    → lamp_after 1 (is_lit (power_of g) && mark) (lamp_with n x)
    ≡ lamp_with (n + (if is_burning_stage g && mark then 1 else 0)) x
lamp_second g mark n x = grind arith

module _ {w : Wanted} {g : Stage} {ms : List Bool} {n : ℕ → ℕ} {stream : Streams} {d : Device}
    (a : Agrees w g ms n stream d) (legal : is_legal d ≡ true) where
  abbrev shown : Shows (next_stage w g a_second) (times (own_second d.settings) 1 d.own)
  shown =
      power_second_lem w d.settings d.own g a.power a.left

  pub agrees_second : Agrees w (next_stage w g a_second) ms (λ k. n k + burnt_in g ms k a_second) stream
      (times second 1 d)
  agrees_second = record {
    settings = ap (λ (x : Device). x.settings) (parts_pass 1 d) ∙ a.settings;
    power = ap (λ (x : Device). x.own.power) (parts_pass 1 d) ∙ shown.power;
    left = ap (λ (x : Device). x.own.left) (parts_pass 1 d) ∙ shown.left;
    lamps = λ place inside.
        lamp_after_seconds 1 d place legal (rw a.settings inside)
        ∙ rw (a.power, a.lamps place inside, a.marks place inside)
        (lamp_second g (slice_index_or ms place false) (n place) (slice_index_or w.lamps place 0));
    marks_long = a.marks_long;
    marks = λ place inside.
        ap (λ (o : Own). slice_index_or (marks_seen o) place false)
        (ap (λ (x : Device). x.own) (parts_pass 1 d) ∙ own_else_stays 1 d.settings d.own)
        ∙ a.marks place inside;
    last = λ q.
        subst (λ (c : Connection). Ends (stream q) (line_text c.line)) (sym (place_passes 1 d q))
        (line_then (λ (l : CollectedLine). Ends (stream q) (line_text l))
        (ends_unheld (stream q) closed.line closed_holds_none) 1 (connection_at d q) (a.last q));
  }

-- ---- a call that leaves the lamps

module _ {w : Wanted} {g : Stage} {ms : List Bool} {n : ℕ → ℕ} {stream : Streams} {d : Device}
    (a : Agrees w g ms n stream d) where
  pub agrees_at : (h : Stage) (now : Streams) (e : Device) → e.settings ≡ d.settings → e.own.power ≡ power_of h
      → e.own.left ≡ left_of h → e.own.lamps ≡ d.own.lamps → e.own.enabled ≡ d.own.enabled
      → ((q : ℕ) → Ends (now q) (line_text (connection_at e q).line)) → Agrees w h ms n now e
  agrees_at h now e s p l m same last = grind arith

  -- the counts by other names
  pub recounted : {m : ℕ → ℕ} → ((k : ℕ) → n k ≡ m k) → Agrees w g ms m stream d
  recounted e = grind arith

  -- a mark replaced, here and there
  pub remarked : (lamp : ℕ) (mark : Bool) → lamp < length w.lamps → lamp < length d.own.enabled
      → Agrees w g (set ms lamp mark) n stream (with_own d (with_marks d.own (set d.own.enabled lamp (flag_of mark))))
  remarked lamp mark there room =
      grind (
        arith,
        length-set,
        eqb-true,
        get_or-set_same,
        eqb-false,
        get_or-set_other,
        raised_set,
        raised_many,
      )

pub stage_from-append : (w : Wanted) (g : Stage) (es fs : List HistoryEvent)
    → stage_from w g (es ++ fs) ≡ stage_from w (stage_from w g es) fs
stage_from-append w g [] fs = refl
stage_from-append w g (e ∷ es) fs = stage_from-append w (next_stage w g e) es fs

pub marks_after-append : (ms : List Bool) (es fs : List HistoryEvent) →
    marks_after ms (es ++ fs) ≡ marks_after (marks_after ms es) fs
marks_after-append ms [] fs = refl
marks_after-append ms (e ∷ es) fs = marks_after-append (marks_next ms e) es fs

pub burning_from-append : (w : Wanted) (g : Stage) (ms : List Bool) (k : ℕ) (es fs : List HistoryEvent)
    → burning_from w g ms k (es ++ fs)
    ≡ burning_from w g ms k es + burning_from w (stage_from w g es) (marks_after ms es) k fs
burning_from-append w g ms k [] fs = rw zero-add
burning_from-append w g ms k (e ∷ es) fs =
    grind (arith, burning_from-append w (next_stage w g e) (marks_next ms e) k es fs)

abbrev pub Then : Wanted → Stage → List Bool → (ℕ → ℕ) → List HistoryEvent → Streams → Device → Type 0
Then w g ms n es stream d =
    Agrees w (stage_from w g es) (marks_after ms es) (λ k. n k + burning_from w g ms k es) stream d

module _ {w : Wanted} {ms : List Bool} {n : ℕ → ℕ} {stream : Streams} {d : Device} where
  pub agrees_none : {g : Stage} → Agrees w g ms n stream d → Then w g ms n [] stream d
  agrees_none a = recounted a (λ k. sym (add-zero (n k)))

  -- a power set is no second
  pub agrees_switched : (wanted : Bool) (g : Stage) → Agrees w (next_stage w g (switched wanted)) ms n stream d
      → Then w g ms n (switched wanted ∷ []) stream d
  agrees_switched wanted g a = recounted a (λ k. sym (add-zero (n k)))

-- nor is a mark
pub agrees_marked : {w : Wanted} (ms : List Bool) {n : ℕ → ℕ} {stream : Streams} {d : Device} (lamp : ℕ) (mark : Bool)
    (g : Stage) → next_stage w g (mark_switched lamp mark) ≡ g
    → Agrees w g (set ms lamp mark) n stream d → Then w g ms n (mark_switched lamp mark ∷ []) stream d
agrees_marked ms {n} lamp mark g still a = rw still (recounted a (λ k. sym (add-zero (n k))))

pub agrees_seconds : (k : ℕ) {w : Wanted} {g : Stage} {ms : List Bool} {n : ℕ → ℕ} {stream : Streams} {d : Device}
    → is_legal d ≡ true → Agrees w g ms n stream d
    → Then w g ms n (replicate k a_second) stream (times second k d)
agrees_seconds zero {w} {g} {ms} {n} {stream} {d} legal a = rw (no_seconds d) (agrees_none a)
agrees_seconds (suc k) {w} {g} {ms} {n} {stream} {d} legal a =
    let one : 1 + k ≡ suc k = omega arith in
    let first : times second (suc k) d ≡ times second k (times second 1 d)
    = ap (λ (m : ℕ). times second m d) (sym one) ∙ seconds_add 1 k d in
    rw first
    (recounted (agrees_seconds k (time_legal 1 d legal) (agrees_second a legal))
    (λ j. add_assoc (n j) (burnt_in g ms j a_second)
    (burning_from w (next_stage w g a_second) ms j (replicate k a_second))))
