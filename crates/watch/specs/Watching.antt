-- A log watched for its lamps: what is kept between two of its steps, and what a step does. All lamps whose marks are
-- set burn at once, from warm-up on and until power is switched off, and marks change only while power is off (RULES,
-- Lamps). So one second is kept for all of them, and nothing of a step is used but what it leaves.
--   Step                  a step of a log: the device after it, and the seconds that it let pass
--   Watching              the device; the seconds since the log began; the second at which the lamps last began to
--                         burn; the seconds that each lamp burnt in stretches that have ended
--   watching_from d       the state before a log that begins with the device d
--   is_burning_in d       the lamps whose marks are set burn in the device d
--   gained_by d n burnt   the seconds burnt, with n more for each of these lamps
--   watched_on s e        the state after the step e
--   is_dark_with s d         a step that leaves d ends the stretches under way in s: those of the lamps whose marks are
--                         set, from `from` to `time` of the state after it
--   is_long s             the stretches under way in s are not empty
--   burnt_by s            the seconds that each lamp burnt, if the log ends in the state s
--   is_sound s            no lamp burnt longer than the log lasted, and the stretch under way did not begin in the
--                         future
-- Assumes nothing.
use Rattle.std.specs.List.{list_all}
use Rattle.std.specs.Prelude.{ℕ, ◌+◌, ◌-◌, Bool, not, ◌&&◌, List, replicate, if◌then◌else◌, nat_le, nat_lt}
use Rattle.record.specs.Limits.{is_lit, lamps_most}
use Rattle.record.specs.declared.types.Device.{Device}
use Rattle.clock.specs.Second.{changed_where, marks_in}

pub record Step : Type 0 where
  pub device : Device
  pub seconds : ℕ

pub record Watching : Type 0 where
  pub device : Device
  pub time : ℕ
  pub from : ℕ
  pub burnt : List ℕ

abbrev pub watching_from : Device → Watching
watching_from d = record { device = d; time = 0; from = 0; burnt = replicate lamps_most 0 }

abbrev pub is_burning_in : Device → Bool
is_burning_in d = is_lit d.own.power

abbrev pub gained_by : Device → ℕ → List ℕ → List ℕ
gained_by d n burnt = changed_where (λ (b : ℕ). b + n) (marks_in d.settings d.own) burnt

-- the state after a step that let n seconds pass and left the device d
abbrev pub watched_by : Watching → Device → ℕ → Watching
watched_by s d n =
    let t = s.time + n in
    record {
      device = d;
      time = t;
      from = if not (is_burning_in s.device) && is_burning_in d then t else s.from;
      burnt = if is_burning_in s.device && not (is_burning_in d) then gained_by d (t - s.from) s.burnt else s.burnt;
    }

abbrev pub watched_on : Watching → Step → Watching
watched_on s e = watched_by s e.device e.seconds

abbrev pub is_dark_with : Watching → Device → Bool
is_dark_with s d = is_burning_in s.device && not (is_burning_in d)

abbrev pub is_long : Watching → Bool
is_long s = nat_lt s.from s.time

abbrev pub burnt_by : Watching → List ℕ
burnt_by s = if is_burning_in s.device then gained_by s.device (s.time - s.from) s.burnt else s.burnt

abbrev pub sound_top : Watching → ℕ
sound_top s = if is_burning_in s.device then s.from else s.time

unfoldable pub is_sound : Watching → Bool
is_sound s = nat_le s.from s.time && list_all (λ (b : ℕ). nat_le b (sound_top s)) s.burnt
