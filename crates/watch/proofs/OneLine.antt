-- One step of a log that is watched, by what the functions that make it give.
-- Assumes nothing.
use Rattle.std.proofs.Common.{ℕ, ◌+◌, ◌-◌, ◌≡◌, Bool, true, not, ◌&&◌, List, arith, nat_lt, if◌then◌else◌}
use Rattle.record.specs.declared.types.Device.{Device}
use Rattle.watch.specs.Watching.{Step, Watching, is_burning_in, gained_by, watched_on, is_sound}
use Rattle.watch.specs.States.{IsWatched}
use Rattle.watch.proofs.Sound.{sound_after}

module _ (e : Step) (s : Watching) {d : Device} (done : d ≡ e.device) where
  module _ {t n : ℕ} (seconds : n ≡ e.seconds) (timed : t ≡ s.time + n) {was : Bool}
      (before : was ≡ is_burning_in s.device) {from : ℕ}
      (begun : from ≡ (if not was && is_burning_in d then t else s.from)) {burnt : List ℕ}
      (gained : burnt ≡ (if was && not (is_burning_in d) then gained_by d (t - s.from) s.burnt else s.burnt)) where
    abbrev after : Watching
    after = record { device = d; time = t; from = from; burnt = burnt }

    pub watched_is : after ≡ watched_on s e
    watched_is = grind arith

    pub line_watched : {told : Bool} → told ≡ ((was && not (is_burning_in d)) && nat_lt from t)
        → IsWatched s e after told
    line_watched is_told = grind (arith, watched_is)

    pub stays_sound : is_sound s ≡ true → is_sound after ≡ true
    stays_sound sound = grind (arith, watched_is, sound_after)
