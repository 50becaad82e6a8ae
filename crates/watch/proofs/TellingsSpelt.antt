-- What is told and left with the steps of a log, by what comes: nothing more, or a step and the rest.
-- Assumes nothing.
use Rattle.std.proofs.Common.{ℕ, ◌+◌, ◌-◌, ◌*◌, ◌≤◌, ◌≡◌, refl, Bool, true, false, not, ◌&&◌, if◌then◌else◌, arith}
use Rattle.std.proofs.Common.{List, [], ◌∷◌, ◌++◌, map, length, sum_by}
use Rattle.std.proofs.lemmas.List.Sums.{sum_by-cons}
use Rattle.clock.specs.Passing.{seconds_most}
use Rattle.watch.specs.Marking.{floor_event, seconds_by}
use Rattle.watch.specs.CallSteps.{still_step}
use Rattle.watch.specs.Watching.{Step, Watching, is_burning_in, gained_by, is_long, watched_on}
use Rattle.watch.specs.Telling.{lit_stretch_if, told_on, told_at_end, lit_stretches, after_log}
use Rattle.watch.proofs.LineLeaves.{floor_seconds}

module _ (s : Watching) where
  pub tellings_none : lit_stretches s [] ≡ told_at_end s
  unfolding lit_stretches
  tellings_none = refl

  pub after_none : after_log s [] ≡ s
  unfolding after_log
  after_none = refl

  module _ (e : Step) (es : List Step) where
    pub tellings_more : lit_stretches s (e ∷ es) ≡ told_on s e ++ lit_stretches (watched_on s e) es
    unfolding lit_stretches
    tellings_more = refl

    pub after_more : after_log s (e ∷ es) ≡ after_log (watched_on s e) es
    unfolding after_log
    after_more = refl

-- a step that leaves the device and lets no second pass tells nothing, and leaves all
module _ (s : Watching) where
  abbrev stood : Bool → Watching
  stood b = record {
    device = s.device;
    time = s.time + 0;
    from = if not b && b then s.time + 0 else s.from;
    burnt = if b && not b then gained_by s.device (s.time + 0 - s.from) s.burnt else s.burnt;
  }

  same_time : s.time + 0 ≡ s.time
  same_time = omega arith

  stood_still : (b : Bool) → stood b ≡ s
  stood_still true = (λ i. record { device = s.device; time = same_time i; from = s.from; burnt = s.burnt })
  stood_still false = (λ i. record { device = s.device; time = same_time i; from = s.from; burnt = s.burnt })

  pub still_leaves : watched_on s (still_step s.device) ≡ s
  still_leaves = stood_still (is_burning_in s.device)

  told_dark : (b long : Bool) (t : Watching) → lit_stretch_if ((b && not b) && long) t ≡ []
  told_dark true long t = refl
  told_dark false long t = refl

  pub still_tells : told_on s (still_step s.device) ≡ []
  still_tells =
      let t = watched_on s (still_step s.device) in told_dark (is_burning_in s.device) (is_long t) t

-- a log of so many lines lets no more seconds pass than each could
pub seconds_most_lem : (ls : List (List ℕ)) → sum_by seconds_by (map floor_event ls) ≤ length ls * seconds_most
seconds_most_lem [] = omega arith
seconds_most_lem (l ∷ ls) =
    omega (arith, floor_seconds l, seconds_most_lem ls, sum_by-cons seconds_by (floor_event l) (map floor_event ls))
