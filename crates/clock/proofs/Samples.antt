-- Worked cases: warm-up is left at as many seconds as are left and not later, a lamp stops at the limit, a
-- connection closes at the age 30; and the call itself, computed on the set-up of "Lines that settle it".
-- Assumes nothing.
use Rattle.std.proofs.Common.{◌+◌, ◌≡◌, refl, ap, ◌∙◌, true, [], ◌∷◌, arith}
use Rattle.record.specs.Limits.{on, warming}
use Rattle.record.specs.Legal.{is_timed}
use Rattle.record.specs.Record.{closed}
use Rattle.record.specs.Updates.{with_age}
use Rattle.record.specs.Computing.{computing as computing-record}
use Rattle.record.specs.declared.types.Settings.{Settings}
use Rattle.record.specs.declared.types.Own.{Own}
use Rattle.record.specs.declared.types.Connection.{Connection}
use Rattle.clock.specs.Second.{times, one_more, own_second, connection_second}
use Rattle.clock.specs.Passing.{seconds_most}
use Rattle.clock.specs.Worked.{passed_figures}
use Rattle.clock.specs.Computing.{computing}
use Rattle.clock.proofs.LampsGain.{gains, stops}
use Rattle.clock.proofs.ConnectionsAge.{grows_older, closes}
use Rattle.clock.proofs.PowerByTime.{power_by_time}
use Rattle.clock.specs.After.{power_after}
use Rattle.record.specs.Views.{power_seen, IsPowerOf}
use Rattle.record.specs.declared.views.Power.TheVariants.{WarmUp, On}

module _ (s : Settings) (o : Own) (t : IsPowerOf s.warm s.cool o.power o.left) (warms : power_seen o ≡ WarmUp 20) where
  pub after_19_still_warming : power_seen (times (own_second s) 19 o) ≡ WarmUp 1
  after_19_still_warming = power_by_time s o 19 t ∙ ap (power_after 19) warms

  pub after_20_on : power_seen (times (own_second s) 20 o) ≡ On
  after_20_on = power_by_time s o 20 t ∙ ap (power_after 20) warms

pub one_short_of_the_limit : times one_more 1 359999998 ≡ 359999999
one_short_of_the_limit = gains 1 359999998 (omega arith)

pub stops_at_the_limit : times one_more seconds_most 0 ≡ 359999999
stops_at_the_limit = stops seconds_most 0 (omega arith) (omega arith)

module _ (c : Connection) (ages : is_timed c.phase ≡ true) where
  pub at_28_older : c.age ≡ 28 → times connection_second 1 c ≡ with_age c 29
  at_28_older e = let one : c.age + 1 ≡ 29 = omega arith in grows_older 1 c ages (omega arith) ∙ ap (with_age c) one

  pub at_29_closes : c.age ≡ 29 → times connection_second 1 c ≡ closed
  at_29_closes e = closes 1 c ages (omega arith) (omega arith)

pub passed_19 : passed_figures 19 ≡ 0 ∷ warming ∷ 1 ∷ 19 ∷ []
unfolding computing computing-record
passed_19 = refl

pub passed_20 : passed_figures 20 ≡ 0 ∷ on ∷ 0 ∷ 20 ∷ []
unfolding computing computing-record
passed_20 = refl

pub passed_3600 : passed_figures 3600 ≡ 0 ∷ on ∷ 0 ∷ 3600 ∷ []
unfolding computing computing-record
passed_3600 = refl

pub ruleset worked_seconds = (
  after_19_still_warming,
  after_20_on,
  one_short_of_the_limit,
  stops_at_the_limit,
  at_28_older,
  at_29_closes,
  passed_19,
  passed_20,
  passed_3600,
)
