use Rattle.std.proofs.Common.{arith}
use Rattle.demands.proofs.UnheardSamples.{alike, accepted, secured, never, unmatched_asks, unmatched_waits, asks_failed}
use Rattle.demands.proofs.UnheardSamples.{waits_awaited, power_on_answered, asks_burnt, asks_cools, waits_cools}
use Rattle.demands.proofs.theorems.an_outsider_can_be_unheard.Goals as goal

pub returns : goal.returns
returns c =
    grind (
      arith,
      accepted,
      secured,
      alike,
      never,
      unmatched_asks,
      unmatched_waits,
      asks_failed,
      waits_awaited,
      power_on_answered,
      asks_burnt,
      asks_cools,
      waits_cools,
    )
