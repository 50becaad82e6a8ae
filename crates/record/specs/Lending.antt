-- What a tested record that is lent goes on as (RULES, The legal record).
--   rests_if_refused d r     the record d that was lent for r is as it was where r is a refusal
-- Assumes nothing.
use Rattle.std.specs.Prelude.{◌≡◌, Result}
use Rattle.std.specs.Borrow.{MutBor, Fml, RestsIfErr}
use Rattle.record.specs.declared.refusal.Refusal.{Refusal}
use Rattle.record.specs.declared.types.Device.{Device}
use Rattle.record.specs.declared.legality.Legal.{Legal}
use Rattle.record.specs.contracts.types.Device.{the_row}

abbrev pub rests_if_refused : MutBor Device → Result Legal Refusal → Fml
rests_if_refused d r = RestsIfErr the_row d (λ l. l.device.ghost_name) r (λ n. n ≡ d.now)
