-- LAMP: at each lamp's place, its seconds divided by 3,600, rounded down, and whether it is lit: enabled, in warm-up
-- or power-on (RULES, Lamps).
-- Assumes nothing.
use Rattle.std.proofs.Common.{ℕ, ◌<◌, ◌≤◌, ◌≡◌, false, ◌&&◌, arith, length, slice_index_or, length-take, get_or-take}
use Rattle.std.proofs.Common.{ne_eqb, Ok}
use Rattle.pjlink.specs.declared.body.Body.TheVariants.{Lamp}
use Rattle.pjlink.specs.declared.command.Command.TheVariants.{Query}
use Rattle.pjlink.specs.Said.{lamps_are}
use Rattle.words.specs.declared.lamp.LampHours.{LampHours}
use Rattle.record.specs.Limits.{is_lit}
use Rattle.record.specs.Views.{marks_seen}
use Rattle.record.specs.declared.types.Settings.{Settings}
use Rattle.record.specs.declared.types.Own.{Own}
use Rattle.meaning.specs.Meaning.{lamp_said, lamps_of, answer_for}
use Rattle.meaning.proofs.LampsSaid.{said_at}
use Rattle.meaning.proofs.Cases.{meant_passed}

module _ (s : Settings) (o : Own) where
  -- neither the fault flag nor the power keeps LAMP from its answer
  pub lamps_answered : 1 ≤ s.lamp_count → answer_for s o (Ok (Query Lamp)) ≡ lamps_are (lamps_of s o)
  lamps_answered h = grind (arith, meant_passed, ne_eqb)

  pub lamp_told : (k : ℕ) (d : LampHours) → k < s.lamp_count → k < length o.lamps
      → slice_index_or (lamps_of s o) k d
      ≡ lamp_said (is_lit o.power && slice_index_or (marks_seen o) k false) (slice_index_or o.lamps k 0)
  lamp_told k d h l = grind (arith, said_at, length-take, get_or-take)
