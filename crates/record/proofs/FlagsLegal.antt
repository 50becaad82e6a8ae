-- The flags of a legal record are 0 or 1.
-- Assumes nothing.
use Rattle.std.proofs.Common.{ℕ, ◌<◌, ◌≤◌, ◌≡◌, true, length, slice_index_or, ⊎_elim, arith}
use Rattle.std.proofs.Math.ListN.{get_or-eq_default}
use Rattle.text.specs.Flags.{is_flag}
use Rattle.text.proofs.FlagsTold.{flag_told, flag_back}
use Rattle.text.proofs.Orders.{le_or_lt}
use Rattle.text.proofs.Scanning.{list_all_at}
use Rattle.record.specs.Legal.{is_legal}
use Rattle.record.specs.Facts.{HasFlags}
use Rattle.record.specs.declared.types.Device.{Device}
use Rattle.record.proofs.LegalTold.{own_of_legal, connection_of_legal}
use Rattle.record.proofs.MarksTold.{marks_flags}

module _ (d : Device) (legal : is_legal d ≡ true) where
  mark_flag : (k : ℕ) → slice_index_or d.own.enabled k 0 ≤ 1
  mark_flag k =
      let own = own_of_legal d legal in
      let flags = marks_flags d.settings.lamp_count d.own.enabled own.marks in
      ⊎_elim
      (λ (past : length d.own.enabled ≤ k). omega (arith, get_or-eq_default d.own.enabled 0 {n = k} past))
      (λ (there : k < length d.own.enabled). grind (arith, list_all_at is_flag d.own.enabled 0 flags k there))
      (le_or_lt (length d.own.enabled) k)

  pub legal_flags : HasFlags d
  legal_flags =
      let own = own_of_legal d legal in
      record {
        video_muted = own.video_muted;
        audio_muted = own.audio_muted;
        fault = own.fault;
        frozen = own.frozen;
        enabled = mark_flag;
        overlong = λ p there. (connection_of_legal d legal p there).overlong;
      }

pub ruleset flags_told_of_legal = (legal_flags, flag_told, flag_back)
