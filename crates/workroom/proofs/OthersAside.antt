-- What other controllers of a device do at their places, and the host with the device, is aside of a connection at its
-- place (RULES, Places).
-- Assumes nothing.
use Rattle.std.proofs.Common.{ℕ, ◌<◌, ◌≡◌, refl, true, false, arith}
use Rattle.record.specs.Limits.{places_count}
use Rattle.record.specs.Legal.{is_legal}
use Rattle.record.specs.Places.{connection_at, is_closed, lowest_closed}
use Rattle.record.specs.declared.types.Device.{Device}
use Rattle.record.proofs.LegalTold.{legal_places}
use Rattle.record.proofs.ConnectionsTold.{placed_elsewhere}
use Rattle.record.proofs.Calls.{fault_set_by, errors_set_by, mark_set_by}
use Rattle.record.proofs.HostKept.{fault_legal, errors_legal, mark_legal}
use Rattle.device.specs.Calls.{opened_by}
use Rattle.device.proofs.Cases.{opened_by_lem}
use Rattle.device.proofs.Legal.{receiving_legal, opening_legal, closing_legal}
use Rattle.record.proofs.LowestClosed.{lowest_is_closed}
use Rattle.device.proofs.Untouched.{receiving_keeps_settings, receiving_keeps_others, closing_keeps_settings}
use Rattle.device.proofs.Untouched.{connection_at-closed_by, opening_keeps_settings}
use Rattle.workroom.specs.ShowsWhatWasMeant.{OthersAside}

module _ (p : ℕ) (d : Device) (legal : is_legal d ≡ true) where
  -- opening takes a place that is closed, so not one that is not
  other_place : is_closed (connection_at d p) ≡ false → lowest_closed d.connections < places_count
      → p ≡ lowest_closed d.connections → ⊥
  other_place live free same = grind (arith, lowest_is_closed, legal_places)

  opening_elsewhere : (random room : ℕ) → is_closed (connection_at d p) ≡ false
      → connection_at (opened_by d random room).leaves p ≡ connection_at d p
  opening_elsewhere random room live =
      opened_by_lem d random room (λ r. connection_at r.leaves p ≡ connection_at d p) (λ n other. refl)
      (λ known enough free. placed_elsewhere d d.own _ _ p (other_place live free))

  pub others_aside : OthersAside p d
  others_aside = record {
    receiving = λ q bs room other. record {
      settings = receiving_keeps_settings d q bs room;
      device = receiving_legal d legal q bs room;
      connection = receiving_keeps_others d q bs room p other;
    };
    closing = λ q other. record {
      settings = closing_keeps_settings d q;
      device = closing_legal d legal q;
      connection = connection_at-closed_by d q p other;
    };
    opening = λ random room live. record {
      settings = opening_keeps_settings d random room;
      device = opening_legal d legal random room;
      connection = opening_elsewhere random room live;
    };
    fault = λ mark. record {
      settings = fault_set_by d (λ r. r.leaves.settings ≡ d.settings) mark refl (λ known. refl);
      device = fault_legal d legal mark;
      connection = fault_set_by d (λ r. connection_at r.leaves p ≡ connection_at d p) mark refl (λ known. refl);
    };
    errors = λ digits. record {
      settings = errors_set_by d (λ r. r.leaves.settings ≡ d.settings) digits refl refl (λ known six. refl);
      device = errors_legal d legal digits;
      connection = errors_set_by d (λ r. connection_at r.leaves p ≡ connection_at d p) digits refl refl
          (λ known six. refl);
    };
    marks = λ lamp mark. record {
      settings = mark_set_by d (λ r. r.leaves.settings ≡ d.settings) lamp mark (λ n z. refl) (λ h i l k. refl);
      device = mark_legal d legal lamp mark;
      connection = mark_set_by d (λ r. connection_at r.leaves p ≡ connection_at d p) lamp mark (λ n z. refl)
          (λ h i l k. refl);
    };
  }
