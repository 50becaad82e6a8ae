-- How a workroom stands whose panel and device changed: by the entry of the projector, and by the connection.
--   PanelStands i w q e     the panel q, which was that of w, has the projector i, and its entry is e
--   DeviceStands p w d c    the device d, which was that of w, has the connection c at place p
-- Assumes nothing.
use Rattle.std.proofs.Common.{arith, ℕ, ◌<◌, ◌≡◌, refl, true, false}
use Rattle.text.specs.Flags.{is_raised}
use Rattle.record.specs.Limits.{places_count}
use Rattle.record.specs.Legal.{is_legal}
use Rattle.record.specs.Places.{connection_at}
use Rattle.record.specs.declared.types.Connection.{Connection}
use Rattle.record.specs.declared.types.Device.{Device}
use Rattle.stream.specs.Collecting.{empty_line}
use Rattle.panel.specs.Entries.{talk_of, shown_of, password_in}
use Rattle.panel.specs.PanelCalls.{entry_at}
use Rattle.panel.specs.declared.types.PanelEntry.{PanelEntry}
use Rattle.panel.specs.declared.types.Panel.{Panel}
use Rattle.workroom.specs.Workroom.{Workroom, room_of}
use Rattle.workroom.specs.ShowsWhatWasMeant.{Fit, our_entry, our_connection, IsAcquainted, IsJoined, ShownAs}
use Rattle.workroom.specs.PanelDemand.{IsServed}

pub record PanelStands (i : ℕ) (w : Workroom) (q : Panel) (e : PanelEntry) : Type 0 where
  pub served : IsServed q i
  pub stands : entry_at q i ≡ e
  pub password : password_in e ≡ password_in (our_entry i w)
  pub strays : e.strays ≡ (our_entry i w).strays

pub record DeviceStands (p : ℕ) (w : Workroom) (d : Device) (c : Connection) : Type 0 where
  pub legal : is_legal d ≡ true
  pub settings : d.settings ≡ w.device.settings
  pub stands : connection_at d p ≡ c
  pub between : c.line ≡ empty_line

module _ {i : ℕ} {w : Workroom} {q : Panel} {e : PanelEntry} (known : IsAcquainted i w)
    (panel : PanelStands i w q e) where
  pub acquainted_then : {d : Device} → is_legal d ≡ true → d.settings ≡ w.device.settings → IsAcquainted i (room_of q d)
  acquainted_then legal settings = grind arith

  pub shown_as_it_stands : {p : ℕ} {d : Device} {c : Connection} → p < places_count → DeviceStands p w d c
      → is_raised e.under_way ≡ false → Fit (talk_of e) c → ShownAs i p w (shown_of e) d.own (room_of q d)
  shown_as_it_stands place device rests fit = grind (arith, acquainted_then)

-- as they were
module _ {i p : ℕ} {w : Workroom} (j : IsJoined i p w) where
  pub joined_served : IsServed w.panel i
  joined_served = record { legal = j.acquainted.panel; there = j.acquainted.there }

  pub panel_as_it_was : PanelStands i w w.panel (our_entry i w)
  panel_as_it_was = record { served = joined_served; stands = refl; password = refl; strays = refl }

  pub device_as_it_was : DeviceStands p w w.device (our_connection p w)
  device_as_it_was = record { legal = j.acquainted.device; settings = refl; stands = refl; between = j.between }
