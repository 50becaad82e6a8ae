-- A line that does not belong changes no more of a record than its places.
--   KeepsOwn e    the record e has the settings of d, and all that is not of a place
-- Assumes nothing.
use Rattle.std.proofs.Common.{◌≡◌, refl, sym, subst, Bool, true, false, ◌&&◌, arith, Err}
use Rattle.record.specs.declared.types.Device.{Device}
use Rattle.device.specs.Calls.{reply_room}
use Rattle.device.proofs.Untouched.{opening_keeps_settings, opening_keeps_own}
use Rattle.ours.specs.Board.{ours}
use Rattle.demands.specs.Calls.{Call, after}
use Rattle.history.specs.Calls.{LogCall, opens, closes, receives, passes, faults, reports, enables}
use Rattle.history.specs.Entries.{LogEntry, header, call, stated}
use Rattle.recorded.specs.Recorded.{is_served}
use Rattle.recorded.specs.Playing.{played_call, belongs}
use Rattle.recorded.specs.Chain.{Misfit, made_told, device_made}
use Rattle.recorded.proofs.Same.{refused_leaves}

module _ (d : Device) where
  pub record KeepsOwn (e : Device) : Type 0 where
    pub settings : e.settings ≡ d.settings
    pub own : e.own ≡ d.own

  itself : (c : Call) → after ours d c ≡ d → KeepsOwn (after ours d c)
  itself c same = subst KeepsOwn (sym same) (record { settings = refl; own = refl })

  -- one that is served belongs, but for an opening
  unserved : (c : LogCall) → is_served d (played_call c) ≡ false → KeepsOwn (after ours d (played_call c))
  unserved c h = itself (played_call c) (refused_leaves d (played_call c) h)

  none_of : (t : Bool) → (t && true) ≡ false → t ≡ false
  none_of false h = refl
  none_of true h = h

  call_keeps : (c : LogCall) → belongs d c ≡ false → KeepsOwn (after ours d (played_call c))
  call_keeps (opens p random) h = record {
    settings = opening_keeps_settings d random reply_room;
    own = opening_keeps_own d random reply_room;
  }
  call_keeps (receives p bs) h = unserved (receives p bs) (none_of _ h)
  call_keeps (passes n) h = unserved (passes n) (none_of _ h)
  call_keeps (closes p) h = unserved (closes p) (none_of _ h)
  call_keeps (faults m) h = unserved (faults m) (none_of _ h)
  call_keeps (reports ds) h = unserved (reports ds) (none_of _ h)
  call_keeps (enables k m) h = unserved (enables k m) (none_of _ h)

  pub stray_keeps : (e : LogEntry) (why : Misfit) → made_told d e ≡ Err why → KeepsOwn (device_made d e)
  stray_keeps (header f s t) why h = record { settings = refl; own = refl }
  stray_keeps (stated n s shown) why h = record { settings = refl; own = refl }
  stray_keeps (call c) why h = by (belongs d c) refl
    where
      by : (t : Bool) → belongs d c ≡ t → KeepsOwn (after ours d (played_call c))
      by false e = call_keeps c e
      by true e = absurd (grind (arith, e))
