-- Demand 2: who never sends the matching digest has no say, over any calls, whoever makes them. His place stays outside
-- (proofs/Outside.antt); and where that holds of every place, the device goes on beside another one that only the
-- passes and the host's calls reach: both have the same settings and own part at each moment.
-- Assumes nothing.
use Rattle.std.proofs.Common.{ℕ, ◌<◌, ◌≡◌, refl, sym, ◌∙◌, true, false, List, [], ◌∷◌, arith, eq-eqb}
use Rattle.std.proofs.lemmas.Bool.{false≢true}
use Rattle.text.proofs.Choices.{if_by}
use Rattle.record.specs.Limits.{places_count}
use Rattle.record.specs.Legal.{is_legal}
use Rattle.record.specs.Places.{connection_at, is_closed}
use Rattle.record.specs.declared.types.Device.{Device}
use Rattle.device.specs.Receiving.{set_up_password}
use Rattle.device.specs.Calls.{has_password}
use Rattle.ours.specs.Board.{ours}
use Rattle.demands.specs.Calls.{Call, opens, closes, receives, after, run}
use Rattle.demands.specs.Outsider.{Session, unopened, noted, session_after, IsNeverMatched, is_hosts, host_calls}
use Rattle.demands.specs.Outsider.{SameDevicePart, IsKeptThere, NoSay, HostsAlone}
use Rattle.demands.proofs.KeepsRunning.{stays_legal}
use Rattle.demands.proofs.Sessions.{answered_so}
use Rattle.demands.proofs.CallsDo.{own_left, settings_stay, call_by}
use Rattle.demands.proofs.CallsAlike.{host_alike}
use Rattle.demands.proofs.Outside.{Outside, outside_after, received_keeps, unopened_outside}

module _ (password : List ℕ) where
  -- ---- one place

  no_say : (p : ℕ) (cs : List Call) (s : Session) (d : Device) → Outside password p s d
      → IsNeverMatched ours p password d s cs
      → IsKeptThere ours p d cs × Outside password p (session_after ours p d s cs) (run ours d cs)
  no_say p [] s d out never = (tt, out)
  no_say p (c ∷ cs) s d out never =
      let next = outside_after password p s d out c never.0 in
      let rest = no_say p cs (noted ours p d s c) (after ours d c) next never.1 in (
        (
          λ e. record { settings = settings_stay d c; own = received_keeps password p s d out c never.0 e },
          rest.0,
        ),
        rest.1,
      )

  -- ---- every place

  -- what is known of every place at each moment
  record AllOutside (ss : ℕ → Session) (d : Device) (cs : List Call) : Type 0 where
    out : (p : ℕ) → p < places_count → Outside password p (ss p) d
    never : (p : ℕ) → p < places_count → IsNeverMatched ours p password d (ss p) cs

  module _ {c : Call} {cs : List Call} {ss : ℕ → Session} {d : Device} (all : AllOutside ss d (c ∷ cs)) where
    all_then : AllOutside (λ p. noted ours p d (ss p) c) (after ours d c) cs
    all_then = grind (arith, outside_after)

  -- the calls on a connection leave the own part: what is received, since its place was never matched
  others_keep : (c : Call) (cs : List Call) (ss : ℕ → Session) (d : Device) → AllOutside ss d (c ∷ cs)
      → is_hosts c ≡ false → (after ours d c).own ≡ d.own
  others_keep (opens random m) cs ss d all h = own_left d (opens random m) refl
  others_keep (closes q) cs ss d all h = own_left d (closes q) refl
  others_keep (receives q bs m) cs ss d all h =
      let c = receives q bs m in
      call_by d c (λ g e. (q < places_count → e.own ≡ d.own) → e.own ≡ d.own) (λ n z kept. refl)
      (λ k kept. kept k.there.0)
      (λ there. received_keeps password q (ss q) d (all.out q there) c (all.never q there).0 (eq-eqb q q refl))
  others_keep c cs ss d all h = absurd (false≢true (sym h))

  runs_beside : (cs : List Call) (ss : ℕ → Session) (d e : Device) → AllOutside ss d cs → is_legal e ≡ true
      → SameDevicePart ours e d → SameDevicePart ours (run ours e (host_calls cs)) (run ours d cs)
  runs_beside [] ss d e all legal same = same
  runs_beside (c ∷ cs) ss d e all legal same =
      if_by (λ (es : List Call). SameDevicePart ours (run ours e es) (run ours (after ours d c) cs)) (is_hosts c)
      (λ h. runs_beside cs _ (after ours d c) (after ours e c) (all_then all) (stays_legal e c legal)
      (host_alike e d legal (all.out 0 (omega arith)).legal same c h))
      (λ h. runs_beside cs _ (after ours d c) e (all_then all) legal
      (record {
        settings = settings_stay d c ∙ same.settings;
        own = others_keep c cs ss d all h ∙ same.own;
      }))

-- ---- from places that are closed

module _ (d : Device) (cs : List Call) (legal : is_legal d ≡ true) (secured : has_password d.settings ≡ true) where
  pub outsider_has_no_say : (p : ℕ) → is_closed (connection_at d p) ≡ true
      → IsNeverMatched ours p (set_up_password d.settings) d unopened cs → NoSay ours p d unopened cs
  outsider_has_no_say p free never =
      let end = no_say (set_up_password d.settings) p cs unopened d (unopened_outside d p legal secured free) never in
      record { kept = end.0; answers = answered_so end.1.standing }

  pub outsiders_have_no_say : ((p : ℕ) → p < places_count → is_closed (connection_at d p) ≡ true)
      → ((p : ℕ) → p < places_count → IsNeverMatched ours p (set_up_password d.settings) d unopened cs)
      → HostsAlone ours d cs
  outsiders_have_no_say free never =
      let end = runs_beside (set_up_password d.settings) cs (λ p. unopened) d d
      (record { out = λ p there. unopened_outside d p legal secured (free p there); never = never }) legal
      (record { settings = refl; own = refl }) in
      record { settings = run_settings cs d; own = end.own }
    where
      run_settings : (es : List Call) (e : Device) → (run ours e es).settings ≡ e.settings
      run_settings [] e = refl
      run_settings (c ∷ es) e = run_settings es (after ours e c) ∙ settings_stay e c
