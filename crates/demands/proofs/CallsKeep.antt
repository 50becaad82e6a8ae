-- What every call keeps of a connection: one place's bytes never touch another's (RULES, Places), and no other call
-- does but time; and "the random number is kept until closing" (RULES, Connection): whatever call comes on a connection
-- that is not closed, it is closed afterwards or has the number that it had, over lines and over time.
-- Assumes nothing.
use Rattle.std.proofs.Common.{ℕ, ◌≡◌, refl, sym, ◌∙◌, ne_eqb, ap, subst, List, inl, inr, arith, ◌==◌, eqb-true}
use Rattle.text.proofs.Choices.{if_no, if_by, if_all}
use Rattle.record.specs.Places.{connection_at, is_closed, lowest_closed}
use Rattle.record.specs.declared.types.Device.{Device}
use Rattle.ours.specs.Board.{ours}
use Rattle.demands.specs.Calls.{Call, opens, closes, receives, passes, after, Gave}
use Rattle.demands.specs.SpeaksPjlink.{Elsewhere}
use Rattle.demands.proofs.CallsDo.{call_by, connection_at-served, IsServed, connection_left}
use Rattle.std.proofs.lemmas.Bool.{eqb-false}
use Rattle.record.specs.Limits.{phase_closed}
use Rattle.record.specs.declared.types.Settings.{Settings}
use Rattle.record.specs.declared.types.Own.{Own}
use Rattle.record.specs.declared.types.CollectedLine.{CollectedLine}
use Rattle.record.specs.declared.types.Connection.{Connection}
use Rattle.record.proofs.Spelt.{closed_spelt}
use Rattle.record.proofs.LegalTold.{legal_places}
use Rattle.clock.specs.Second.{times, connection_second}
use Rattle.clock.proofs.ConnectionsAge.{connection_then}
use Rattle.device.specs.Receiving.{line_ended, keeping_line, taken_in}
use Rattle.device.proofs.LineCases.{ended_by, keeping_none, keeping_line_lem, taken_by}
use Rattle.record.proofs.LowestClosed.{lowest_is_closed}
use Rattle.demands.specs.Beside.{ClosedOr}

module _ (d : Device) (q : ℕ) where
  abbrev Kept : Gave → Device → Type 0
  Kept g e = connection_at e q ≡ connection_at d q

  pub others_untouched : (c : Call) → Elsewhere ours d c q → connection_at (after ours d c) q ≡ connection_at d q
  others_untouched (opens random m) other =
      call_by d (opens random m) (λ g e. (q ≡ g.place → ⊥) → Kept g e) (λ n some away. refl)
      (λ h away. connection_at-served d (opens random m) q h ∙ if_no _ _ (ne_eqb _ q (λ z. away (sym z)))) other
  others_untouched (closes p) other =
      call_by d (closes p) Kept (λ n some. refl)
      (λ h. connection_at-served d (closes p) q h ∙ if_no _ _ (ne_eqb p q (λ z. other (sym z))))
  others_untouched (receives p bs m) other =
      call_by d (receives p bs m) Kept (λ n some. refl)
      (λ h. connection_at-served d (receives p bs m) q h ∙ if_no _ _ (ne_eqb p q (λ z. other (sym z))))
  others_untouched (passes n) other = absurd other
  others_untouched c other = call_by d c Kept (λ n some. refl) (λ h. refl)

module _ (c : Connection) where
  keeping_keeps : (l : CollectedLine) → (keeping_line c l).random ≡ c.random
  keeping_keeps l = grind (arith, keeping_none, eqb-true, keeping_line_lem, eqb-false)

  module _ (s : Settings) (o : Own) where
    line_keeps : (l : CollectedLine) → (line_ended s o c l).connection.random ≡ c.random
    line_keeps l =
        ended_by s o c l (λ e. e.connection.random ≡ c.random) (λ p m. refl) (λ p m. refl) (λ p m. refl)
        (λ p m. refl) (λ p q. refl)

    bytes_keep : (bs : List ℕ) → (taken_in s o c bs).ended.connection.random ≡ c.random
    bytes_keep bs =
        taken_by s o c bs (λ t. t.ended.connection.random ≡ c.random) (λ e. line_keeps _) (λ e. keeping_keeps _)

  time_keeps : (n : ℕ) → ClosedOr c.random (times connection_second n c)
  time_keeps n =
      connection_then (ClosedOr c.random) (inl (ap (λ (k : Connection). k.phase) closed_spelt)) (λ k age p. p) n c
      (inr refl)

module _ (d : Device) (p : ℕ) (live : (connection_at d p).phase ≡ phase_closed → ⊥) where
  abbrev KeptIn : Connection → Type 0
  KeptIn = ClosedOr (connection_at d p).random

  kept : KeptIn (connection_at d p)
  kept = inr refl

  kept_then : (c : Call) → IsServed d c → KeptIn (connection_left d c p)
  -- what opening takes is a closed place, so another one
  kept_then (opens random m) h =
      if_by KeptIn (lowest_closed d.connections == p)
      (λ e.
      let closed_there = lowest_is_closed d.connections (omega (arith, legal_places d h.legal, h.there)) in
      absurd (live (eqb-true (connection_at d p).phase phase_closed
      (ap (λ (q : ℕ). is_closed (connection_at d q)) (sym (eqb-true (lowest_closed d.connections) p e))
      ∙ closed_there))))
      (λ e. kept)
  kept_then (closes q) h = if_all KeptIn (q == p) (inl (ap (λ (k : Connection). k.phase) closed_spelt)) kept
  kept_then (receives q bs m) h = grind (arith, bytes_keep, eqb-true, kept)
  kept_then (passes n) h = time_keeps (connection_at d p) n
  kept_then c h = kept

  pub random_kept : (c : Call) → KeptIn (connection_at (after ours d c) p)
  random_kept c =
      call_by d c (λ g e. KeptIn (connection_at e p)) (λ n some. kept)
      (λ h. subst KeptIn (sym (connection_at-served d c p h)) (kept_then c h))
