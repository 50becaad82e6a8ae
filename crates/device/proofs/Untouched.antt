-- Receiving changes nothing of the settings, the lamps and their marks, the fault mark and the error digits; opening
-- and closing change nothing but the connection; and each leaves every other place's connection as it was.
-- Assumes nothing.
use Rattle.std.proofs.Common.{arith, ℕ, ◌≡◌, refl, List}
use Rattle.text.specs.Outcomes.{number_answered}
use Rattle.record.specs.declared.types.Settings.{Settings}
use Rattle.record.specs.declared.types.Own.{Own}
use Rattle.record.specs.declared.types.CollectedLine.{CollectedLine}
use Rattle.record.specs.declared.types.Connection.{Connection}
use Rattle.record.specs.declared.types.Device.{Device}
use Rattle.record.specs.Places.{connection_at}
use Rattle.record.proofs.ConnectionsTold.{placed_elsewhere}
use Rattle.meaning.proofs.Done.{Keeps, done_keeps}
use Rattle.device.specs.Answering.{line_answer}
use Rattle.device.specs.Receiving.{line_ended, taken_in}
use Rattle.device.specs.Calls.{received_at, opened_by, closed_by}
use Rattle.device.proofs.Cases.{received_by, opened_by_lem, closed_by_lem}
use Rattle.device.proofs.LineCases.{ended_by, taken_by}

itself_kept : (o : Own) → Keeps o o
itself_kept o = record { lamps = refl; marks = refl; fault = refl; errors = refl }

module _ (s : Settings) (o : Own) where
  pub answered_keeps : (l : List ℕ) → Keeps o (line_answer s o l).own
  unfolding line_answer
  answered_keeps l = grind (arith, done_keeps)

  pub ended_keeps : (c : Connection) (l : CollectedLine) → Keeps o (line_ended s o c l).own
  ended_keeps c l =
      ended_by s o c l (λ e. Keeps o e.own) (λ p m. itself_kept o) (λ p m. answered_keeps _)
      (λ p m. answered_keeps _) (λ p m. itself_kept o) (λ p q. itself_kept o)

  pub taken_keeps : (c : Connection) (bs : List ℕ) → Keeps o (taken_in s o c bs).ended.own
  taken_keeps c bs =
      taken_by s o c bs (λ t. Keeps o t.ended.own) (λ e. ended_keeps c _) (λ e. itself_kept o)

module _ (d : Device) where
  module _ (p : ℕ) (bs : List ℕ) (room : ℕ) where
    pub receiving_keeps_settings : (received_at d p bs room).leaves.settings ≡ d.settings
    receiving_keeps_settings =
        received_by d p bs room (λ r. r.leaves.settings ≡ d.settings) (λ e some. refl)
        (λ h s t c. refl)

    pub receiving_keeps : Keeps d.own (received_at d p bs room).leaves.own
    receiving_keeps =
        received_by d p bs room (λ r. Keeps d.own r.leaves.own) (λ e some. itself_kept d.own)
        (λ h s t c. taken_keeps d.settings d.own (connection_at d p) bs)

    -- one place's bytes never touch another's connection (RULES, Places)
    pub receiving_keeps_others : (q : ℕ) → (q ≡ p → ⊥)
        → connection_at (received_at d p bs room).leaves q ≡ connection_at d q
    receiving_keeps_others q other =
        received_by d p bs room (λ r. connection_at r.leaves q ≡ connection_at d q) (λ e some. refl)
        (λ h s t c. placed_elsewhere d d.own p _ q other)

  module _ (r room : ℕ) where
    pub opening_keeps_settings : (opened_by d r room).leaves.settings ≡ d.settings
    opening_keeps_settings =
        opened_by_lem d r room (λ q. q.leaves.settings ≡ d.settings) (λ e some. refl)
        (λ h s c. refl)

    pub opening_keeps_own : (opened_by d r room).leaves.own ≡ d.own
    opening_keeps_own =
        opened_by_lem d r room (λ q. q.leaves.own ≡ d.own) (λ e some. refl) (λ h s c. refl)

    -- nor does opening, but at the place that it takes
    pub opening_keeps_others : (q : ℕ) → (q ≡ number_answered (opened_by d r room) → ⊥)
        → connection_at (opened_by d r room).leaves q ≡ connection_at d q
    opening_keeps_others q =
        opened_by_lem d r room
        (λ k. (q ≡ number_answered k → ⊥) → connection_at k.leaves q ≡ connection_at d q) (λ e some other. refl)
        (λ h s c other. placed_elsewhere d d.own _ _ q other)

  module _ (p : ℕ) where
    pub closing_keeps_settings : (closed_by d p).leaves.settings ≡ d.settings
    closing_keeps_settings =
        closed_by_lem d p (λ q. q.leaves.settings ≡ d.settings) (λ e some. refl) (λ h t c. refl)

    pub closing_keeps_own : (closed_by d p).leaves.own ≡ d.own
    closing_keeps_own = closed_by_lem d p (λ q. q.leaves.own ≡ d.own) (λ e some. refl) (λ h t c. refl)

    pub connection_at-closed_by : (q : ℕ) → (q ≡ p → ⊥) → connection_at (closed_by d p).leaves q ≡ connection_at d q
    connection_at-closed_by q other =
        closed_by_lem d p (λ k. connection_at k.leaves q ≡ connection_at d q) (λ e some. refl)
        (λ h t c. placed_elsewhere d d.own p _ q other)
