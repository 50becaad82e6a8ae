-- Who does not know the password changes nothing of the projector's own part (RULES, Connection).
--   Outside o c e      what a refused digest leaves: the ERRA line, the own part o, the connection failed with age 0
-- Assumes nothing.
use Rattle.std.proofs.Common.{ℕ, ◌≡◌, refl, sym, ap, ◌∙◌, true, false, List, [], arith}
use Rattle.std.proofs.lemmas.Bool.{false≢true}
use Rattle.pjlink.specs.Forms.{erra_line}
use Rattle.record.specs.Limits.{phase_awaiting, phase_failed}
use Rattle.record.specs.Legal.{held_most}
use Rattle.record.specs.declared.types.Settings.{Settings}
use Rattle.record.specs.declared.types.Own.{Own}
use Rattle.record.specs.declared.types.CollectedLine.{CollectedLine}
use Rattle.record.specs.declared.types.Connection.{Connection}
use Rattle.record.specs.declared.types.Device.{Device}
use Rattle.record.specs.Places.{connection_at}
use Rattle.record.proofs.ConnectionsTold.{with_place-connection_at}
use Rattle.stream.specs.Collecting.{empty_line, gathered_from}
use Rattle.device.specs.Receiving.{Ended, is_match, no_reply, line_ended, taken_in}
use Rattle.device.specs.Calls.{received_at}
use Rattle.device.proofs.Cases.{received_by}
use Rattle.device.proofs.LineCases.{ended_other, ended_erra, keeping_none, taken_by}

pub record Outside (o : Own) (c : Connection) (e : Ended) : Type 0 where
  pub reply : e.reply ≡ erra_line
  pub own : e.own ≡ o
  pub phase : e.connection.phase ≡ phase_failed
  pub age : e.connection.age ≡ 0
  pub random : e.connection.random ≡ c.random
  pub line : e.connection.line ≡ empty_line

-- the line that a call takes in, if CR comes, does not match
abbrev pub IsUnmatched : Settings → Connection → List ℕ → Type 0
IsUnmatched s c bs =
    let g = gathered_from (held_most c.phase) c.line bs in
    g.ended ≡ true → is_match s c g.line ≡ false

module _ (s : Settings) (o : Own) (c : Connection) where
  module _ (phase : c.phase ≡ phase_awaiting) where
    pub mismatch_refused : (l : CollectedLine) → is_match s c l ≡ false → Outside o c (line_ended s o c l)
    mismatch_refused l m = grind (arith, ended_erra)

    pub unmatched_line_refused : (bs : List ℕ) → IsUnmatched s c bs
        → (gathered_from (held_most c.phase) c.line bs).ended ≡ true → Outside o c (taken_in s o c bs).ended
    unmatched_line_refused bs n cr =
        taken_by s o c bs (λ t. Outside o c t.ended) (λ e. mismatch_refused _ (n e))
        (λ e. absurd (false≢true (sym e ∙ cr)))

  module _ (phase : c.phase ≡ phase_failed) where
    pub failed_ignores_line : (l : CollectedLine) → line_ended s o c l ≡ no_reply o c
    failed_ignores_line l = ended_other s o c l (λ p. omega arith) (λ p. omega arith)

    pub failed_ignores : (bs : List ℕ) → (taken_in s o c bs).ended ≡ no_reply o c
    failed_ignores bs =
        taken_by s o c bs (λ t. t.ended ≡ no_reply o c) (λ e. failed_ignores_line _)
        (λ e. ap (no_reply o) (keeping_none c _ phase))

module _ (d : Device) (p : ℕ) (bs : List ℕ) (room : ℕ) where
  abbrev here : Connection
  here = connection_at d p

  module _ (phase : here.phase ≡ phase_failed) where
    pub failed_keeps_record : (received_at d p bs room).leaves ≡ d
    unfolding received_at
    failed_keeps_record = grind (arith, failed_ignores, with_place-connection_at)

    pub failed_never_replies : (received_at d p bs room).bytes ≡ []
    failed_never_replies =
        received_by d p bs room (λ r. r.bytes ≡ []) (λ e some. refl)
        (λ h s t c. ap (λ (e : Ended). e.reply) (failed_ignores d.settings d.own here phase bs))
