-- The parts of receiving, case by case: a line's answer, what CR does, what is kept, and what a call takes in.
-- Assumes nothing.
use Rattle.std.proofs.Common.{arith, ℕ, ◌+◌, ◌≤◌, ◌≡◌, ap, ◌∙◌, true, false, List, drop, ◌==◌, eq-eqb, ne_eqb}
use Rattle.text.specs.Flags.{is_raised}
use Rattle.text.proofs.Choices.{if_yes, if_no, if_by}
use Rattle.pjlink.specs.Forms.{is_command_form}
use Rattle.record.specs.Limits.{phase_awaiting, phase_open, phase_failed}
use Rattle.record.specs.Updates.{with_line}
use Rattle.record.specs.Legal.{held_most}
use Rattle.record.specs.declared.types.Settings.{Settings}
use Rattle.record.specs.declared.types.Own.{Own}
use Rattle.record.specs.declared.types.CollectedLine.{CollectedLine}
use Rattle.record.specs.declared.types.Connection.{Connection}
use Rattle.stream.specs.Collecting.{Gathered}
use Rattle.stream.specs.Collecting.{line_text, gathered_from}
use Rattle.device.specs.Answering.{Answered, line_answer, command_answer, line_swallowed}
use Rattle.device.specs.Receiving.{Ended, Taken, is_match, digest_long, no_reply, served_line}
use Rattle.device.specs.Receiving.{refused_digest, line_ended, keeping_line, taken_in}

-- a line's answer, by its form
pub answered_by : (s : Settings) (o : Own) (l : List ℕ) (P : Answered → Type 0)
    → (is_command_form s.class_number l ≡ true → P (command_answer s o l))
    → (is_command_form s.class_number l ≡ false → P (line_swallowed o))
    → P (line_answer s o l)
unfolding line_answer
answered_by s o l P = if_by P (is_command_form s.class_number l)

-- what CR does, by the phase and what the line is
module _ (s : Settings) (o : Own) (c : Connection) (l : CollectedLine) where
  module _ (phase : c.phase ≡ phase_open) where
    pub ended_overlong : is_raised l.overlong ≡ true → line_ended s o c l ≡ served_line c (line_swallowed o)
    unfolding line_ended
    ended_overlong m = if_yes _ _ (eq-eqb c.phase phase_open phase) ∙ ap (served_line c) (if_yes _ _ m)

    pub ended_open : is_raised l.overlong ≡ false → line_ended s o c l ≡ served_line c (line_answer s o (line_text l))
    unfolding line_ended
    ended_open m = if_yes _ _ (eq-eqb c.phase phase_open phase) ∙ ap (served_line c) (if_no _ _ m)

  module _ (phase : c.phase ≡ phase_awaiting) where
    not_open : (c.phase == phase_open) ≡ false
    not_open = ap (λ (p : ℕ). p == phase_open) phase

    pub ended_match : is_match s c l ≡ true
        → line_ended s o c l ≡ served_line c (line_answer s o (drop digest_long (line_text l)))
    unfolding line_ended
    ended_match m = if_no _ _ not_open ∙ if_yes _ _ (eq-eqb c.phase phase_awaiting phase) ∙ if_yes _ _ m

    pub ended_erra : is_match s c l ≡ false → line_ended s o c l ≡ refused_digest o c
    unfolding line_ended
    ended_erra m = if_no _ _ not_open ∙ if_yes _ _ (eq-eqb c.phase phase_awaiting phase) ∙ if_no _ _ m

  pub ended_other : (c.phase ≡ phase_open → ⊥) → (c.phase ≡ phase_awaiting → ⊥) → line_ended s o c l ≡ no_reply o c
  unfolding line_ended
  ended_other p q = if_no _ _ (ne_eqb c.phase phase_open p) ∙ if_no _ _ (ne_eqb c.phase phase_awaiting q)

  pub ended_by : (P : Ended → Type 0)
      → (c.phase ≡ phase_open → is_raised l.overlong ≡ true → P (served_line c (line_swallowed o)))
      → (c.phase ≡ phase_open → is_raised l.overlong ≡ false → P (served_line c (line_answer s o (line_text l))))
      → (c.phase ≡ phase_awaiting → is_match s c l ≡ true
      → P (served_line c (line_answer s o (drop digest_long (line_text l)))))
      → (c.phase ≡ phase_awaiting → is_match s c l ≡ false → P (refused_digest o c))
      → ((c.phase ≡ phase_open → ⊥) → (c.phase ≡ phase_awaiting → ⊥) → P (no_reply o c))
      → P (line_ended s o c l)
  unfolding line_ended
  ended_by P overlong line match erra other = grind arith

-- the digest is all there
pub match_long : (s : Settings) (c : Connection) (l : CollectedLine) → is_match s c l ≡ true → digest_long ≤ l.held
unfolding is_match
match_long s c l e = grind arith

-- a failed connection keeps no byte
module _ (c : Connection) (l : CollectedLine) where
  pub keeping_none : c.phase ≡ phase_failed → keeping_line c l ≡ c
  unfolding keeping_line
  keeping_none p = if_yes _ _ (eq-eqb c.phase phase_failed p)

  pub keeping_line_lem : (c.phase ≡ phase_failed → ⊥) → keeping_line c l ≡ with_line c l
  unfolding keeping_line
  keeping_line_lem p = if_no _ _ (ne_eqb c.phase phase_failed p)

-- what a call takes in, by whether CR came
module _ (s : Settings) (o : Own) (c : Connection) (bs : List ℕ) where
  abbrev gathers : Gathered
  gathers = gathered_from (held_most c.phase) c.line bs

  pub taken-line : gathers.ended ≡ true
      → taken_in s o c bs ≡ record { ended = line_ended s o c gathers.line; taken = gathers.before + 1 }
  unfolding taken_in
  taken-line e = if_yes _ _ e

  pub taken_part : gathers.ended ≡ false
      → taken_in s o c bs ≡ record { ended = no_reply o (keeping_line c gathers.line); taken = gathers.before }
  unfolding taken_in
  taken_part e = if_no _ _ e

  pub taken_by : (P : Taken → Type 0)
      → (gathers.ended ≡ true → P (record { ended = line_ended s o c gathers.line; taken = gathers.before + 1 }))
      → (gathers.ended ≡ false
      → P (record { ended = no_reply o (keeping_line c gathers.line); taken = gathers.before }))
      → P (taken_in s o c bs)
  unfolding taken_in
  taken_by P line part = if_by P gathers.ended line part
