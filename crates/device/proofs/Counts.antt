-- How many bytes a call takes, in any phase (RULES, Connection): up to and including the first CR, or all of them; no
-- bytes change nothing.
-- Assumes nothing.
use Rattle.std.specs.List.{list_all}
use Rattle.std.proofs.Common.{ℕ, ◌+◌, ◌≤◌, ◌≡◌, refl, true, List, [], ◌∷◌, ◌++◌, arith, length, ◌==◌}
use Prim.Native.Char.{code}
use Rattle.text.proofs.Choices.{if_all}
use Rattle.text.specs.Outcomes.{number_answered}
use Rattle.words.specs.Bytes.{is_not_cr}
use Rattle.record.specs.Limits.{phase_failed}
use Rattle.record.specs.Legal.{held_most}
use Rattle.record.specs.Places.{connection_at}
use Rattle.record.specs.declared.types.Settings.{Settings}
use Rattle.record.specs.declared.types.Own.{Own}
use Rattle.record.specs.declared.types.Connection.{Connection}
use Rattle.record.specs.declared.types.Device.{Device}
use Rattle.stream.proofs.LinesSpelt.{gathered_none}
use Rattle.stream.proofs.GatheredOn.{gathered_within, gathered_from-ended, plain_gathered}
use Rattle.stream.proofs.LinesCollected.{gathered_from-append}
use Rattle.device.specs.Receiving.{no_reply, keeping_line, taken_in}
use Rattle.device.specs.Calls.{received_at}
use Rattle.device.proofs.Cases.{received_by}
use Rattle.device.proofs.LineCases.{taken-line, taken_part, taken_by}

module _ (s : Settings) (o : Own) (c : Connection) where
  abbrev most : ℕ
  most = held_most c.phase

  pub all_taken : (bs : List ℕ) → list_all is_not_cr bs ≡ true → (taken_in s o c bs).taken ≡ length bs
  all_taken bs e = grind (arith, plain_gathered, taken_part)

  pub line_taken : (xs more : List ℕ) → list_all is_not_cr xs ≡ true
      → (taken_in s o c (xs ++ (code "\r" ∷ more))).taken ≡ length xs + 1
  line_taken xs more e = grind (arith, gathered_from-append, taken-line)

  pub taken_within : (bs : List ℕ) → (taken_in s o c bs).taken ≤ length bs
  taken_within bs =
      taken_by s o c bs (λ t. t.taken ≤ length bs) (λ e. gathered_from-ended most c.line bs e)
      (λ e. gathered_within most c.line bs)

  keeps_itself : keeping_line c c.line ≡ c
  unfolding keeping_line
  keeps_itself = if_all (λ (k : Connection). k ≡ c) (c.phase == phase_failed) refl refl

  pub nothing_taken : taken_in s o c [] ≡ record { ended = no_reply o c; taken = 0 }
  unfolding taken_in
  nothing_taken = grind (arith, gathered_none, keeps_itself)

pub received_within : (d : Device) (p : ℕ) (bs : List ℕ) (room : ℕ)
    → number_answered (received_at d p bs room) ≤ length bs
received_within d p bs room =
    received_by d p bs room (λ r. number_answered r ≤ length bs) (λ e some. omega arith)
    (λ h s t c. taken_within d.settings d.own (connection_at d p) bs)

pub ruleset counts = (all_taken, line_taken, nothing_taken)
