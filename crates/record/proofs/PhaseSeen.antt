-- The view of the phase: what is asked of it has the answer that it has of the number, of any number.
-- Assumes nothing.
use Rattle.std.proofs.Common.{ℕ, ◌≡◌, arith}
use Rattle.record.specs.Legal.{is_timed, is_collecting, held_most}
use Rattle.record.specs.Views.{phase_of, phase_number}

module _ (phase age random : ℕ) where
  abbrev seen : ℕ
  seen = phase_number (phase_of phase age random)

  pub is_timed-phase_of : is_timed seen ≡ is_timed phase
  is_timed-phase_of = grind arith

  pub held_most-phase_of : held_most seen ≡ held_most phase
  unfolding held_most
  held_most-phase_of = grind arith

  pub is_collecting-phase_of : is_collecting seen ≡ is_collecting phase
  is_collecting-phase_of = grind arith

pub ruleset phase_tests = (is_timed-phase_of, held_most-phase_of, is_collecting-phase_of)
