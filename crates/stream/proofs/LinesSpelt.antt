-- The empty line field by field; gathering nothing; running over nothing, and over one byte and the rest.
-- Assumes nothing.
use Rattle.std.proofs.Common.{ℕ, ◌≡◌, refl, false, true, List, [], ◌∷◌}
use Rattle.text.specs.Flags.{is_raised}
use Rattle.record.specs.Limits.{line_room}
use Rattle.record.specs.Record.{zeros}
use Rattle.record.specs.declared.types.CollectedLine.{CollectedLine}
use Rattle.stream.specs.Collecting.{empty_line, overlong_line, gathered_from}
use Rattle.stream.specs.Machine.{Out, without_reply, reply_then, up_to, one_step, run_over}

pub empty_spelt : empty_line ≡ record { overlong = 0; held = 0; bytes = zeros line_room }
unfolding empty_line
empty_spelt = refl

pub empty_held : empty_line.held ≡ 0
unfolding empty_line
empty_held = refl

pub overlong_marked : is_raised overlong_line.overlong ≡ true
unfolding overlong_line
overlong_marked = refl

pub gathered_none : (most : ℕ) (l : CollectedLine) → gathered_from most l []
    ≡ record { line = l; before = 0; ended = false }
unfolding gathered_from up_to
gathered_none most l = refl

module _ (end : ℕ) (D : Type 0) (collect : D → ℕ → D) (ends : D → Out D) (d : D) where
  pub run_none : run_over end D collect ends d [] ≡ without_reply d
  unfolding run_over
  run_none = refl

  pub run_more : (b : ℕ) (bs : List ℕ) → let o = one_step end D collect ends d b in
      run_over end D collect ends d (b ∷ bs) ≡ reply_then o.reply (run_over end D collect ends o.state bs)
  unfolding run_over
  run_more b bs = refl
