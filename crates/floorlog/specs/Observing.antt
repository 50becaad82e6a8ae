-- A log observed line by line, by an observer of which `output`, `Leaves` and `Overflows` are given.
--   Observes .. before after line old new    the line takes the observer from `before` to `after`: a text is written,
--                                            and it and what comes then are what comes of the line and those after it
--   BreaksOff .. before after log left old new
--                                            the observer got each line that has ended in what was read of the log,
--                                            of which `left` is left: what comes of these lines is written, and
--                                            nothing after it
--   FailsOn fails over f                     the failure f of a line is an error of the sink, or the lines have too
--                                            much in them
--   CannotFollow Overflows s log             the log is too long, or it has more in it than the observer can count
-- Assumes nothing.
use Rattle.std.specs.Prelude.{ℕ, ◌≡◌, ◌≢◌, ◌⊎◌, All, List, [], ◌∷◌, ◌++◌}
use Rattle.std.specs.declared.option.Option.{Option}
use Rattle.std.specs.declared.io.Error.{Error}
use Rattle.std.specs.Io.KnownBytes.{Appends}
use Rattle.textio.specs.Lines.{LogLine, IsTooLong}
use Rattle.textio.specs.declared.lines.Failure.{Failure}
use Rattle.textio.specs.declared.lines.Failure.TheVariants.{Read, Write, TooLong}
use Rattle.floorlog.specs.Kept.{kept_lines}

pub record Observes {S : Type 0} (output : S → List LogLine → List ℕ) (Leaves : S → List LogLine → S → Type 0)
    (Overflows : S → List LogLine → Type 0) (before after : S) (line : LogLine) (old new : Option (List ℕ))
    : Type 0 where
  pub text : List ℕ
  pub written : Appends old new text
  pub then : (ls : List LogLine) → output before (line ∷ ls) ≡ text ++ output after ls
  pub leaves : (ls : List LogLine) (last : S) → Leaves after ls last → Leaves before (line ∷ ls) last
  pub overflows : (ls : List LogLine) → Overflows after ls → Overflows before (line ∷ ls)

pub record BreaksOff {S : Type 0} (output : S → List LogLine → List ℕ) (Leaves : S → List LogLine → S → Type 0)
    (before after : S) (log left : List ℕ) (old new : Option (List ℕ)) : Type 0 where
  pub told : List LogLine
  pub part : List ℕ
  pub one_line : All (λ b. b ≢ 10) part
  pub lines : kept_lines log ≡ told ++ kept_lines (part ++ left)
  pub text : List ℕ
  pub written : Appends old new text
  pub then : (ls : List LogLine) → output before (told ++ ls) ≡ text ++ output after ls
  pub leaves : (last : S) → Leaves after [] last → Leaves before told last

abbrev pub FailsOn : (Error → Type 0) → Type 0 → Failure → Type 0
FailsOn fails over (Read e) = ⊥
FailsOn fails over (Write e) = fails e
FailsOn fails over TooLong = over

abbrev pub CannotFollow : {S : Type 0} → (S → List LogLine → Type 0) → S → List ℕ → Type 0
CannotFollow Overflows s log = IsTooLong log ⊎ Overflows s (kept_lines log)
