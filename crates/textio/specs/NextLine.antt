-- How a line of a log is read.
--   TakesPart ..        more bytes of a line are consumed, at least `least`, and an LF after them if `lf` has one;
--                       `before` is what was stored of the line, and as much as fits of it and of these bytes is then
--                       at the start of the memory
--   ShowsPart ..        what a reader consumes of a line at once, by how far the line was read
--   ReadsPart old new   a part of a line was read, without an LF
--   line_in memory l    the line that was read, as it is in the memory
--   IsLine ..           the first line of a log, of which at most `most` bytes are stored, and the log after it: its
--                       LF, if it has one, is between them, and after a line without LF there is nothing
--   IsNextLine ..       whether there is another line in a log, what is stored of it, and whether an LF ended it
--   FailureComesOf ..   why a log is not read to its end: an error of its source, one of the sink of what is printed
--                       for it, or its length
--   OnFailedRead P f    P is so if the failure f is an error of the source
-- Assumes nothing.
use Rattle.std.specs.Prelude.{⊤, ℕ, ◌≤◌, false, List, [], ◌∷◌, ◌++◌, ◌≡◌, ◌≢◌, length, take, None, Some, IfSome, All}
use Rattle.std.specs.declared.option.Option.{Option}
use Rattle.std.specs.declared.io.Error.{Error}
use Rattle.std.specs.Io.KnownBytes.{Consumes, IsAtEnd, Keeps}
use Rattle.textio.specs.Lines.{LogLine, end_of, lines_in}
use Rattle.textio.specs.declared.lines.LineRead.{LineRead}
use Rattle.textio.specs.declared.lines.LineSeen.{LineSeen}
use Rattle.textio.specs.declared.lines.LineSeen.TheVariants.{Part, Whole, End}
use Rattle.textio.specs.declared.lines.Failure.{Failure}
use Rattle.textio.specs.declared.lines.Failure.TheVariants.{Read, Write, TooLong}

pub record TakesPart (old new : Option (List ℕ)) (least : ℕ) (before memory : List ℕ) (place : ℕ) (lf : List ℕ)
    : Type 0 where
  pub part : List ℕ
  pub some : least ≤ length part
  pub one_line : All (λ b. b ≢ 10) part
  pub taken : Consumes old new (part ++ lf)
  pub kept : take place memory ≡ take (length memory) (before ++ part)
  pub inside : place ≤ length memory

abbrev pub ShowsPart : Option (List ℕ) → Option (List ℕ) → List ℕ → ℕ → List ℕ → LineSeen → Type 0
ShowsPart old new before at after (Part place) = TakesPart old new 1 (take at before) after place []
ShowsPart old new before at after (Whole place) = TakesPart old new 0 (take at before) after place (10 ∷ [])
ShowsPart old new before at after End = IsAtEnd old × Keeps old new × (after ≡ before)

pub record IsLine (log : List ℕ) (new : Option (List ℕ)) (most : ℕ) (line : LogLine) : Type 0 where
  pub first : LogLine
  pub later : List ℕ
  pub lines : lines_in log ≡ first ∷ lines_in later
  pub bytes : log ≡ first.text ++ (end_of first ++ later)
  pub last : first.ended ≡ false → later ≡ []
  pub kept : line ≡ record { text = take most first.text; ended = first.ended }
  pub left : new ≡ Some later

pub record ReadsPart (old new : Option (List ℕ)) : Type 0 where
  pub part : List ℕ
  pub one_line : All (λ b. b ≢ 10) part
  pub taken : Consumes old new part

abbrev pub line_in : List ℕ → LineRead → LogLine
line_in memory l = record { text = take l.held memory; ended = l.ended }

abbrev pub IsNextLine : List ℕ → Option (List ℕ) → List ℕ → Option LineRead → Type 0
IsNextLine log new memory (Some line) = IsLine log new (length memory) (line_in memory line)
IsNextLine log new memory None = log ≡ []

abbrev pub FailureComesOf : (Error → Type 0) → (Error → Type 0) → (List ℕ → Type 0) → Option (List ℕ) → Failure → Type 0
FailureComesOf reads writes long log (Read e) = reads e
FailureComesOf reads writes long log (Write e) = writes e
FailureComesOf reads writes long log TooLong = IfSome log long

abbrev pub OnFailedRead : Type 0 → Failure → Type 0
OnFailedRead P (Read e) = P
OnFailedRead P (Write e) = ⊤
OnFailedRead P TooLong = ⊤
