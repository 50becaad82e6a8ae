-- The words on standard error (RULES, The programs).
--   cause_words k        why a read or a write failed with an error of that kind: a colon, a space and words, or
--                        nothing where the system says no more;    cause_of e   of an error
--   unread_text n cause  that the file n cannot be read; the cause is a colon, a space and words, or nothing
--   unwritten_text n cause   that the file n cannot be written
--   refused_text n c     that the form in the file n does not load, with the number c
--   failed_text c n m    why a log that is read from n is not reported to its end on m
--   shown_name n         standard input in words; any other file by its name
--   ending_text e        the words on a log that was read and reported to its end;    ending_status e   how the program
--                        ends
--   IsSaid fails old new t   the text t was written, or, where a write failed, a front of it
--   endless_text n       that the log n is longer than can be counted
--   changed_text         that a log was not the same each time that it was read
--   stray_warning s      which line of a log does not belong to it, and why
--   UnbegunSaid ..       what is said of a form in the file n that begins nothing: that it cannot be read, and why, or
--                        with which number it does not load
--   unbegun_text n why   what is said of a form in the file n that begins nothing
--   stop_text s usage    why a command line asks for nothing, and how the program is called
-- Assumes nothing.
use Rattle.std.specs.Prelude.{ℕ, Bool, ◌&&◌, ◌==◌, List, [], ◌∷◌, ◌++◌, codes, if◌then◌else◌, Some, None}
use Rattle.std.specs.Str.{bytes_eq}
use Rattle.std.specs.Io.KnownBytes.{Appends}
use Rattle.std.specs.IoError.{error_kind}
use Rattle.std.specs.declared.io.ErrorKind.{ErrorKind}
use Rattle.std.specs.declared.io.ErrorKind.TheVariants.{NotFound, PermissionDenied, IsADirectory, NotADirectory}
use Rattle.std.specs.declared.io.ErrorKind.TheVariants.{StorageFull, QuotaExceeded, FileTooLarge, ReadOnlyFilesystem}
use Rattle.std.specs.declared.io.ErrorKind.TheVariants.{BrokenPipe, WouldBlock, InvalidFilename, FilesystemLoop}
use Rattle.std.specs.declared.io.ErrorKind.TheVariants.{OutOfMemory}
use Rattle.std.specs.declared.option.Option.{Option}
use Rattle.std.specs.declared.result.Result.{Result}
use Rattle.std.specs.declared.io.Error.{Error}
use Rattle.textio.specs.Fronts.{WritesFront, WritesText}
use Rattle.textio.specs.declared.lines.Failure.TheVariants.{Read, Write, TooLong}
use Rattle.floorlog.specs.Unplayed.{unplayed_text}
use Rattle.floorlog.specs.declared.unplayed.Unplayed.{Unplayed}
use Rattle.textio.specs.Forms.{form_filled}
use Rattle.stored.specs.Told.{load_error_number}
use Rattle.formfile.specs.declared.NotBegun.{NotBegun}
use Rattle.formfile.specs.declared.NotBegun.TheVariants.{Unread, Refused}
use Rattle.reasons.specs.Reasons.{number_text}
use Rattle.recorded.specs.Following.{FirstStray, stray_seen, stray_text}
use Rattle.recorded.specs.declared.stray.StrayLine.{StrayLine}
use Rattle.program.specs.declared.telling.CutCause.{CutCause}
use Rattle.program.specs.declared.telling.CutCause.TheVariants.{Log, Changed}
use Rattle.program.specs.declared.telling.Ending.{Ending}
use Rattle.program.specs.declared.status.Status.{Status}
use Rattle.program.specs.declared.status.Status.TheVariants.{Done, Strayed}
use Rattle.command.specs.declared.asked.Stop.{Stop}
use Rattle.command.specs.declared.asked.Stop.TheVariants.{Help, Version, Unknown, Alone, Twice, NoForm, NoMoment}
use Rattle.command.specs.declared.asked.Stop.TheVariants.{NoHours, Apart, NoMemory}

abbrev pub cause_words : ErrorKind → List ℕ
cause_words NotFound = codes ": no such file"
cause_words PermissionDenied = codes ": no permission"
cause_words IsADirectory = codes ": it is a folder"
cause_words NotADirectory = codes ": its path goes through a file"
cause_words StorageFull = codes ": no space is left"
cause_words QuotaExceeded = codes ": no more space is granted"
cause_words FileTooLarge = codes ": the file is too large"
cause_words ReadOnlyFilesystem = codes ": the file system takes no writes"
cause_words BrokenPipe = codes ": nobody reads it any more"
cause_words WouldBlock = codes ": no bytes are there yet"
cause_words InvalidFilename = codes ": no name of a file"
cause_words FilesystemLoop = codes ": its links go in a circle"
cause_words OutOfMemory = codes ": out of memory"
cause_words k = []

abbrev pub cause_of : Error → List ℕ
cause_of e = cause_words (error_kind e)

abbrev pub unread_text : List ℕ → List ℕ → List ℕ
unread_text n cause = n ++ (codes ": cannot be read" ++ (cause ++ codes "\n"))

abbrev pub unwritten_text : List ℕ → List ℕ → List ℕ
unwritten_text n cause = n ++ (codes ": cannot be written" ++ (cause ++ codes "\n"))

abbrev pub refused_text : List ℕ → ℕ → List ℕ
refused_text n c = (n ++ (codes ": " ++ (number_text c ++ codes " ("))) ++ form_filled (codes "#)\n") (c ∷ [])

abbrev pub endless_text : List ℕ → List ℕ
endless_text n = n ++ (codes ": more lines, bytes or seconds" ++ (codes " than can be counted" ++ codes "\n"))

abbrev pub changed_text : List ℕ
changed_text = codes "the log changed while it was read\n"

abbrev pub failed_text : CutCause → List ℕ → List ℕ → List ℕ
failed_text (Log (Read e)) source sink = unread_text source (cause_of e)
failed_text (Log (Write e)) source sink = unwritten_text sink (cause_of e)
failed_text (Log TooLong) source sink = endless_text source
failed_text Changed source sink = changed_text

abbrev pub shown_name : List ℕ → List ℕ
shown_name n = if bytes_eq n (codes "-") then codes "standard input" else n

pub record IsSaid (fails : Error → Type 0) (old new : Option (List ℕ)) (text : List ℕ) : Type 0 where
  pub front : WritesFront old new text
  pub whole : ((e : Error) → fails e → ⊥) → Appends old new text

abbrev pub stray_warning : FirstStray → List ℕ
stray_warning s = stray_text s ++ codes "; what is written is of the lines before it\n"

abbrev pub is_all_played : Unplayed → Bool
is_all_played u = u.misread == 0 && u.refused == 0

abbrev pub text_by : Option StrayLine → Unplayed → List ℕ
text_by (Some line) u = stray_warning (stray_seen line)
text_by None u = if is_all_played u then [] else unplayed_text u

abbrev pub ending_text : Ending → List ℕ
ending_text e = text_by e.stray e.unplayed

abbrev pub status_by : Option StrayLine → Unplayed → Status
status_by (Some line) u = Strayed
status_by None u = if is_all_played u then Done else Strayed

abbrev pub ending_status : Ending → Status
ending_status e = status_by e.stray e.unplayed

abbrev pub with_usage : List ℕ → List ℕ → List ℕ → List ℕ
with_usage word why usage = word ++ (why ++ (codes "\n" ++ usage))

abbrev pub stop_text : Stop → List ℕ → List ℕ
stop_text Help usage = []
stop_text Version usage = []
stop_text (Unknown w) usage = with_usage w.now (codes ": no such option") usage
stop_text (Alone w) usage = with_usage w.now (codes ": a file's name is missing after it") usage
stop_text (Twice w) usage = with_usage w.now (codes ": given twice") usage
stop_text (NoForm w) usage = with_usage w.now (codes ": a form is a file") usage
stop_text (NoMoment w) usage = with_usage w.now (codes ": no day and time, as 2026-11-23T06:00") usage
stop_text (NoHours w) usage = with_usage w.now (codes ": no number of hours, of one to five digits") usage
stop_text (Apart w) usage = with_usage w.now (codes ": --page and --csv do not go together") usage
stop_text NoMemory usage = []

abbrev pub UnbegunSaid : (Error → Type 0) → Option (List ℕ) → Option (List ℕ) → Result (Unit {0}) Error → List ℕ
    → NotBegun → Type 0
UnbegunSaid fails old new said n (Unread e) = WritesText fails old new said (unread_text n (cause_of e))
UnbegunSaid fails old new said n (Refused e) = WritesText fails old new said (refused_text n (load_error_number e))

abbrev pub unbegun_text : List ℕ → NotBegun → List ℕ
unbegun_text n (Unread e) = unread_text n (cause_of e)
unbegun_text n (Refused e) = refused_text n (load_error_number e)
