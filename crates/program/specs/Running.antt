-- What a program does with a command line (RULES, The programs): which record a log begins with, what goes to standard
-- output, which words to standard error, and the status.
--   Outs                what the two outputs had, and have then
--   cut_form s          how the last line of a failure is: a row in comma-separated values
--   IsTold ..           all of the log was read and reported: on standard output, how it ended on standard error
--   IsCutOff ..         a read, a write or a count failed: a front of the report, and the failure's line, if it has
--                       one, go to standard output, the file that failed and why to standard error; the status is 1
--   TellsOut ..         the one or the other;   TellsSaved ..   the same of an output's file: nothing goes to standard
--                       output
--   IsUnkept ..         a page is asked for, which reads its log more than once, and what can be read only once could
--                       not be kept: words on standard error, a failed read's line on standard output if the page was
--                       to go there; the status is 1
--   StopsSo ..          what a command line is answered that asks for no log
--   IsUnbegun ..        a form begins nothing: which, and why, goes to standard error, and its line to standard output
--                       where neither a page, comma-separated values nor a file is asked for; the status is 1
--   Runs ..             all of it: what a command line asks for, or which word is wrong, and what is done for it
-- Assumes nothing.
use Rattle.std.specs.Prelude.{ℕ, ◌≡◌, ◌⊎◌, [], Bool, true, false, ◌&&◌, List, ◌++◌, codes, is_none, unwrap_or}
use Rattle.std.specs.Prelude.{Some, None, Ok, Err, IfSome}
use Rattle.std.specs.declared.option.Option.{Option}
use Rattle.std.specs.declared.result.Result.{Result}
use Rattle.std.specs.declared.io.Error.{Error}
use Rattle.std.specs.Io.KnownBytes.{Appends}
use Rattle.textio.specs.Fronts.{WritesFront, WritesText}
use Rattle.textio.specs.declared.lines.Failure.{Failure}
use Rattle.textio.specs.declared.lines.Failure.TheVariants.{Read, Write, TooLong}
use Rattle.stored.specs.Form.{stored_form}
use Rattle.stored.specs.Told.{load_error_number}
use Rattle.crc32.specs.Crc.{crc32_of}
use Rattle.floorlog.specs.Cuts.{failure_line, cut_text, read_failed, number_line}
use Rattle.floorlog.specs.declared.cut.CutForm.{CutForm}
use Rattle.floorlog.specs.declared.cut.CutForm.TheVariants.{Line, Row}
use Rattle.command.specs.Asked.{AskedFor, Asks, asked_by, asked_seen}
use Rattle.command.specs.declared.asked.Arguments.{Arguments}
use Rattle.command.specs.declared.asked.Shape.{Shape}
use Rattle.command.specs.declared.asked.Shape.TheVariants.{Lines, Page, Csv}
use Rattle.command.specs.declared.asked.Stop.{Stop}
use Rattle.command.specs.declared.asked.Stop.TheVariants.{Help, Version, Unknown, Alone, Twice, NoForm}
use Rattle.command.specs.declared.asked.Stop.TheVariants.{NoMoment, NoHours, Apart, NoMemory}
use Rattle.formfile.specs.Begun.{IsBegun, IsReadBy}
use Rattle.formfile.specs.declared.Begun.{Begun}
use Rattle.formfile.specs.declared.NotBegun.{NotBegun}
use Rattle.formfile.specs.declared.NotBegun.TheVariants.{Unread, Refused}
use Rattle.floorlog.specs.Playing.{sample_device}
use Rattle.program.specs.Said.{IsSaid, ending_text, ending_status, failed_text, shown_name, unread_text, unwritten_text}
use Rattle.program.specs.Said.{cause_of, stop_text, unbegun_text}
use Rattle.program.specs.Joined.{joined_bytes, files_asked}
use Rattle.program.specs.About.{help_text, version_text}
use Rattle.program.specs.declared.about.About.{About}
use Rattle.program.specs.declared.telling.CutCause.{CutCause}
use Rattle.program.specs.declared.telling.CutCause.TheVariants.{Log, Changed}
use Rattle.program.specs.declared.telling.Ending.{Ending}
use Rattle.program.specs.declared.status.Status.{Status}
use Rattle.program.specs.declared.status.Status.TheVariants.{Done, Failed, Usage}

pub record Outs : Type 0 where
  pub out : Option (List ℕ)
  pub out_then : Option (List ℕ)
  pub errors : Option (List ℕ)
  pub errors_then : Option (List ℕ)

abbrev pub cut_form : Shape → CutForm
cut_form Csv = Row
cut_form s = Line

-- the line of a failure; after a failed write nothing more is written; a log that changed is one that cannot be read
abbrev pub LastSaid : (Error → Type 0) → CutForm → Option (List ℕ) → Option (List ℕ) → CutCause → Type 0
LastSaid writes form mid then (Log (Read e)) = IsSaid writes mid then (cut_text form (Read e))
LastSaid writes form mid then (Log (Write e)) = WritesFront mid then []
LastSaid writes form mid then (Log TooLong) = IsSaid writes mid then (cut_text form TooLong)
LastSaid writes form mid then Changed = IsSaid writes mid then (read_failed form)

abbrev pub IsRead : Failure → Type 0
IsRead (Read e) = Unit {0}
IsRead (Write e) = ⊥
IsRead TooLong = ⊥

-- the failure that it ends with
abbrev pub IsLast : CutCause → Failure → Type 0
IsLast (Log f) last = last ≡ f
IsLast Changed last = IsRead last

module _ (writes fails : Error → Type 0) (known : Option (List ℕ)) (told : List ℕ → List ℕ)
    (Ends : List ℕ → Ending → Type 0) where
  pub record IsTold (o : Outs) (status : Status) : Type 0 where
    pub ending : Ending
    pub written : IfSome known (λ log. Appends o.out o.out_then (told log))
    pub ends : IfSome known (λ log. Ends log ending)
    pub said : IsSaid fails o.errors o.errors_then (ending_text ending)
    pub status_is : status ≡ ending_status ending

  pub record IsCutOff (sink : List ℕ) (form : CutForm) (o : Outs) (status : Status) : Type 0 where
    pub cause : CutCause
    pub changed : cause ≡ Changed → known ≡ None
    pub source : List ℕ
    pub mid : Option (List ℕ)
    pub front : IfSome known (λ log. WritesFront o.out mid (told log))
    pub last : LastSaid writes form mid o.out_then cause
    pub said : IsSaid fails o.errors o.errors_then (failed_text cause (shown_name source) sink)
    pub status_is : status ≡ Failed

  abbrev pub TellsOut : CutForm → Outs → Status → Type 0
  TellsOut form o status = IsTold o status ⊎ IsCutOff (codes "standard output") form o status

-- the same, in an output's file with that name; fresh is what such a file has where it is begun
module _ (fails : Error → Type 0) (known fresh : Option (List ℕ)) (told : List ℕ → List ℕ)
    (Ends : List ℕ → Ending → Type 0) (Stands : List ℕ → List ℕ → Type 0) (name : List ℕ) where
  pub record IsSaved (errors errors_then : Option (List ℕ)) (status : Status) : Type 0 where
    pub ending : Ending
    pub stands : IfSome fresh (λ f. IfSome known (λ log. Stands name (f ++ told log)))
    pub ends : IfSome known (λ log. Ends log ending)
    pub said : IsSaid fails errors errors_then (ending_text ending)
    pub status_is : status ≡ ending_status ending

  pub record IsUnsaved (errors errors_then : Option (List ℕ)) (status : Status) : Type 0 where
    pub cause : CutCause
    pub changed : cause ≡ Changed → known ≡ None
    pub source : List ℕ
    pub said : IsSaid fails errors errors_then (failed_text cause (shown_name source) name)
    pub status_is : status ≡ Failed

  abbrev pub TellsSaved : Option (List ℕ) → Option (List ℕ) → Status → Type 0
  TellsSaved errors errors_then status = IsSaved errors errors_then status ⊎ IsUnsaved errors errors_then status

abbrev pub IsSample : Result Begun NotBegun → Type 0
IsSample (Ok b) = (b.device ≡ sample_device) × (b.sum ≡ crc32_of (stored_form sample_device))
IsSample (Err why) = ⊥

abbrev pub BeginsBy : (List ℕ → Option (List ℕ)) → Option (List ℕ) → Result Begun NotBegun → Type 0
BeginsBy bytes None r = IsSample r
BeginsBy bytes (Some name) r = IsBegun r × IfSome (bytes name) (λ form. IsReadBy form r)

abbrev pub unbegun_line : NotBegun → List ℕ
unbegun_line (Unread e) = failure_line (Read e)
unbegun_line (Refused e) = number_line (load_error_number e)

abbrev pub is_lines : Shape → Bool
is_lines Lines = true
is_lines s = false

abbrev pub is_page : Shape → Bool
is_page Page = true
is_page s = false

-- the file that could not be read, or not be written, and why
pub record IsUnkeptSaid (fails : Error → Type 0) (errors errors_then : Option (List ℕ)) : Type 0 where
  pub file : List ℕ
  pub error : Error
  pub said : IsSaid fails errors errors_then (unread_text (shown_name file) (cause_of error))
      ⊎ IsSaid fails errors errors_then (unwritten_text file (cause_of error))

abbrev pub LeavesFailure : (Error → Type 0) → Option (List ℕ) → Option (List ℕ) → Option (List ℕ) → Type 0
LeavesFailure writes None old new = IsSaid writes old new (read_failed Line)
LeavesFailure writes (Some name) old new = new ≡ old

pub record IsUnkept (writes fails : Error → Type 0) (a : AskedFor) (o : Outs) (status : Status) : Type 0 where
  pub page : is_page a.shape ≡ true
  pub said : IsUnkeptSaid fails o.errors o.errors_then
  pub line : LeavesFailure writes a.output o.out o.out_then
  pub status_is : status ≡ Failed

abbrev pub is_lined : AskedFor → Bool
is_lined a = is_lines a.shape && is_none a.output

abbrev pub LeavesLine : (Error → Type 0) → Bool → Option (List ℕ) → Option (List ℕ) → NotBegun → Type 0
LeavesLine writes true old new why = IsSaid writes old new (unbegun_line why)
LeavesLine writes false old new why = new ≡ old

abbrev pub AboutEnds : (Error → Type 0) → Result (Unit {0}) Error → Option (List ℕ) → Option (List ℕ) → Status → Type 0
AboutEnds fails (Ok u) errors errors_then status = (status ≡ Done) × (errors_then ≡ errors)
AboutEnds fails (Err e) errors errors_then status =
    (status ≡ Failed) × IsSaid fails errors errors_then (unwritten_text (codes "standard output") (cause_of e))

pub record IsAbout (writes fails : Error → Type 0) (text : List ℕ) (o : Outs) (status : Status) : Type 0 where
  pub told : Result (Unit {0}) Error
  pub written : WritesText writes o.out o.out_then told text
  pub ends : AboutEnds fails told o.errors o.errors_then status

pub record SaysAlone (fails : Error → Type 0) (text : List ℕ) (is : Status) (o : Outs) (status : Status) : Type 0 where
  pub said : IsSaid fails o.errors o.errors_then text
  pub nothing : o.out_then ≡ o.out
  pub status_is : status ≡ is

abbrev pub StopsSo : (Error → Type 0) → (Error → Type 0) → Stop → About → Outs → Status → Type 0
StopsSo writes fails Help a = IsAbout writes fails (help_text a)
StopsSo writes fails Version a = IsAbout writes fails (version_text a)
StopsSo writes fails (Unknown w) a = SaysAlone fails (stop_text (Unknown w) a.usage.now) Usage
StopsSo writes fails (Alone w) a = SaysAlone fails (stop_text (Alone w) a.usage.now) Usage
StopsSo writes fails (Twice w) a = SaysAlone fails (stop_text (Twice w) a.usage.now) Usage
StopsSo writes fails (NoForm w) a = SaysAlone fails (stop_text (NoForm w) a.usage.now) Usage
StopsSo writes fails (NoMoment w) a = SaysAlone fails (stop_text (NoMoment w) a.usage.now) Usage
StopsSo writes fails (NoHours w) a = SaysAlone fails (stop_text (NoHours w) a.usage.now) Usage
StopsSo writes fails (Apart w) a = SaysAlone fails (stop_text (Apart w) a.usage.now) Usage
StopsSo writes fails NoMemory a =
    SaysAlone fails (unread_text (codes "the command line") (codes ": out of memory")) Failed

module _ (writes fails : Error → Type 0) (log_bytes form_bytes : List ℕ → Option (List ℕ)) (fresh : Option (List ℕ))
    (Stands : List ℕ → List ℕ → Type 0) (told : AskedFor → Begun → List ℕ → List ℕ)
    (Ends : Begun → List ℕ → Ending → Type 0) where
  abbrev pub TellsTo : Option (List ℕ) → AskedFor → Begun → Outs → Status → Type 0
  TellsTo None a b o status =
      TellsOut writes fails (joined_bytes log_bytes (files_asked a)) (told a b) (Ends b)
      (cut_form a.shape) o status
  TellsTo (Some name) a b o status =
      TellsSaved fails (joined_bytes log_bytes (files_asked a)) fresh (told a b) (Ends b) Stands name o.errors
      o.errors_then status
      × (o.out_then ≡ o.out)

  pub record IsUnbegun (a : AskedFor) (o : Outs) (status : Status) : Type 0 where
    pub why : NotBegun
    pub begins : BeginsBy form_bytes a.form (Err why)
    pub said : IsSaid fails o.errors o.errors_then (unbegun_text (unwrap_or a.form (codes "-")) why)
    pub line : LeavesLine writes (is_lined a) o.out o.out_then why
    pub status_is : status ≡ Failed

  pub record IsBegunSo (a : AskedFor) (o : Outs) (status : Status) : Type 0 where
    pub begun : Begun
    pub begins : BeginsBy form_bytes a.form (Ok begun)
    pub tells : IsUnkept writes fails a o status ⊎ TellsTo a.output a begun o status

  abbrev pub Does : AskedFor → Outs → Status → Type 0
  Does a o status = IsUnbegun a o status ⊎ IsBegunSo a o status

  abbrev pub AnswersSo : Result Arguments Stop → About → Outs → Status → Type 0
  AnswersSo (Ok c) a = Does (asked_seen c)
  AnswersSo (Err stop) a = StopsSo writes fails stop a

  -- what the words of a command line ask for, by `Asked`, or that there is no memory for them, and what is done for it
  pub record Runs (words : List (List ℕ)) (a : About) (o : Outs) (status : Status) : Type 0 where
    pub parsed : Result Arguments Stop
    pub asks : Asks parsed (asked_by a.has_page words)
    pub answers : AnswersSo parsed a o status
