-- What a program does with a command line, case by case.
-- Assumes nothing.
use Rattle.std.proofs.Common.{◌≡◌, refl, sym, ap, ◌∙◌, ℕ, List, ◌++◌, subst, inl, inr, IfSome, Err, Result, unwrap_or}
use Rattle.std.proofs.Common.{Some, None}
use Rattle.std.proofs.lemmas.Option.{IfSome_then}
use Rattle.std.specs.declared.option.Option.{Option}
use Rattle.std.specs.declared.io.Error.{Error}
use Rattle.textio.specs.Fronts.{WritesText}
use Rattle.textio.specs.declared.lines.Failure.{Failure}
use Rattle.floorlog.specs.Cuts.{end_text, EndFails}
use Rattle.textio.specs.declared.lines.Failure.TheVariants.{Read, Write, TooLong}
use Rattle.program.specs.Said.{IsSaid, UnbegunSaid, unbegun_text, stop_text}
use Rattle.formfile.specs.declared.NotBegun.{NotBegun}
use Rattle.formfile.specs.declared.NotBegun.TheVariants.{Unread, Refused}
use Rattle.program.proofs.SaidSo.{said_so}
use Rattle.floorlog.specs.declared.cut.CutForm.{CutForm}
use Rattle.floorlog.specs.declared.cut.CutForm.TheVariants.{Line, Row}
use Rattle.program.specs.Telling.{CutsOff}
use Rattle.program.specs.Running.{IsLast, LastSaid, StopsSo, Outs, IsSaved, IsUnsaved, TellsSaved, TellsTo}
use Rattle.program.specs.declared.telling.CutCause.{CutCause}
use Rattle.program.specs.declared.telling.CutCause.TheVariants.{Log, Changed}
use Rattle.program.specs.declared.telling.Ending.{Ending}
use Rattle.program.specs.declared.status.Status.{Status}
use Rattle.program.specs.declared.status.Status.TheVariants.{Usage}
use Rattle.program.specs.declared.about.About.{About}
use Rattle.command.specs.Asked.{AskedFor, text_seen}
use Rattle.formfile.specs.declared.Begun.{Begun}
use Rattle.program.specs.Joined.{joined_bytes, files_asked}
use Rattle.command.specs.declared.asked.Stop.{Stop}
use Rattle.command.specs.declared.asked.Stop.TheVariants.{Help, Version, Unknown, Alone, Twice, NoForm}
use Rattle.command.specs.declared.asked.Stop.TheVariants.{NoMoment, NoHours, Apart, NoMemory}
use Rattle.std.specs.Borrow.{Bor}

pub last_so : (writes : Error → Type 0) (form : CutForm) {mid then : Option (List ℕ)} {r : Result (Unit {0}) Error}
    (c : CutCause) (f : Failure) → IsLast c f → WritesText (EndFails writes (Err f)) mid then r (end_text form (Err f))
    → LastSaid writes form mid then c
last_so writes form {mid} {then} {r} (Log f) last is w =
    by f (subst (λ (x : Failure). WritesText (EndFails writes (Err x)) mid then r (end_text form (Err x))) is w)
  where
    by : (f : Failure) → WritesText (EndFails writes (Err f)) mid then r (end_text form (Err f))
        → LastSaid writes form mid then (Log f)
    by (Read e) w = said_so w
    by (Write e) w = w.front
    by TooLong w = said_so w
last_so writes Line Changed (Read e) is w = said_so w
last_so writes Row Changed (Read e) is w = said_so w
last_so writes form Changed (Write e) is w = absurd is
last_so writes form Changed TooLong is w = absurd is

-- a failed write, and a log that changed only where its bytes are not known
pub not_changed : {known : Option (List ℕ)} (f : Failure) → Log f ≡ Changed → known ≡ None
not_changed f e = absurd (subst is_log e tt)
  where
    is_log : CutCause → Type 0
    is_log (Log f) = Unit {0}
    is_log Changed = ⊥

pub changed_so : (writes : Error → Type 0) (long : List ℕ → Type 0) {known : Option (List ℕ)} (c : CutCause)
    → CutsOff writes long known c → c ≡ Changed → known ≡ None
changed_so writes long (Log f) h e = not_changed f e
changed_so writes long Changed h e = h

-- what is saved by the files as they were is saved by them as they are
module _ {fails : Error → Type 0} {known was fresh before : Option (List ℕ)} {told : List ℕ → List ℕ}
    {Ends : List ℕ → Ending → Type 0} {Stands Stood : List ℕ → List ℕ → Type 0} {name : List ℕ}
    {errors errors_then : Option (List ℕ)} {status : Status} (same : known ≡ was) (begun : fresh ≡ before)
    (stands : (n t : List ℕ) → Stands n t → Stood n t) where
  is_saved : IsSaved fails known fresh told Ends Stands name errors errors_then status
      → IsSaved fails was before told Ends Stood name errors errors_then status
  is_saved s = record {
    ending = s.ending;
    stands = subst (λ (f : Option (List ℕ)). IfSome f (λ f. IfSome was (λ log. Stood name (f ++ told log)))) begun
        (subst (λ (k : Option (List ℕ)). IfSome fresh (λ f. IfSome k (λ log. Stood name (f ++ told log)))) same
        (IfSome_then fresh s.stands (λ f p. IfSome_then known p (λ log q. stands _ _ q))));
    ends = subst (λ (k : Option (List ℕ)). IfSome k (λ log. Ends log s.ending)) same s.ends;
    said = s.said;
    status_is = s.status_is;
  }

  is_unsaved : IsUnsaved fails known fresh told Ends Stands name errors errors_then status
      → IsUnsaved fails was before told Ends Stood name errors errors_then status
  is_unsaved u = record {
    cause = u.cause;
    changed = λ e. sym same ∙ u.changed e;
    source = u.source;
    said = u.said;
    status_is = u.status_is;
  }

  pub saved_as : TellsSaved fails known fresh told Ends Stands name errors errors_then status
      → TellsSaved fails was before told Ends Stood name errors errors_then status
  saved_as (inl s) = inl (is_saved s)
  saved_as (inr u) = inr (is_unsaved u)

pub saved_begun : (writes fails : Error → Type 0) (log_bytes form_bytes : List ℕ → Option (List ℕ))
    (fresh : Option (List ℕ)) (Stands : List ℕ → List ℕ → Type 0) (told : AskedFor → Begun → List ℕ → List ℕ)
    (Ends : Begun → List ℕ → Ending → Type 0) (a : AskedFor) (b : Begun) (name : List ℕ) (o : Outs) (status : Status)
    → a.output ≡ Some name
    → TellsSaved fails (joined_bytes log_bytes (files_asked a)) fresh (told a b) (Ends b) Stands name o.errors
    o.errors_then status
    → o.out_then ≡ o.out
    → TellsTo writes fails log_bytes form_bytes fresh Stands told Ends a.output a b o status
saved_begun writes fails log_bytes form_bytes fresh Stands told Ends a b name o status is saved same =
    subst (λ (out : Option (List ℕ)). TellsTo writes fails log_bytes form_bytes fresh Stands told Ends out a b o status)
    (sym is) (saved, same)

-- what a form that begins nothing says, whatever became of it
pub unbegun_so : {fails : Error → Type 0} {old new : Option (List ℕ)} (said : Result (Unit {0}) Error) (n : List ℕ)
    (why : NotBegun) → UnbegunSaid fails old new said n why → IsSaid fails old new (unbegun_text n why)
unbegun_so said n (Unread e) w = said_so w
unbegun_so said n (Refused e) w = said_so w

-- a form's name, or what stands for one
pub named_or : (o : Option (Bor (List ℕ))) (d r : Bor (List ℕ)) → r ≡ unwrap_or o d
    → r.now ≡ unwrap_or (text_seen o) d.now
named_or (Some b) d r e = ap (λ (x : Bor (List ℕ)). x.now) e
named_or None d r e = ap (λ (x : Bor (List ℕ)). x.now) e

module _ (writes fails : Error → Type 0) (a : About) (o : Outs) (status : Status) where
  pub stops_as : (s k : Stop) → s ≡ k → StopsSo writes fails k a o status → StopsSo writes fails s a o status
  stops_as s k is h = subst (λ (x : Stop). StopsSo writes fails x a o status) (sym is) h

  -- a word that is wrong
  pub word_so : (s : Stop) → (s ≡ Help → ⊥) → (s ≡ Version → ⊥) → (s ≡ NoMemory → ⊥)
      → IsSaid fails o.errors o.errors_then (stop_text s a.usage.now) → o.out_then ≡ o.out → status ≡ Usage
      → StopsSo writes fails s a o status
  word_so Help h v n said nothing is = absurd (h refl)
  word_so Version h v n said nothing is = absurd (v refl)
  word_so NoMemory h v n said nothing is = absurd (n refl)
  word_so (Unknown w) h v n said nothing is = record { said = said; nothing = nothing; status_is = is }
  word_so (Alone w) h v n said nothing is = record { said = said; nothing = nothing; status_is = is }
  word_so (Twice w) h v n said nothing is = record { said = said; nothing = nothing; status_is = is }
  word_so (NoForm w) h v n said nothing is = record { said = said; nothing = nothing; status_is = is }
  word_so (NoMoment w) h v n said nothing is = record { said = said; nothing = nothing; status_is = is }
  word_so (NoHours w) h v n said nothing is = record { said = said; nothing = nothing; status_is = is }
  word_so (Apart w) h v n said nothing is = record { said = said; nothing = nothing; status_is = is }
