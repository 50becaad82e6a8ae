-- What a call that writes words has said, whatever became of it.
-- Assumes nothing.
use Rattle.std.proofs.Common.{◌≡◌, ℕ, List, Option, Result, Ok, Err, sym, subst}
use Rattle.std.specs.declared.io.Error.{Error}
use Rattle.textio.specs.Fronts.{WritesText}
use Rattle.formfile.specs.declared.NotBegun.{NotBegun}
use Rattle.formfile.specs.declared.NotBegun.TheVariants.{Unread}
use Rattle.program.specs.Said.{IsSaid, UnbegunSaid, unread_text, cause_of}

pub said_so : {T : Type 0} {fails : Error → Type 0} {old new : Option (List ℕ)} {r : Result T Error} {text : List ℕ}
    → WritesText fails old new r text → IsSaid fails old new text
said_so {r = Ok v} w = record { front = w.front; whole = λ none. w.whole }
said_so {r = Err e} w = record { front = w.front; whole = λ none. absurd (none e w.err) }

pub unread_so : (fails : Error → Type 0) (old new : Option (List ℕ)) (said : Result (Unit {0}) Error) (n cause : List ℕ)
    (why : NotBegun) (e : Error) → why ≡ Unread e → cause ≡ cause_of e
    → WritesText fails old new said (unread_text n cause) → UnbegunSaid fails old new said n why
unread_so fails old new said n cause why e is by words =
    subst (λ (w : NotBegun). UnbegunSaid fails old new said n w) (sym is) (rw by at words)
