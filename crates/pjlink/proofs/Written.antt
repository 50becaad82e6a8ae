-- What a projector of ours writes is a writing: so is any bytes that are an answer's parameter by its row.
-- Assumes nothing.
use Rattle.std.specs.List.{list_all}
use Rattle.std.proofs.Common.{ℕ, ◌≤◌, ◌≡◌, refl, sym, subst, ◌∙◌, Bool, true, List, length, le-leb}
use Rattle.text.proofs.Choices.{both}
use Rattle.words.specs.Joined.{is_list}
use Rattle.words.specs.Lamps.{is_lamp_hours}
use Rattle.words.specs.Combinations.{list_says}
use Rattle.words.specs.Laws.{lamp_codec}
use Rattle.pjlink.specs.declared.command.Command.{Command}
use Rattle.pjlink.specs.Said.{Said, lamps_are, said_text, said_bytes}
use Rattle.pjlink.specs.Carried.{lamps_carried}
use Rattle.pjlink.specs.declared.body.AnswerKind.{AnswerKind}
use Rattle.pjlink.specs.CanSay.{CanSay, done, refuses, tells, IsOfKind, power, input, mutes, errors, lamps, inputs}
use Rattle.pjlink.specs.CanSay.{text, class_said, freeze}
use Rattle.pjlink.proofs.SaidRows.{said_row}
use Rattle.pjlink.specs.Writings.{Writes}

-- things that an answer may have are a list of its codec
pub list_legal : {A : Type 0} (legal : A → Bool) (n : ℕ) (xs : List A) → 1 ≤ length xs → length xs ≤ n
    → list_all legal xs ≡ true
    → is_list legal n xs ≡ true
list_legal legal n xs l h e = both (both (le-leb 1 (length xs) l) (le-leb (length xs) n h)) e

kind_is_written : {k : AnswerKind} {m : Said} → IsOfKind k m → Writes m (said_bytes m)
kind_is_written (power p) = refl
kind_is_written (input i e) = refl
kind_is_written (mutes v a) = refl
kind_is_written (errors ds h e) = refl
kind_is_written (lamps ls l h e) =
    subst (Writes (lamps_are ls)) (sym (said_row (lamps_are ls)))
    ((list_says lamp_codec lamps_carried).own ls (list_legal is_lamp_hours lamps_carried ls l h e)).1
kind_is_written (inputs is l h e) = refl
kind_is_written (text r s e) = refl
kind_is_written (class_said k) = refl
kind_is_written (freeze on) = refl

pub said_is_written : {c : Command} {m : Said} → CanSay c m → Writes m (said_bytes m)
said_is_written (done s) = refl
said_is_written (refuses n l h t) = refl
said_is_written (tells asks of) = kind_is_written of

pub of_kind_is_written : {k : AnswerKind} {m : Said} → IsOfKind k m → {p : List ℕ} → p ≡ said_text m → Writes m p
of_kind_is_written {k} {m} of e = subst (Writes m) (said_row m ∙ sym e) (kind_is_written of)

pub row_is_written : {c : Command} {m : Said} → CanSay c m → {p : List ℕ} → p ≡ said_text m → Writes m p
row_is_written {c} {m} can e = subst (Writes m) (said_row m ∙ sym e) (said_is_written can)
