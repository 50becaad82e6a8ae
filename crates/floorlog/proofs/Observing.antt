-- A log observed line by line: what is written so far, and what the lines left give, are what all of its lines give.
--   Underway .. s log old now left n at     n lines of the log are observed from s on: `at` is the observer, and the
--                                           sink has `now`
-- Assumes nothing.
use Rattle.std.proofs.Common.{None, Some, IfSome, append-nil, refl, Result, Any, ℕ, suc, ◌+◌, ◌≤◌, ◌≡◌, sym, ap, subst}
use Rattle.std.proofs.Common.{◌∙◌, List, [], ◌∷◌, ◌++◌, append_assoc, map, arith, length}
use Rattle.std.specs.declared.option.Option.{Option}
use Rattle.std.specs.declared.io.Error.{Error}
use Rattle.std.specs.Io.KnownBytes.{Keeps, Appends, Consumes}
use Rattle.std.proofs.KnownBytes.{Appends-nil, Appends-trans, Appends-kept}
use Rattle.textio.specs.Lines.{LogLine, texts_of, lines_of, count_most, HasEndlessLine}
use Rattle.textio.specs.Fronts.{WritesFront, WritesText}
use Rattle.textio.specs.NextLine.{IsLine, ReadsPart, FailureComesOf, OnFailedRead}
use Rattle.textio.specs.declared.lines.Failure.{Failure}
use Rattle.textio.specs.declared.lines.Failure.TheVariants.{Read, Write, TooLong}
use Rattle.textio.proofs.LinesEnded.{lines_none}
use Rattle.textio.proofs.Fronts.{front_none, front_then, writes_after}
use Rattle.floorlog.specs.Kept.{kept_most, kept, kept_lines}
use Rattle.floorlog.specs.Observing.{Observes, BreaksOff, CannotFollow}

pub record Underway {S : Type 0} (output : S → List LogLine → List ℕ) (Leaves : S → List LogLine → S → Type 0)
    (Overflows : S → List LogLine → Type 0) (s : S) (log : List ℕ) (old now left : Option (List ℕ)) (n : ℕ) (at : S)
    : Type 0 where
  pub rest : List ℕ
  pub known : left ≡ Some rest
  pub told : List LogLine
  pub lines : kept_lines log ≡ told ++ kept_lines rest
  pub text : List ℕ
  pub written : Appends old now text
  pub then : (ls : List LogLine) → output s (told ++ ls) ≡ text ++ output at ls
  pub leaves : (ls : List LogLine) (last : S) → Leaves at ls last → Leaves s (told ++ ls) last
  pub overflows : Overflows at (kept_lines rest) → Overflows s (kept_lines log)
  pub count : n + length (lines_of rest) ≡ length (lines_of log)
  pub endless : HasEndlessLine rest → HasEndlessLine log

pub on_failed : {P Q : Type 0} (f : Failure) → (P → Q) → OnFailedRead P f → OnFailedRead Q f
on_failed (Read e) step p = step p
on_failed (Write e) step p = tt
on_failed TooLong step p = tt

-- one of the later lines is one of all
later_of : (P : List ℕ → Type 0) (x : List ℕ) (ls : List (List ℕ)) → Any P ls → Any P (x ∷ ls)
later_of P x ls (i, v, inside, is, p) = (suc i, v, omega (arith, inside), is, p)

pub begun : {S : Type 0} (output : S → List LogLine → List ℕ) (Leaves : S → List LogLine → S → Type 0)
    (Overflows : S → List LogLine → Type 0) (a w : Option (List ℕ)) (s : S)
    → IfSome a (λ log. Underway output Leaves Overflows s log w w a 0 s)
begun output Leaves Overflows None w s = tt
begun output Leaves Overflows (Some log) w s = record {
  rest = log;
  known = refl;
  told = [];
  lines = refl;
  text = [];
  written = Appends-nil w;
  then = λ ls. refl;
  leaves = λ ls last h. h;
  overflows = λ h. h;
  count = omega arith;
  endless = λ h. h;
}

module _ {S : Type 0} {output : S → List LogLine → List ℕ} {Leaves : S → List LogLine → S → Type 0}
    {Overflows : S → List LogLine → Type 0} {s at : S} {log : List ℕ} {old now left : Option (List ℕ)} {n : ℕ}
    (u : Underway output Leaves Overflows s log old now left n at) where
  pub flushed : {new : Option (List ℕ)} → Keeps now new → Underway output Leaves Overflows s log old new left n at
  flushed {new} k = grind arith

  -- what comes of all lines
  whole : output s (kept_lines log) ≡ u.text ++ output at (kept_lines u.rest)
  whole = ap (output s) u.lines ∙ u.then (kept_lines u.rest)

  -- what holds of the lines that are left
  of_rest : (P : List ℕ → Type 0) → IfSome left P → P u.rest
  of_rest P h = subst (λ (o : Option (List ℕ)). IfSome o P) u.known h

  front_of : {new : Option (List ℕ)} → WritesFront now new (output at (kept_lines u.rest))
      → WritesFront old new (output s (kept_lines log))
  front_of {new} f = subst (WritesFront old new) (sym whole) (front_then old now new u.text _ u.written f)

  pub so_far : WritesFront old now (output s (kept_lines log))
  so_far = front_of (front_none now _)

  -- a failure to read a line is one to read the log
  pub unread : (reads writes : Error → Type 0) (f : Failure) → FailureComesOf reads writes HasEndlessLine left f
      → FailureComesOf reads writes (λ l. CannotFollow Overflows s l) (Some log) f
  unread reads writes f h = grind arith

  -- a line comes next
  module _ (left_then : Option (List ℕ)) (l : LogLine)
      (next : IfSome left (λ rest. IsLine rest left_then kept_most l)) where
    line : IsLine u.rest left_then kept_most l
    line = of_rest (λ rest. IsLine rest left_then kept_most l) next

    is : kept_lines u.rest ≡ l ∷ kept_lines line.later
    is = ap (map kept) line.lines ∙ ap (λ (k : LogLine). k ∷ kept_lines line.later) (sym line.kept)

    pub observed : {then : S} {new : Option (List ℕ)} → Observes output Leaves Overflows at then l now new
        → Underway output Leaves Overflows s log old new left_then (n + 1) then
    observed {then} {new} o = record {
      rest = line.later;
      known = line.left;
      told = u.told ++ (l ∷ []);
      lines = u.lines ∙ ap (λ (k : List LogLine). u.told ++ k) is ∙ sym (append_assoc u.told (l ∷ []) _);
      text = u.text ++ o.text;
      written = Appends-trans old now new u.text o.text u.written o.written;
      then = λ ls. ap (output s) (append_assoc u.told (l ∷ []) ls) ∙ u.then (l ∷ ls)
          ∙ ap (λ (k : List ℕ). u.text ++ k) (o.then ls) ∙ sym (append_assoc u.text o.text _);
      leaves = λ ls last h. subst (λ (k : List LogLine). Leaves s k last) (sym (append_assoc u.told (l ∷ []) ls))
          (u.leaves (l ∷ ls) last (o.leaves ls last h));
      overflows = λ h. u.overflows (subst (Overflows at) (sym is) (o.overflows (kept_lines line.later) h));
      count = omega (arith, u.count, ap (λ ls. length (texts_of ls)) line.lines);
      endless = λ h. u.endless (subst (Any (λ (l : List ℕ). count_most ≤ length l)) (sym (ap texts_of line.lines))
          (later_of _ line.first.text (lines_of line.later) h));
    }

    pub broken : {new : Option (List ℕ)} → ((ls : List LogLine) → WritesFront now new (output at (l ∷ ls)))
        → WritesFront old new (output s (kept_lines log))
    broken {new} f = grind (arith, front_of)

  -- no line comes next
  module _ (none : IfSome left (λ rest. rest ≡ [])) where
    none_left : kept_lines u.rest ≡ []
    none_left = ap kept_lines (of_rest (λ rest. rest ≡ []) none) ∙ ap (map kept) lines_none

    pub ended : {T : Type 0} {fails : Error → Type 0} {new : Option (List ℕ)} {r : Result T Error}
        → WritesText fails now new r (output at []) → WritesText fails old new r (output s (kept_lines log))
    ended {fails = fails} {new} {r} w =
        subst (WritesText fails old new r)
        (sym (whole ∙ ap (λ (k : List LogLine). u.text ++ output at k) none_left))
        (writes_after u.text u.written w)

    pub left_so : (last : S) → Leaves at [] last → Leaves s (kept_lines log) last
    left_so last h =
        subst (λ (k : List LogLine). Leaves s k last) (sym u.lines)
        (u.leaves (kept_lines u.rest) last (subst (λ (k : List LogLine). Leaves at k last) (sym none_left) h))

  -- a read fails
  pub breaks : (new left_then : Option (List ℕ)) → ReadsPart left left_then → Keeps now new
      → IfSome left_then (λ rest. BreaksOff output Leaves s at log rest old new)
  breaks new left_then p k = by left_then (subst (λ (o : Option (List ℕ)). Consumes o left_then p.part) u.known p.taken)
    where
      by : (o : Option (List ℕ)) → Consumes (Some u.rest) o p.part
          → IfSome o (λ rest. BreaksOff output Leaves s at log rest old new)
      by None e = tt
      by (Some rest) e = record {
        told = u.told;
        part = p.part;
        one_line = p.one_line;
        lines = u.lines ∙ ap (λ (l : List ℕ). u.told ++ kept_lines l) e;
        text = u.text;
        written = Appends-kept old now new u.text u.written k;
        then = u.then;
        leaves = λ last h. subst (λ (k : List LogLine). Leaves s k last) (append-nil u.told) (u.leaves [] last h);
      }
