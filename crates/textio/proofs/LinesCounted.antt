-- A log has no more lines than bytes, and no line longer than it.
-- Assumes nothing.
use Rattle.std.proofs.Common.{Any, ◌⊎◌, ℕ, suc, ◌+◌, ◌≤◌, Bool, List, [], ◌∷◌, ◌++◌, arith, ⊎_elim, length}
use Rattle.std.proofs.Common.{sym, ap, subst, ◌==◌}
use Rattle.std.proofs.Common.{length-append, if◌then◌else◌}
use Rattle.text.specs.Words.{◌is◌}
use Rattle.text.proofs.Choices.{if_all}
use Rattle.textio.specs.Lines.{lines_of, count_most, HasEndlessLine, IsTooLong}
use Rattle.textio.proofs.LinesSpelt.{texts_from, texts_all, texts_end, texts_more}

-- what holds of a line holds of the first or of a later one
any_line : (P : List ℕ → Type 0) (l : List ℕ) (ls : List (List ℕ)) → Any P (l ∷ ls) → P l ⊎ Any P ls
any_line P l ls h = grind arith

no_line : (P : List ℕ → Type 0) → Any P [] → ⊥
no_line P (i, v, inside, same, p) = omega (arith, inside)

either_line : (P : List ℕ → Type 0) (Q : Type 0) (lf : Bool) (ls ms : List (List ℕ)) → (Any P ls → Q) → (Any P ms → Q)
    → Any P (if lf then ls else ms) → Q
either_line P Q lf ls ms h g e = grind arith

-- no line is longer than its log
line_fits : (m : ℕ) (g bs : List ℕ) → Any (λ (l : List ℕ). m ≤ length l) (texts_from g bs) → m ≤ length g + length bs
line_fits m g [] h =
    let P : List ℕ → Type 0 = λ l. m ≤ length l in
    either_line P (m ≤ length g + 0) (length g == 0) [] (g ∷ [])
    (λ k. absurd (no_line P k))
    (λ k. ⊎_elim (λ (e : m ≤ length g). omega (arith, e)) (λ (e : Any P []). absurd (no_line P e)) (any_line P g [] k))
    (subst (Any P) (texts_end g) h)
line_fits m g (b ∷ bs) h =
    let P : List ℕ → Type 0 = λ l. m ≤ length l in
    let later : Any P (texts_from [] bs) → m ≤ length bs = λ k. omega (arith, line_fits m [] bs k) in
    either_line P (m ≤ length g + suc (length bs)) (b is "\n") (g ∷ texts_from [] bs) (texts_from (g ++ (b ∷ [])) bs)
    (λ k. ⊎_elim (λ (e : m ≤ length g). omega (arith, e)) (λ (e : Any P (texts_from [] bs)). omega (arith, later e))
    (any_line P g (texts_from [] bs) k))
    (λ k. omega (arith, line_fits m (g ++ (b ∷ [])) bs k, length-append g (b ∷ [])))
    (subst (Any P) (texts_more g b bs) h)

texts_fit : (g bs : List ℕ) → length (texts_from g bs) ≤ length g + length bs
texts_fit g [] = rw (texts_end g) (grind arith)
texts_fit g (b ∷ bs) =
    rw (texts_more g b bs)
    (grind (arith, if_all, length-append, texts_fit [] bs, texts_fit (g ++ (b ∷ [])) bs))

pub lines_fit : (log : List ℕ) → length (lines_of log) ≤ length log
lines_fit log = omega (arith, texts_fit [] log, ap length (texts_all log))

-- a log that is too long has as many bytes
pub too_long_bytes : (log : List ℕ) → IsTooLong log → count_most ≤ length log
too_long_bytes log h =
    ⊎_elim (λ (e : count_most ≤ length (lines_of log)). omega (arith, e, lines_fit log))
    (λ (e : HasEndlessLine log). omega (
      arith,
      line_fits count_most [] log
          (subst (Any (λ (l : List ℕ). count_most ≤ length l)) (sym (texts_all log)) e),
    )) h
