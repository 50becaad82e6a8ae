-- What is collected of a line is the end of what was sent: someone who keeps all bytes taken, in a row, has it there.
--   Ends w h      h is the end of w
-- Assumes nothing.
use Rattle.std.proofs.Common.{ℕ, ◌+◌, ◌<◌, ◌≡◌, sym, ap, ◌∙◌, true, List, [], ◌∷◌, ◌++◌, append_assoc, append-nil}
use Rattle.std.proofs.Common.{arith, add-one, length, take, set, take-suc-set}
use Rattle.std.proofs.lemmas.Bool.{false≢true, eqb-false}
use Rattle.std.proofs.Math.Seq.{take-append_seam, take-append-add}
use Prim.Native.Char.{code}
use Rattle.text.specs.Flags.{is_raised}
use Rattle.text.specs.Words.{◌is◌}
use Rattle.text.proofs.Choices.{if_by}
use Rattle.record.specs.Legal.{is_collecting, held_most}
use Rattle.record.specs.declared.types.CollectedLine.{CollectedLine}
use Rattle.record.proofs.ConnectionTold.{held_most_room, marked_none}
use Rattle.stream.specs.Machine.{UpTo, up_to}
use Rattle.stream.specs.Collecting.{line_text, line_after, gathered_from}
use Rattle.stream.proofs.UpToTheEnd.{up_to_by}
use Rattle.stream.proofs.AllAtOnce.{collected_by}
use Rattle.stream.proofs.LegalLines.{LegalLine, collected_legal}

pub record Ends (w h : List ℕ) : Type 0 where
  pub before : List ℕ
  pub split : w ≡ before ++ h

pub ends_none : (w : List ℕ) → Ends w []
ends_none w = record { before = w; split = sym (append-nil w) }

-- more behind
pub ends_with : {w h : List ℕ} (x : List ℕ) → Ends w h → Ends (w ++ x) (h ++ x)
ends_with {w} {h} x e = grind (arith, append_assoc)

pub ends_trans : {w h k : List ℕ} → Ends w h → Ends h k → Ends w k
ends_trans {w} {h} {k} e f = record {
  before = e.before ++ f.before;
  split =
      e.split ∙ ap (λ (x : List ℕ). e.before ++ x) f.split ∙ sym (append_assoc e.before f.before k);
}

-- a line that holds nothing
pub held_none : (l : CollectedLine) → l.held ≡ 0 → line_text l ≡ []
held_none l e = ap (λ (n : ℕ). take n l.bytes) e

pub ends_unheld : (w : List ℕ) (l : CollectedLine) → l.held ≡ 0 → Ends w (line_text l)
ends_unheld w l e = record {
  before = w;
  split = sym (append-nil w)
      ∙ ap (λ (h : List ℕ). w ++ h) (sym (held_none l e));
}

-- a legal line under the overlong flag holds nothing
overlong_unheld : (phase : ℕ) (l : CollectedLine) → LegalLine phase l → is_raised l.overlong ≡ true → l.held ≡ 0
overlong_unheld phase l p e = grind (arith, marked_none)

one_more_ends : (phase : ℕ) (l : CollectedLine) (b : ℕ) → LegalLine phase l
    → Ends (line_text l ++ (b ∷ [])) (line_text (line_after (held_most phase) l b))
one_more_ends phase l b p =
    let most = held_most_room phase in
    collected_by _ (held_most phase) l b (λ k. Ends (line_text l ++ (b ∷ [])) (line_text k))
    (λ m. ends_unheld _ l (overlong_unheld phase l p m)) (λ u full. ends_none (line_text l ++ (b ∷ []))) (λ u room.
    let within : l.held < length l.bytes = omega (arith, p.kept.long) in
    record {
      before = [];
      split = sym (ap (λ (n : ℕ). take n (set l.bytes l.held b)) (add-one l.held)
          ∙ take-suc-set l.bytes l.held b within);
    })

-- what is gathered ends what was held and what is taken before CR
pub gathered_ends : (phase : ℕ) (l : CollectedLine) (bs : List ℕ) → is_collecting phase ≡ true → LegalLine phase l
    → let g = gathered_from (held_most phase) l bs in
    Ends (line_text l ++ take g.before bs) (line_text g.line)
unfolding gathered_from up_to
gathered_ends phase l [] c p = record { before = []; split = append-nil (line_text l) }
gathered_ends phase l (b ∷ bs) c p =
    if_by (λ (g : UpTo CollectedLine). Ends (line_text l ++ take g.before (b ∷ bs)) (line_text g.line)) (b is "\r")
    (λ cr. record { before = []; split = append-nil (line_text l) }) (λ n.
    let k = line_after (held_most phase) l b in
    let taken = take (gathered_from (held_most phase) k bs).before bs in
    rw (← append_assoc (line_text l) (b ∷ []) taken)
    (ends_trans (ends_with taken (one_more_ends phase l b p))
    (gathered_ends phase k bs c (collected_legal phase l b c (eqb-false b (code "\r") n) p))))

-- with CR, one byte more is taken
pub taken_with_cr : (most : ℕ) (l : CollectedLine) (bs : List ℕ) → let g = gathered_from most l bs in
    g.ended ≡ true → take (g.before + 1) bs ≡ take g.before bs ++ (code "\r" ∷ [])
unfolding gathered_from
taken_with_cr most l bs =
    up_to_by (code "\r") (line_after most) l bs
    (λ s g. g.ended ≡ true → take (g.before + 1) s ≡ take g.before s ++ (code "\r" ∷ []))
    (λ p e. absurd (false≢true e))
    (λ xs more p e. take-append-add xs (code "\r" ∷ more) 1
    ∙ ap (λ (s : List ℕ). s ++ (code "\r" ∷ [])) (sym (take-append_seam xs (code "\r" ∷ more))))
