-- The lines of a log by where its next LF stands: a line that an LF ends and the rest, or a last line.
--   NoLf l    no byte of l is an LF
-- Assumes nothing.
use Rattle.std.proofs.Common.{All, ◌≢◌, ℕ, ◌<◌, ◌≡◌, refl, sym, ap, ◌∙◌, List, [], ◌∷◌, ◌++◌, map, append-nil, false}
use Rattle.std.proofs.Common.{append_assoc, arith, length, ne_eqb}
use Rattle.std.proofs.lemmas.List.Elements.{All-head, All-tail}
use Rattle.text.proofs.Choices.{if_no}
use Rattle.textio.specs.Lines.{lines_ended, cut_end, ended_line, last_line, lines_in}

abbrev pub NoLf : List ℕ → Type 0
NoLf = All (λ b. b ≢ 10)

pub ended_none : (g t : List ℕ) → NoLf t → lines_ended g t ≡ []
unfolding lines_ended
ended_none g [] h = refl
ended_none g (b ∷ t) h =
    if_no _ _ (ne_eqb b 10 (All-head (λ b. b ≢ 10) b t h))
    ∙ ended_none (g ++ (b ∷ [])) t (All-tail (λ b. b ≢ 10) b t h)

pub ended_first : (g t rest : List ℕ) → NoLf t → lines_ended g (t ++ (10 ∷ rest)) ≡ (g ++ t) ∷ lines_ended [] rest
unfolding lines_ended
ended_first g [] rest h = ap (λ (l : List ℕ). l ∷ lines_ended [] rest) (sym (append-nil g))
ended_first g (b ∷ t) rest h =
    if_no _ _ (ne_eqb b 10 (All-head (λ b. b ≢ 10) b t h))
    ∙ ended_first (g ++ (b ∷ [])) t rest (All-tail (λ b. b ≢ 10) b t h)
    ∙ ap (λ (l : List ℕ). l ∷ lines_ended [] rest) (append_assoc g (b ∷ []) t)

pub cut_last : (g t : List ℕ) → NoLf t → cut_end g t ≡ g ++ t
unfolding cut_end
cut_last g [] h = sym (append-nil g)
cut_last g (b ∷ t) h =
    if_no _ _ (ne_eqb b 10 (All-head (λ b. b ≢ 10) b t h))
    ∙ cut_last (g ++ (b ∷ [])) t (All-tail (λ b. b ≢ 10) b t h) ∙ append_assoc g (b ∷ []) t

pub cut_later : (g t rest : List ℕ) → NoLf t → cut_end g (t ++ (10 ∷ rest)) ≡ cut_end [] rest
unfolding cut_end
cut_later g [] rest h = refl
cut_later g (b ∷ t) rest h =
    if_no _ _ (ne_eqb b 10 (All-head (λ b. b ≢ 10) b t h))
    ∙ cut_later (g ++ (b ∷ [])) t rest (All-tail (λ b. b ≢ 10) b t h)

pub lines_none : lines_in [] ≡ []
unfolding lines_in lines_ended cut_end
lines_none = refl

pub lines_whole : (part rest : List ℕ) → NoLf part → lines_in (part ++ (10 ∷ rest)) ≡ ended_line part ∷ lines_in rest
unfolding lines_in
lines_whole part rest h =
    (λ i. map ended_line (ended_first [] part rest h i) ++ last_line (cut_later [] part rest h i))

pub lines_last : (part : List ℕ) → NoLf part → 0 < length part
    → lines_in part ≡ record { text = part; ended = false } ∷ []
unfolding lines_in
lines_last part h some =
    (λ i. map ended_line (ended_none [] part h i) ++ last_line (cut_last [] part h i))
    ∙ if_no _ _ (ne_eqb (length part) 0 (λ e. omega (arith, some, e)))

pub lines_spelt : (log : List ℕ)
    → lines_in log ≡ map ended_line (lines_ended [] log) ++ last_line (cut_end [] log)
unfolding lines_in
lines_spelt log = refl
