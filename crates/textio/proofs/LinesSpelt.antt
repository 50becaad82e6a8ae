-- The texts of a log's lines, byte by byte.
--   texts_from g log    those of a log of which the first line has begun with g
-- Assumes nothing.
use Rattle.std.proofs.Common.{ℕ, ◌≡◌, refl, Bool, true, false, List, [], ◌∷◌, ◌++◌, map, if◌then◌else◌}
use Rattle.std.proofs.Common.{length, ◌==◌}
use Rattle.text.specs.Words.{◌is◌}
use Rattle.textio.specs.Lines.{lines_ended, cut_end, ended_line, last_line, lines_in, texts_of, lines_of}

unfoldable pub texts_from : List ℕ → List ℕ → List (List ℕ)
texts_from g log = texts_of (map ended_line (lines_ended g log) ++ last_line (cut_end g log))

pub texts_all : (log : List ℕ) → texts_from [] log ≡ lines_of log
unfolding texts_from lines_in
texts_all log = refl

pub texts_end : (g : List ℕ) → texts_from g [] ≡ (if length g == 0 then [] else g ∷ [])
unfolding texts_from lines_ended cut_end
texts_end g = by (length g == 0)
  where
    by : (t : Bool) → texts_of (if t then [] else record { text = g; ended = false } ∷ []) ≡ (if t then [] else g ∷ [])
    by true = refl
    by false = refl

pub texts_more : (g : List ℕ) (b : ℕ) (bs : List ℕ) → texts_from g (b ∷ bs)
    ≡ (if b is "\n" then g ∷ texts_from [] bs else texts_from (g ++ (b ∷ [])) bs)
unfolding texts_from lines_ended cut_end
texts_more g b bs = by (b is "\n")
  where
    by : (t : Bool) → texts_of (map ended_line (if t then g ∷ lines_ended [] bs else lines_ended (g ++ (b ∷ [])) bs)
        ++ last_line (if t then cut_end [] bs else cut_end (g ++ (b ∷ [])) bs))
        ≡ (if t then g ∷ texts_from [] bs else texts_from (g ++ (b ∷ [])) bs)
    by true = refl
    by false = refl
