-- What is written first of a legal record is its form.
-- Assumes nothing.
use Rattle.std.proofs.Common.{◌≡◌, ℕ, List, length, take, drop, ap, ◌∙◌}
use Rattle.std.proofs.Math.Seq.{take-append_seam}
use Rattle.text.specs.Words.{over}

pub form_first : (form out written : List ℕ) (n : ℕ) → n ≡ length form → written ≡ over form out → take n written ≡ form
form_first form out written n e h =
    ap (λ (k : ℕ). take k written) e ∙ ap (take (length form)) h ∙ take-append_seam form (drop (length form) out)
