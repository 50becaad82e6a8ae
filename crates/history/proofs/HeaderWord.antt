-- The line of a header begins with its word.
-- Assumes nothing.
use Rattle.std.proofs.Common.{ℕ, ◌≡◌, refl, List, ◌++◌, codes, Option}
use Rattle.history.specs.Entries.{header, entry_text, entry_line}

pub header_word : (f s : ℕ) (t : Option (List ℕ)) (more : List ℕ)
    → (rest : List ℕ) × (entry_line (header f s t) ++ more ≡ codes "LOG " ++ rest)
unfolding entry_text
header_word f s t more = (_, refl)
