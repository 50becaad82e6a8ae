-- A machine that keeps its line in its state takes in one call what it gathers.
-- Assumes nothing.
use Rattle.std.proofs.Common.{arith, ◌≡◌, true, List, ◌∷◌, ◌++◌, length, ℕ, ◌+◌}
use Rattle.std.specs.List.{list_all}
use mathlib.Core.List.{foldl}
use Prim.Native.Char.{code}
use Rattle.record.specs.declared.types.CollectedLine.{CollectedLine}
use Rattle.stream.specs.Collecting.{Gathered}
use Rattle.stream.specs.Collecting.{line_after, gathered_from}
use Rattle.stream.specs.Machine.{Out, Took, up_to, without_reply, took_bytes, call_of, one_call}
use Rattle.stream.proofs.UpToTheEnd.{not_end, up_to_by, up_to_kept_in}

-- `keep` puts a line into the state, `end` is what its end does to it
module _ {L D : Type 0} (end : ℕ) (collect : L → ℕ → L) (collects : D → ℕ → D) (ends : D → Out D) (keep : L → D)
    (ending : L → Out D) (is-collect : (l : L) (b : ℕ) → collects (keep l) b ≡ keep (collect l b))
    (is-end : (l : L) → ends (keep l) ≡ ending l) where
  pub call_gathers : (l : L) (bs : List ℕ)
      → one_call end D collects ends (keep l) bs ≡ call_of keep ending (up_to end collect l bs)
  unfolding one_call
  call_gathers l bs = grind (arith, up_to_kept_in)

-- a call, by where the first line ends
module _ (end : ℕ) (D : Type 0) (collect : D → ℕ → D) (ends : D → Out D) where
  pub call_by : (d : D) (bs : List ℕ) (P : List ℕ → Took D → Type 0)
      → (list_all (not_end end) bs ≡ true → P bs (took_bytes (length bs) (without_reply (foldl collect d bs))))
      → ((xs more : List ℕ) → list_all (not_end end) xs ≡ true
      → P (xs ++ (end ∷ more)) (took_bytes (length xs + 1) (ends (foldl collect d xs))))
      → P bs (one_call end D collect ends d bs)
  unfolding one_call
  call_by d bs P none line = up_to_by end collect d bs (λ l g. P l (call_of (λ (x : D). x) ends g)) none line

-- the same for a line that CR ends
abbrev pub finished : {D : Type 0} → (CollectedLine → D) → (CollectedLine → Out D) → Gathered → Took D
finished keep ending g = call_of keep ending (record { line = g.line; before = g.before; ended = g.ended })

module _ (D : Type 0) (collects : D → ℕ → D) (ends : D → Out D) (most : ℕ) (keep : CollectedLine → D)
    (ending : CollectedLine → Out D)
    (is-collect : (l : CollectedLine) (b : ℕ) → collects (keep l) b ≡ keep (line_after most l b))
    (is-end : (l : CollectedLine) → ends (keep l) ≡ ending l) where
  pub call_finishes : (l : CollectedLine) (bs : List ℕ)
      → one_call (code "\r") D collects ends (keep l) bs ≡ finished keep ending (gathered_from most l bs)
  unfolding gathered_from
  call_finishes = call_gathers (code "\r") (line_after most) collects ends keep ending is-collect is-end
