-- Collecting keeps a line legal: no CR, at most as many bytes as the phase allows, none under the overlong flag, unused
-- room zero.
-- Assumes nothing.
use Rattle.std.specs.List.{list_all}
use Rattle.std.proofs.Common.{ℕ, ◌+◌, ◌≤◌, ◌≡◌, refl, sym, ap, ◌∙◌, true, false, List, [], ◌∷◌, ◌++◌, arith, length}
use Rattle.std.proofs.Common.{take, drop, ne_eqb}
use Prim.Native.Char.{code}
use Rattle.text.specs.Flags.{is_raised}
use Rattle.text.proofs.Choices.{both, both_right}
use Rattle.text.proofs.FlagsTold.{lowered_zero}
use Rattle.text.proofs.Scanning.{list_all-append}
use Rattle.words.specs.Bytes.{is_cr_free}
use Rattle.words.proofs.Characters.{no_cr_of, no_cr_each}
use Rattle.record.specs.Limits.{line_room}
use Rattle.record.specs.Record.{zeros}
use Rattle.record.specs.Legal.{is_zero, is_collecting, held_most, is_held}
use Rattle.record.specs.declared.types.CollectedLine.{CollectedLine}
use Rattle.record.proofs.Kept.{nothing_kept, one_more_kept}
use Rattle.record.proofs.ConnectionTold.{held_most_room, unmarked_held, marked_held}
use Rattle.record.specs.Facts.{Fills}
use Rattle.stream.specs.Collecting.{empty_line, overlong_line, line_after, gathered_from}
use Rattle.stream.proofs.UpToTheEnd.{up_to_keeps}
use Rattle.stream.proofs.AllAtOnce.{collected_by}

-- the line's part of a legal connection
pub record LegalLine (phase : ℕ) (l : CollectedLine) : Type 0 where
  pub kept : Fills line_room is_cr_free l.bytes l.held
  pub flag : l.overlong ≤ 1
  pub held : is_held phase (is_raised l.overlong) l.held ≡ true

pub empty_legal : (phase : ℕ) → LegalLine phase empty_line
unfolding empty_line
empty_legal phase = grind (arith, nothing_kept, no_cr_of, unmarked_held)

overlong_legal : (phase : ℕ) → is_collecting phase ≡ true → LegalLine phase overlong_line
unfolding overlong_line
overlong_legal phase e = record {
  kept = nothing_kept line_room is_cr_free (no_cr_of [] refl);
  flag = omega arith;
  held = marked_held phase e;
}

no_cr_more : (s : List ℕ) (b : ℕ) → is_cr_free s ≡ true → (b ≡ code "\r" → ⊥) → is_cr_free (s ++ (b ∷ [])) ≡ true
no_cr_more s b e n = grind (arith, no_cr_of, list_all-append, no_cr_each, both, ne_eqb)

pub collected_legal : (phase : ℕ) (l : CollectedLine) (b : ℕ) → is_collecting phase ≡ true → (b ≡ code "\r" → ⊥)
    → LegalLine phase l → LegalLine phase (line_after (held_most phase) l b)
unfolding overlong_line
collected_legal phase l b e n p =
    collected_by _ (held_most phase) l b (LegalLine phase) (λ marked. p) (λ u full. overlong_legal phase e) (λ u room.
    let most = held_most_room phase in
    record {
      kept = one_more_kept line_room is_cr_free l.bytes l.held b p.kept (omega arith)
          (no_cr_more (take l.held l.bytes) b p.kept.follows n);
      flag = omega arith;
      held = unmarked_held phase (l.held + 1) (omega arith);
    })

-- and so does gathering
pub gathered_legal : (phase : ℕ) (l : CollectedLine) (bs : List ℕ) → is_collecting phase ≡ true → LegalLine phase l
    → LegalLine phase (gathered_from (held_most phase) l bs).line
unfolding gathered_from
gathered_legal phase l bs e p =
    up_to_keeps (code "\r") (line_after (held_most phase)) (LegalLine phase)
    (λ k b n. collected_legal phase k b e n) l bs p

-- between lines (RULES, Connection: no collected bytes and no overlong flag) a legal line is the empty one
zeros_by : (s : List ℕ) → list_all is_zero s ≡ true → s ≡ zeros (length s)
zeros_by [] e = refl
zeros_by (x ∷ s) e = grind (arith, zeros_by s (both_right (is_zero x) (list_all is_zero s) e))

pub between_lines : (phase : ℕ) (l : CollectedLine) → LegalLine phase l → is_raised l.overlong ≡ false → l.held ≡ 0
    → l ≡ empty_line
unfolding empty_line
between_lines phase l p unmarked none =
    let clear : list_all is_zero l.bytes ≡ true = ap (λ (n : ℕ). list_all is_zero (drop n l.bytes)) (sym none)
    ∙ p.kept.clear in
    let cleared : l.bytes ≡ zeros line_room = zeros_by l.bytes clear ∙ ap zeros p.kept.long in
    (λ i. record { overlong = lowered_zero l.overlong unmarked i; held = none i; bytes = cleared i })
