-- What is collected, byte by byte, is the list of these bytes in its room; a whole line is gathered as it was sent, and
-- of an overlong one the overlong flag alone.
-- Assumes nothing.
use Rattle.std.specs.List.{list_all}
use Rattle.std.proofs.Common.{ℕ, ◌+◌, ◌≤◌, ◌<◌, ◌≡◌, sym, ap, ◌∙◌, true, List, [], ◌∷◌, ◌++◌, append_assoc}
use Rattle.std.proofs.Common.{append-nil, arith, length, length-append}
use Prim.Native.Char.{code}
use Rattle.words.specs.Bytes.{is_not_cr}
use Rattle.record.specs.Limits.{line_room}
use Rattle.record.specs.declared.types.CollectedLine.{CollectedLine}
use Rattle.record.proofs.Kept.{room_empty, room_more}
use Rattle.stream.specs.Collecting.{Gathered}
use Rattle.stream.specs.Collecting.{line_of, empty_line, overlong_line, line_after, collected_all}
use Rattle.stream.specs.Collecting.{gathered_from}
use Rattle.stream.proofs.UpToTheEnd.{up_to-append}
use Rattle.stream.proofs.AllAtOnce.{one_fits, all_past}

pub empty_is_none : empty_line ≡ line_of []
unfolding empty_line
empty_is_none = grind (arith, room_empty)

module _ (most : ℕ) where
  pub line_after-line_of : (xs : List ℕ) (b : ℕ) → length xs < most → most ≤ line_room
      → line_after most (line_of xs) b ≡ line_of (xs ++ (b ∷ []))
  line_after-line_of xs b h g = grind (arith, length-append, one_fits, room_more)

  pub collected_all-line_of : (done xs : List ℕ) → most ≤ line_room → length done + length xs ≤ most
      → collected_all most (line_of done) xs ≡ line_of (done ++ xs)
  collected_all-line_of done [] g h = ap line_of (sym (append-nil done))
  collected_all-line_of done (x ∷ xs) g h =
      ap (λ (l : CollectedLine). collected_all most l xs) (line_after-line_of done x (omega arith) g)
      ∙ collected_all-line_of (done ++ (x ∷ [])) xs g (omega (arith, length-append done (x ∷ [])))
      ∙ ap line_of (append_assoc done (x ∷ []) xs)

  -- a line and its CR
  pub gathered_from-append : (l : CollectedLine) (xs more : List ℕ) → list_all is_not_cr xs ≡ true
      → gathered_from most l (xs ++ (code "\r" ∷ more))
      ≡ record { line = collected_all most l xs; before = length xs; ended = true }
  unfolding gathered_from
  gathered_from-append l xs more p = up_to-append (code "\r") (line_after most) l xs more p

  module _ (done xs rest : List ℕ) where
    abbrev with : CollectedLine → Gathered
    with l = record { line = l; before = length xs; ended = true }

    pub line_gathered : most ≤ line_room → length done + length xs ≤ most → list_all is_not_cr xs ≡ true
        → gathered_from most (line_of done) (xs ++ (code "\r" ∷ rest)) ≡ with (line_of (done ++ xs))
    line_gathered g h p = gathered_from-append (line_of done) xs rest p ∙ ap with (collected_all-line_of done xs g h)

    pub overlong_gathered : most ≤ line_room → length done ≤ most → most < length done + length xs
        → list_all is_not_cr xs ≡ true
        → gathered_from most (line_of done) (xs ++ (code "\r" ∷ rest)) ≡ with overlong_line
    overlong_gathered g h l p = grind (arith, gathered_from-append, all_past)
