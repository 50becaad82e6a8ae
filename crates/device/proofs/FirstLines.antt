-- The first line on an awaiting connection between lines, as the bytes before its CR (RULES, Connection: "the first 32
-- bytes are compared exactly with the lowercase hex digest .., and the line at most 167 bytes before CR").
-- Assumes nothing.
use Rattle.std.proofs.Common.{arith, ℕ, ◌≤◌, ◌≡◌, sym, ap, ◌∙◌, Bool, true, false, List, ◌∷◌, ◌++◌, ⊎_elim, length}
use Rattle.std.proofs.Common.{nat_le, leb-true, le-leb}
use Prim.Native.Char.{code}
use Rattle.text.specs.Scans.{is_same_by, itself}
use Rattle.text.proofs.Choices.{both, both_left, both_right}
use Rattle.digest.specs.Hex.{leading_digest}
use Rattle.words.specs.Bytes.{is_cr_free}
use Rattle.words.proofs.Characters.{no_cr_each}
use Rattle.record.specs.Limits.{line_room, phase_awaiting}
use Rattle.record.specs.Legal.{held_most}
use Rattle.record.specs.declared.types.Settings.{Settings}
use Rattle.record.specs.declared.types.Connection.{Connection}
use Rattle.record.proofs.Kept.{room_first}
use Rattle.record.proofs.ConnectionTold.{held_most_awaiting}
use Rattle.stream.specs.Collecting.{Gathered}
use Rattle.stream.specs.Collecting.{line_of, empty_line, overlong_line, collected_all, gathered_from}
use Rattle.stream.proofs.LinesSpelt.{overlong_marked}
use Rattle.stream.proofs.CollectedOn.{collected_whole, collected_overlong}
use Rattle.stream.proofs.LinesCollected.{gathered_from-append}
use Rattle.device.specs.Receiving.{is_led_by, is_match, digest_long, set_up_password}
use Rattle.device.proofs.Outsiders.{IsUnmatched}

module _ (s : Settings) (c : Connection) where
  abbrev digest : List ℕ
  digest = leading_digest c.random (set_up_password s)

  abbrev led_here : List ℕ → Bool
  led_here l = is_led_by c.random (set_up_password s) l

  overlong_unmatched : is_match s c overlong_line ≡ false
  unfolding is_match
  overlong_unmatched = grind (arith, overlong_marked)

  match_led : (l : List ℕ) → length l ≤ line_room → is_match s c (line_of l) ≡ true → led_here l ≡ true
  unfolding is_match
  match_led l short e =
      let long = leb-true digest_long (length l) (both_left _ _ e) in
      both (le-leb (length l) line_room short)
      (ap (λ (front : List ℕ). is_same_by itself front digest)
      (sym (room_first line_room l digest_long long))
      ∙ both_right (nat_le digest_long (length l)) _ e)

  unled_short : (l : List ℕ) → length l ≤ line_room → led_here l ≡ false → is_match s c (line_of l) ≡ false
  unled_short l short unled = grind (arith, match_led)

  -- without the matching digest, or overlong, what is collected of it does not match
  pub is_match-collected_all : (l : List ℕ) → led_here l ≡ false
      → is_match s c (collected_all line_room empty_line l) ≡ false
  is_match-collected_all l unled =
      grind (arith, ⊎_elim, collected_whole, unled_short, collected_overlong, overlong_unmatched)

  module _ (empty : c.line ≡ empty_line) (phase : c.phase ≡ phase_awaiting) (l more : List ℕ)
      (plain : is_cr_free l ≡ true) where
    abbrev first : Gathered
    first = gathered_from (held_most c.phase) c.line (l ++ (code "\r" ∷ more))

    whole : first ≡ record { line = collected_all line_room empty_line l; before = length l; ended = true }
    whole = grind (arith, held_most_awaiting, gathered_from-append, no_cr_each)

    pub first-line_ends : first.ended ≡ true
    first-line_ends = ap (λ (g : Gathered). g.ended) whole

    pub unled_unmatched : led_here l ≡ false → IsUnmatched s c (l ++ (code "\r" ∷ more))
    unled_unmatched unled ended = grind (arith, whole, is_match-collected_all)
