-- Where the connection of someone without the password stands: closed, awaiting with all bytes of his session
-- collected, or failed. Time and received bytes leave it so, and his session gets the refusal line at most. Its first
-- line, as he outside sees it, is the bytes before the first CR.
--   Standing s c            the connection c stands so with the session s
--   heard s bs t            the session s after a call that took t of the bytes bs
--   Heard settings .. t     such a call left the own part, and the connection stands so
-- Assumes nothing.
use Rattle.std.specs.List.{list_all}
use Rattle.std.proofs.Common.{ℕ, ◌+◌, ◌≡◌, refl, sym, ap, ◌∙◌, true, false, not, ◌&&◌, List, [], ◌∷◌, ◌++◌}
use Rattle.std.proofs.Common.{append_assoc, length, take, length-append, subst, append-nil, arith}
use Rattle.std.proofs.lemmas.Bool.{false≢true}
use Rattle.std.proofs.Math.Seq.{take-append_seam, take-length}
use Prim.Native.Char.{code}
use Rattle.text.proofs.Choices.{both_right, alike}
use Rattle.words.specs.Bytes.{is_not_cr, is_cr_free}
use Rattle.words.proofs.Characters.{no_cr_each}
use Rattle.device.specs.Receiving.{is_led_by, Taken, taken_in, set_up_password}
use Rattle.demands.specs.Outsider.{first_line, Session, is_matched, RefusalAtMost, silence, refusal}
use Rattle.text.proofs.Scanning.{list_all-append}
use Rattle.pjlink.specs.Forms.{erra_line}
use Rattle.record.specs.Limits.{phase_closed, phase_awaiting, phase_failed, line_room}
use Rattle.record.specs.Updates.{with_age}
use Rattle.record.specs.Legal.{held_most}
use Rattle.record.specs.Record.{closed}
use Rattle.record.specs.declared.types.Settings.{Settings}
use Rattle.record.specs.declared.types.Own.{Own}
use Rattle.record.specs.declared.types.CollectedLine.{CollectedLine}
use Rattle.record.specs.declared.types.Connection.{Connection}
use Rattle.record.proofs.Spelt.{closed_spelt}
use Rattle.record.proofs.ConnectionTold.{held_most_awaiting}
use Rattle.clock.specs.Second.{times, connection_second}
use Rattle.clock.proofs.ConnectionsAge.{connection_then}
use Rattle.stream.specs.Collecting.{Gathered}
use Rattle.stream.specs.Collecting.{empty_line, collected_all, gathered_from}
use Rattle.stream.proofs.UpToTheEnd.{Cut, cut}
use Rattle.stream.proofs.GatheredOn.{plain_gathered}
use Rattle.stream.proofs.CollectedOn.{collected_all-append, collected_whole}
use Rattle.stream.proofs.LinesCollected.{empty_is_none, gathered_from-append}
use Rattle.device.proofs.LineCases.{keeping_line_lem, taken-line, taken_part}
use Rattle.device.proofs.Outsiders.{mismatch_refused, failed_ignores}
use Rattle.device.proofs.FirstLines.{is_match-collected_all}

module _ (more : List ℕ) where
  first_line-append : (l : List ℕ) → list_all is_not_cr l ≡ true → first_line (l ++ (code "\r" ∷ more)) ≡ l
  first_line-append [] none = refl
  first_line-append (b
      ∷ l) none = grind (arith, first_line-append l (both_right (is_not_cr b) (list_all is_not_cr l) none))

  cr_inside : (l : List ℕ) → list_all is_not_cr (l ++ (code "\r" ∷ more)) ≡ true → ⊥
  cr_inside [] e = false≢true e
  cr_inside (b ∷ l) e = cr_inside l (both_right (is_not_cr b) _ e)

  pub cr_seen : (l : List ℕ) → is_cr_free (l ++ (code "\r" ∷ more)) ≡ false
  cr_seen l = alike _ false (λ e. absurd (cr_inside l (no_cr_each _ e))) (λ e. absurd (false≢true e))

-- the line with its CR, and no more
pub line_taken : (l more : List ℕ) → take (length l + 1) (l ++ (code "\r" ∷ more)) ≡ l ++ (code "\r" ∷ [])
line_taken l more =
    (λ i. take (sym (length-append l (code "\r" ∷ [])) i) (sym (append_assoc l (code "\r" ∷ []) more) i))
    ∙ take-append_seam (l ++ (code "\r" ∷ [])) more

-- what a session has matched, whose bytes end with the CR of its first line
module _ (random : ℕ) (password before l : List ℕ) (none : list_all is_not_cr (before ++ l) ≡ true) where
  abbrev bytes : List ℕ
  bytes = before ++ (l ++ (code "\r" ∷ []))

  ends_first : bytes ≡ (before ++ l) ++ (code "\r" ∷ [])
  ends_first = sym (append_assoc before l (code "\r" ∷ []))

  pub matched_first : (not (is_cr_free bytes) && is_led_by random password (first_line bytes))
      ≡ is_led_by random password (before ++ l)
  matched_first = grind (arith, ends_first, cr_seen, first_line-append)

pub data Standing (s : Session) (c : Connection) : Type 0 where
  stands_closed : c.phase ≡ phase_closed → RefusalAtMost s.replied → Standing s c
  awaits : c.phase ≡ phase_awaiting → c.random ≡ s.random → list_all is_not_cr s.taken ≡ true
      → c.line ≡ collected_all line_room empty_line s.taken → s.replied ≡ [] → Standing s c
  has_failed : c.phase ≡ phase_failed → s.replied ≡ erra_line → Standing s c

pub nothing_yet : collected_all line_room empty_line [] ≡ empty_line
nothing_yet = collected_whole [] (omega arith) ∙ sym empty_is_none

pub answered_so : {s : Session} {c : Connection} → Standing s c → RefusalAtMost s.replied
answered_so (stands_closed p a) = a
answered_so (awaits p r n l e) = subst RefusalAtMost (sym e) silence
answered_so (has_failed p e) = subst RefusalAtMost (sym e) refusal

-- ---- time

pub closed_stands : (s : Session) → RefusalAtMost s.replied → Standing s closed
closed_stands s a = stands_closed (ap (λ (k : Connection). k.phase) closed_spelt) a

older_stands : (s : Session) (c : Connection) (age : ℕ) → Standing s c → Standing s (with_age c age)
older_stands s c age stands = grind arith

pub stands_later : (n : ℕ) (s : Session) (c : Connection) → Standing s c → Standing s (times connection_second n c)
stands_later n s c k = connection_then (Standing s) (closed_stands s (answered_so k)) (older_stands s) n c k

-- ---- received bytes

abbrev pub heard : Session → List ℕ → Taken → Session
heard s bs t = record {
  random = s.random;
  taken = s.taken ++ take t.taken bs;
  replied = s.replied ++ t.ended.reply;
}

pub record Heard (o : Own) (s : Session) (bs : List ℕ) (t : Taken) : Type 0 where
  pub own : t.ended.own ≡ o
  pub standing : Standing (heard s bs t) t.ended.connection

module _ (settings : Settings) (o : Own) (c : Connection) (s : Session) where
  -- what one call leaves, if no first line is matched by it
  abbrev Hears : List ℕ → Taken → Type 0
  Hears bs t = is_matched (set_up_password settings) (heard s bs t) ≡ false → Heard o s bs t

  hears_failed : c.phase ≡ phase_failed → s.replied ≡ erra_line → (bs : List ℕ) → Hears bs (taken_in settings o c bs)
  hears_failed p e bs unmatched = grind (arith, failed_ignores, append-nil)

  module _ (phase : c.phase ≡ phase_awaiting) (random : c.random ≡ s.random) (none : list_all is_not_cr s.taken ≡ true)
      (collects : c.line ≡ collected_all line_room empty_line s.taken) (quiet : s.replied ≡ []) where
    abbrev more : List ℕ → CollectedLine
    more xs = collected_all line_room c.line xs

    abbrev gathers : List ℕ → Gathered
    gathers bs = gathered_from (held_most c.phase) c.line bs

    by_room : (bs : List ℕ) → gathers bs ≡ gathered_from line_room c.line bs
    by_room bs = ap (λ (most : ℕ). gathered_from most c.line bs) (ap held_most phase ∙ held_most_awaiting)

    more_is : (xs : List ℕ) → more xs ≡ collected_all line_room empty_line (s.taken ++ xs)
    more_is xs = grind (arith, collected_all-append)

    -- no CR: all is collected
    hears_plain : (bs : List ℕ) → list_all is_not_cr bs ≡ true → Heard o s bs (taken_in settings o c bs)
    hears_plain bs p =
        grind (
          arith,
          by_room,
          plain_gathered,
          taken_part,
          keeping_line_lem,
          take-length,
          list_all-append,
          more_is,
          append-nil,
        )

    -- CR: the first line is the session's bytes and these
    hears_line : (xs rest : List ℕ) → list_all is_not_cr xs ≡ true
        → let bs = xs ++ (code "\r" ∷ rest) in Hears bs (taken_in settings o c bs)
    hears_line xs rest p =
        grind (
          arith,
          list_all-append,
          by_room,
          gathered_from-append,
          taken-line,
          matched_first,
          line_taken,
          more_is,
          is_match-collected_all,
          mismatch_refused,
        )

    hears_awaiting : (bs : List ℕ) → Cut (code "\r") bs → Hears bs (taken_in settings o c bs)
    hears_awaiting bs parts = grind (arith, hears_plain, hears_line)

  pub stands_on : (bs : List ℕ) → (c.phase ≡ phase_closed → ⊥) → Standing s c → Hears bs (taken_in settings o c bs)
  stands_on bs live (stands_closed p a) = absurd (live p)
  stands_on bs live (awaits p r n l e) = hears_awaiting p r n l e bs (cut (code "\r") bs)
  stands_on bs live (has_failed p e) = hears_failed p e bs
