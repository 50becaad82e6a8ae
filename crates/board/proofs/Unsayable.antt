-- What stands for a place, a lamp or digits that no line can say is refused as they are.
-- Assumes nothing.
use Rattle.std.proofs.Common.{ℕ, ◌≡◌, Bool, true, false, refl, sym, ◌∙◌, List, nat_lt, ◌==◌, length, replicate, arith}
use Rattle.history.specs.Calls.{opens, receives, closes, reports, enables}
use Rattle.history.specs.Entries.{LogEntry, call, is_sayable_entry}
use Rattle.history.specs.Recording.{recorded_by}
use Rattle.history.specs.declared.recorder.Recorder.{Recorder}
use Rattle.history.proofs.Unsayable.{unsayable_written}
use Rattle.board.specs.Logs.{byte_of, six_of}

module _ (r : Recorder) (room : ℕ) where
  -- two entries of which neither can be said
  module _ (e f : LogEntry) (no : is_sayable_entry e ≡ false) (nor : is_sayable_entry f ≡ false) where
    written_alike : recorded_by r e room ≡ recorded_by r f room
    written_alike = unsayable_written r e room no ∙ sym (unsayable_written r f room nor)

  -- an entry by a number, of which none from 255 on can be said
  module _ (of : ℕ → LogEntry) (none : (n : ℕ) → nat_lt n 255 ≡ false → is_sayable_entry (of n) ≡ false) where
    byte_written : (n : ℕ) → recorded_by r (of (byte_of n)) room ≡ recorded_by r (of n) room
    unfolding byte_of
    byte_written n = by (nat_lt n 255) refl
      where
        by : (small : Bool) → nat_lt n 255 ≡ small → recorded_by r (of (byte_of n)) room ≡ recorded_by r (of n) room
        by true p = simp p
        by false p =
            let e : recorded_by r (of (byte_of n)) room ≡ recorded_by r (of 255) room = simp p in
            e ∙ written_alike (of 255) (of n) (none 255 refl) (none n p)

  pub opens_written : (p random : ℕ)
      → recorded_by r (call (opens (byte_of p) random)) room ≡ recorded_by r (call (opens p random)) room
  opens_written p random = byte_written (λ n. call (opens n random)) (λ n h. grind arith) p

  pub receives_written : (p : ℕ) (bs : List ℕ)
      → recorded_by r (call (receives (byte_of p) bs)) room ≡ recorded_by r (call (receives p bs)) room
  receives_written p bs = byte_written (λ n. call (receives n bs)) (λ n h. grind arith) p

  pub closes_written : (p : ℕ)
      → recorded_by r (call (closes (byte_of p))) room ≡ recorded_by r (call (closes p)) room
  closes_written p = byte_written (λ n. call (closes n)) (λ n h. grind arith) p

  pub enables_written : (k : ℕ) (m : Bool)
      → recorded_by r (call (enables (byte_of k) m)) room ≡ recorded_by r (call (enables k m)) room
  enables_written k m = byte_written (λ n. call (enables n m)) (λ n h. grind arith) k

  pub reports_written : (ds : List ℕ)
      → recorded_by r (call (reports (six_of ds))) room ≡ recorded_by r (call (reports ds)) room
  unfolding six_of
  reports_written ds = by (length ds == 6) refl
    where
      by : (six : Bool) → (length ds == 6) ≡ six
          → recorded_by r (call (reports (six_of ds))) room ≡ recorded_by r (call (reports ds)) room
      by true p = simp p
      by false p =
          let six : List ℕ = replicate 6 255 in
          let e : recorded_by r (call (reports (six_of ds))) room ≡ recorded_by r (call (reports six)) room = simp p in
          e ∙ written_alike (call (reports six)) (call (reports ds)) refl (simp p)
