-- A receive that is handed only what it takes gives the same, with any memory that has room for a reply.
-- Assumes nothing.
use Rattle.std.proofs.Common.{ℕ, ◌+◌, ◌≤◌, ◌≡◌, refl, sym, ap, subst, ◌∙◌, true, List, [], ◌∷◌, ◌++◌, arith}
use Rattle.std.proofs.Common.{length, take}
use Rattle.std.specs.List.{list_all}
use Rattle.std.proofs.Math.Seq.{take-length}
use Prim.Native.Char.{code}
use Rattle.text.specs.Outcomes.{CallResult, call_number, number_answered}
use Rattle.words.specs.Bytes.{is_not_cr}
use Rattle.record.specs.declared.refusal.Refusal.{Refusal}
use Rattle.record.specs.Refusals.{refusal_number}
use Rattle.record.specs.declared.types.Settings.{Settings}
use Rattle.record.specs.declared.types.Own.{Own}
use Rattle.record.specs.declared.types.Connection.{Connection}
use Rattle.record.specs.declared.types.Device.{Device}
use Rattle.stream.proofs.UpToTheEnd.{Cut, plain, line, cut}
use Rattle.stream.proofs.LinesCollected.{gathered_from-append}
use Rattle.device.specs.Receiving.{taken_in}
use Rattle.device.specs.Calls.{reply_room, received_at, accepted_taken}
use Rattle.device.proofs.Cases.{received_by, received_taken, takes}
use Rattle.device.proofs.Counts.{all_taken, line_taken}
use Rattle.device.proofs.LineCases.{taken-line}
use Rattle.ours.specs.Board.{ours, received_in}

take_line : (xs more : List ℕ) → take (length xs + 1) (xs ++ (code "\r" ∷ more)) ≡ xs ++ (code "\r" ∷ [])
take_line [] more = refl
take_line (x ∷ xs) more = grind (arith, take_line xs more)

module _ (s : Settings) (o : Own) (c : Connection) where
  line_alone : (xs more : List ℕ) → list_all is_not_cr xs ≡ true
      → taken_in s o c (xs ++ (code "\r" ∷ [])) ≡ taken_in s o c (xs ++ (code "\r" ∷ more))
  line_alone xs more p = grind (arith, gathered_from-append, taken-line)

  parts_alone : (bs : List ℕ) → Cut (code "\r") bs
      → taken_in s o c (take (taken_in s o c bs).taken bs) ≡ taken_in s o c bs
  parts_alone bs (plain p) =
      ap (taken_in s o c) (ap (λ (n : ℕ). take n bs) (all_taken s o c bs p) ∙ take-length bs)
  parts_alone bs (line xs more e p) =
      subst (λ (l : List ℕ). taken_in s o c (take (taken_in s o c l).taken l) ≡ taken_in s o c l) (sym e)
      (ap (taken_in s o c) (ap (λ (n : ℕ). take n (xs ++ (code "\r" ∷ more))) (line_taken s o c xs more p)
      ∙ take_line xs more) ∙ line_alone xs more p)

  pub taken_alone : (bs : List ℕ) → taken_in s o c (take (taken_in s o c bs).taken bs) ≡ taken_in s o c bs
  taken_alone bs = parts_alone bs (cut (code "\r") bs)

module _ (d : Device) (p : ℕ) (bs : List ℕ) where
  pub received_alone : (room again : ℕ) → reply_room ≤ again
      → call_number refusal_number (received_at d p bs room) ≡ 0
      → received_at d p (take (number_answered (received_at d p bs room)) bs) again ≡ received_at d p bs room
  received_alone room again enough =
      received_by d p bs room
      (λ c. call_number refusal_number c ≡ 0 → received_at d p (take (number_answered c) bs) again ≡ c)
      (λ n some h. absurd (some h))
      (λ legal lent there live h.
      received_taken d p (take (takes d p bs).taken bs) again legal enough there live
      ∙ ap (accepted_taken d p) (taken_alone d.settings d.own _ bs))

pub receive_alone : (d : Device) (p : ℕ) (bs m : List ℕ) → (ours.receive d p bs m).number ≡ 0
    → ours.receive d p (take (ours.receive d p bs m).taken bs) m ≡ ours.receive d p bs m
receive_alone d p bs m =
    received_by d p bs (length m)
    (λ c. call_number refusal_number c ≡ 0
    → received_in (received_at d p (take (number_answered c) bs) (length m)) m ≡ received_in c m)
    (λ n some h. absurd (some h))
    (λ legal enough there live h. ap (λ (c : CallResult Refusal ℕ Device). received_in c m)
    (received_taken d p (take (takes d p bs).taken bs) (length m) legal enough there live
    ∙ ap (accepted_taken d p) (taken_alone d.settings d.own _ bs)))
