-- What is recorded, played back, gives the record and the replies of the calls.
-- Assumes nothing.
use Rattle.std.proofs.Common.{ℕ, ◌≡◌, Bool, true, false, List, [], ◌∷◌, refl, sym, ap, ◌∙◌, Some, if◌then◌else◌}
use Rattle.text.proofs.Choices.{if_yes, both}
use Rattle.record.specs.declared.types.Device.{Device}
use Rattle.ours.specs.Board.{ours}
use Rattle.demands.specs.Calls.{Call, after, run}
use Rattle.recorded.specs.Recorded.{is_served, recorded_call, recorded, replied_by, replies_of}
use Rattle.recorded.specs.Playing.{played, replies_played}
use Rattle.recorded.proofs.Same.{played_same, refused_leaves}

module _ (d : Device) (c : Call) (cs : List Call) where
  played_one : is_served d c ≡ true → played d (recorded_call d c ∷ recorded (after ours d c) cs)
      ≡ played (after ours d c) (recorded (after ours d c) cs)
  played_one h =
      let s = played_same d c h in
      if_yes _ _ (both s.served s.there) ∙ ap (λ (e : Device). played e (recorded (after ours d c) cs)) s.device

  replies_one : is_served d c ≡ true → replies_played d (recorded_call d c ∷ recorded (after ours d c) cs)
      ≡ replied_by d c ∷ replies_played (after ours d c) (recorded (after ours d c) cs)
  replies_one h =
      let s = played_same d c h in
      (λ i. s.replied i ∷ replies_played (s.device i) (recorded (after ours d c) cs))

  -- one call more, where what follows is played back from the record that it leaves
  played_next : (t : Bool) → is_served d c ≡ t
      → played (after ours d c) (recorded (after ours d c) cs) ≡ Some (run ours (after ours d c) cs)
      → played d (if t then recorded_call d c ∷ recorded (after ours d c) cs else recorded (after ours d c) cs)
      ≡ Some (run ours (after ours d c) cs)
  played_next true h rest = played_one h ∙ rest
  played_next false h rest =
      ap (λ (e : Device). played e (recorded (after ours d c) cs)) (sym (refused_leaves d c h)) ∙ rest

  replies_next : (t : Bool) → is_served d c ≡ t
      → replies_played (after ours d c) (recorded (after ours d c) cs) ≡ replies_of (after ours d c) cs
      → replies_played d (if t then recorded_call d c ∷ recorded (after ours d c) cs else recorded (after ours d c) cs)
      ≡ (if t then replied_by d c ∷ replies_of (after ours d c) cs else replies_of (after ours d c) cs)
  replies_next true h rest = replies_one h ∙ ap (λ (l : List (List ℕ)). replied_by d c ∷ l) rest
  replies_next false h rest =
      ap (λ (e : Device). replies_played e (recorded (after ours d c) cs)) (sym (refused_leaves d c h)) ∙ rest

pub played_back : (d : Device) (cs : List Call) → played d (recorded d cs) ≡ Some (run ours d cs)
played_back d [] = refl
played_back d (c ∷ cs) = played_next d c cs (is_served d c) refl (played_back (after ours d c) cs)

pub replies_back : (d : Device) (cs : List Call) → replies_played d (recorded d cs) ≡ replies_of d cs
replies_back d [] = refl
replies_back d (c ∷ cs) = replies_next d c cs (is_served d c) refl (replies_back (after ours d c) cs)
