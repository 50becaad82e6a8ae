-- TWO BOARDS THAT MEET THE DEMANDS CAN'T BE TOLD APART by what they give and show: whatever each keeps beside the
-- record that it shows, whatever call comes, on any record, legal or not, and with any bytes. So a board that did
-- anything that no demand covers would not meet them. Only a stored form that is loaded has to be of bytes.
--   MeetsDemands B        the demands that decide it
--   SameGiven B C r s     the number is the same, and the shown record
--   SameAfter B C b c cs  the calls cs each give the same, the memory passed to them included, and leave the same shown
--                         record
--   AreAlike B C          each call gives the same on both, if both show the same record
-- Assumes nothing.
use Rattle.std.specs.List.{list_all}
use Rattle.std.specs.Prelude.{ℕ, ◌≡◌, Bool, true, List}
use Rattle.pjlink.specs.declared.command.Command.{Command}
use Rattle.record.specs.Wanted.{Wanted}
use Rattle.record.specs.Rules.{is_at_most}
use Rattle.ours.specs.Board.{Board, Given}
use Rattle.demands.specs.Calls.{Call, gave_all, run}
use Rattle.demands.specs.KeepsRunning.{KeepsRunning}
use Rattle.demands.specs.SpeaksPjlink.{SpeaksPjlink}
use Rattle.demands.specs.CountsSeconds.{CountsSeconds}
use Rattle.demands.specs.Interleaved.{Interleaved}
use Rattle.demands.specs.BoardSwap.{BoardSwap}

pub record MeetsDemands {R : Type 0} (B : Board R) : Type 0 where
  pub keeps_running : KeepsRunning B
  pub speaks_pjlink : SpeaksPjlink B
  pub counts_seconds : CountsSeconds B
  pub places_stand : Interleaved B
  pub survives_a_swap : BoardSwap B

module _ {R S : Type 0} (B : Board R) (C : Board S) where
  pub record SameGiven (r : Given R) (s : Given S) : Type 0 where
    pub number : r.number ≡ s.number
    pub shown : B.shows r.device ≡ C.shows s.device

  pub record SameAfter (b : R) (c : S) (cs : List Call) : Type 0 where
    pub gave : gave_all B b cs ≡ gave_all C c cs
    pub shown : B.shows (run B b cs) ≡ C.shows (run C c cs)

  pub record AreAlike : Type 0 where
    -- any calls, one after another, at any places, accepted or refused
    pub calls : (b : R) (c : S) → B.shows b ≡ C.shows c → (cs : List Call) → SameAfter b c cs
    pub set_ups : (w : Wanted) → SameGiven (B.set_up w) (C.set_up w)
    pub stores : (b : R) (c : S) → B.shows b ≡ C.shows c → (m : List ℕ) → B.store b m ≡ C.store c m
    pub loads : (s : List ℕ) → list_all (is_at_most 255) s ≡ true → SameGiven (B.load s) (C.load s)
    pub digests : (s : List ℕ) → B.md5 s ≡ C.md5 s
    pub commands : (c : Command) (secured : Bool) (random : ℕ) (password m : List ℕ)
        → B.write c secured random password m ≡ C.write c secured random password m
    pub replies : (c : Command) (l : List ℕ) → B.read_reply c l ≡ C.read_reply c l
    pub greetings : (l : List ℕ) → B.read_greeting l ≡ C.read_greeting l
