-- An outsider does not know the password (demand 2: "without the matching digest" .. "the refusal line only"): what one
-- gets and changes at one place, over any calls of anyone (RULES, Places). It is said of the bytes taken and of the
-- replies, as demand 3's observer sees them: no phase of a connection is named here.
--   Session                   what is seen of a connection since it was opened: the random number of that opening, the
--                             bytes taken since, and the replies to received bytes
--   unopened                  what is seen of a place that has not been opened
--   noted_of p s c g          the session at place p after the call c, which gave g: an accepted opening there starts
--                             one, receiving there continues it;    noted B p d s c   where the call was given d
--   session_after B p d s cs  the session after the calls cs, from s and the record d on
--   first_line bs             the bytes before the first CR
--   is_matched password s     the session's first line has ended, and begins with the digest of the session's number
--                             and the password
--   IsNeverMatched            at no moment of the calls does the session's first line match
--   is_hosts c                the call c lets time pass or is one of the host's: no connection has a say in it
--   host_calls cs             the calls among cs that are such
--   RefusalAtMost bs          bs is nothing, or the refusal line once
--   IsKeptThere B p d cs      at no moment of the calls does what place p receives change the settings or the own part
--   NoSay B p d s cs          that is so, and the replies to the session at place p are the refusal line at most
--   HostsAlone B d cs         what the calls cs leave of the settings and the own part is what time and the host's
--                             calls among them leave
-- Assumes nothing.
use Rattle.std.specs.Prelude.{ℕ, ◌≡◌, Bool, true, false, not, ◌&&◌, List, [], ◌∷◌, ◌++◌, take, filter}
use Rattle.std.specs.Prelude.{if◌then◌else◌, ◌==◌}
use Rattle.text.specs.Words.{◌is◌}
use Rattle.words.specs.Bytes.{is_cr_free}
use Rattle.pjlink.specs.Forms.{erra_line}
use Rattle.device.specs.Receiving.{is_led_by}
use Rattle.ours.specs.Board.{Board}
use Rattle.demands.specs.Calls.{Call, opens, closes, receives, Gave, gave_by, after, run}

-- ---- what is seen of a connection

pub record Session : Type 0 where
  pub random : ℕ
  pub taken : List ℕ
  pub replied : List ℕ

abbrev pub opened_with : ℕ → Session
opened_with random = record { random = random; taken = []; replied = [] }

abbrev pub unopened : Session
unopened = opened_with 0

module _ (p : ℕ) where
  -- a refused call counts as nothing, and so does a call at another place
  abbrev pub noted_of : Session → Call → Gave → Session
  noted_of s (opens random m) g = if g.number == 0 && g.place == p then opened_with random else s
  noted_of s (receives q bs m) g =
      if g.number == 0 && q == p then record {
        random = s.random;
        taken = s.taken ++ take g.taken bs;
        replied = s.replied ++ take g.length g.memory;
      } else s
  noted_of s c g = s

module _ {R : Type 0} (B : Board R) (p : ℕ) where
  abbrev pub noted : R → Session → Call → Session
  noted d s c = noted_of p s c (gave_by B d c)

  abbrev pub session_after : R → Session → List Call → Session
  session_after d s [] = s
  session_after d s (c ∷ cs) = session_after (after B d c) (noted d s c) cs

-- ---- its first line

abbrev pub first_line : List ℕ → List ℕ
first_line [] = []
first_line (b ∷ bs) = if b is "\r" then [] else b ∷ first_line bs

abbrev pub is_matched : List ℕ → Session → Bool
is_matched password s = not (is_cr_free s.taken) && is_led_by s.random password (first_line s.taken)

abbrev pub IsNeverMatched : {R : Type 0} → Board R → ℕ → List ℕ → R → Session → List Call → Type 0
IsNeverMatched B p password d s [] = Unit {0}
IsNeverMatched B p password d s (c ∷ cs) =
    (is_matched password (noted B p d s c) ≡ false) × IsNeverMatched B p password (after B d c) (noted B p d s c) cs

-- ---- what an outsider gets, and what it changes

abbrev pub is_hosts : Call → Bool
is_hosts (opens random m) = false
is_hosts (closes p) = false
is_hosts (receives p bs m) = false
is_hosts c = true

abbrev pub host_calls : List Call → List Call
host_calls cs = filter is_hosts cs

pub data RefusalAtMost : List ℕ → Type 0 where
  silence : RefusalAtMost []
  refusal : RefusalAtMost erra_line

abbrev pub is_received_at : ℕ → Call → Bool
is_received_at p (receives q bs m) = q == p
is_received_at p c = false

pub record SameDevicePart {R : Type 0} (B : Board R) (d e : R) : Type 0 where
  pub settings : (B.shows e).settings ≡ (B.shows d).settings
  pub own : (B.shows e).own ≡ (B.shows d).own

abbrev pub IsKeptThere : {R : Type 0} → Board R → ℕ → R → List Call → Type 0
IsKeptThere B p d [] = Unit {0}
IsKeptThere B p d (c ∷ cs) =
    (is_received_at p c ≡ true → SameDevicePart B d (after B d c)) × IsKeptThere B p (after B d c) cs

pub record NoSay {R : Type 0} (B : Board R) (p : ℕ) (d : R) (s : Session) (cs : List Call) : Type 0 where
  pub kept : IsKeptThere B p d cs
  pub answers : RefusalAtMost (session_after B p d s cs).replied

pub record HostsAlone {R : Type 0} (B : Board R) (d : R) (cs : List Call) : Type 0 where
  pub settings : (B.shows (run B d cs)).settings ≡ (B.shows d).settings
  pub own : (B.shows (run B d cs)).own ≡ (B.shows (run B d (host_calls cs))).own
