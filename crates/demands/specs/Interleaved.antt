-- Four places, one projector (RULES, Places): one place's bytes never touch another's connection. Lines at several
-- places, cut anywhere and interleaved in any way, give at each place what that place alone would have got, but for
-- what the other places' commands did to the projector. At a place, what the others do is seen only in the own part of
-- the projector at the moments at which a line ends there.
-- TO BELIEVE IT, believe, and nothing else: what a byte and a line's end do to one connection (device/specs/Receiving:
-- `keeping_line`, `line_ended`; stream/specs/Collecting: `line_after`); the record (record/specs); ours/specs/Board;
-- here Calls.
--   HeardAt                    what is seen at a place: the bytes taken and the replies, each joined, and the own part
--                              at each moment at which a call there took a CR
--   heard B q d cs           what is seen at place q of the calls cs, from d on
--   ByBytesOnly B q d cs     none of the calls cs, whoever makes them, changes the connection at place q but by
--                            receiving; that is so of every list of receive calls, at any places
--   alone_at s c owns bs     what the connection c gets of its stream bs if it is alone, under the settings s, where
--                            `owns` are the own parts at the ends of its lines, one for each CR
--   line_ends bs             how many lines end in bs
--   to_first_cr bs           the bytes up to and including the first CR, or all if there is none
--   SeenAlone B q d cs       what is seen at place q is what its connection alone gets of its own stream
-- Assumes nothing.
use Rattle.std.specs.Prelude.{ℕ, suc, ◌≤◌, ◌<◌, ◌≡◌, true, false, List, [], ◌∷◌, ◌++◌, length, take, drop}
use Rattle.std.specs.Prelude.{if◌then◌else◌, slice_index_or, ◌==◌}
use Rattle.text.specs.Words.{◌is◌}
use Rattle.words.specs.Bytes.{is_cr_free}
use Rattle.record.specs.Limits.{places_count}
use Rattle.record.specs.Legal.{held_most, is_legal}
use Rattle.record.specs.Record.{blank_own}
use Rattle.record.specs.Places.{connection_at, is_closed}
use Rattle.record.specs.declared.types.Settings.{Settings}
use Rattle.record.specs.declared.types.Own.{Own}
use Rattle.record.specs.declared.types.Connection.{Connection}
use Rattle.stream.specs.Collecting.{line_after}
use Rattle.device.specs.Receiving.{line_ended, keeping_line}
use Rattle.device.specs.Calls.{reply_room}
use Rattle.ours.specs.Board.{Board, reply}
use Rattle.demands.specs.Calls.{Call, receives, after, run}

-- ---- what is seen at a place

pub record HeardAt : Type 0 where
  pub taken : List ℕ
  pub replied : List ℕ
  pub owns : List Own

abbrev pub heard_nothing : HeardAt
heard_nothing = record { taken = []; replied = []; owns = [] }

abbrev pub heard_then : HeardAt → HeardAt → HeardAt
heard_then h g = record {
  taken = h.taken ++ g.taken;
  replied = h.replied ++ g.replied;
  owns = h.owns ++ g.owns;
}

-- of a call there that took the bytes u and replied r, where the own part was o
abbrev pub heard_of : Own → List ℕ → List ℕ → HeardAt
heard_of o u r = record { taken = u; replied = r; owns = if is_cr_free u then [] else o ∷ [] }

module _ {R : Type 0} (B : Board R) (q : ℕ) where
  abbrev pub heard_in : R → Call → HeardAt
  heard_in d (receives p bs m) =
      let r = B.receive d p bs m in
      if p == q then heard_of (B.shows d).own (take r.taken bs) (reply r) else heard_nothing
  heard_in d c = heard_nothing

  abbrev pub heard : R → List Call → HeardAt
  heard d [] = heard_nothing
  heard d (c ∷ cs) = heard_then (heard_in d c) (heard (after B d c) cs)

  abbrev pub ByBytes : R → Call → Type 0
  ByBytes d (receives p bs m) = Unit {0}
  ByBytes d c = connection_at (B.shows (after B d c)) q ≡ connection_at (B.shows d) q

  abbrev pub ByBytesOnly : R → List Call → Type 0
  ByBytesOnly d [] = Unit {0}
  ByBytesOnly d (c ∷ cs) = ByBytes d c × ByBytesOnly (after B d c) cs

-- ---- what a place alone gets

pub record Alone : Type 0 where
  pub reply : List ℕ
  pub connection : Connection

abbrev pub answered_first : List ℕ → Alone → Alone
answered_first r a = record { reply = r ++ a.reply; connection = a.connection }

-- `owns` never runs out (`lines` of SeenAlone), so what this gives for an empty list is used nowhere
abbrev pub first_own : List Own → Own
first_own owns = slice_index_or owns 0 blank_own

-- RULES, Connection: a byte other than CR is collected; CR ends the line, and the next one continues with what that
-- left
unfoldable pub alone_at : Settings → Connection → List Own → List ℕ → Alone
alone_at s c owns [] = record { reply = []; connection = c }
alone_at s c owns (b ∷ bs) =
    let e = line_ended s (first_own owns) c c.line in
    if b is "\r" then answered_first e.reply (alone_at s e.connection (drop 1 owns) bs)
    else alone_at s (keeping_line c (line_after (held_most c.phase) c.line b)) owns bs

abbrev pub line_ends : List ℕ → ℕ
line_ends [] = 0
line_ends (b ∷ bs) = if b is "\r" then suc (line_ends bs) else line_ends bs

abbrev pub to_first_cr : List ℕ → List ℕ
to_first_cr [] = []
to_first_cr (b ∷ bs) = if b is "\r" then b ∷ [] else b ∷ to_first_cr bs

-- ---- the promise

module _ {R : Type 0} (B : Board R) (q : ℕ) (d : R) (cs : List Call) where
  abbrev pub alone_of : Alone
  alone_of =
      alone_at (B.shows d).settings (connection_at (B.shows d) q) (heard B q d cs).owns (heard B q d cs).taken

  pub record SeenAlone : Type 0 where
    pub replies : (heard B q d cs).replied ≡ alone_of.reply
    pub connection : connection_at (B.shows (run B d cs)) q ≡ alone_of.connection
    pub lines : length (heard B q d cs).owns ≡ line_ends (heard B q d cs).taken

pub record Interleaved {R : Type 0} (B : Board R) : Type 0 where
  -- RULES, Connection: receiving takes the bytes up to and including the first CR, or all of them if there is none,
  -- whatever the other places hold
  pub takes_a_line : (d : R) (q : ℕ) (bs m : List ℕ) → is_legal (B.shows d) ≡ true → q < places_count
      → is_closed (connection_at (B.shows d) q) ≡ false → reply_room ≤ length m
      → let r = B.receive d q bs m in (r.number ≡ 0) × (take r.taken bs ≡ to_first_cr bs)
  -- from any record, over any calls of anyone
  pub as_alone : (d : R) (q : ℕ) (cs : List Call) → ByBytesOnly B q d cs → SeenAlone B q d cs
  -- so two runs in which a place gets the same bytes, however cut and interleaved with others, and the same own parts
  -- at the ends of its lines, give it the same replies and leave it the same connection
  pub same_however_interleaved : (d e : R) (q : ℕ) (cs es : List Call)
      → ByBytesOnly B q d cs → ByBytesOnly B q e es
      → (B.shows d).settings ≡ (B.shows e).settings → connection_at (B.shows d) q ≡ connection_at (B.shows e) q
      → (heard B q d cs).taken ≡ (heard B q e es).taken → (heard B q d cs).owns ≡ (heard B q e es).owns
      → ((heard B q d cs).replied ≡ (heard B q e es).replied)
      × (connection_at (B.shows (run B d cs)) q ≡ connection_at (B.shows (run B e es)) q)
