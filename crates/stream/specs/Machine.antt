-- Lines of a stream, each ended by one byte, and a stream passed on in any cuts (RULES, Connection: "takes bytes up to
-- and including the first CR, or all of them if none"; "Handed on until all is taken, with no time between, a stream
-- gives the same reply bytes and end state however it is cut"), over any byte that ends a line and any machine with a
-- state D.
--   UpTo L                 what is gathered: a line, how many bytes were collected in it, and whether it ended
--   up_to end collect l bs the line l after the bytes of bs before the first `end`, each collected
--   Out D                  what bytes leave: the state, and the reply bytes
--   Took D                 what one call leaves: that, and how many bytes it took
--   without_reply d           the state d, and no reply; `reply_then r o`: the reply r, and then what o leaves
--   collect, ends          what the machine does with a byte that does not end a line; with the one that does
--   run_over d bs          the bytes bs, one after the other
--   one_call d bs          what one call takes: up to and including the first `end`, or all
--   handed_rest f n d bs   calls of f, each given what the last one did not take: at most n of them
--   handed_part f d p      one part: a first call, whatever it holds, and then what that one did not take
--   handed_parts f d ps    the parts ps, each passed on until it is taken, an empty one too
--   stream_of ps           the stream of which these are the parts
-- Assumes nothing.
use Rattle.std.specs.Prelude.{ℕ, zero, suc, ◌+◌, Bool, true, false, List, [], ◌∷◌, ◌++◌, length, drop}
use Rattle.std.specs.Prelude.{if◌then◌else◌, ◌==◌}
use Rattle.text.specs.InTurn.{each_in_turn}

pub record UpTo (L : Type 0) : Type 0 where
  pub line : L
  pub before : ℕ
  pub ended : Bool

abbrev pub one_later : {L : Type 0} → UpTo L → UpTo L
one_later g = record { line = g.line; before = suc g.before; ended = g.ended }

unfoldable pub up_to : {L : Type 0} → ℕ → (L → ℕ → L) → L → List ℕ → UpTo L
up_to end collect l [] = record { line = l; before = 0; ended = false }
up_to end collect l (b ∷ bs) =
    if b == end then record { line = l; before = 0; ended = true } else one_later (up_to end collect (collect l b) bs)

pub record Out (D : Type 0) : Type 0 where
  pub state : D
  pub reply : List ℕ

pub record Took (D : Type 0) : Type 0 where
  pub taken : ℕ
  pub state : D
  pub reply : List ℕ

abbrev pub without_reply : {D : Type 0} → D → Out D
without_reply d = record { state = d; reply = [] }

abbrev pub reply_then : {D : Type 0} → List ℕ → Out D → Out D
reply_then r o = record { state = o.state; reply = r ++ o.reply }

abbrev pub took_bytes : {D : Type 0} → ℕ → Out D → Took D
took_bytes n o = record { taken = n; state = o.state; reply = o.reply }

-- what a call makes of what it gathers, where `keep` puts a line into the state and `end` is what its end does
abbrev pub call_of : {L D : Type 0} → (L → D) → (L → Out D) → UpTo L → Took D
call_of keep end g =
    if g.ended then took_bytes (g.before + 1) (end g.line) else took_bytes g.before (without_reply (keep g.line))

module _ (end : ℕ) (D : Type 0) (collect : D → ℕ → D) (ends : D → Out D) where
  abbrev pub one_step : D → ℕ → Out D
  one_step d b = if b == end then ends d else without_reply (collect d b)

  unfoldable pub run_over : D → List ℕ → Out D
  run_over d [] = without_reply d
  run_over d (b ∷ bs) = reply_then (one_step d b).reply (run_over (one_step d b).state bs)

  unfoldable pub one_call : D → List ℕ → Took D
  one_call d bs = call_of (λ (s : D). s) ends (up_to end collect d bs)

unfoldable pub handed_rest : {D : Type 0} → (D → List ℕ → Took D) → ℕ → D → List ℕ → Out D
handed_rest f zero d bs = without_reply d
handed_rest f (suc n) d [] = without_reply d
handed_rest f (suc n) d (b ∷ bs) =
    reply_then (f d (b ∷ bs)).reply (handed_rest f n (f d (b ∷ bs)).state (drop (f d (b ∷ bs)).taken (b ∷ bs)))

abbrev pub handed_part : {D : Type 0} → (D → List ℕ → Took D) → D → List ℕ → Out D
handed_part f d p = reply_then (f d p).reply (handed_rest f (length p) (f d p).state (drop (f d p).taken p))

unfoldable pub handed_parts : {D : Type 0} → (D → List ℕ → Took D) → D → List (List ℕ) → Out D
handed_parts f d [] = without_reply d
handed_parts f d (p ∷ ps) = reply_then (handed_part f d p).reply (handed_parts f (handed_part f d p).state ps)

unfoldable pub stream_of : List (List ℕ) → List ℕ
stream_of ps = each_in_turn (λ p. p) ps
