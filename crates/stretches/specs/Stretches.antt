-- Which lamp burnt when ("a log from the floor played back to show which lamp burnt when"), by demand 3's history: the
-- seconds are those of its events, and a second is lit exactly if demand 3 counts it as burning.
--   is_lit_then g ms k            the lamp at index k burns in a second of the stage g with the marks ms
--   seconds_lit_from w g ms k es  whether it burns in each second of the events es, in order, where they begin with g
--                                 and ms;    seconds_lit w ms k es    where they begin with the device, which is off
--   Stretch                       the seconds from `from` on and before `to`
--   stretches_from lit f t ls     the stretches of seconds that are lit as ls says, the first of which is the second t,
--                                 where one has begun at f if `lit`;    stretches_of ls    from the second 0 on
--   is_in ss i                    the second i is in one of the stretches ss
--   InOrder n ss                  the stretches ss are in order, apart and not empty, and none begins before n
--   lengths_of ss                 the lengths of the stretches ss, added up
--   StretchesTell w ms k es ss    what is promised of the stretches ss of the lamp at index k
-- Assumes nothing.
use Rattle.std.specs.Prelude.{ℕ, suc, ◌+◌, ◌-◌, ◌≤◌, ◌<◌, ◌≡◌, Bool, true, false, ◌&&◌, ◌||◌, List, [], ◌∷◌, ◌++◌}
use Rattle.std.specs.Prelude.{if◌then◌else◌, nat_le, nat_lt, ◌==◌, slice_index_or}
use Rattle.record.specs.Wanted.{Wanted}
use Rattle.demands.specs.History.{HistoryEvent, switched, a_second, mark_switched, Stage, steady, next_stage}
use Rattle.demands.specs.History.{marks_next}
use Rattle.demands.specs.History.{burnt_in, burning_seconds}

abbrev pub is_lit_then : Stage → List Bool → ℕ → Bool
is_lit_then g ms k = burnt_in g ms k a_second == 1

abbrev pub second_lit : Stage → List Bool → ℕ → HistoryEvent → List Bool
second_lit g ms k a_second = is_lit_then g ms k ∷ []
second_lit g ms k (switched wanted) = []
second_lit g ms k (mark_switched lamp mark) = []

abbrev pub seconds_lit_from : Wanted → Stage → List Bool → ℕ → List HistoryEvent → List Bool
seconds_lit_from w g ms k [] = []
seconds_lit_from w g ms k (e ∷ es) = second_lit g ms k e ++ seconds_lit_from w (next_stage w g e) (marks_next ms e) k es

abbrev pub seconds_lit : Wanted → List Bool → ℕ → List HistoryEvent → List Bool
seconds_lit w ms k es = seconds_lit_from w (steady false) ms k es

pub record Stretch : Type 0 where
  pub from : ℕ
  pub to : ℕ

abbrev pub stretch_if : Bool → ℕ → ℕ → List Stretch
stretch_if lit f t = if lit then record { from = f; to = t } ∷ [] else []

abbrev pub stretches_from : Bool → ℕ → ℕ → List Bool → List Stretch
stretches_from lit f t [] = stretch_if lit f t
stretches_from lit f t (true ∷ ls) = stretches_from true (if lit then f else t) (suc t) ls
stretches_from lit f t (false ∷ ls) = stretch_if lit f t ++ stretches_from false f (suc t) ls

abbrev pub stretches_of : List Bool → List Stretch
stretches_of ls = stretches_from false 0 0 ls

abbrev pub is_in : List Stretch → ℕ → Bool
is_in [] i = false
is_in (s ∷ ss) i = nat_le s.from i && nat_lt i s.to || is_in ss i

pub data InOrder : ℕ → List Stretch → Type 0 where
  no_more : {n : ℕ} → InOrder n []
  and_then : {n : ℕ} {s : Stretch} {ss : List Stretch} → n ≤ s.from → s.from < s.to → InOrder (suc s.to) ss
      → InOrder n (s ∷ ss)

abbrev pub lengths_of : List Stretch → ℕ
lengths_of [] = 0
lengths_of (s ∷ ss) = s.to - s.from + lengths_of ss

pub record StretchesTell (w : Wanted) (ms : List Bool) (k : ℕ) (es : List HistoryEvent)
    (ss : List Stretch) : Type 0 where
  -- exactly the seconds of warm-up or power-on with its mark set
  pub exactly : (i : ℕ) → is_in ss i ≡ slice_index_or (seconds_lit w ms k es) i false
  -- in order, apart, none empty
  pub apart : InOrder 0 ss
  -- what the lamp burnt by demand 3
  pub adds_up : lengths_of ss ≡ burning_seconds w ms k es
