-- Steps that are those of calls, with steps between them that make none: these tell the same, and leave the same, as
-- the calls' steps alone. So it is of a log of either kind.
--   StepsOf d es cs     the steps es, from the device d on, are those of the calls cs and still ones
-- Assumes nothing.
use Rattle.std.proofs.Common.{ℕ, ◌≡◌, refl, sym, ap, subst, ◌∙◌, Bool, true, false, List, [], ◌∷◌, ◌++◌, map, length}
use Rattle.std.proofs.lemmas.List.{length-replicate}
use Rattle.text.proofs.Choices.{if_yes, if_no}
use Rattle.record.specs.Legal.{is_legal}
use Rattle.record.specs.Places.{connection_at, is_closed}
use Rattle.record.specs.declared.types.Device.{Device}
use Rattle.device.specs.Calls.{reply_room, received_at, opened_by}
use Rattle.floorlog.specs.Events.{opens, receives, passes, closes, no_such}
use Rattle.floorlog.specs.Doing.{EventResult, log_place}
use Rattle.floorlog.proofs.LogOpenings.{log_opened_again, log_opened_closed}
use Rattle.ours.specs.Board.{ours}
use Rattle.demands.specs.Calls.{Call, after, run, opens as opens_at}
use Rattle.history.specs.Entries.{LogEntry, header, call, stated}
use Rattle.recorded.specs.Playing.{reply_memory, played_call, entry_calls}
use Rattle.watch.specs.Marking.{WatchedLogEvent, logged, marked, done_by, seconds_by, floor_step, floor_steps}
use Rattle.watch.specs.CallSteps.{seconds_of_call, call_step, call_steps, still_step, entry_steps}
use Rattle.watch.specs.Watching.{Step, Watching, watched_on}
use Rattle.watch.specs.Telling.{LitStretch, told_on, lit_stretches, after_log}
use Rattle.watch.proofs.DoneSpelt.{done_opening, done_receiving, done_passing, done_closing, done_nothing, done_marking}
use Rattle.watch.proofs.LineLeaves.{done_legal}
use Rattle.watch.proofs.TellingsSpelt.{tellings_more, after_none, after_more, still_leaves, still_tells}
use Rattle.stretches.specs.LogTold.{calls_by, calls_of}

pub data StepsOf : Device → List Step → List Call → Type 0 where
  no_step : {d : Device} → StepsOf d [] []
  no_call : {d : Device} {es : List Step} {cs : List Call} → StepsOf d es cs → StepsOf d (still_step d ∷ es) cs
  a_call : {d : Device} {es : List Step} {cs : List Call} (c : Call) → StepsOf (after ours d c) es cs
      → StepsOf d (call_step d c ∷ es) (c ∷ cs)

-- ---- they tell and leave the same

pub same_told : {es : List Step} {cs : List Call} (s : Watching) → StepsOf s.device es cs
    → lit_stretches s es ≡ lit_stretches s (call_steps s.device cs)
same_told s no_step = refl
same_told s (no_call {es = es} more) =
    tellings_more s (still_step s.device) es
    ∙ ap (λ (ts : List LitStretch). ts ++ lit_stretches (watched_on s (still_step s.device)) es) (still_tells s)
    ∙ ap (λ (t : Watching). lit_stretches t es) (still_leaves s)
    ∙ same_told s more
same_told s (a_call {es = es} {cs = cs} c more) =
    let e = call_step s.device c in
    tellings_more s e es
    ∙ ap (λ (ts : List LitStretch). told_on s e ++ ts) (same_told (watched_on s e) more)
    ∙ sym (tellings_more s e (call_steps e.device cs))

pub same_left : {es : List Step} {cs : List Call} (s : Watching) → StepsOf s.device es cs
    → after_log s es ≡ after_log s (call_steps s.device cs)
same_left s no_step = refl
same_left s (no_call {es = es} more) =
    after_more s (still_step s.device) es
    ∙ ap (λ (t : Watching). after_log t es) (still_leaves s)
    ∙ same_left s more
same_left s (a_call {es = es} {cs = cs} c more) =
    let e = call_step s.device c in
    after_more s e es ∙ same_left (watched_on s e) more ∙ sym (after_more s e (call_steps e.device cs))

-- and the device is the one that the calls leave
pub calls_leave : (cs : List Call) (s : Watching) → (after_log s (call_steps s.device cs)).device ≡ run ours s.device cs
calls_leave [] s = ap (λ (t : Watching). t.device) (after_none s)
calls_leave (c ∷ cs) s =
    let e = call_step s.device c in
    ap (λ (t : Watching). t.device) (after_more s e (call_steps e.device cs)) ∙ calls_leave cs (watched_on s e)

-- ---- a log of the second kind

pub entries_are_steps : (es : List LogEntry) (d : Device)
    → StepsOf d (entry_steps d es) (map played_call (entry_calls es))
entries_are_steps [] d = no_step
entries_are_steps (header f s t ∷ es) d = no_call (entries_are_steps es d)
entries_are_steps (call c ∷ es) d = a_call (played_call c) (entries_are_steps es (after ours d (played_call c)))
entries_are_steps (stated n s shown ∷ es) d = no_call (entries_are_steps es d)

-- ---- a log of the first kind

memory_long : length reply_memory ≡ reply_room
memory_long = length-replicate {A = ℕ} reply_room 0

-- one event, before others that are steps
module _ (d : Device) {es : List Step} {cs : List Call} (e : WatchedLogEvent) (more : StepsOf (done_by d e) es cs) where
  abbrev Here : Type 0
  Here = StepsOf d (floor_step d e ∷ es) (calls_by d e ++ cs)

  quiet : calls_by d e ≡ [] → done_by d e ≡ d → seconds_by e ≡ 0 → Here
  quiet none same still =
      subst (λ (l : List Call). StepsOf d (floor_step d e ∷ es) (l ++ cs)) (sym none)
      (subst (λ (f : Step). StepsOf d (f ∷ es) cs) (λ i. record { device = sym same i; seconds = sym still i })
      (no_call (subst (λ (k : Device). StepsOf k es cs) same more)))

  called : (c : Call) → calls_by d e ≡ c ∷ [] → after ours d c ≡ done_by d e → seconds_of_call c ≡ seconds_by e → Here
  called c calls leaves passed =
      subst (λ (l : List Call). StepsOf d (floor_step d e ∷ es) (l ++ cs)) (sym calls)
      (subst (λ (f : Step). StepsOf d (f ∷ es) (c ∷ cs)) (λ i. record { device = leaves i; seconds = passed i })
      (a_call c (subst (λ (k : Device). StepsOf k es cs) (sym leaves) more)))

event_step : (d : Device) → is_legal d ≡ true → {es : List Step} {cs : List Call} (e : WatchedLogEvent)
    → StepsOf (done_by d e) es cs → StepsOf d (floor_step d e ∷ es) (calls_by d e ++ cs)
event_step d legal {es} {cs} (logged (opens r)) more = by (is_closed (connection_at d log_place)) refl
  where
    by : (t : Bool) → is_closed (connection_at d log_place) ≡ t → Here d (logged (opens r)) more
    by true e =
        called d (logged (opens r)) more (opens_at r reply_memory) (if_yes _ _ e)
        (ap (λ (n : ℕ). (opened_by d r n).leaves) memory_long
        ∙ sym (done_opening d r ∙ ap (λ (q : EventResult). q.leaves) (log_opened_closed d r legal e)))
        refl
    by false e =
        quiet d (logged (opens r)) more (if_no _ _ e)
        (done_opening d r ∙ ap (λ (q : EventResult). q.leaves) (log_opened_again d r legal e)) refl
event_step d legal (logged (receives bs)) more =
    called d (logged (receives bs)) more _ refl
    (ap (λ (n : ℕ). (received_at d log_place bs n).leaves) memory_long ∙ sym (done_receiving d bs)) refl
event_step d legal (logged (passes k)) more = called d (logged (passes k)) more _ refl (sym (done_passing d k)) refl
event_step d legal (logged closes) more = called d (logged closes) more _ refl (sym (done_closing d)) refl
event_step d legal (logged no_such) more = quiet d (logged no_such) more refl (done_nothing d) refl
event_step d legal (marked lamp to) more = called d (marked lamp to) more _ refl (sym (done_marking d lamp to)) refl

pub events_are_steps : (es : List WatchedLogEvent) (d : Device) → is_legal d ≡ true
    → StepsOf d (floor_steps d es) (calls_of d es)
events_are_steps [] d legal = no_step
events_are_steps (e ∷ es) d legal = event_step d legal e (events_are_steps es (done_by d e) (done_legal d legal e))
