-- Two boards that meet the demands can't be told apart: each call of such a board gives what ours gives of the record
-- that it shows, and leaves a record that shows what ours leaves.
--   OneReceive X x p bs m    what an accepted receive gives, by the shown record and what it was lent alone
--   LentAs r s               the calls that gave r and s took, replied and wrote the same
-- Assumes nothing.
use Rattle.std.specs.List.{list_all}
use Rattle.std.proofs.Common.{ℕ, ◌≤◌, ◌<◌, ◌≡◌, refl, sym, ap, subst, ◌∙◌, Bool, true, false, List, [], ◌∷◌, ◌++◌}
use Rattle.std.proofs.Common.{arith, length, take, drop, replicate, take-append-drop, length-take-le, append-nil, ◌==◌}
use Rattle.std.proofs.Common.{eqb-true, eq-eqb, if◌then◌else◌, Option, Some, None}
use Rattle.std.proofs.lemmas.Bool.{eqb-false}
use Rattle.std.proofs.lemmas.List.{length-replicate}
use Rattle.text.specs.Outcomes.{call_number}
use Rattle.words.specs.Bytes.{is_cr_free, ◌at◌}
use Rattle.pjlink.specs.Forms.{reply_parameter}
use Rattle.pjlink.specs.Greetings.{read_greeting, Exactly}
use Rattle.pjlink.specs.declared.command.Command.{Command}
use Rattle.pjlink.specs.declared.greeting.Greeting.{Greeting}
use Rattle.pjlink.specs.declared.greeting.Greeting.TheVariants.{Open, Secured, Refused}
use Rattle.pjlink.proofs.GreetingsHeard.{open_heard, erra_heard, secured_heard, heard_exactly}
use Rattle.pjlink.proofs.ReadWritings.{allowed_or_not}
use Rattle.record.specs.Refusals.{refusal_number}
use Rattle.record.specs.Limits.{places_count}
use Rattle.record.specs.Wanted.{Wanted}
use Rattle.record.specs.Rules.{is_at_most}
use Rattle.record.specs.Legal.{is_legal}
use Rattle.record.specs.Places.{connection_at, with_place, is_closed}
use Rattle.record.specs.declared.types.Own.{Own}
use Rattle.record.specs.declared.types.Device.{Device}
use Rattle.stored.specs.Form.{form_version, marked_version, old_version, version_form, marked_form_of, old_form_of}
use Rattle.stored.specs.Form.{stored_of, marks_stored, stored_form}
use Rattle.stored.specs.Loading.{is_other_version}
use Rattle.stored.proofs.Fields.{bytes_all}
use Rattle.stored.proofs.FormsLoad.{stored_in_range}
use Rattle.stored.proofs.OneForm.{stored_as_it_was, old_unmarked}
use Rattle.stored.proofs.Results.{accepted_told}
use Rattle.device.specs.Calls.{reply_room, new_connection}
use Rattle.device.proofs.Cases.{received_by}
use Rattle.controller.specs.Reading.{ReadAs, ReadingOutcome, means_it, erra_said, not_a_line, other_command, disallowed}
use Rattle.controller.specs.Reading.{read_reply, reading_outcome_number}
use Rattle.ours.specs.Board.{Board, Given, Lent, Wrote, ours, reply, bytes_written}
use Rattle.demands.specs.Calls.{Call, opens, closes, receives, passes, faults, reports, enables, after, number_of}
use Rattle.demands.specs.Calls.{gave_by, Gave}
use Rattle.demands.specs.CallsDone.{own_by}
use Rattle.demands.specs.KeepsRunning.{Inside, WroteInside, Untouched}
use Rattle.demands.specs.CountsSeconds.{IsClass1}
use Rattle.demands.specs.BoardSwap.{LoadsAs}
use Rattle.demands.specs.Interleaved.{HeardAt, heard_nothing, heard_then, heard_of, heard, Alone, alone_at, to_first_cr}
use Rattle.demands.specs.TwoBoards.{MeetsDemands, SameGiven, SameAfter, AreAlike}
use Rattle.demands.proofs.KeepsRunning.{ours_keeps_running, number_is_first}
use Rattle.demands.proofs.SpeaksPjlink.{ours_speaks_pjlink}
use Rattle.demands.proofs.CountsSeconds.{ours_counts_seconds}
use Rattle.demands.proofs.Interleaved.{interleaved}
use Rattle.demands.proofs.BoardSwap.{ours_swap}
use Rattle.demands.proofs.Samples.{nothing_loads}

pub ours_meets : MeetsDemands ours
ours_meets = record {
  keeps_running = ours_keeps_running;
  speaks_pjlink = ours_speaks_pjlink;
  counts_seconds = ours_counts_seconds;
  places_stand = interleaved;
  survives_a_swap = ours_swap;
}

-- ---- lent memory of which the same is written

module _ (m : List ℕ) where
  same_memory : (n k : ℕ) (x y : List ℕ) → length x ≡ length m → length y ≡ length m → n ≤ length m → k ≤ length m
      → drop n x ≡ drop n m → drop k y ≡ drop k m → take n x ≡ take k y → (n ≡ k) × (x ≡ y)
  same_memory n k x y long tall inside within later after e =
      let count : n ≡ k
      = sym (length-take-le n x (omega (arith, long, inside))) ∙ ap length e
      ∙ length-take-le k y (omega (arith, tall, within)) in
      let rest : drop n x ≡ drop k y = later ∙ ap (λ (j : ℕ). drop j m) count ∙ sym after in
      (count, sym (take-append-drop n x) ∙ (λ i. e i ++ rest i) ∙ take-append-drop k y)

  same_lent : {R S : Type 0} (r : Lent R) (s : Lent S) → Inside m r → Inside m s → reply r ≡ reply s
      → (r.length ≡ s.length) × (r.memory ≡ s.memory)
  same_lent r s h g e = same_memory r.length s.length r.memory s.memory h.room g.room h.fits g.fits h.later g.later e

  same_wrote : (v w : Wrote) → WroteInside m v → WroteInside m w → v.number ≡ w.number
      → bytes_written v ≡ bytes_written w → v ≡ w
  same_wrote v w h g n e =
      let same = same_memory v.length w.length v.memory w.memory h.room g.room h.fits g.fits h.later g.later e in
      (λ i. record { number = n i; length = same.0 i; memory = same.1 i })

-- ---- what an accepted receive gives

abbrev owns_at : Own → List ℕ → List Own
owns_at o u = if is_cr_free u then [] else o ∷ []

abbrev alone_here : Device → ℕ → List ℕ → Alone
alone_here d p bs = alone_at d.settings (connection_at d p) (owns_at d.own (to_first_cr bs)) (to_first_cr bs)

record OneReceive {R : Type 0} (X : Board R) (x : R) (p : ℕ) (bs m : List ℕ) : Type 0 where
  pub taken : (X.receive x p bs m).taken ≡ length (to_first_cr bs)
  pub replied : reply (X.receive x p bs m) ≡ (alone_here (X.shows x) p bs).reply
  pub shown : X.shows (X.receive x p bs m).device
      ≡ with_place (X.shows x)
      (own_by (X.shows x).settings (X.shows x).own (connection_at (X.shows x) p) (to_first_cr bs)) p
      (alone_here (X.shows x) p bs).connection

module _ {R : Type 0} (X : Board R) (k : MeetsDemands X) (x : R) (p : ℕ) (bs m : List ℕ)
    (z : (X.receive x p bs m).number ≡ 0) where
  abbrev shows_x : Device
  shows_x = X.shows x

  abbrev received_x : Lent R
  received_x = X.receive x p bs m

  abbrev Serves : Type 0
  Serves =
      (is_legal shows_x ≡ true)
      × ((reply_room ≤ length m) × ((p < places_count) × (is_closed (connection_at shows_x p) ≡ false)))

  serves : Serves
  serves =
      received_by shows_x p bs (length m) (λ c. call_number refusal_number c ≡ 0 → Serves)
      (λ e some y. absurd (some y))
      (λ legal enough there live y. (legal, (enough, (there, live))))
      (number_is_first shows_x (receives p bs m) ∙ sym (k.keeps_running.number_is_first x (receives p bs m)) ∙ z)

  taken_is : take received_x.taken bs ≡ to_first_cr bs
  taken_is = (k.places_stand.takes_a_line x p bs m serves.0 serves.1.1.0 serves.1.1.1 serves.1.0).1

  heard_is : heard X p x (receives p bs m ∷ []) ≡ heard_of shows_x.own (to_first_cr bs) (reply received_x)
  heard_is =
      (λ i. heard_then
      (if eq-eqb p p refl i then heard_of shows_x.own (take received_x.taken bs) (reply received_x) else heard_nothing)
      heard_nothing)
      ∙ (λ i. record {
        taken = append-nil (take received_x.taken bs) i;
        replied = append-nil (reply received_x) i;
        owns = append-nil (owns_at shows_x.own (take received_x.taken bs)) i;
      })
      ∙ ap (λ (u : List ℕ). heard_of shows_x.own u (reply received_x)) taken_is

  abbrev alone_with : HeardAt → Alone
  alone_with h = alone_at shows_x.settings (connection_at shows_x p) h.owns h.taken

  connection_is : connection_at (X.shows received_x.device) p ≡ (alone_here shows_x p bs).connection
  connection_is =
      (k.places_stand.as_alone x p (receives p bs m ∷ []) (tt, tt)).connection
      ∙ ap (λ (h : HeardAt). (alone_with h).connection) heard_is

  one_receive : OneReceive X x p bs m
  one_receive = record {
    taken = sym (length-take-le received_x.taken bs (k.keeps_running.stays_inside x (receives p bs m)).1)
        ∙ ap length taken_is;
    replied = sym (ap (λ (h : HeardAt). h.replied) heard_is)
        ∙ (k.places_stand.as_alone x p (receives p bs m ∷ []) (tt, tt)).replies
        ∙ ap (λ (h : HeardAt). (alone_with h).reply) heard_is;
    shown = k.speaks_pjlink.receives x p bs m z
        ∙ (λ i. with_place shows_x
        (own_by shows_x.settings shows_x.own (connection_at shows_x p) (taken_is i)) p (connection_is i));
  }

-- ---- calls

record LentAs {R S : Type 0} (r : Lent R) (s : Lent S) : Type 0 where
  pub taken : r.taken ≡ s.taken
  pub length : r.length ≡ s.length
  pub memory : r.memory ≡ s.memory

untouched_alike : {R S : Type 0} (m : List ℕ) (r : Lent R) (s : Lent S) → Untouched m r → Untouched m s → LentAs r s
untouched_alike m r s h g = record {
  taken = h.taken ∙ sym g.taken;
  length = h.length ∙ sym g.length;
  memory = h.memory ∙ sym g.memory;
}

-- by whether a number is 0
by_zero : (n : ℕ) (P : Type 0) → (n ≡ 0 → P) → ((n ≡ 0 → ⊥) → P) → P
by_zero n P zero_then some_then = by (n == 0) refl
  where
    by : (t : Bool) → (n == 0) ≡ t → P
    by true e = zero_then (eqb-true n 0 e)
    by false e = some_then (eqb-false n 0 e)

module _ {R : Type 0} (B : Board R) (k : MeetsDemands B) (b : R) where
  abbrev d : Device
  d = B.shows b

  number_as : (c : Call) → number_of B b c ≡ number_of ours d c
  number_as c = k.keeps_running.number_is_first b c ∙ sym (number_is_first d c)

  module _ (c : Call) where
    accepted : number_of B b c ≡ 0 → number_of ours d c ≡ 0
    accepted z = sym (number_as c) ∙ z

    refused : (number_of B b c ≡ 0 → ⊥) → number_of ours d c ≡ 0 → ⊥
    refused n z = n (number_as c ∙ z)

  shown_accepted : (c : Call) → number_of B b c ≡ 0 → B.shows (after B b c) ≡ after ours d c
  shown_accepted (opens random m) z =
      let mine = k.speaks_pjlink.opens b random m z in
      let theirs = ours_speaks_pjlink.opens d random m (accepted (opens random m) z) in
      mine.device
      ∙ ap (λ (q : ℕ). with_place d d.own q (new_connection d.settings random)) (mine.lowest ∙ sym theirs.lowest)
      ∙ sym theirs.device
  shown_accepted (closes p) z =
      k.speaks_pjlink.closes b p z ∙ sym (ours_speaks_pjlink.closes d p (accepted (closes p) z))
  shown_accepted (receives p bs m) z =
      (one_receive B k b p bs m z).shown
      ∙ sym (one_receive ours ours_meets d p bs m (accepted (receives p bs m) z)).shown
  shown_accepted (passes n) z =
      k.counts_seconds.second_by_second b n z
      ∙ sym (ours_counts_seconds.second_by_second d n (accepted (passes n) z))
  shown_accepted (faults fault) z =
      k.speaks_pjlink.marks b fault z ∙ sym (ours_speaks_pjlink.marks d fault (accepted (faults fault) z))
  shown_accepted (reports errors) z =
      k.speaks_pjlink.reports b errors z ∙ sym (ours_speaks_pjlink.reports d errors (accepted (reports errors) z))
  shown_accepted (enables lamp mark) z =
      k.speaks_pjlink.enables b lamp mark z
      ∙ sym (ours_speaks_pjlink.enables d lamp mark (accepted (enables lamp mark) z))

  shown_as : (c : Call) → B.shows (after B b c) ≡ after ours d c
  shown_as c =
      by_zero (number_of B b c) (B.shows (after B b c) ≡ after ours d c) (shown_accepted c)
      (λ n. ap B.shows (k.keeps_running.refused_keeps b c n).0
      ∙ sym (ours_keeps_running.refused_keeps d c (refused c n)).0)

  opening_as : (random : ℕ) (m : List ℕ) → LentAs (B.opening b random m) (ours.opening d random m)
  opening_as random m =
      let c = opens random m in
      by_zero (number_of B b c) (LentAs (B.opening b random m) (ours.opening d random m))
      (λ z.
      let mine = k.speaks_pjlink.opens b random m z in
      let theirs = ours_speaks_pjlink.opens d random m (accepted c z) in
      let same = same_lent m (B.opening b random m) (ours.opening d random m) (k.keeps_running.stays_inside b c)
      (ours_keeps_running.stays_inside d c) (mine.replied ∙ sym theirs.replied) in
      record { taken = mine.taken ∙ sym theirs.taken; length = same.0; memory = same.1 })
      (λ n. untouched_alike m (B.opening b random m) (ours.opening d random m)
      (k.keeps_running.refused_keeps b c n).1 (ours_keeps_running.refused_keeps d c (refused c n)).1)

  place_as : (random : ℕ) (m : List ℕ) → B.place_opened b random m ≡ ours.place_opened d random m
  place_as random m =
      let c = opens random m in
      by_zero (number_of B b c) (B.place_opened b random m ≡ ours.place_opened d random m)
      (λ z. (k.speaks_pjlink.opens b random m z).lowest
      ∙ sym (ours_speaks_pjlink.opens d random m (accepted c z)).lowest)
      (λ n. k.keeps_running.refused_opening_place b random m n
      ∙ sym (ours_keeps_running.refused_opening_place d random m (refused c n)))

  receiving_as : (p : ℕ) (bs m : List ℕ) → LentAs (B.receive b p bs m) (ours.receive d p bs m)
  receiving_as p bs m =
      let c = receives p bs m in
      by_zero (number_of B b c) (LentAs (B.receive b p bs m) (ours.receive d p bs m))
      (λ z.
      let mine = one_receive B k b p bs m z in
      let theirs = one_receive ours ours_meets d p bs m (accepted c z) in
      let same = same_lent m (B.receive b p bs m) (ours.receive d p bs m) (k.keeps_running.stays_inside b c).0
      (ours_keeps_running.stays_inside d c).0 (mine.replied ∙ sym theirs.replied) in
      record { taken = mine.taken ∙ sym theirs.taken; length = same.0; memory = same.1 })
      (λ n. untouched_alike m (B.receive b p bs m) (ours.receive d p bs m)
      (k.keeps_running.refused_keeps b c n).1 (ours_keeps_running.refused_keeps d c (refused c n)).1)

  abbrev numbered : ℕ → Gave
  numbered n = record { number = n; taken = 0; place = 0; length = 0; memory = [] }

  pub gave_as : (c : Call) → gave_by B b c ≡ gave_by ours d c
  gave_as (opens random m) =
      let same = opening_as random m in
      (λ i. record {
        number = number_as (opens random m) i;
        taken = same.taken i;
        place = place_as random m i;
        length = same.length i;
        memory = same.memory i;
      })
  gave_as (receives p bs m) =
      let same = receiving_as p bs m in
      (λ i. record {
        number = number_as (receives p bs m) i;
        taken = same.taken i;
        place = 0;
        length = same.length i;
        memory = same.memory i;
      })
  gave_as (closes p) = ap numbered (number_as (closes p))
  gave_as (passes n) = ap numbered (number_as (passes n))
  gave_as (faults fault) = ap numbered (number_as (faults fault))
  gave_as (reports errors) = ap numbered (number_as (reports errors))
  gave_as (enables lamp mark) = ap numbered (number_as (enables lamp mark))

  store_as : (m : List ℕ) → B.store b m ≡ ours.store d m
  store_as m =
      let v = B.store b m in
      let w = ours.store d m in
      let same : v.number ≡ w.number = k.keeps_running.store_number b m ∙ sym (ours_keeps_running.store_number d m) in
      by_zero v.number (v ≡ w)
      (λ z. same_wrote m v w (k.keeps_running.store_stays_inside b m) (ours_keeps_running.store_stays_inside d m) same
      (k.survives_a_swap.form_stored b m z ∙ sym (ours_swap.form_stored d m (sym same ∙ z))))
      (λ n.
      let mine = k.keeps_running.refused_store_writes_nothing b m n in
      let theirs = ours_keeps_running.refused_store_writes_nothing d m (λ z. n (same ∙ z)) in
      (λ i. record {
        number = same i;
        length = (mine.0 ∙ sym theirs.0) i;
        memory = (mine.1 ∙ sym theirs.1) i;
      }))

-- ---- set-up, and the controller's side

module _ {R : Type 0} (B : Board R) (k : MeetsDemands B) where
  set_up_as : (w : Wanted) → SameGiven B ours (B.set_up w) (ours.set_up w)
  set_up_as w =
      let same : (B.set_up w).number ≡ (ours.set_up w).number
      = k.keeps_running.set_up_number w ∙ sym (ours_keeps_running.set_up_number w) in
      record {
        number = same;
        shown = by_zero (B.set_up w).number (B.shows (B.set_up w).device ≡ (ours.set_up w).device)
            (λ z. k.speaks_pjlink.set_up_shows w z ∙ sym (ours_speaks_pjlink.set_up_shows w (sym same ∙ z)))
            (λ n. k.keeps_running.refused_set_up_blank w n
            ∙ sym (ours_keeps_running.refused_set_up_blank w (λ z. n (same ∙ z))));
      }

  command_as : (c : Command) (secured : Bool) (random : ℕ) (password m : List ℕ)
      → B.write c secured random password m ≡ ours.write c secured random password m
  command_as c secured random password m =
      let v = B.write c secured random password m in
      let w = ours.write c secured random password m in
      let same : v.number ≡ w.number
      = k.keeps_running.writer_number c secured random password m
      ∙ sym (ours_keeps_running.writer_number c secured random password m) in
      by_zero v.number (v ≡ w)
      (λ z. same_wrote m v w (k.keeps_running.writer_stays_inside c secured random password m)
      (ours_keeps_running.writer_stays_inside c secured random password m) same
      (k.speaks_pjlink.writes c secured random password m z
      ∙ sym (ours_speaks_pjlink.writes c secured random password m (sym same ∙ z))))
      (λ n.
      let mine = k.keeps_running.refused_writer_writes_nothing c secured random password m n in
      let theirs = ours_keeps_running.refused_writer_writes_nothing c secured random password m (λ z. n (same ∙ z)) in
      (λ i. record {
        number = same i;
        length = (mine.0 ∙ sym theirs.0) i;
        memory = (mine.1 ∙ sym theirs.1) i;
      }))

  -- a refused reading is known by its number, since neither a meaning nor the ERRA line is refused
  module _ (c : Command) (l : List ℕ) where
    abbrev read_there : ReadAs
    read_there = B.read_reply c l

    abbrev read_by_ours : ReadAs
    read_by_ours = ours.read_reply c l

    same_reading_number : reading_outcome_number read_there.outcome ≡ reading_outcome_number read_by_ours.outcome
    same_reading_number =
        let told = allowed_or_not c (reply_parameter l) in
        k.keeps_running.reader_number c l told.0 told.1 ∙ sym (ours_keeps_running.reader_number c l told.0 told.1)

    outcome_numbered : (o u : ReadingOutcome) → reading_outcome_number o ≡ reading_outcome_number u
        → (reading_outcome_number u ≡ 0 → ⊥) → o ≡ u
    outcome_numbered o u e n = grind arith

    reading_refused : (reading_outcome_number read_by_ours.outcome ≡ 0 → ⊥) → read_there ≡ read_by_ours
    reading_refused n =
        let same = outcome_numbered read_there.outcome read_by_ours.outcome same_reading_number n in
        let unsaid = k.keeps_running.refused_reader_means_nothing c l (λ z. n (sym same_reading_number ∙ z))
        ∙ sym (ours_keeps_running.refused_reader_means_nothing c l n) in
        (λ i. record { outcome = same i; said = unsaid i })

    reading_meant : read_by_ours.outcome ≡ means_it → read_there ≡ read_by_ours
    reading_meant e =
        let says = ours_speaks_pjlink.reads_what_is_said c l e in
        k.speaks_pjlink.what_is_said_is_read c l read_by_ours.said says
        ∙ sym (ours_speaks_pjlink.what_is_said_is_read c l read_by_ours.said says)

    reading_erra : read_by_ours.outcome ≡ erra_said → read_there ≡ read_by_ours
    reading_erra e =
        let line = (ours_speaks_pjlink.erra_exactly c l).0 e in
        ap (B.read_reply c) line ∙ k.speaks_pjlink.erra_means_nothing c
        ∙ sym (ap (read_reply c) line ∙ ours_speaks_pjlink.erra_means_nothing c)

    reading_by : (o : ReadingOutcome) → read_by_ours.outcome ≡ o → read_there ≡ read_by_ours
    reading_by means_it e = reading_meant e
    reading_by erra_said e = reading_erra e
    reading_by not_a_line e = reading_refused (λ z. omega (arith, sym (ap reading_outcome_number e) ∙ z))
    reading_by other_command e = reading_refused (λ z. omega (arith, sym (ap reading_outcome_number e) ∙ z))
    reading_by disallowed e = reading_refused (λ z. omega (arith, sym (ap reading_outcome_number e) ∙ z))

    reply_as : read_there ≡ read_by_ours
    reply_as = reading_by read_by_ours.outcome refl

  -- a line is one greeting at most
  module _ (l : List ℕ) where
    no_greeting : (g : Option Greeting) → Exactly l g → Exactly l None → g ≡ None
    no_greeting None h none = refl
    no_greeting (Some Open) h none = absurd (none.0 h)
    no_greeting (Some Refused) h none = absurd (none.1.0 h)
    no_greeting (Some (Secured r)) h none = absurd (none.1.1 r h.0 h.1)

    greeting_one : (g : Option Greeting) → Exactly l g → g ≡ read_greeting l
    greeting_one (Some Open) h = sym (ap read_greeting h ∙ open_heard)
    greeting_one (Some Refused) h = sym (ap read_greeting h ∙ erra_heard)
    greeting_one (Some (Secured r)) h = sym (ap read_greeting h.1 ∙ secured_heard r h.0)
    greeting_one None h = sym (no_greeting (read_greeting l) (heard_exactly l) h)

    greeting_as : B.read_greeting l ≡ ours.read_greeting l
    greeting_as = greeting_one (B.read_greeting l) (k.speaks_pjlink.greeting_is l)

-- ---- loading

-- what a board's record has stored loads there, whatever memory that takes
module _ {R : Type 0} (X : Board R) (k : MeetsDemands X) (x : R) (legal : is_legal (X.shows x) ≡ true) where
  abbrev its_form : List ℕ
  its_form = stored_form (X.shows x)

  abbrev paper : List ℕ
  paper = replicate (length its_form) 0

  room_found : (X.store x paper).number ≡ 0
  room_found =
      k.keeps_running.store_number x paper
      ∙ grind (arith, legal, length-replicate {A = ℕ} (length its_form) 0)

  form_loads_fresh : LoadsAs X its_form (stored_of (X.shows x)) (marks_stored (X.shows x))
  form_loads_fresh =
      subst (λ (s : List ℕ). LoadsAs X s (stored_of (X.shows x)) (marks_stored (X.shows x)))
      (k.survives_a_swap.form_stored x paper room_found) (k.survives_a_swap.stored_loads x paper room_found)

module _ {R : Type 0} (B : Board R) (k : MeetsDemands B) (s : List ℕ) (bytes : list_all (is_at_most 255) s ≡ true) where
  load_number_as : (B.load s).number ≡ (ours.load s).number
  load_number_as = k.keeps_running.load_number s ∙ sym (ours_keeps_running.load_number s)

  module _ (z : (B.load s).number ≡ 0) where
    abbrev e : Device
    e = B.shows (B.load s).device

    loads_here : (ours.load s).number ≡ 0
    loads_here = sym load_number_as ∙ z

    abbrev f : Device
    f = (ours.load s).device

    newest : s at 0 ≡ form_version → e ≡ f
    newest new =
        let legal = k.keeps_running.load_legal s z in
        let again : stored_form e ≡ s = k.survives_a_swap.stored_again s bytes new z in
        let mine = form_loads_fresh B k (B.load s).device legal in
        let theirs = form_loads_fresh ours ours_meets e legal in
        ap (λ (t : List ℕ). B.shows (B.load t).device) (sym again) ∙ mine.fresh ∙ sym theirs.fresh
        ∙ ap (λ (t : List ℕ). (ours.load t).device) again

    -- an older form is that of settings which a set-up takes, of Class 1
    as_it_was : version_form (s at 0) (stored_of f) (marks_stored f) ≡ s
    as_it_was = stored_as_it_was s loads_here (bytes_all s bytes)

    of_class_1 : (s at 0 ≡ form_version → ⊥) → IsClass1 (stored_of f)
    of_class_1 older = record {
      set_up = stored_in_range f (ours_keeps_running.load_legal s loads_here);
      class_1 = ours_swap.older_class_1 s loads_here older;
    }

    marked : s at 0 ≡ marked_version → e ≡ f
    marked v =
        let w = stored_of f in
        let ms = marks_stored f in
        let form : s ≡ marked_form_of w ms = sym as_it_was ∙ ap (λ (n : ℕ). version_form n w ms) v in
        let h = of_class_1 (λ n. omega (arith, v, n)) in
        let mine = k.survives_a_swap.marked_form_loads w ms h
        (ap (λ (t : List ℕ). (B.load t).number) (sym form) ∙ z) in
        let theirs = ours_swap.marked_form_loads w ms h
        (ap (λ (t : List ℕ). (ours.load t).number) (sym form) ∙ loads_here) in
        ap (λ (t : List ℕ). B.shows (B.load t).device) form ∙ mine.fresh ∙ sym theirs.fresh
        ∙ ap (λ (t : List ℕ). (ours.load t).device) (sym form)

    oldest : s at 0 ≡ old_version → e ≡ f
    oldest v =
        let w = stored_of f in
        let form : s ≡ old_form_of w
        = sym as_it_was ∙ ap (λ (n : ℕ). version_form n w (marks_stored f)) v ∙ old_unmarked w (marks_stored f) in
        let h = of_class_1 (λ n. omega (arith, v, n)) in
        ap (λ (t : List ℕ). B.shows (B.load t).device) form
        ∙ ap (λ (g : Given R). B.shows g.device) (k.survives_a_swap.old_form_sets_up w h)
        ∙ (set_up_as B k w).shown
        ∙ sym
        (ap (λ (t : List ℕ). (ours.load t).device) form
        ∙ ap (λ (g : Given Device). g.device) (ours_swap.old_form_sets_up w h))

  known_version : (t : List ℕ) → is_other_version t ≡ false → (P : Type 0) → (t at 0 ≡ form_version → P)
      → (t at 0 ≡ marked_version → P) → (t at 0 ≡ old_version → P) → (t ≡ [] → P) → P
  known_version [] e P new marked old none = none refl
  known_version (v ∷ t) e P new marked old none = grind (arith, e)

  none_refused : (ours.load []).number ≡ 0 → ⊥
  none_refused z = omega (arith, z, nothing_loads)

  load_as : SameGiven B ours (B.load s) (ours.load s)
  load_as = record {
    number = load_number_as;
    shown = by_zero (B.load s).number (B.shows (B.load s).device ≡ (ours.load s).device)
        (λ z. known_version s (accepted_told s (sym load_number_as ∙ z)).version _ (newest z) (marked z) (oldest z)
        (λ none. absurd (none_refused (ap (λ (t : List ℕ). (ours.load t).number) (sym none) ∙ sym load_number_as ∙ z))))
        (λ n. k.keeps_running.refused_load_blank s n
        ∙ sym (ours_keeps_running.refused_load_blank s (λ z. n (load_number_as ∙ z))));
  }

-- ---- two boards

module _ {R S : Type 0} (B : Board R) (C : Board S) (k : MeetsDemands B) (l : MeetsDemands C) where
  same_calls : (b : R) (c : S) → B.shows b ≡ C.shows c → (cs : List Call) → SameAfter B C b c cs
  same_calls b c same [] = record { gave = refl; shown = same }
  same_calls b c same (call ∷ cs) =
      let gives : gave_by B b call ≡ gave_by C c call
      = gave_as B k b call ∙ ap (λ (e : Device). gave_by ours e call) same ∙ sym (gave_as C l c call) in
      let shows : B.shows (after B b call) ≡ C.shows (after C c call)
      = shown_as B k b call ∙ ap (λ (e : Device). after ours e call) same ∙ sym (shown_as C l c call) in
      let rest = same_calls (after B b call) (after C c call) shows cs in
      record { gave = (λ i. gives i ∷ rest.gave i); shown = rest.shown }

  same_store : (b : R) (c : S) → B.shows b ≡ C.shows c → (m : List ℕ) → B.store b m ≡ C.store c m
  same_store b c same m = store_as B k b m ∙ ap (λ (e : Device). ours.store e m) same ∙ sym (store_as C l c m)

  same_given : (r : Given R) (s : Given S) (t : Given Device) → SameGiven B ours r t → SameGiven C ours s t
      → SameGiven B C r s
  same_given r s t h g = record { number = h.number ∙ sym g.number; shown = h.shown ∙ sym g.shown }

  pub are_alike : AreAlike B C
  are_alike = record {
    calls = same_calls;
    set_ups = λ w. same_given (B.set_up w) (C.set_up w) (ours.set_up w) (set_up_as B k w) (set_up_as C l w);
    stores = same_store;
    loads = λ s bytes. same_given (B.load s) (C.load s) (ours.load s) (load_as B k s bytes) (load_as C l s bytes);
    digests = λ s. k.speaks_pjlink.digest s ∙ sym (l.speaks_pjlink.digest s);
    commands = λ c secured random password m.
        command_as B k c secured random password m ∙ sym (command_as C l c secured random password m);
    replies = λ c s. reply_as B k c s ∙ sym (reply_as C l c s);
    greetings = λ s. greeting_as B k s ∙ sym (greeting_as C l s);
  }
