-- What is seen at a place is what its connection alone gets of its own stream (RULES, Places): each call at the place
-- does to the connection there what it would do alone with the own part of that moment, and a call elsewhere does
-- nothing to it. Receiving on the parts is one call of a machine, so the bytes are all collected, or collected up to
-- a CR that ends their line.
--   Hears s c h k      of what is seen, h, the connection c alone makes the connection k, whatever follows
-- Assumes nothing.
use Rattle.std.specs.List.{list_all}
use Rattle.std.proofs.Common.{ℕ, ◌+◌, ◌≡◌, refl, ap, ◌∙◌, true, false, List, [], ◌∷◌, ◌++◌, arith, ◌==◌, ◌≤◌}
use Rattle.std.proofs.Common.{sym, subst, append_assoc, length, take, length-append, take_at, ◌<◌, append-nil, eqb-true}
use Rattle.std.proofs.lemmas.Bool.{not-true, eqb-false}
use Prim.Native.Char.{code}
use Rattle.text.specs.Outcomes.{number_answered}
use Rattle.text.proofs.Choices.{if_no, both_left, both_right, if_by}
use Rattle.words.specs.Bytes.{is_not_cr}
use Rattle.demands.specs.Interleaved.{line_ends, to_first_cr, HeardAt, heard_nothing, heard_then, heard_of}
use Rattle.demands.specs.Interleaved.{answered_first, alone_at, heard_in, heard, ByBytes, ByBytesOnly, alone_of}
use Rattle.demands.specs.Interleaved.{SeenAlone, Interleaved}
use Rattle.std.proofs.Math.Seq.{take-length}
use mathlib.Core.List.{foldl}
use Rattle.words.proofs.Characters.{no_cr_of}
use Rattle.record.specs.Limits.{phase_closed, phase_failed, places_count}
use Rattle.record.specs.declared.types.Settings.{Settings}
use Rattle.record.specs.declared.types.Own.{Own}
use Rattle.record.specs.declared.types.Connection.{Connection}
use Rattle.stream.specs.Machine.{Took, one_call}
use Rattle.stream.proofs.OneCallGathers.{call_by}
use Rattle.device.specs.Receiving.{line_ended}
use Rattle.device.proofs.ReceivingAsMachine.{State, state_of, collects, ends, takes_in, takes_in-state_of, as_call}
use Rattle.demands.proofs.Sessions.{cr_seen}
use Rattle.record.specs.Legal.{is_legal}
use Rattle.record.specs.Places.{connection_at, is_closed}
use Rattle.record.specs.declared.types.Device.{Device}
use Rattle.record.proofs.LegalTold.{legal_places, connection_of_legal}
use Rattle.record.proofs.ConnectionsTold.{placed_here}
use Rattle.device.specs.Calls.{reply_room, received_at}
use Rattle.device.proofs.Cases.{received_by, received_taken, takes}
use Rattle.device.proofs.Untouched.{receiving_keeps_others}
use Rattle.ours.specs.Board.{ours, reply}
use Rattle.demands.specs.Calls.{Call, receives, after, run}
use Rattle.demands.proofs.KeepsRunning.{over_front}
use Rattle.demands.proofs.CallsDo.{settings_stay}

abbrev pub cr : List ℕ
cr = code "\r" ∷ []

pub first_plain : (b : ℕ) (bs : List ℕ) → list_all is_not_cr (b ∷ bs) ≡ true → (b == code "\r") ≡ false
first_plain b bs p = not-true (b == code "\r") (both_left (is_not_cr b) (list_all is_not_cr bs) p)

pub rest_plain : (b : ℕ) (bs : List ℕ) → list_all is_not_cr (b ∷ bs) ≡ true → list_all is_not_cr bs ≡ true
rest_plain b bs p = both_right (is_not_cr b) (list_all is_not_cr bs) p

pub no_end : (xs : List ℕ) → list_all is_not_cr xs ≡ true → line_ends xs ≡ 0
no_end [] p = refl
no_end (x ∷ xs) p = if_no _ _ (first_plain x xs p) ∙ no_end xs (rest_plain x xs p)

pub one_end : (xs : List ℕ) → list_all is_not_cr xs ≡ true → line_ends (xs ++ cr) ≡ 1
one_end [] p = refl
one_end (x ∷ xs) p = if_no _ _ (first_plain x xs p) ∙ one_end xs (rest_plain x xs p)

pub all_taken : (xs : List ℕ) → list_all is_not_cr xs ≡ true → to_first_cr xs ≡ xs
all_taken [] p = refl
all_taken (x ∷ xs) p = if_no _ _ (first_plain x xs p) ∙ ap (λ (l : List ℕ). x ∷ l) (all_taken xs (rest_plain x xs p))

pub line_taken : (xs more : List ℕ) → list_all is_not_cr xs ≡ true → to_first_cr (xs ++ (code "\r" ∷ more)) ≡ xs ++ cr
line_taken [] more p = refl
line_taken (x ∷ xs) more p = grind (arith, line_taken xs more (rest_plain x xs p))

pub ends_add : (xs ys : List ℕ) → line_ends (xs ++ ys) ≡ line_ends xs + line_ends ys
ends_add [] ys = omega arith
ends_add (x ∷ xs) ys = grind (arith, ends_add xs ys)

-- collecting leaves the own part as it was
own_stays : (o : Own) (c : Connection) (xs : List ℕ) → (foldl collects (state_of o c) xs).own ≡ o
own_stays o c [] = refl
own_stays o c (x ∷ xs) = own_stays o (collects (state_of o c) x).connection xs

-- ---- what is heard

module _ (s : Settings) where
  pub record Hears (c : Connection) (h : HeardAt) (k : Connection) : Type 0 where
    pub goes_on : (owns : List Own) (rest : List ℕ)
        → alone_at s c (h.owns ++ owns) (h.taken ++ rest) ≡ answered_first h.replied (alone_at s k owns rest)
    pub lines : length h.owns ≡ line_ends h.taken

  pub hears_nothing : (c : Connection) → Hears c heard_nothing c
  hears_nothing c = record { goes_on = λ owns rest. refl; lines = refl }

  alone_at-append : (o : Own) (c : Connection) (owns : List Own) (xs rest : List ℕ) → list_all is_not_cr xs ≡ true
      → alone_at s c owns (xs ++ rest) ≡ alone_at s (foldl collects (state_of o c) xs).connection owns rest
  unfolding alone_at
  alone_at-append o c owns [] rest p = refl
  alone_at-append o c owns (x ∷ xs) rest p =
      let k = (collects (state_of o c) x).connection in
      if_no _ _ (first_plain x xs p) ∙ alone_at-append o k owns xs rest (rest_plain x xs p)

  module _ (o : Own) (c : Connection) (xs : List ℕ) (none : list_all is_not_cr xs ≡ true) where
    abbrev gathered : State
    gathered = foldl collects (state_of o c) xs

    hears_part : Hears c (heard_of o xs []) gathered.connection
    hears_part = grind (arith, no_cr_of, alone_at-append, no_end)

    hears_line : Hears c (heard_of o (xs ++ cr) (ends s gathered).reply) (ends s gathered).state.connection
    unfolding alone_at
    hears_line =
        record {
          goes_on = λ owns rest.
              ap (λ (l : List Own). alone_at s c (l ++ owns) (xs ++ cr ++ rest)) (if_no _ _ (cr_seen [] xs))
              ∙ ap (alone_at s c (o ∷ owns)) (append_assoc xs cr rest)
              ∙ alone_at-append o c (o ∷ owns) xs (code "\r" ∷ rest) none
              ∙ (λ i. let k = gathered.connection in
              let e = line_ended s (sym (own_stays o c xs) i) k k.line in
              answered_first e.reply (alone_at s e.connection owns rest));
          lines = ap length (if_no _ _ (cr_seen [] xs)) ∙ sym (one_end xs none);
        }

  -- a call that took nothing
  pub hears_none : (o : Own) (c : Connection) → Hears c (heard_of o [] []) c
  hears_none o c = hears_part o c [] refl

  -- ---- one call on the parts

  pub record OneCall (o : Own) (c : Connection) (bs : List ℕ) (t : Took State) : Type 0 where
    pub seen : Hears c (heard_of o (take t.taken bs) t.reply) t.state.connection
    pub taken : take t.taken bs ≡ to_first_cr bs

  module _ (o : Own) (c : Connection) (bs : List ℕ) where
    call_heard : OneCall o c bs (one_call (code "\r") State collects (ends s) (state_of o c) bs)
    call_heard =
        call_by (code "\r") State collects (ends s) (state_of o c) bs (OneCall o c)
        (λ none.
        let k = (foldl collects (state_of o c) bs).connection in
        let all = take-length bs in
        record {
          seen = subst (λ (u : List ℕ). Hears c (heard_of o u []) k) (sym all) (hears_part o c bs none);
          taken = all ∙ sym (all_taken bs none);
        })
        (λ xs more none.
        let e = ends s (foldl collects (state_of o c) xs) in
        let n = length xs + 1 in
        let line : take n (xs ++ (code "\r" ∷ more)) ≡ xs ++ cr =
        ap (take n) (sym (append_assoc xs cr more)) ∙ take_at (xs ++ cr) more n (length-append xs cr) in
        record {
          seen = subst (λ (u : List ℕ). Hears c (heard_of o u e.reply) e.state.connection) (sym line)
              (hears_line o c xs none);
          taken = line ∙ sym (line_taken xs more none);
        })

    pub taking_heard : c.phase ≤ phase_failed → (c.phase ≡ phase_closed → ⊥)
        → OneCall o c bs (takes_in s (state_of o c) bs)
    taking_heard known live = subst (OneCall o c bs) (sym (takes_in-state_of s o c bs known live)) call_heard

  -- ---- one call after the first

  pub hears_then : {c k e : Connection} {h g : HeardAt} → Hears c h k → Hears k g e → Hears c (heard_then h g) e
  hears_then first second = grind (arith, append_assoc, length-append, ends_add)

module _ (q : ℕ) (d : Device) where
  abbrev HeardThere : HeardAt → Connection → Type 0
  HeardThere h k = Hears d.settings (connection_at d q) h k

  module _ (bs m : List ℕ) where
    -- an accepted call there
    accepted_call : is_legal d ≡ true → q < places_count → is_closed (connection_at d q) ≡ false
        → OneCall d.settings d.own (connection_at d q) bs (as_call (takes d q bs))
    accepted_call legal there live =
        let c = connection_at d q in
        taking_heard d.settings d.own c bs (connection_of_legal d legal q there).phase
        (eqb-false c.phase phase_closed live)

    call_there : let r = ours.receive d q bs m in
        HeardThere (heard_of d.own (take r.taken bs) (reply r)) (connection_at r.device q)
    call_there =
        let c = received_at d q bs (length m) in
        subst (λ (s : List ℕ). HeardThere (heard_of d.own (take (number_answered c) bs) s) (connection_at c.leaves q))
        (sym (over_front c.bytes m))
        (received_by d q bs (length m)
        (λ k. HeardThere (heard_of d.own (take (number_answered k) bs) k.bytes) (connection_at k.leaves q))
        (λ n z. hears_none d.settings d.own (connection_at d q))
        (λ legal enough there live.
        let t = takes d q bs in
        subst (HeardThere (heard_of d.own (take t.taken bs) t.ended.reply))
        (sym (placed_here d (legal_places d legal) q there t.ended.own t.ended.connection))
        (accepted_call legal there live).seen))

    takes_a_line : is_legal d ≡ true → q < places_count → is_closed (connection_at d q) ≡ false → reply_room ≤ length m
        → let r = ours.receive d q bs m in (r.number ≡ 0) × (take r.taken bs ≡ to_first_cr bs)
    takes_a_line legal there live enough = grind (arith, received_taken, accepted_call)

  -- a call that leaves the connection there as it was, and is not heard
  untouched : {k : Connection} → k ≡ connection_at d q → HeardThere heard_nothing k
  untouched same = subst (HeardThere heard_nothing) (sym same) (hears_nothing d.settings (connection_at d q))

  any_call : (c : Call) → ByBytes ours q d c → HeardThere (heard_in ours q d c) (connection_at (after ours d c) q)
  any_call (receives p bs m) h =
      if_by (λ (k : HeardAt). HeardThere k (connection_at (ours.receive d p bs m).device q)) (p == q)
      (λ e. subst
      (λ (x : ℕ). let r = ours.receive d x bs m in
      HeardThere (heard_of d.own (take r.taken bs) (reply r)) (connection_at r.device q))
      (sym (eqb-true p q e)) (call_there bs m))
      (λ e. untouched (receiving_keeps_others d p bs (length m) q (λ z. eqb-false p q e (sym z))))
  any_call c h = untouched h

module _ (q : ℕ) where
  all_calls : (d : Device) (cs : List Call) → ByBytesOnly ours q d cs
      → Hears d.settings (connection_at d q) (heard ours q d cs) (connection_at (run ours d cs) q)
  all_calls d [] h = hears_nothing d.settings (connection_at d q)
  all_calls d (c ∷ cs) (h, hs) =
      let e = after ours d c in
      hears_then d.settings (any_call q d c h)
      (subst (λ (s : Settings). Hears s (connection_at e q) (heard ours q e cs) (connection_at (run ours e cs) q))
      (settings_stay d c) (all_calls e cs hs))

  module _ (d : Device) (cs : List Call) (h : ByBytesOnly ours q d cs) where
    abbrev end : Connection
    end = connection_at (run ours d cs) q

    alone_is : alone_of ours q d cs ≡ record { reply = (heard ours q d cs).replied; connection = end }
    unfolding alone_at
    alone_is =
        let k = heard ours q d cs in
        (λ i. alone_at d.settings (connection_at d q) (sym (append-nil k.owns) i) (sym (append-nil k.taken) i))
        ∙ (all_calls d cs h).goes_on [] []
        ∙ (λ i. record { reply = append-nil k.replied i; connection = end })

    as_alone : SeenAlone ours q d cs
    as_alone = grind (arith, alone_is, all_calls)

pub interleaved : Interleaved ours
interleaved = grind (arith, takes_a_line, as_alone)
