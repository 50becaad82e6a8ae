-- Receiving, under fixed settings and in every phase that is not closed, is the one call of a machine.
--   State                  its state: the own part and a connection
--   takes_in s m bs        what receiving takes in, as a machine's call
--   collects, ends         what the projector does with a byte that is no CR; with CR
-- Assumes nothing.
use Rattle.std.proofs.Common.{ℕ, ◌≤◌, ◌≡◌, refl, sym, ap, ◌∙◌, Bool, false, List, arith, ◌==◌}
use Rattle.std.proofs.lemmas.Bool.{eqb-false}
use Prim.Native.Char.{code}
use Rattle.text.proofs.Choices.{if_no}
use Rattle.record.specs.Limits.{phase_closed, phase_awaiting, phase_open, phase_failed}
use Rattle.record.specs.Updates.{with_line}
use Rattle.record.specs.Legal.{held_most}
use Rattle.record.specs.declared.types.Settings.{Settings}
use Rattle.record.specs.declared.types.Own.{Own}
use Rattle.record.specs.declared.types.CollectedLine.{CollectedLine}
use Rattle.record.specs.declared.types.Connection.{Connection}
use Rattle.stream.specs.Collecting.{Gathered}
use Rattle.stream.specs.Collecting.{line_after, gathered_from}
use Rattle.stream.specs.Machine.{Out, Took, took_bytes, one_call}
use Rattle.stream.proofs.OneCallGathers.{finished, call_finishes}
use Rattle.device.specs.Receiving.{Ended, Taken, is_match, line_ended, keeping_line, taken_in}
use Rattle.device.proofs.LineCases.{ended_other, keeping_none, keeping_line_lem}

pub record State : Type 0 where
  pub own : Own
  pub connection : Connection

abbrev pub state_of : Own → Connection → State
state_of o c = record { own = o; connection = c }

abbrev pub leaves : Ended → Out State
leaves e = record { state = state_of e.own e.connection; reply = e.reply }

abbrev pub as_call : Taken → Took State
as_call t = took_bytes t.taken (leaves t.ended)

abbrev pub takes_in : Settings → State → List ℕ → Took State
takes_in s m bs = as_call (taken_in s m.own m.connection bs)

abbrev pub collects : State → ℕ → State
collects m b =
    let c = m.connection in
    state_of m.own (keeping_line c (line_after (held_most c.phase) c.line b))

abbrev pub ends : Settings → State → Out State
ends s m = leaves (line_ended s m.own m.connection m.connection.line)

-- what CR does to a line does not depend on the line that the connection holds, unless it has failed
module _ (s : Settings) (o : Own) (c : Connection) (l : CollectedLine) where
  line_ended-with_line : (t u : Bool) → (c.phase == phase_open) ≡ t → (c.phase == phase_awaiting) ≡ u →
      (t ≡ false → u ≡ false → ⊥)
      → line_ended s o (with_line c l) l ≡ line_ended s o c l
  unfolding line_ended is_match
  line_ended-with_line t u h g e = grind arith

module _ (s : Settings) (o : Own) (c : Connection) (bs : List ℕ) where
  abbrev gathers : Gathered
  gathers = gathered_from (held_most c.phase) c.line bs

  abbrev ended : CollectedLine → Out State
  ended l = leaves (line_ended s o c l)

  abbrev called : Took State
  called = one_call (code "\r") State collects (ends s) (state_of o c) bs

  -- `keep` says what is kept of a line
  takes_finishes : (keep : CollectedLine → State) → ((l : CollectedLine) → state_of o (keeping_line c l) ≡ keep l)
      → as_call (taken_in s o c bs) ≡ finished keep ended gathers
  unfolding keeping_line taken_in
  takes_finishes keep kept = grind (arith, if_no)

  -- failed: no byte is kept
  failed_call : c.phase ≡ phase_failed → as_call (taken_in s o c bs) ≡ called
  failed_call f =
      let kept : (l : CollectedLine) → state_of o (keeping_line c l) ≡ state_of o c = λ l.
      ap {B = State} (state_of o) (keeping_none c l f) in
      let ignored : (l : CollectedLine) → ended c.line ≡ ended l = λ l.
      let here = ended_other s o c c.line (λ p. omega arith) (λ p. omega arith) in
      let there = ended_other s o c l (λ p. omega arith) (λ p. omega arith) in
      ap leaves (here ∙ sym there) in
      takes_finishes (λ l. state_of o c) kept
      ∙ sym (call_finishes State collects (ends s) (held_most c.phase) (λ l. state_of o c) ended (λ l b. kept _)
      ignored c.line bs)

  -- awaiting or open: the line is
  collecting_call : c.phase ≤ phase_failed → (c.phase ≡ phase_closed → ⊥) → (c.phase ≡ phase_failed → ⊥)
      → as_call (taken_in s o c bs) ≡ called
  collecting_call known live n =
      let most = held_most c.phase in
      let keep : CollectedLine → State = λ l. state_of o (with_line c l) in
      let one_more : (l : CollectedLine) (b : ℕ) → collects (keep l) b ≡ keep (line_after most l b) = λ l b.
      ap {B = State} (state_of o) (keeping_line_lem (with_line c l) (line_after most l b) n) in
      let same : (l : CollectedLine) → ends s (keep l) ≡ ended l = λ l.
      ap leaves
      (line_ended-with_line s o c l (c.phase == phase_open) (c.phase == phase_awaiting) refl refl
      (λ p q. omega (arith, eqb-false c.phase phase_open p, eqb-false c.phase phase_awaiting q))) in
      takes_finishes keep (λ l. ap {B = State} (state_of o) (keeping_line_lem c l n))
      ∙ sym (call_finishes State collects (ends s) most keep ended one_more same c.line bs)

  by_phase : (t : Bool) → (c.phase == phase_failed) ≡ t → c.phase ≤ phase_failed → (c.phase ≡ phase_closed → ⊥)
      → as_call (taken_in s o c bs) ≡ called
  by_phase t h g e = grind (arith, failed_call, collecting_call)

  pub takes_in-state_of : c.phase ≤ phase_failed → (c.phase ≡ phase_closed → ⊥)
      → takes_in s (state_of o c) bs ≡ one_call (code "\r") State collects (ends s) (state_of o c) bs
  takes_in-state_of known live = by_phase (c.phase == phase_failed) refl known live
