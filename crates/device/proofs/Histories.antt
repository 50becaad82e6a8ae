-- What a history needs of receiving (RULES, Time: power follows from the power sets answered OK and the seconds
-- passed). An outsider keeps all bytes taken, in a row. What the connection holds is the end of that stream; and a call
-- either leaves power, seconds left and lamps as they were, with a reply that is not `%1POWR=OK`, or it is the power
-- set that stands at the end of the stream, answered OK and carried out.
--   StreamEffect s o w r k     the stream w, replied to by r, leaves the own part k of o
--   Tells s o w r k e          that, the lamps and their marks kept, and what the connection e holds then
-- Assumes nothing.
use Rattle.std.proofs.Common.{ℕ, ◌+◌, ◌≡◌, refl, sym, ap, subst, ◌∙◌, Bool, true, false, List, [], ◌∷◌, ◌++◌}
use Rattle.std.proofs.Common.{append_assoc, append-nil, arith, take, drop, take-append-drop, eqb-true, codes, Ok}
use Rattle.std.proofs.lemmas.Bool.{eqb-false}
use Prim.Native.Char.{code}
use Rattle.text.specs.Outcomes.{CallResult, number_answered}
use Rattle.pjlink.specs.Forms.{reply_line}
use Rattle.pjlink.specs.declared.body.Body.TheVariants.{Powr}
use Rattle.pjlink.specs.declared.command.Command.TheVariants.{PowerSet}
use Rattle.pjlink.specs.Bodies.{is_body}
use Rattle.pjlink.specs.Said.{okay}
use Rattle.record.specs.Limits.{phase_closed, phase_awaiting, phase_open}
use Rattle.record.specs.Legal.{is_collecting, held_most, is_connection}
use Rattle.record.specs.Record.{closed}
use Rattle.record.specs.Places.{connection_at}
use Rattle.record.specs.declared.refusal.Refusal.{Refusal}
use Rattle.record.specs.declared.types.Settings.{Settings}
use Rattle.record.specs.declared.types.Own.{Own}
use Rattle.record.specs.declared.types.Connection.{Connection}
use Rattle.record.specs.declared.types.Device.{Device}
use Rattle.record.proofs.LegalTold.{legal_connection, legal_places}
use Rattle.record.proofs.ConnectionsTold.{placed_here, placed_either}
use Rattle.record.proofs.ConnectionTold.{closed_holds_none, held_within, held_most_none}
use Rattle.record.proofs.FactsTold.{connection_is}
use Rattle.stream.specs.Collecting.{Gathered}
use Rattle.stream.specs.Collecting.{line_text, empty_line, gathered_from}
use Rattle.meaning.specs.Meaning.{answer_for, after_request}
use Rattle.meaning.proofs.Done.{Keeps}
use Rattle.device.specs.Receiving.{Taken, digest_long, line_ended, keeping_line, taken_in}
use Rattle.device.specs.Calls.{received_at, new_connection, opened_by, closed_by}
use Rattle.device.proofs.Cases.{received_by, opened_by_lem, closed_by_lem}
use Rattle.device.proofs.LineCases.{ended_by, taken_by}
use Rattle.device.proofs.Legal.{collecting, line_legal}
use Rattle.device.proofs.Untouched.{taken_keeps}
use Rattle.stream.proofs.LinesSpelt.{empty_held}
use Rattle.stream.proofs.LastBytes.{Ends, ends_with, ends_trans, ends_unheld, gathered_ends, taken_with_cr}
use Rattle.device.proofs.PowerLines.{is_power_okay, power_line, PowerEffect, quiet, sets, line_effect}

pub data StreamEffect (s : Settings) (o : Own) (stream reply : List ℕ) (k : Own) : Type 0 where
  stays : is_power_okay reply ≡ false → k.power ≡ o.power → k.left ≡ o.left → StreamEffect s o stream reply k
  turns : (a b c d : ℕ) (wanted : Bool) → is_body 1 (a ∷ b ∷ c ∷ d ∷ []) Powr ≡ true
      → Ends stream (power_line a b c d wanted ++ codes "\r")
      → reply ≡ reply_line (code "1") (a ∷ b ∷ c ∷ d ∷ []) (codes "OK")
      → answer_for s o (Ok (PowerSet wanted)) ≡ okay → k ≡ after_request s o (Ok (PowerSet wanted))
      → StreamEffect s o stream reply k

-- the stream's last line
in_stream : (s : Settings) (o : Own) {w l r : List ℕ} {k : Own} → Ends w (l ++ codes "\r") → PowerEffect s o l r k
    → StreamEffect s o w r k
in_stream s o e (quiet n p q) = stays n p q
in_stream s o {w} {l} {r} {k} e (sets a b c d wanted powr spelt reply said own) =
    turns a b c d wanted powr (rw spelt at e) reply said own

pub record Tells (s : Settings) (o : Own) (stream reply : List ℕ) (k : Own) (e : Connection) : Type 0 where
  pub effect : StreamEffect s o stream reply k
  pub lamps : k.lamps ≡ o.lamps
  pub marks : k.enabled ≡ o.enabled
  pub last : Ends stream (line_text e.line)

-- an outsider's stream, which ends in what the connection held, goes on by what is taken
module _ (s : Settings) (o : Own) {w h : List ℕ} (known : Ends w h) (x : List ℕ) {reply : List ℕ} {k : Own} where
  effect_on : StreamEffect s o (h ++ x) reply k → StreamEffect s o (w ++ x) reply k
  effect_on (stays n p q) = stays n p q
  effect_on (turns a b c d wanted powr line said answer_for own) =
      turns a b c d wanted powr (ends_trans (ends_with x known) line) said answer_for own

  pub tells_on : {e : Connection} → Tells s o (h ++ x) reply k e → Tells s o (w ++ x) reply k e
  tells_on t = search (arith, effect_on, ends_trans, ends_with)

-- a legal connection that is neither awaiting nor open holds nothing
unheld : (c : Connection) → is_connection c ≡ true → (c.phase ≡ phase_open → ⊥) → (c.phase ≡ phase_awaiting → ⊥)
    → c.line.held ≡ 0
unheld c legal n m = grind (arith, held_most_none, held_within, connection_is)

module _ (s : Settings) (o : Own) (c : Connection) (bs : List ℕ) (legal : is_connection c ≡ true) where
  abbrev gathers : Gathered
  gathers = gathered_from (held_most c.phase) c.line bs

  -- all that this connection was sent of its line, after n bytes more
  abbrev sent : ℕ → List ℕ
  sent n = line_text c.line ++ take n bs

  part_last : (c.phase ≡ phase_closed → ⊥) → Ends (sent gathers.before) (line_text (keeping_line c gathers.line).line)
  unfolding keeping_line
  part_last live = grind (arith, eqb-true, ends_unheld, unheld, gathered_ends, collecting, connection_is)

  module _ (cr : gathers.ended ≡ true) where
    abbrev stream : List ℕ
    stream = sent (gathers.before + 1)

    line_sent_whole : is_collecting c.phase ≡ true → Ends stream (line_text gathers.line ++ codes "\r")
    line_sent_whole k =
        let all : stream ≡ sent gathers.before ++ codes "\r"
        = ap (λ (x : List ℕ). line_text c.line ++ x) (taken_with_cr (held_most c.phase) c.line bs cr)
        ∙ sym (append_assoc (line_text c.line) (take gathers.before bs) (codes "\r")) in
        rw all (ends_with (codes "\r") (gathered_ends c.phase c.line bs k (line_legal c legal)))

    rest_sent : is_collecting c.phase ≡ true
        → Ends stream (drop digest_long (line_text gathers.line) ++ codes "\r")
    rest_sent k =
        let text = line_text gathers.line in
        ends_trans (line_sent_whole k)
        (ends_with (codes "\r")
        (record { before = take digest_long text; split = sym (take-append-drop digest_long text) }))

    line_told : StreamEffect s o stream (line_ended s o c gathers.line).reply (line_ended s o c gathers.line).own
    line_told =
        ended_by s o c gathers.line (λ e. StreamEffect s o stream e.reply e.own)
        (λ p m. stays refl refl refl)
        (λ p m. in_stream s o (line_sent_whole (ap is_collecting p)) (line_effect s o (line_text gathers.line)))
        (λ p m. in_stream s o (rest_sent (ap is_collecting p))
        (line_effect s o (drop digest_long (line_text gathers.line))))
        (λ p m. stays refl refl refl) (λ p q. stays refl refl refl)

    line_last : Ends stream (line_text (line_ended s o c gathers.line).connection.line)
    unfolding line_ended
    line_last = grind (arith, ends_unheld, empty_held, unheld)

  abbrev TellsOf : Taken → Type 0
  TellsOf t = Tells s o (sent t.taken) t.ended.reply t.ended.own t.ended.connection

  pub taken_tells : (c.phase ≡ phase_closed → ⊥) → TellsOf (taken_in s o c bs)
  taken_tells live =
      let Told : Taken → Type 0 = λ t. Keeps o t.ended.own → TellsOf t in
      taken_by s o c bs Told
      (λ cr kept. record { effect = line_told cr; lamps = kept.lamps; marks = kept.marks; last = line_last cr })
      (λ none kept.
      record { effect = stays refl refl refl; lamps = kept.lamps; marks = kept.marks; last = part_last live })
      (taken_keeps s o c bs)

-- receiving, on any input: refused, it takes nothing and leaves the record
pub received_tells : (d : Device) (p : ℕ) (bs : List ℕ) (room : ℕ) → let r = received_at d p bs room in
    Tells d.settings d.own (line_text (connection_at d p).line ++ take (number_answered r) bs) r.bytes r.leaves.own
    (connection_at r.leaves p)
received_tells d p bs room =
    let here = connection_at d p in
    let held = line_text here.line in
    let Told : CallResult Refusal ℕ Device → Type 0 = λ r.
    Tells d.settings d.own (held ++ take (number_answered r) bs) r.bytes r.leaves.own
    (connection_at r.leaves p) in
    let nothing : Tells d.settings d.own (held ++ []) [] d.own here = record {
      effect = stays refl refl refl;
      lamps = refl;
      marks = refl;
      last = record { before = []; split = append-nil held };
    } in
    received_by d p bs room Told (λ e some. nothing)
    (λ h s t c. let took = taken_in d.settings d.own here bs in
    subst (Tells d.settings d.own (held ++ take took.taken bs) took.ended.reply took.ended.own)
    (sym (placed_here d (legal_places d h) p t took.ended.own took.ended.connection))
    (taken_tells d.settings d.own here bs (legal_connection d h p t) (eqb-false here.phase phase_closed c)))

-- at each place opening and closing leave a connection that holds nothing, or as it was
abbrev held : Connection → List ℕ
held c = line_text c.line

module _ (d : Device) (q : ℕ) (w : List ℕ) (known : Ends w (held (connection_at d q))) where
  abbrev EndsIt : Connection → Type 0
  EndsIt c = Ends w (held c)

  abbrev Ending : {A : Type 0} → CallResult Refusal A Device → Type 0
  Ending k = EndsIt (connection_at k.leaves q)

  pub opening_tells : (r room : ℕ) → Ends w (held (connection_at (opened_by d r room).leaves q))
  unfolding new_connection
  opening_tells r room =
      opened_by_lem d r room Ending (λ e some. known)
      (λ h s c. placed_either EndsIt d d.own _ _ q (ends_unheld w empty_line empty_held) known)

  pub closing_tells : (p : ℕ) → Ends w (held (connection_at (closed_by d p).leaves q))
  closing_tells p =
      closed_by_lem d p Ending (λ e some. known)
      (λ h t c. placed_either EndsIt d d.own p _ q (ends_unheld w closed.line closed_holds_none) known)
