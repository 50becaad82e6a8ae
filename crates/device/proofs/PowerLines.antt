-- What a line does to the power, as its bytes and its reply's bytes show it: nothing, and the reply is not `%1POWR=OK`
-- in any case of letters; or the line is `%1POWR 0` or `%1POWR 1`, in any case of the body, answered OK and carried
-- out. POWR is a body of Class 1: a line of Class 2 sets no power (RULES, Class 2).
--   is_power_okay r        the reply r is `%1POWR=OK` and CR, in any case of letters
--   power_line a b c d w   the line that sets the power to w, with the body bytes a b c d
--   PowerEffect s o l r k  the line l, replied to by r, leaves the own part k of o
--   Outcome s o r m k      the request r, a POWR answered m, leaves the own part k of o: only a set that is answered OK
--                          is carried out
-- Assumes nothing.
use Rattle.std.proofs.Common.{arith, ℕ, ◌≡◌, refl, sym, ap, ◌∙◌, Bool, true, false, not, ◌&&◌, List, [], ◌∷◌, ◌++◌}
use Rattle.std.proofs.Common.{codes, Ok, Err}
use Rattle.std.proofs.lemmas.Bool.{false≢true}
use Prim.Native.Char.{code}
use Rattle.text.specs.Scans.{is_same_by}
use Rattle.text.proofs.Choices.{if_by}
use Rattle.words.specs.Bytes.{◌at◌, upper_of}
use Rattle.words.specs.Powers.{switch_code}
use Rattle.pjlink.specs.Forms.{head_body, class_of_byte, line_class, is_command_form, command_parameter, reply_line}
use Rattle.pjlink.specs.declared.body.Body.TheVariants.{Powr}
use Rattle.pjlink.specs.declared.command.Command.TheVariants.{PowerSet, Query}
use Rattle.pjlink.proofs.FormsSpelt.{taken_by, form_takes, form_spelt}
use Rattle.pjlink.specs.Bodies.{is_body}
use Rattle.pjlink.specs.Requests.{asked_of, Request}
use Rattle.pjlink.proofs.PowerAsked.{is_power_set, not_powr, powr_asked, power_parameter, powr_by}
use Rattle.pjlink.proofs.SaidRows.{said_row}
use Rattle.pjlink.specs.Said.{Said, okay, said_bytes}
use Rattle.record.specs.declared.types.Settings.{Settings}
use Rattle.record.specs.declared.types.Own.{Own}
use Rattle.record.specs.Views.{power_seen}
use Rattle.meaning.specs.Meaning.{answer_for, after_request, power_said, request_answer, carried_out}
use Rattle.meaning.proofs.PowerSets.{PowerTurn, stays, warms, cools, power_turns}
use Rattle.device.specs.Answering.{Answered, line_asks, command_answer, line_answer}
use Rattle.pjlink.specs.declared.request.Unasked.TheVariants.{Unlisted}
use Rattle.pjlink.proofs.OnlyOkay.{NotOkay, refusal_not_okay, power_not_okay, nothing_not_okay}
use Rattle.meaning.proofs.Cases.{Passes, refused_or_passed}

data Outcome (s : Settings) (o : Own) (r : Request) (m : Said) (k : Own) : Type 0 where
  unchanged : NotOkay m → k.power ≡ o.power → k.left ≡ o.left → Outcome s o r m k
  carried : (wanted : Bool) → r ≡ Ok (PowerSet wanted) → m ≡ okay → Outcome s o r m k

module _ (s : Settings) (o : Own) where
  abbrev Comes : Request → Type 0
  Comes r = Outcome s o r (answer_for s o r) (after_request s o r)

  -- refused, it does nothing
  comes : (r : Request) → (Passes s o r → Outcome s o r (request_answer s o r) (carried_out s o r)) → Comes r
  comes r = refused_or_passed s o r (Outcome s o r) (λ n. unchanged (refusal_not_okay n) refl refl)

  powr_comes : (p : List ℕ) → Comes (asked_of Powr p)
  powr_comes p =
      powr_by Comes p (comes (Ok (Query Powr)) (λ p. unchanged (power_not_okay (power_said (power_seen o))) refl refl))
      (λ wanted. comes (Ok (PowerSet wanted)) (λ p. carried wanted refl refl))
      (comes (Err (Unlisted Powr)) (λ p. unchanged nothing_not_okay refl refl))

-- a reply is `%1POWR=OK` exactly when its body is POWR and its parameter OK
abbrev pub is_power_okay : List ℕ → Bool
is_power_okay r = is_same_by upper_of r (codes "%1POWR=OK\r")

module _ (a b c d : ℕ) (p : List ℕ) where
  okay_by_parts : is_power_okay (reply_line (code "1") (a ∷ b ∷ c ∷ d ∷ []) p)
      ≡ (is_body 1 (a ∷ b ∷ c ∷ d ∷ []) Powr && is_same_by upper_of (p ++ (code "\r" ∷ [])) (codes "OK\r"))
  okay_by_parts = grind arith

reply_line-said_bytes : (h : ℕ) (s : List ℕ) (m : Said) → m ≡ okay
    → reply_line h s (said_bytes m) ≡ reply_line h s (codes "OK")
reply_line-said_bytes h s m e = grind (arith, said_row)

pub okay_reply : (a b c d : ℕ) → is_body 1 (a ∷ b ∷ c ∷ d ∷ []) Powr ≡ true
    → is_power_okay (reply_line (code "1") (a ∷ b ∷ c ∷ d ∷ []) (codes "OK")) ≡ true
okay_reply a b c d e = okay_by_parts a b c d (codes "OK") ∙ ap (λ (t : Bool). t && true) e

-- a line of the form with a parameter of one byte is spelt by its parts
abbrev pub power_line : (a b c d : ℕ) (wanted : Bool) → List ℕ
power_line a b c d wanted = codes "%1" ++ (a ∷ b ∷ c ∷ d ∷ []) ++ codes " " ++ (switch_code wanted ∷ [])

-- with its CR it is read, in any case of letters, as a set to that power and to no other
abbrev pub is_power_line : Bool → List ℕ → Bool
is_power_line v l = is_same_by upper_of l (codes "%1POWR " ++ (switch_code v ∷ codes "\r"))

abbrev is_same : Bool → Bool → Bool
is_same true v = v
is_same false v = not v

switch_read : (w v : Bool)
    → is_same_by upper_of (switch_code w ∷ codes "\r") (switch_code v ∷ codes "\r") ≡ is_same w v
switch_read w v = grind arith

same_itself : (w : Bool) → is_same w w ≡ true
same_itself w = grind arith

not_other : (w : Bool) → is_same w (not w) ≡ false
not_other w = grind arith

module _ (a b c d : ℕ) (powr : is_body 1 (a ∷ b ∷ c ∷ d ∷ []) Powr ≡ true) (wanted : Bool) where
  line_by_parts : (v : Bool) → is_power_line v (power_line a b c d wanted ++ codes "\r") ≡ is_same wanted v
  line_by_parts v = grind arith

  pub power_line_read : is_power_line wanted (power_line a b c d wanted ++ codes "\r") ≡ true
  power_line_read = line_by_parts wanted ∙ same_itself wanted

  pub power_line_not_other : is_power_line (not wanted) (power_line a b c d wanted ++ codes "\r") ≡ false
  power_line_not_other = line_by_parts (not wanted) ∙ not_other wanted

pub data PowerEffect (s : Settings) (o : Own) (l reply : List ℕ) (k : Own) : Type 0 where
  quiet : is_power_okay reply ≡ false → k.power ≡ o.power → k.left ≡ o.left → PowerEffect s o l reply k
  sets : (a b c d : ℕ) (wanted : Bool) → is_body 1 (a ∷ b ∷ c ∷ d ∷ []) Powr ≡ true → l ≡ power_line a b c d wanted
      → reply ≡ reply_line (code "1") (a ∷ b ∷ c ∷ d ∷ []) (codes "OK") → answer_for s o (Ok (PowerSet wanted)) ≡ okay
      → k ≡ after_request s o (Ok (PowerSet wanted)) → PowerEffect s o l reply k

module _ (s : Settings) (o : Own) (l : List ℕ) where
  abbrev EffectOf : Answered → Type 0
  EffectOf a = PowerEffect s o l a.reply a.own

  -- a reply under the class byte h
  abbrev reply_under : ℕ → List ℕ → List ℕ
  reply_under h p = reply_line h (head_body l) p

  abbrev is_powr : ℕ → Bool
  is_powr h = is_body (class_of_byte h) (head_body l) Powr

  abbrev said : List ℕ
  said = said_bytes (answer_for s o (line_asks l))

  -- no POWR: no power is set
  module _ (other : is_powr (l at 1) ≡ false) (quiet-reply : is_power_okay (reply_under (l at 1) said) ≡ false) where
    abbrev not_asked : is_power_set (line_asks l) ≡ false
    not_asked = not_powr (command_parameter l) (line_class l) (head_body l) other

    by_turn : PowerTurn s o (line_asks l) (answer_for s o (line_asks l)) (after_request s o (line_asks l))
        → EffectOf (command_answer s o l)
    by_turn (stays p q) = quiet quiet-reply p q
    by_turn (warms r m h p q) = absurd (false≢true (sym not_asked ∙ ap is_power_set r))
    by_turn (cools r m h p q) = absurd (false≢true (sym not_asked ∙ ap is_power_set r))

    no_power_set : EffectOf (command_answer s o l)
    no_power_set = by_turn (power_turns s o (line_asks l))

  module _ (form : is_command_form s.class_number l ≡ true) (first : l at 1 ≡ code "1") where
    module _ (powr : is_powr (code "1") ≡ true) where
      abbrev is_asked : line_asks l ≡ asked_of Powr (command_parameter l)
      is_asked = powr_asked (command_parameter l) (line_class l) (head_body l) (ap is_powr first ∙ powr)

      by_outcome : Comes s o (line_asks l) → EffectOf (command_answer s o l)
      by_outcome (unchanged n p q) = grind arith
      by_outcome (carried wanted r m) =
          sets (l at 2) (l at 3) (l at 4) (l at 5) wanted powr
          (form_spelt s.class_number l form
          ∙ (λ i. codes "%" ++ (first i ∷ head_body l) ++ codes " "
          ++ power_parameter (command_parameter l) wanted (sym is_asked ∙ r) i))
          (ap (λ (h : ℕ). reply_under h said) first
          ∙ reply_line-said_bytes (code "1") (head_body l) (answer_for s o (line_asks l)) m)
          (ap (answer_for s o) (sym r) ∙ m) (ap (after_request s o) r)

      powr_effect : EffectOf (command_answer s o l)
      powr_effect = by_outcome (rw is_asked (powr_comes s o (command_parameter l)))

    by_body : (t : Bool) → is_powr (code "1") ≡ t → EffectOf (command_answer s o l)
    by_body true e = powr_effect e
    by_body false e = grind (arith, no_power_set)

  by_class : is_command_form s.class_number l ≡ true → EffectOf (command_answer s o l)
  by_class form =
      taken_by (EffectOf (command_answer s o l)) s.class_number (l at 1) (form_takes s.class_number l form)
      (λ first. by_body form first (is_powr (code "1")) refl)
      (λ k second. no_power_set (ap is_powr second) (ap (λ (h : ℕ). is_power_okay (reply_under h said)) second))

  pub line_effect : PowerEffect s o l (line_answer s o l).reply (line_answer s o l).own
  unfolding line_answer
  line_effect =
      if_by EffectOf (is_command_form s.class_number l) by_class (λ n. quiet refl refl refl)
