-- A line that is handed on whole, with its CR, on a connection between lines: it is taken with its CR and answered, on
-- an open connection as it is, on an awaiting one behind the matching digest; and a command's line is answered what the
-- command means.
-- Assumes nothing.
use Rattle.std.specs.List.{list_all}
use Rattle.std.proofs.Common.{ℕ, ◌+◌, ◌≤◌, ◌<◌, ◌≡◌, refl, ap, ◌∙◌, true, List, [], ◌∷◌, ◌++◌, map, arith, length, take}
use Rattle.std.proofs.Common.{drop, length-append, take_at, drop_at, le-leb, codes, Ok}
use Prim.Native.Char.{code}
use Rattle.text.specs.Scans.{itself}
use Rattle.text.proofs.Choices.{both, if_yes, if_no}
use Rattle.text.proofs.Scanning.{list_all-append}
use Rattle.text.proofs.Sameness.{turned_same}
use Rattle.digest.specs.Hex.{leading_digest}
use Rattle.digest.proofs.Laws.{length-leading_digest, hex_are_digits, digits_have_no_cr}
use Rattle.words.specs.Bytes.{is_not_cr, command_most}
use Rattle.pjlink.specs.Forms.{head_body}
use Rattle.pjlink.specs.Commands.{body_text, body_of, command_class, class_digit, is_command, command_text}
use Rattle.pjlink.specs.declared.command.Command.{Command}
use Rattle.pjlink.proofs.BodiesNamed.{body_named_lem}
use Rattle.pjlink.proofs.CommandLines.{head_body-command_text, command_parameter-command_text, line_class-command_text}
use Rattle.pjlink.proofs.CommandLines.{command_form, command_of_higher_class}
use Rattle.pjlink.specs.Bodies.{is_body}
use Rattle.pjlink.specs.Requests.{request_of}
use Rattle.pjlink.proofs.CommandsAskedBack.{command_asked_back}
use Rattle.pjlink.specs.Said.{said_bytes}
use Rattle.record.specs.Limits.{line_room, phase_awaiting, phase_open}
use Rattle.record.specs.Record.{in_room}
use Rattle.record.specs.Legal.{held_most, is_settings}
use Rattle.record.specs.declared.types.Settings.{Settings}
use Rattle.record.specs.declared.types.Own.{Own}
use Rattle.record.specs.declared.types.Connection.{Connection}
use Rattle.record.proofs.Kept.{filled_take, room_first}
use Rattle.record.proofs.ConnectionTold.{held_most_opened, held_most_awaiting}
use Rattle.stream.specs.Collecting.{line_text, line_of, empty_line}
use Rattle.stream.proofs.LinesCollected.{empty_is_none, line_gathered}
use Rattle.meaning.specs.Meaning.{answer_for, after_request}
use Rattle.meaning.proofs.ClassKnown.{class_low, class_high}
use Rattle.device.specs.Answering.{line_asks, command_answer, line_swallowed, line_answer}
use Rattle.device.specs.Receiving.{served_line, is_match, digest_long, set_up_password, line_ended, taken_in}
use Rattle.device.proofs.LineCases.{ended_open, ended_match}
use Rattle.record.specs.Facts.{IsSettings}
use Rattle.record.proofs.FactsTold.{settings_is}

map-itself : (xs : List ℕ) → map itself xs ≡ xs
map-itself [] = refl
map-itself (x ∷ xs) = ap (λ (l : List ℕ). x ∷ l) (map-itself xs)

-- the text of a line is what was collected
line_text-line_of : (xs : List ℕ) → length xs ≤ line_room → line_text (line_of xs) ≡ xs
line_text-line_of xs h = filled_take line_room xs

module _ (s : Settings) (o : Own) (c : Connection) (empty : c.line ≡ empty_line) (rest : List ℕ) where
  whole_line : (xs : List ℕ) → length xs ≤ held_most c.phase → held_most c.phase ≤ line_room
      → list_all is_not_cr xs ≡ true
      → taken_in s o c (xs ++ (code "\r" ∷ rest))
      ≡ record { ended = line_ended s o c (line_of xs); taken = length xs + 1 }
  unfolding taken_in
  whole_line xs h room plain = grind (arith, empty_is_none, line_gathered)

  pub open_line-taken : (xs : List ℕ) → c.phase ≡ phase_open → length xs ≤ command_most → list_all is_not_cr xs ≡ true
      → taken_in s o c (xs ++ (code "\r" ∷ rest))
      ≡ record { ended = served_line c (line_answer s o xs); taken = length xs + 1 }
  open_line-taken xs phase short plain = grind (arith, held_most_opened, ended_open, line_text-line_of, whole_line)

  -- awaiting: the digest of the random number and the password stands before the line
  module _ (xs : List ℕ) where
    abbrev digest : List ℕ
    digest = leading_digest c.random (set_up_password s)

    abbrev led : List ℕ
    led = digest ++ xs

    digest_long_lem : length digest ≡ digest_long
    digest_long_lem = length-leading_digest c.random (set_up_password s)

    led_long : length led ≡ digest_long + length xs
    led_long = length-append digest xs ∙ ap (λ (n : ℕ). n + length xs) digest_long_lem

    led_matches : length xs ≤ command_most → is_match s c (line_of led) ≡ true
    unfolding is_match
    led_matches short =
        let front : take digest_long (in_room line_room led) ≡ digest
        = room_first line_room led digest_long (omega (arith, led_long))
        ∙ take_at digest xs digest_long digest_long_lem in
        both (le-leb digest_long (length led) (omega (arith, led_long)))
        (turned_same itself (take digest_long (in_room line_room led)) digest (map-itself _ ∙ front))

    drop-line_text : length xs ≤ command_most → drop digest_long (line_text (line_of led)) ≡ xs
    drop-line_text short =
        ap (drop digest_long) (line_text-line_of led (omega (arith, led_long)))
        ∙ drop_at digest xs digest_long digest_long_lem

    pub matching_line-taken : c.phase ≡ phase_awaiting → length xs ≤ command_most → list_all is_not_cr xs ≡ true
        → taken_in s o c (led ++ (code "\r" ∷ rest))
        ≡ record { ended = served_line c (line_answer s o xs); taken = digest_long + length xs + 1 }
    matching_line-taken phase short plain =
        let most : held_most c.phase ≡ line_room = ap held_most phase ∙ held_most_awaiting in
        let long = led_long in
        let ended : line_ended s o c (line_of led) ≡ served_line c (line_answer s o xs)
        = ended_match s o c (line_of led) phase (led_matches short)
        ∙ ap (λ (l : List ℕ). served_line c (line_answer s o l)) (drop-line_text short) in
        whole_line led (omega arith) (omega arith)
        (list_all-append is_not_cr digest xs (digits_have_no_cr digest (hex_are_digits _)) plain)
        ∙ (λ i. record { ended = ended i; taken = long i + 1 })

-- a command's line
module _ (s : Settings) (o : Own) (settings : is_settings s ≡ true) (k : Command) where
  abbrev known : IsSettings s
  known = (settings_is s).0 settings

  -- of a class higher than the set-up's: no form that it takes (RULES, Class 2)
  pub higher_swallowed : s.class_number < command_class k → line_answer s o (command_text k) ≡ line_swallowed o
  unfolding line_answer
  higher_swallowed higher =
      if_no (command_answer s o (command_text k)) (line_swallowed o)
      (command_of_higher_class k s.class_number (class_low s known) (class_high s known) higher)

  module _ (writable : is_command k ≡ true) (within : command_class k ≤ s.class_number) where
    line_asks-command_text : line_asks (command_text k) ≡ Ok k
    line_asks-command_text =
        (λ i. request_of (line_class-command_text k i) (head_body (command_text k))
        (command_parameter-command_text k i))
        ∙ command_asked_back k (head_body (command_text k)) writable
        (ap (λ (h : List ℕ). is_body (command_class k) h (body_of k)) (head_body-command_text k)
        ∙ (body_named_lem (body_of k)).own)

    -- class and body as sent, what the command means, and what it does
    pub command_answered : line_answer s o (command_text k) ≡ record {
      own = after_request s o (Ok k);
      reply =
          codes "%" ++ (class_digit (command_class k) ∷ body_text (body_of k)) ++ codes "="
          ++ said_bytes (answer_for s o (Ok k)) ++ codes "\r";
    }
    unfolding line_answer
    command_answered =
        if_yes (command_answer s o (command_text k)) (line_swallowed o)
        (command_form k s.class_number (class_low s known) (class_high s known) within)
        ∙ (λ i. record {
          own = after_request s o (line_asks-command_text i);
          reply =
              codes "%" ++ (class_digit (command_class k) ∷ head_body-command_text k i) ++ codes "="
              ++ said_bytes (answer_for s o (line_asks-command_text i)) ++ codes "\r";
        })
