-- What a record shows can be said by a stated line.
-- Assumes nothing.
use Rattle.std.specs.List.{list_all}
use Rattle.std.proofs.Common.{ℕ, ◌-◌, ◌≤◌, ◌≡◌, true, not, List, [], ◌∷◌, ◌++◌, arith, refl, sym, ap, subst, ◌∙◌}
use Rattle.std.proofs.Common.{length, length-append, le-leb, codes, append_assoc, slice_index_or, take}
use Rattle.std.proofs.lemmas.List.{append-nil}
use Rattle.std.proofs.lemmas.Bool.Decides.{nat_tests}
use Rattle.std.proofs.Math.Seq.{get_or-append_right}
use Rattle.text.specs.Words.{◌is◌}
use Rattle.text.proofs.Choices.{both}
use Rattle.text.proofs.InTurn.{list_all-each_in_turn}
use Rattle.text.proofs.Scanning.{list_all-append}
use Rattle.numbers.specs.Decimal.{digits, is_digit}
use Rattle.numbers.proofs.Digits.{digits_at_least_1, is_digit-slice_index_or}
use Rattle.record.specs.declared.types.Device.{Device}
use Rattle.history.specs.Lines.{is_plain, is_printable}
use Rattle.history.specs.Entries.{stated, is_sayable_entry, shown_most}
use Rattle.history.specs.Shown.{lamp_shown, lamps_shown, power_and_lamps, device_shown}
use Rattle.history.proofs.Printable.{digits_printable}

-- the last byte is no space
record EndsPlain (s : List ℕ) : Type 0 where
  some : 1 ≤ length s
  last : not (slice_index_or s (length s - 1) 0 is " ") ≡ true

ends_behind : (a b : List ℕ) → EndsPlain b → EndsPlain (a ++ b)
ends_behind a b e =
    let long = length-append a b in
    let place : length (a ++ b) - 1 - length a ≡ length b - 1 = omega (arith, long, e.some) in
    let same : slice_index_or (a ++ b) (length (a ++ b) - 1) 0 ≡ slice_index_or b (length b - 1) 0
    = get_or-append_right a b (length (a ++ b) - 1) 0 (omega (arith, long, e.some))
    ∙ ap (λ (k : ℕ). slice_index_or b k 0) place in
    record {
      some = omega (arith, long, e.some);
      last = ap (λ (b : ℕ). not (b is " ")) same ∙ e.last;
    }

digit_no_space : (b : ℕ) → is_digit b ≡ true → not (b is " ") ≡ true
digit_no_space b h = grind (arith, nat_tests)

number_ends : (n : ℕ) → EndsPlain (digits n)
number_ends n = record {
  some = digits_at_least_1 n;
  last = digit_no_space (slice_index_or (digits n) (length (digits n) - 1) 0)
      (is_digit-slice_index_or n (length (digits n) - 1) (omega (arith, digits_at_least_1 n)));
}

lamps_end : (xs a : List ℕ) → EndsPlain a → EndsPlain (a ++ lamps_shown xs)
lamps_end [] a e = subst EndsPlain (sym (append-nil a)) e
lamps_end (x ∷ xs) a e =
    subst EndsPlain (append_assoc a (lamp_shown x) (lamps_shown xs))
    (lamps_end xs (a ++ lamp_shown x)
    (ends_behind a (lamp_shown x) (ends_behind (codes " ") (digits x) (number_ends x))))

lamp_printable : (x : ℕ) → list_all is_printable (lamp_shown x) ≡ true
lamp_printable x = list_all-append is_printable (codes " ") (digits x) refl (digits_printable x)

module _ (power : ℕ) (lamps : List ℕ) where
  abbrev before : List ℕ
  before = codes "power " ++ digits power ++ codes " lamps"

  before_printable : list_all is_printable before ≡ true
  before_printable =
      list_all-append is_printable (codes "power " ++ digits power) (codes " lamps")
      (list_all-append is_printable (codes "power ") (digits power) refl (digits_printable power)) refl

  shown_printable : list_all is_printable (power_and_lamps power lamps) ≡ true
  shown_printable =
      list_all-append is_printable before (lamps_shown lamps) before_printable
      (list_all-each_in_turn lamp_shown is_printable lamp_printable lamps)

  before_ends : EndsPlain before
  before_ends =
      ends_behind (codes "power " ++ digits power) (codes " lamps") (record { some = omega arith; last = refl })

  shown_plain : is_plain (power_and_lamps power lamps) ≡ true
  unfolding is_plain
  shown_plain =
      let e = lamps_end lamps before before_ends in
      both (both (le-leb 1 (length (power_and_lamps power lamps)) e.some) e.last) shown_printable

pub shown_sayable : (d : Device) (n s : ℕ) → length (device_shown d) ≤ shown_most
    → is_sayable_entry (stated n s (device_shown d)) ≡ true
shown_sayable d n s few =
    both (shown_plain d.own.power (take d.settings.lamp_count d.own.lamps))
    (le-leb (length (device_shown d)) shown_most few)
