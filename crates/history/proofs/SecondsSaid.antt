-- A line says no more seconds than a call lets pass.
-- Assumes nothing.
use Rattle.std.proofs.Common.{ℕ, ◌≤◌, ◌≡◌, refl, sym, ap, subst, ◌∙◌, Bool, true, false, List, Option, Some, None}
use Rattle.std.proofs.Common.{length, ◌&&◌, nat_le, leb-true, if◌then◌else◌}
use Rattle.std.specs.List.{list_all}
use Rattle.numbers.specs.Decimal.{digits, is_digit, decimal_value}
use Rattle.text.proofs.Choices.{both_right}
use Rattle.words.specs.Codec.{◌>>=◌}
use Rattle.history.specs.Calls.{passes}
use Rattle.history.specs.Lines.{number_most, is_shortest, call_text, decimal_in, passing_in, kind_in, call_in}
use Rattle.history.specs.Entries.{call, entry_text, entry_in}
use Rattle.history.proofs.OnlyLines.{only_line}

abbrev is_read : List ℕ → Bool
is_read s =
    nat_le 1 (length s) && nat_le (length s) 10 && is_shortest s && list_all is_digit s
    && nat_le (decimal_value s) number_most

abbrev read_if : Bool → List ℕ → Option ℕ
read_if t s = if t then Some (decimal_value s) else None

-- a number that is read is no more than a u32 holds
some_most : (s : List ℕ) (n : ℕ) (t : Bool) → is_read s ≡ t → read_if t s ≡ Some n → n ≤ number_most
some_most s n true is h =
    let value : decimal_value s ≡ n = cc in
    subst (λ (m : ℕ). m ≤ number_most) value
    (leb-true (decimal_value s) number_most
    (both_right (nat_le 1 (length s) && nat_le (length s) 10 && is_shortest s && list_all is_digit s) _ is))
some_most s n false is h = cc

decimal_most : (s : List ℕ) (n : ℕ) → decimal_in s ≡ Some n → n ≤ number_most
unfolding decimal_in
decimal_most s n h = some_most s n (is_read s) refl h

read_so : (o : Option ℕ) (n : ℕ)
    → ((o >>= λ m. Some (passes m)) >>= λ c. Some (call c)) ≡ Some (call (passes n)) → o ≡ Some n
read_so None n h = cc
read_so (Some m) n h = cc

pub passing_most : (l : List ℕ) (n : ℕ) → entry_in l ≡ Some (call (passes n)) → n ≤ number_most
unfolding entry_in entry_text call_text call_in kind_in passing_in
passing_most l n h =
    decimal_most (digits n) n
    (read_so (decimal_in (digits n)) n (sym (ap entry_in (only_line l (call (passes n)) h).0) ∙ h))
