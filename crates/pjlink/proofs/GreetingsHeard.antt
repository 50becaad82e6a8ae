-- The greeting reader takes each greeting and the ERRA line for what it is, and no other line for one of them (RULES,
-- Controller: "nothing more").
-- Assumes nothing.
use Rattle.std.proofs.Common.{ℕ, ◌^◌, ◌≤◌, ◌<◌, ◌≡◌, refl, sym, ap, ◌∙◌, true, List, map-id, arith, length, take, drop}
use Rattle.std.proofs.Common.{length-take, None, Some}
use Rattle.std.proofs.Math.Nat.{pow-le-pow_right}
use Rattle.text.specs.Scans.{is_same_by, itself}
use Rattle.text.proofs.Sameness.{same_is, turned_same}
use Rattle.digest.specs.Hex.{hex_digits}
use Rattle.digest.proofs.Laws.{hex_value_back, hex_value_below}
use Rattle.pjlink.specs.Forms.{erra_line, greeting_open, greeting_secured}
use Rattle.pjlink.specs.Greetings.{greets, random_in, read_greeting, Exactly, greeting_number}
use Rattle.pjlink.specs.declared.greeting.Greeting.TheVariants.{Open, Secured, Refused}
use Rattle.pjlink.proofs.GreetingCases.{greeting_by, greeting_secured_lem}

-- each line is read for what it is
pub open_heard : read_greeting greeting_open ≡ Some Open
unfolding read_greeting
open_heard = refl

pub erra_heard : read_greeting erra_line ≡ Some Refused
unfolding read_greeting
erra_heard = refl

module _ (r : ℕ) (word : r < 2 ^ 32) where
  abbrev line : List ℕ
  line = greeting_secured (hex_digits 8 r)

  random_back : random_in line ≡ r
  random_back = hex_value_back 8 r word

  pub secured_heard : read_greeting line ≡ Some (Secured r)
  secured_heard =
      let same : is_same_by itself line line ≡ true = turned_same itself line line (map-id line) in
      greeting_secured_lem line refl refl (ap (greets line) random_back ∙ same)
      ∙ ap (λ (n : ℕ). Some (Secured n)) random_back

-- and nothing else is
pub random_below : (l : List ℕ) → random_in l < 2 ^ 32
random_below l =
    let digits = take 8 (drop 9 l) in
    let few : length digits ≤ 8 = omega (arith, length-take 8 (drop 9 l)) in
    omega (arith, hex_value_below digits, pow-le-pow_right {n = 16} (omega arith) {i = length digits} {j = 8} few)

other_line : (l t : List ℕ) → read_greeting l ≡ None → greeting_number (read_greeting t) ≡ 0 → l ≡ t → ⊥
other_line l t none some e =
    let same : ◌≡◌ {A = ℕ} 10 0
    = sym (ap greeting_number none) ∙ ap (λ (k : List ℕ). greeting_number (read_greeting k)) e ∙ some in
    omega arith

pub heard_exactly : (l : List ℕ) → Exactly l (read_greeting l)
heard_exactly l =
    greeting_by l (λ g. read_greeting l ≡ g → Exactly l g) (λ e q. same_is l greeting_open e)
    (λ e q. same_is l erra_line e) (λ e q. (random_below l, same_is l _ e))
    (λ q. (
      other_line l greeting_open q (ap greeting_number open_heard),
      (
        other_line l erra_line q (ap greeting_number erra_heard),
        λ r word. other_line l _ q (ap greeting_number (secured_heard r word)),
      ),
    ))
    refl
