-- A form filled, number by number.
use Rattle.std.proofs.Common.{◌≡◌, ℕ, ◌<◌, ◌≤◌, List, [], ◌∷◌, ◌++◌, length, drop, refl, arith, slice_index_or}
use Rattle.std.specs.List.{before_first, after_first}
use Rattle.numbers.specs.Decimal.{long_digits}
use Rattle.textio.specs.Forms.{is_gap, form_filled}

pub form_filled_none : (form : List ℕ) → form_filled form [] ≡ form
unfolding form_filled
form_filled_none form = refl

pub form_filled_next : (form : List ℕ) (n : ℕ) (ns : List ℕ) → form_filled form (n ∷ ns)
    ≡ before_first is_gap form ++ (long_digits n ++ form_filled (after_first is_gap form) ns)
unfolding form_filled
form_filled_next form n ns = refl

-- the same, as a loop over the numbers meets it
pub form_filled_first : (form ns : List ℕ) → 1 ≤ length ns → form_filled form ns
    ≡ before_first is_gap form
    ++ (long_digits (slice_index_or ns 0 0) ++ form_filled (after_first is_gap form) (drop 1 ns))
form_filled_first form ns h = grind (arith, form_filled_next)

pub form_filled_empty : (form ns : List ℕ) → length ns < 1 → form_filled form ns ≡ form
form_filled_empty form [] h = form_filled_none form
form_filled_empty form (n ∷ ns) h = absurd (omega (arith, h))
