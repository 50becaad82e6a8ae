-- What a legal own part says of its error digits and its lamps, by their places.
-- Assumes nothing.
use Rattle.std.proofs.lemmas.Grind.{common_steps}
use Rattle.std.proofs.Common.{ℕ, ◌≤◌, ◌<◌, ◌≡◌, ap, ◌∙◌, true, List, arith, length, slice_index_or, take}
use Rattle.std.proofs.Common.{get_or-take, length-take-le, leb-true, le-leb}
use Rattle.text.proofs.Scanning.{list_all_at, list_all_by_place}
use Rattle.text.proofs.Choices.{both}
use Rattle.record.specs.Limits.{lamps_most, lamp_limit, errors_count, error_most}
use Rattle.record.specs.Rules.{is_at_most, is_lamp, is_lamps}
use Rattle.record.specs.Facts.{Fills, IsOwn}
use Rattle.record.specs.declared.types.Settings.{Settings}
use Rattle.record.specs.declared.types.Own.{Own}
use Rattle.record.proofs.Kept.{kept_length, clear_by_place}
use Rattle.record.proofs.Rules.{errors_long, list_all-is_at_most, lamps_within}

module _ (s : Settings) (o : Own) (t : IsOwn s o) where
  pub error_at : (k : ℕ) → k < errors_count → slice_index_or o.errors k 0 ≤ error_most
  error_at k l =
      leb-true (slice_index_or o.errors k 0) error_most
      (list_all_at (is_at_most error_most) o.errors 0 (list_all-is_at_most _ t.errors) k
      (omega (arith, errors_long _ t.errors)))

  pub lamp_at : (k : ℕ) → k < s.lamp_count → slice_index_or o.lamps k 0 ≤ lamp_limit
  unfolding is_lamps
  lamp_at k l = grind (arith, common_steps, kept_length, list_all_at, lamps_within, leb-true, get_or-take)

-- lamps are legal by their places
pub lamps_shown : (l : List ℕ) (n : ℕ) → length l ≡ lamps_most → n ≤ lamps_most
    → ((k : ℕ) → k < n → slice_index_or l k 0 ≤ lamp_limit) → ((k : ℕ) → n ≤ k → slice_index_or l k 0 ≡ 0) →
    Fills lamps_most is_lamps l n
unfolding is_lamps
lamps_shown l n long inside within unused =
    let many : length (take n l) ≡ n = length-take-le n l (omega arith) in
    let lamp : (k : ℕ) → k < length (take n l) → is_lamp (slice_index_or (take n l) k 0) ≡ true
    = (λ k h.
    let q : k < n = omega arith in
    ap is_lamp (get_or-take n l k 0 q) ∙ le-leb (slice_index_or l k 0) lamp_limit (within k q)) in
    record {
      long = long;
      inside = inside;
      clear = clear_by_place l n unused;
      follows =
          both (le-leb (length (take n l)) lamps_most (omega arith)) (list_all_by_place is_lamp 0 (take n l) lamp);
    }
