-- The lowest closed place (RULES, Places): the loop's law, and that what opening takes is closed, with no closed place
-- below it.
-- Assumes nothing.
use Rattle.std.proofs.Common.{ℕ, zero, suc, ◌+◌, ◌≤◌, ◌<◌, ◌≡◌, refl, ap, ◌∙◌, true, false, List, [], ◌∷◌, arith}
use Rattle.std.proofs.Common.{length, slice_index_or, drop, drop_of_length-le, drop-cons, ◌==◌, if◌then◌else◌}
use Rattle.text.proofs.Choices.{if_yes}
use Rattle.record.specs.Limits.{phase_closed}
use Rattle.record.specs.Places.{no_connection, is_closed, lowest_closed}
use Rattle.record.specs.declared.types.Connection.{Connection}

module _ (cs : List Connection) where
  -- how far the loop has come: no place passed is closed
  pub record IsUnclosed (i : ℕ) : Type 0 where
    pub inside : i ≤ length cs
    pub rest : lowest_closed cs ≡ i + lowest_closed (drop i cs)

  module _ {i : ℕ} (p : IsUnclosed i) (here : i < length cs) where
    abbrev c : Connection
    c = slice_index_or cs i no_connection

    lowest_closed-drop : lowest_closed (drop i cs) ≡ (if is_closed c then 0 else suc (lowest_closed (drop (suc i) cs)))
    unfolding lowest_closed
    lowest_closed-drop = ap lowest_closed (drop-cons cs i no_connection here)

    pub lowest_here : is_closed c ≡ true → i ≡ lowest_closed cs
    lowest_here e = let last = lowest_closed-drop ∙ if_yes _ _ e in omega (arith, p.rest, last)

    pub one_unclosed : is_closed c ≡ false → IsUnclosed (i + 1)
    one_unclosed e = grind (arith, lowest_closed-drop)

  pub all_unclosed : {i : ℕ} → IsUnclosed i → length cs ≤ i → i ≡ lowest_closed cs
  unfolding lowest_closed
  all_unclosed p end = grind (arith, drop_of_length-le)

-- what is taken is closed, and no lower place is
pub lowest_is_closed : (cs : List Connection) → lowest_closed cs < length cs
    → is_closed (slice_index_or cs (lowest_closed cs) no_connection) ≡ true
unfolding lowest_closed
lowest_is_closed [] h = absurd (omega arith)
lowest_is_closed (c ∷ cs) h = grind (arith, h, lowest_is_closed cs)

pub below_lowest : (cs : List Connection) (k : ℕ) → k < lowest_closed cs →
    is_closed (slice_index_or cs k no_connection) ≡ false
unfolding lowest_closed
below_lowest [] k h = absurd (omega arith)
below_lowest (c ∷ cs) zero h = grind (arith, h)
below_lowest (c ∷ cs) (suc k) h = grind (arith, h, below_lowest cs k)

-- which place is the lowest closed one depends on the phases alone
pub lowest_closed_same : (cs ks : List Connection) → length cs ≡ length ks
    → ((q : ℕ) → (slice_index_or cs q no_connection).phase ≡ (slice_index_or ks q no_connection).phase)
    → lowest_closed cs ≡ lowest_closed ks
unfolding lowest_closed
lowest_closed_same [] [] long phases = refl
lowest_closed_same [] (k ∷ ks) long phases = absurd (omega (arith, long))
lowest_closed_same (c ∷ cs) [] long phases = absurd (omega (arith, long))
lowest_closed_same (c ∷ cs) (k ∷ ks) long phases =
    let rest = lowest_closed_same cs ks (omega (arith, long)) (λ q. phases (suc q)) in
    (λ i. if phases 0 i == phase_closed then 0 else suc (rest i))
