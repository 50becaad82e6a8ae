-- The lamps of an array that burn, one after the other.
--   GainedTo n l ms count after k    the loop over the array has given n to the first k by so many marks
-- Assumes nothing.
use Rattle.std.proofs.Common.{take_all, ℕ, ◌+◌, ◌<◌, ◌≡◌, ap, ◌∙◌, sym, subst, min, Bool, true, false, List, arith}
use Rattle.std.proofs.Common.{length, slice_index_or, set, take, if◌then◌else◌}
use Rattle.std.proofs.lemmas.List.{set-get_or}
use Rattle.text.proofs.Choices.{if_yes, if_no}
use Rattle.text.proofs.Orders.{le_or_lt}
use Rattle.record.specs.Limits.{lamps_most}
use Rattle.clock.specs.Second.{changed_where}
use Rattle.clock.proofs.ChangedWhere.{ChangedTo, none_changed, one_changed_there, where_next}

module _ (n : ℕ) (l : List ℕ) (ms : List Bool) (count : ℕ) where
  -- the marks are as long as an array of lamps, as is known once one of them was read
  pub record GainedTo (after : List ℕ) (k : ℕ) : Type 0 where
    pub read : 0 < k → length ms ≡ lamps_most
    pub changed : ChangedTo (λ (b : ℕ). b + n) l ms count after k

  pub none_gained : GainedTo l 0
  none_gained = record { read = λ h. absurd (omega arith); changed = none_changed _ _ _ _ }

  module _ {after : List ℕ} {k : ℕ} (done : GainedTo after k) where
    -- it stands as it stood
    pub still : slice_index_or after k 0 ≡ slice_index_or l k 0
    still =
        ap (λ (b : List ℕ). slice_index_or b k 0) done.changed.first ∙ where_next (λ (b : ℕ). b + n) ms l 0 k

    -- all of them
    pub all_gained : k ≡ min count lamps_most → after ≡ changed_where (λ (b : ℕ). b + n) (take count ms) l
    all_gained e = done.changed.first ∙ ap (λ (m : List Bool). changed_where (λ (b : ℕ). b + n) m l) taken
      where
        taken : take k ms ≡ take count ms
        taken = grind (arith, take_all, le_or_lt, done.read)

    module _ (marks_long : length ms ≡ lamps_most) (long : length l ≡ lamps_most) (inside : k < min count lamps_most)
      where
        more : {v : ℕ}
            → v ≡ (if slice_index_or ms k false then slice_index_or after k 0 + n else slice_index_or after k 0)
            → GainedTo (set after k v) (k + 1)
        more e = record {
          read = λ h. marks_long;
          changed = one_changed_there _ _ _ _ done.changed marks_long long (omega arith) (omega arith) e;
        }

        pub one_gains : slice_index_or ms k false ≡ true
            → GainedTo (set after k (slice_index_or after k 0 + n)) (k + 1)
        one_gains lit = more (sym (if_yes _ _ lit))

        pub one_rests : slice_index_or ms k false ≡ false → GainedTo after (k + 1)
        one_rests dark =
            subst (λ (b : List ℕ). GainedTo b (k + 1)) (set-get_or after k 0) (more (sym (if_no _ _ dark)))
