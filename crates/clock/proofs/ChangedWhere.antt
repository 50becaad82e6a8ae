-- A list changed where marks are set: how many there are, what stands at each place, the loop that changes them one
-- after the other, and two changes as one.
--   ChangedTo f l ms count after k      the loop over an array of lamps has changed the first k by so many marks
-- Assumes nothing.
use Rattle.std.proofs.Common.{ℕ, zero, suc, ◌+◌, ◌<◌, ◌≤◌, ◌≡◌, refl, sym, ap, ap₂, Bool, true, false, List, [], ◌∷◌}
use Rattle.std.proofs.Common.{arith, length, slice_index_or, set, take, if◌then◌else◌}
use Rattle.text.proofs.Choices.{if_no}
use Rattle.record.specs.Limits.{lamps_most}
use Rattle.clock.specs.Second.{changed_where}

module _ {A : Type 0} (f : A → A) where
  pub length-changed_where : (ms : List Bool) (l : List A) → length (changed_where f ms l) ≡ length l
  unfolding changed_where
  length-changed_where [] l = refl
  length-changed_where (m ∷ ms) [] = refl
  length-changed_where (m ∷ ms) (x ∷ l) = ap suc (length-changed_where ms l)

  -- past the marks nothing changes
  pub where_at : (ms : List Bool) (l : List A) (d : A) (k : ℕ) → k < length l
      → slice_index_or (changed_where f ms l) k d
      ≡ (if slice_index_or ms k false then f (slice_index_or l k d) else slice_index_or l k d)
  unfolding changed_where
  where_at [] l d k h = refl
  where_at (m ∷ ms) [] d k h = absurd (omega arith)
  where_at (m ∷ ms) (x ∷ l) d zero h = refl
  where_at (m ∷ ms) (x ∷ l) d (suc k) h = where_at ms l d k (omega arith)

  pub where_unmarked : (ms : List Bool) (l : List A) (d : A) (k : ℕ) → slice_index_or ms k false ≡ false
      → slice_index_or (changed_where f ms l) k d ≡ slice_index_or l k d
  unfolding changed_where
  where_unmarked [] l d k e = refl
  where_unmarked (m ∷ ms) [] d k e = refl
  where_unmarked (m ∷ ms) (x ∷ l) d zero e = if_no (f x) x e
  where_unmarked (m ∷ ms) (x ∷ l) d (suc k) e = where_unmarked ms l d k e

  -- past the marks that are taken it stands as it was
  pub where_next : (ms : List Bool) (l : List A) (d : A) (k : ℕ)
      → slice_index_or (changed_where f (take k ms) l) k d ≡ slice_index_or l k d
  unfolding changed_where
  where_next ms l d zero = refl
  where_next [] l d (suc k) = refl
  where_next (m ∷ ms) [] d (suc k) = refl
  where_next (m ∷ ms) (x ∷ l) d (suc k) = where_next ms l d k

  pub where_none : (l : List A) → changed_where f [] l ≡ l
  unfolding changed_where
  where_none l = refl

  one_more : (ms : List Bool) (l : List A) (d : A) (k : ℕ) → k < length ms → k < length l
      → set (changed_where f (take k ms) l) k
      (if slice_index_or ms k false then f (slice_index_or l k d) else slice_index_or l k d)
      ≡ changed_where f (take (suc k) ms) l
  unfolding changed_where
  one_more [] l d k h g = absurd (omega arith)
  one_more (m ∷ ms) [] d k h g = absurd (omega arith)
  one_more (m ∷ ms) (x ∷ l) d zero h g = refl
  one_more (m ∷ ms) (x ∷ l) d (suc k) h g = grind (arith, one_more ms l d k (omega arith) (omega arith))

  one_more_where : (ms : List Bool) (l : List A) (d : A) (k : ℕ) → k < length ms → k < length l
      → set (changed_where f (take k ms) l) k
      (if slice_index_or ms k false then f (slice_index_or l k d) else slice_index_or l k d)
      ≡ changed_where f (take (k + 1) ms) l
  one_more_where ms l d k h g = grind (arith, one_more)

  -- what changes nothing
  pub where_same : ((x : A) → f x ≡ x) → (ms : List Bool) (l : List A) → changed_where f ms l ≡ l
  unfolding changed_where
  where_same e [] l = refl
  where_same e (m ∷ ms) [] = refl
  where_same e (true ∷ ms) (x ∷ l) = ap₂ ◌∷◌ (e x) (where_same e ms l)
  where_same e (false ∷ ms) (x ∷ l) = ap (λ (t : List A). x ∷ t) (where_same e ms l)

-- the loop: it stops at so many lamps, or at the arrays' end
module _ (f : ℕ → ℕ) (l : List ℕ) (ms : List Bool) (count : ℕ) where
  pub record ChangedTo (after : List ℕ) (k : ℕ) : Type 0 where
    pub counted : k ≤ count
    pub first : after ≡ changed_where f (take k ms) l

  pub none_changed : ChangedTo l 0
  none_changed = record { counted = omega arith; first = sym (where_none f l) }

  module _ {after : List ℕ} {k : ℕ} (done : ChangedTo after k) where
    module _ (marks_long : length ms ≡ lamps_most) where
      pub one_changed : length l ≡ lamps_most → k < lamps_most → k < count → {v : ℕ}
          → v ≡ (if slice_index_or ms k false then f (slice_index_or l k 0) else slice_index_or l k 0)
          → ChangedTo (set after k v) (k + 1)
      one_changed long h c e = grind (arith, one_more_where)

      -- changed where it lies: what is read there is what stood there
      pub one_changed_there : length l ≡ lamps_most → k < lamps_most → k < count → {v : ℕ}
          → v ≡ (if slice_index_or ms k false then f (slice_index_or after k 0) else slice_index_or after k 0)
          → ChangedTo (set after k v) (k + 1)
      one_changed_there long h c e = grind (arith, where_next, one_changed)

pub changed_where-changed_where : {A : Type 0} (f g : A → A) (ms : List Bool) (l : List A)
    → changed_where f ms (changed_where g ms l) ≡ changed_where (λ x. f (g x)) ms l
unfolding changed_where
changed_where-changed_where f g [] l = refl
changed_where-changed_where f g (m ∷ ms) [] = refl
changed_where-changed_where {A} f g (true ∷ ms) (x ∷ l) = grind (arith, changed_where-changed_where f g ms l)
changed_where-changed_where {A} f g (false ∷ ms) (x ∷ l) = grind (arith, changed_where-changed_where f g ms l)
