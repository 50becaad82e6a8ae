-- What a flag tells, and what a list of flags does.
--   IsMappedTo f d xs ys k    the loop over an array has turned the first k of xs by f into those of ys
-- Assumes nothing.
use Rattle.std.proofs.Common.{ℕ, zero, suc, ◌+◌, ◌-◌, ◌≤◌, ◌<◌, ◌≡◌, refl, sym, ap, ◌∙◌, Bool, true, false, arith}
use Rattle.std.proofs.Common.{List, [], ◌∷◌, length, map, ap₂}
use Rattle.std.specs.List.{list_all}
use Rattle.std.proofs.Common.{◌++◌, append-nil, slice_index_or, set, replicate}
use Rattle.std.proofs.Math.ListN.{get_or-map}
use Rattle.std.proofs.lemmas.List.{length-map, map-set}
use Rattle.text.specs.Flags.{is_flag, is_raised, flag_of}
use Rattle.text.proofs.Choices.{both, both_left, both_right}
use Rattle.text.proofs.RoomsFilled.{IsCopied, one_copied, all_copied}

-- what is written is read, and is a flag
pub flag_told : (b : Bool) → is_raised (flag_of b) ≡ b
flag_told true = refl
flag_told false = refl

pub flag_legal : (b : Bool) → is_flag (flag_of b) ≡ true
flag_legal true = refl
flag_legal false = refl

pub flag_within : (b : Bool) → flag_of b ≤ 1
flag_within b = grind (arith, flag_legal b)

-- a flag is what it tells
pub flag_back : (n : ℕ) → is_flag n ≡ true → flag_of (is_raised n) ≡ n
flag_back n h = grind arith

pub lowered_zero : (n : ℕ) → is_raised n ≡ false → n ≡ 0
lowered_zero n h = grind arith

-- at each place, and past the end no flag is raised
pub raised_at : (fs : List ℕ) (k : ℕ) → slice_index_or (map is_raised fs) k false ≡ is_raised (slice_index_or fs k 0)
raised_at fs k = get_or-map is_raised fs k 0

-- one of them replaced
pub raised_set : (fs : List ℕ) (k : ℕ) (b : Bool) → map is_raised (set fs k (flag_of b)) ≡ set (map is_raised fs) k b
raised_set fs k b = map-set is_raised fs k (flag_of b) ∙ ap (set (map is_raised fs) k) (flag_told b)

pub raised_many : (fs : List ℕ) → length (map is_raised fs) ≡ length fs
raised_many fs = length-map fs is_raised

-- a list written and read, and read and written
pub flags_told : (bs : List Bool) → map is_raised (map flag_of bs) ≡ bs
flags_told [] = refl
flags_told (b ∷ bs) = ap₂ ◌∷◌ (flag_told b) (flags_told bs)

pub flags_legal : (bs : List Bool) → list_all is_flag (map flag_of bs) ≡ true
flags_legal [] = refl
flags_legal (b ∷ bs) = both (flag_legal b) (flags_legal bs)

pub flags_again : (fs : List ℕ) → list_all is_flag fs ≡ true → map flag_of (map is_raised fs) ≡ fs
flags_again [] e = refl
flags_again (f ∷ fs) e =
    ap₂ ◌∷◌ (flag_back f (both_left (is_flag f) (list_all is_flag fs) e))
    (flags_again fs (both_right (is_flag f) (list_all is_flag fs) e))

-- so many alike
pub raised_replicate : (n : ℕ) → map is_raised (replicate n 0) ≡ replicate n false
raised_replicate zero = refl
raised_replicate (suc n) = ap (λ (bs : List Bool). false ∷ bs) (raised_replicate n)

pub lowered_replicate : (n : ℕ) → map flag_of (replicate n false) ≡ replicate n 0
lowered_replicate zero = refl
lowered_replicate (suc n) = ap (λ (fs : List ℕ). 0 ∷ fs) (lowered_replicate n)

pub flags_replicate : (n : ℕ) → map flag_of (replicate n true) ≡ replicate n 1
flags_replicate zero = refl
flags_replicate (suc n) = ap (λ (fs : List ℕ). 1 ∷ fs) (flags_replicate n)

-- turned one after the other
module _ {A B : Type 0} (f : A → B) (d : A) (xs : List A) where
  abbrev pub IsMappedTo : List B → ℕ → Type 0
  IsMappedTo ys k = IsCopied (f d) (length xs) (map f xs) ys k

  module _ {ys : List B} {k : ℕ} (done : IsMappedTo ys k) where
    pub one_mapped : {y : B} → k < length xs → y ≡ f (slice_index_or xs k d) → IsMappedTo (set ys k y) (k + 1)
    one_mapped {y} h e =
        let many = length-map xs f in
        one_copied (f d) (length xs) (map f xs) (omega (arith, many)) done (omega (arith, many))
        (e ∙ sym (get_or-map f xs k d))

    pub all_mapped : length xs ≤ k → ys ≡ map f xs
    all_mapped h =
        let many = length-map xs f in
        let rest : length xs - length (map f xs) ≡ 0 = omega (arith, many) in
        all_copied (f d) (length xs) (map f xs) (omega (arith, many)) done (omega (arith, h, many))
        ∙ ap (λ n. map f xs ++ replicate n (f d)) rest
        ∙ append-nil (map f xs)
