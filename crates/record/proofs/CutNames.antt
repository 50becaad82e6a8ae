-- Names that are lent one after the other, each of its length (RULES, Class 2).
--   CutTo ns s at i      a loop has passed i names, to the place `at`
-- Assumes nothing.
use Rattle.std.proofs.Common.{ℕ, suc, ◌+◌, ◌≤◌, ◌<◌, ◌≡◌, refl, ap, Bool, true, ◌&&◌, List, [], ◌∷◌, arith, add-one}
use Rattle.std.proofs.Common.{length, slice_index_or, take, drop, drop_of_length-le, drop-cons, drop-drop, ◌==◌}
use Rattle.std.specs.List.{list_all}
use Rattle.text.proofs.Scanning.{Gathered}
use Rattle.words.specs.Texts.{is_input_name}
use Rattle.record.specs.Wanted.{total_of, cut_by, names_in}
use Rattle.record.specs.Rules.{are_names}
use Rattle.record.proofs.Rules.{names_many}

-- a loop that tests names, one after the other
module _ (ns : List (List ℕ)) {i : ℕ} {ok : Bool} (p : Gathered is_input_name ns i ok) where
  pub one_gathered : {x : Bool} → i < length ns → x ≡ is_input_name (slice_index_or ns i [])
      → Gathered is_input_name ns (i + 1) (ok && x)
  one_gathered l e = grind (arith, drop-cons)

  pub all_gathered : length ns ≤ i → ok ≡ list_all is_input_name ns
  all_gathered l = grind (arith, p.rest, ap (list_all is_input_name) (drop_of_length-le ns {i = i} l))

pub length-cut_by : (ns s : List ℕ) → length (cut_by ns s) ≡ length ns
length-cut_by [] s = refl
length-cut_by (n ∷ ns) s = ap suc (length-cut_by ns (drop n s))

module _ (ns s : List ℕ) where
  pub names_matched : total_of ns ≡ length s → names_in ns s ≡ cut_by ns s
  names_matched e = grind (arith, e)

  -- where there is a name the lengths add up
  pub names_add_up : (i : ℕ) → i < length (names_in ns s) → total_of ns ≡ length s
  names_add_up i h = grind (arith, h)

  -- and where they do not, nothing is named, so that as many are wanted as none
  pub none_wanted : (count : ℕ) → (total_of ns ≡ length s → ⊥) → (count == 0) ≡ are_names count (names_in ns s)
  unfolding are_names
  none_wanted count h = grind (arith, h)

  pub record CutTo (at i : ℕ) : Type 0 where
    pub inside : at ≤ length s
    pub sum : total_of ns ≡ at + total_of (drop i ns)
    pub rest : drop i (cut_by ns s) ≡ cut_by (drop i ns) (drop at s)

  pub none_cut : CutTo 0 0
  none_cut = record { inside = omega arith; sum = omega arith; rest = refl }

  module _ {at i : ℕ} (p : CutTo at i) where
    module _ (there : i < length ns) where
      abbrev n : ℕ
      n = slice_index_or ns i 0

      next : drop i ns ≡ n ∷ drop (i + 1) ns
      next = rw (add-one, drop-cons ns i 0 there) refl

      here : drop i (cut_by ns s) ≡ slice_index_or (cut_by ns s) i [] ∷ drop (i + 1) (cut_by ns s)
      here = rw (add-one, drop-cons (cut_by ns s) i [] (omega (arith, length-cut_by ns s))) refl

      pub total_next : total_of ns ≡ at + n + total_of (drop (i + 1) ns)
      total_next = omega (arith, p.sum, ap total_of next)

      cut : drop i (cut_by ns s) ≡ take n (drop at s) ∷ cut_by (drop (i + 1) ns) (drop (at + n) s)
      cut = grind (arith, next, drop-drop)

      pub name_here : slice_index_or (cut_by ns s) i [] ≡ take n (drop at s)
      name_here = cc (here, cut)

      pub one_cut : at + n ≤ length s → CutTo (at + n) (i + 1)
      one_cut fits = record { inside = fits; sum = total_next; rest = cc (here, cut) }

    pub all_cut : length ns ≤ i → total_of ns ≡ at
    all_cut end = omega (arith, p.sum, ap total_of (drop_of_length-le ns {i = i} end))

    pub all_named : {ok : Bool} (count : ℕ) → Gathered is_input_name (cut_by ns s) i ok → length ns ≤ i → at ≡ length s
        → (length ns == count && ok) ≡ are_names count (names_in ns s)
    unfolding are_names
    all_named count g end e = grind (arith, all_gathered, length-cut_by, all_cut)

-- where they are the names of so many inputs, each stands in the bytes
module _ (ns s : List ℕ) {n i : ℕ} (legal : are_names n (names_in ns s) ≡ true) (more : i < n) where
  sums : total_of ns ≡ length s
  sums = names_add_up ns s i (omega (arith, names_many n (names_in ns s) legal))

  matched : names_in ns s ≡ cut_by ns s
  matched = names_matched ns s sums

  pub cut_there : i < length ns
  cut_there = omega (arith, names_many n (names_in ns s) legal, ap length matched, length-cut_by ns s)

  module _ {at : ℕ} (p : CutTo ns s at i) where
    pub cut_ends : at + slice_index_or ns i 0 ≤ length s
    cut_ends = omega (arith, sums, total_next ns s p cut_there)

    pub cut_here : slice_index_or (names_in ns s) i [] ≡ take (slice_index_or ns i 0) (drop at s)
    cut_here = rw matched (name_here ns s p cut_there)
