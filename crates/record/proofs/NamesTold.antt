-- What the names of a legal record tell (RULES, Class 2), and how they are shown: those that a set-up keeps.
-- Assumes nothing.
use Rattle.std.specs.List.{list_all}
use Rattle.std.proofs.Common.{ℕ, ◌≤◌, ◌<◌, ◌≡◌, sym, ap, subst, ◌∙◌, true, List, map, ⊎_elim, arith, length, take}
use Rattle.std.proofs.Common.{◌+◌, [], set, slice_index_or, drop, take-append-drop, take_at}
use Rattle.std.proofs.lemmas.List.{length-map, get_or-map}
use Rattle.std.proofs.Math.ListN.{get_or-eq_default}
use Rattle.text.proofs.Orders.{le_or_lt}
use Rattle.text.proofs.RoomsTold.{kept_used}
use Rattle.text.proofs.Scanning.{list_all_at, list_all-append, list_all_implies, list_all-map}
use Rattle.words.specs.Texts.{is_text, input_name_most, is_input_name}
use Rattle.record.specs.Limits.{listed_most}
use Rattle.record.specs.Rules.{are_names}
use Rattle.record.specs.Record.{name_of, blank_name, names_kept}
use Rattle.record.specs.Legal.{fills_name_room}
use Rattle.record.specs.Facts.{Fills, IsNames}
use Rattle.record.specs.declared.types.InputName.{InputName}
use Rattle.record.proofs.FactsTold.{fills_told}
use Rattle.text.proofs.RoomsFilled.{IsCopied, one_copied, all_copied}
use Rattle.record.proofs.Kept.{filled_kept, nothing_kept}
use Rattle.record.proofs.Rules.{names_many, names_each, text_most, text_wider, empty_text}

no_name_fits : (most : ℕ) → fills_name_room most blank_name ≡ true
no_name_fits most = (fills_told _ _ _ _).1 (nothing_kept input_name_most (is_text most) (empty_text most))

-- room without a name is room for one
none_fits : (t : InputName) → fills_name_room 0 t ≡ true → fills_name_room input_name_most t ≡ true
none_fits t h = grind (arith, fills_told, text_wider)

-- a name stands at each place, one of the list or not: it may be empty
pub name_kept : (n : ℕ) (ns : List InputName) → IsNames n ns → (k : ℕ)
    → Fills input_name_most is_input_name (slice_index_or ns k blank_name).bytes (slice_index_or ns k blank_name).len
name_kept n ns t k = (fills_told _ _ _ _).0 (⊎_elim past inside (le_or_lt (length ns) k))
  where
    past : length ns ≤ k → fills_name_room input_name_most (slice_index_or ns k blank_name) ≡ true
    past l = ap (fills_name_room input_name_most) (get_or-eq_default ns blank_name {n = k} l) ∙ no_name_fits _

    inside : k < length ns → fills_name_room input_name_most (slice_index_or ns k blank_name) ≡ true
    inside l =
        let all = list_all-append (fills_name_room input_name_most) (take n ns) (drop n ns) t.follows
        (list_all_implies (fills_name_room 0) (fills_name_room input_name_most) none_fits (drop n ns) t.clear) in
        list_all_at (fills_name_room input_name_most) ns blank_name
        (ap (list_all (fills_name_room input_name_most)) (sym (take-append-drop n ns)) ∙ all) k l

-- ---- as a set-up keeps them

name_of_fits : (s : List ℕ) → is_input_name s ≡ true → fills_name_room input_name_most (name_of s) ≡ true
name_of_fits s h =
    (fills_told _ _ _ _).1 (filled_kept input_name_most is_input_name s (text_most s input_name_most h) h)

module _ (ns : List (List ℕ)) where
  pub names_kept_lem : length ns ≤ listed_most → list_all is_input_name ns ≡ true → IsNames (length ns) (names_kept ns)
  unfolding names_kept
  names_kept_lem few h =
      let named = list_all (fills_name_room input_name_most) in
      let each = list_all-map is_input_name (fills_name_room input_name_most) name_of name_of_fits ns h in
      subst (λ (n : ℕ). IsNames n (names_kept ns)) (length-map ns name_of)
      (kept_used (fills_name_room 0) blank_name listed_most named (map name_of ns)
      (omega (arith, length-map ns name_of)) (no_name_fits 0) each)

  -- the first places have them
  pub names_first : take (length ns) (names_kept ns) ≡ map name_of ns
  unfolding names_kept
  names_first = take_at (map name_of ns) _ (length ns) (length-map ns name_of)

-- as a loop keeps them, one after the other
abbrev pub NamesCopied : List (List ℕ) → List InputName → ℕ → Type 0
NamesCopied ns list i = IsCopied blank_name listed_most (map name_of ns) list i

module _ (ns : List (List ℕ)) (n : ℕ) (legal : are_names n ns ≡ true) where
  pub name_short : (i : ℕ) → i < n → length (slice_index_or ns i []) ≤ input_name_most
  name_short i l = grind (arith, text_most, list_all_at, names_each, names_many)

  module _ (few : n ≤ listed_most) {list : List InputName} {i : ℕ} (p : NamesCopied ns list i) where
    many : length (map name_of ns) ≡ n
    many = length-map ns name_of ∙ names_many n ns legal

    pub one_name_copied : {t : InputName} → i < n → t ≡ name_of (slice_index_or ns i [])
        → NamesCopied ns (set list i t) (i + 1)
    one_name_copied l e = grind (arith, one_copied, many, get_or-map, names_many)

    pub all_names_copied : n ≤ i → list ≡ names_kept ns
    unfolding names_kept
    all_names_copied l = grind (arith, all_copied, many)
