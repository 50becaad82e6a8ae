-- A sound state: what the lamps burnt has room for what they burn; and a step leaves a sound one.
-- Assumes nothing.
use Rattle.std.specs.List.{list_all}
use Rattle.std.proofs.Common.{ℕ, zero, suc, ◌+◌, ◌-◌, ◌^◌, ◌≤◌, ◌<◌, ◌≡◌, refl, sym, subst, Bool, true, false, not}
use Rattle.std.proofs.Common.{◌&&◌, List, [], ◌∷◌, arith, slice_index_or, nat_le, leb-true, le-leb, if◌then◌else◌}
use Rattle.text.proofs.Choices.{if_yes, if_no, if_all, both, both_left, both_right}
use Rattle.text.proofs.Scanning.{list_all_by_place}
use Rattle.record.specs.declared.types.Device.{Device}
use Rattle.clock.specs.Second.{changed_where, marks_in}
use Rattle.clock.proofs.ChangedWhere.{length-changed_where, where_at}
use Rattle.watch.specs.Watching.{Step, Watching, watching_from, is_burning_in, gained_by, watched_on, sound_top}
use Rattle.watch.specs.Watching.{is_sound}

pub at_most : (top : ℕ) (l : List ℕ) → list_all (λ (b : ℕ). nat_le b top) l ≡ true → (k : ℕ) →
    slice_index_or l k 0 ≤ top
at_most top [] h k = omega arith
at_most top (x ∷ l) h zero = leb-true x top (both_left (nat_le x top) (list_all (λ (b : ℕ). nat_le b top) l) h)
at_most top (x ∷ l) h (suc k) = at_most top l (both_right (nat_le x top) (list_all (λ (b : ℕ). nat_le b top) l) h) k

higher : (top up : ℕ) → top ≤ up → (l : List ℕ) → list_all (λ (b : ℕ). nat_le b top) l ≡ true
    → list_all (λ (b : ℕ). nat_le b up) l ≡ true
higher top up more [] h = refl
higher top up more (x ∷ l) h = grind (arith, higher top up more l (both_right (nat_le x top) _ h))

list_all-changed_where : (top n : ℕ) (ms : List Bool) (l : List ℕ) → list_all (λ (b : ℕ). nat_le b top) l ≡ true
    → list_all (λ (b : ℕ). nat_le b (top + n)) (changed_where (λ (b : ℕ). b + n) ms l) ≡ true
list_all-changed_where top n ms l h =
    list_all_by_place (λ (b : ℕ). nat_le b (top + n)) 0 (changed_where (λ (b : ℕ). b + n) ms l)
    (λ k inside.
    let long = length-changed_where (λ (b : ℕ). b + n) ms l in
    let was = at_most top l h k in
    le-leb _ _ (subst (λ (x : ℕ). x ≤ top + n) (sym (where_at (λ (b : ℕ). b + n) ms l 0 k (omega arith)))
    (if_all (λ (x : ℕ). x ≤ top + n) (slice_index_or ms k false) (omega arith) (omega arith))))

module _ (s : Watching) (sound : is_sound s ≡ true) where
  pub sound_from : s.from ≤ s.time
  unfolding is_sound
  sound_from = leb-true s.from s.time (both_left (nat_le s.from s.time) _ sound)

  pub sound_burnt : list_all (λ (b : ℕ). nat_le b (sound_top s)) s.burnt ≡ true
  unfolding is_sound
  sound_burnt = both_right (nat_le s.from s.time) _ sound

  -- the lamps have burnt since `from`, some seconds later
  pub burnt_fits : is_burning_in s.device ≡ true → (t : ℕ) → s.time ≤ t → t < 2 ^ 64
      → (k : ℕ) → slice_index_or s.burnt k 0 + (t - s.from) < 2 ^ 64
  burnt_fits lit t late fits k =
      let top : sound_top s ≡ s.from = if_yes _ _ lit in
      let begun = sound_from in
      let was = at_most (sound_top s) s.burnt sound_burnt k in
      omega arith

  pub sound_after : (e : Step) → is_sound (watched_on s e) ≡ true
  unfolding is_sound
  sound_after e = by (is_burning_in s.device) refl (is_burning_in d) refl
    where
      d : Device
      d = e.device

      t : ℕ
      t = s.time + e.seconds

      begun : s.from ≤ s.time
      begun = sound_from

      Sound : Bool → Bool → Type 0
      Sound was is =
          let from = if not was && is then t else s.from in
          let burnt = if was && not is then gained_by d (t - s.from) s.burnt else s.burnt in
          (nat_le from t && list_all (λ (b : ℕ). nat_le b (if is then from else t)) burnt) ≡ true

      by_tests : (was is : Bool) → is_burning_in s.device ≡ was → Sound was is
      by_tests true true lit =
          both (le-leb s.from t (omega (arith, begun)))
          (subst (λ (top : ℕ). list_all (λ (b : ℕ). nat_le b top) s.burnt ≡ true) (if_yes _ _ lit) sound_burnt)
      by_tests true false lit =
          let full : s.from + (t - s.from) ≡ t = omega (arith, begun) in
          both (le-leb s.from t (omega (arith, begun)))
          (subst (λ (top : ℕ). list_all (λ (b : ℕ). nat_le b top) (gained_by d (t - s.from) s.burnt) ≡ true) full
          (list_all-changed_where s.from (t - s.from) (marks_in d.settings d.own) s.burnt
          (subst (λ (top : ℕ). list_all (λ (b : ℕ). nat_le b top) s.burnt ≡ true) (if_yes _ _ lit) sound_burnt)))
      by_tests false true lit = both (le-leb t t (omega (arith, begun))) (later lit)
        where
          later : is_burning_in s.device ≡ false → list_all (λ (b : ℕ). nat_le b t) s.burnt ≡ true
          later e =
              higher s.time t (omega (arith, begun)) s.burnt
              (subst (λ (top : ℕ). list_all (λ (b : ℕ). nat_le b top) s.burnt ≡ true) (if_no _ _ e) sound_burnt)
      by_tests false false lit =
          both (le-leb s.from t (omega (arith, begun)))
          (higher s.time t (omega (arith, begun)) s.burnt
          (subst (λ (top : ℕ). list_all (λ (b : ℕ). nat_le b top) s.burnt ≡ true) (if_no _ _ lit) sound_burnt))

      by : (was : Bool) → is_burning_in s.device ≡ was → (is : Bool) → is_burning_in d ≡ is
          → is_sound (watched_on s e) ≡ true
      by was p is q = subst (λ (x : Bool). Sound x (is_burning_in d)) (sym p)
          (subst (Sound was) (sym q) (by_tests was is p))

-- before a log
pub is_sound-watching_from : (d : Device) → is_sound (watching_from d) ≡ true
unfolding is_sound
is_sound-watching_from d = grind arith
