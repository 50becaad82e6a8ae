-- What a lamp is told to have burnt is what its stretches add up to, and so what it burnt by demand 3.
-- Assumes nothing.
use Rattle.std.proofs.Common.{ℕ, ◌+◌, ◌-◌, ◌<◌, ◌≡◌, sym, ap, ◌∙◌, Bool, true, false, not, ◌&&◌, List, [], ◌∷◌}
use Rattle.std.proofs.Common.{zero-add, arith, length, slice_index_or, replicate, get_or-take, nat_lt, if◌then◌else◌}
use Rattle.std.proofs.lemmas.List.{length-replicate, get_or-replicate}
use Rattle.record.specs.Limits.{lamps_most}
use Rattle.record.specs.Wanted.{Wanted}
use Rattle.record.specs.declared.types.Device.{Device}
use Rattle.clock.specs.Second.{marks_in}
use Rattle.clock.proofs.ChangedWhere.{where_at, length-changed_where}
use Rattle.ours.specs.Board.{ours}
use Rattle.demands.specs.Calls.{Call, after}
use Rattle.demands.specs.CountsSeconds.{Beginning, start_marks, begun_by, IsAccepted, history_of}
use Rattle.demands.specs.History.{burning_seconds}
use Rattle.demands.proofs.CallsDo.{settings_stay}
use Rattle.watch.specs.CallSteps.{call_step, call_steps, seconds_of_call}
use Rattle.watch.specs.Watching.{Watching, watching_from, is_burning_in, gained_by, watched_on, burnt_by}
use Rattle.stretches.specs.Stretches.{stretch_if, lengths_of}
use Rattle.stretches.specs.LogTold.{is_marked_in, told_of, burnt_of}
use Rattle.watch.proofs.TellingsSpelt.{after_none, after_more}
use Rattle.stretches.proofs.ToldSpelt.{told_none, told_more}
use Rattle.stretches.proofs.LengthsAdd.{lengths_of-append}
use Rattle.stretches.proofs.CallsTell.{call_stretches_tell}

-- a stretch's length, also where it is none
lengths_of-stretch_if : (t : Bool) (f u : ℕ) → lengths_of (stretch_if (t && nat_lt f u) f u) ≡ (if t then u - f else 0)
lengths_of-stretch_if t f u = grind arith

module _ (k : ℕ) where
  gained_at : (d : Device) (n : ℕ) (burnt : List ℕ) → k < d.settings.lamp_count → k < length burnt
      → slice_index_or (gained_by d n burnt) k 0 ≡ slice_index_or burnt k 0 + (if is_marked_in d k then n else 0)
  gained_at d n burnt counted inside = grind (arith, where_at, get_or-take)

  adds : (cs : List Call) (s : Watching) → k < s.device.settings.lamp_count → k < length s.burnt
      → let es = call_steps s.device cs in
      burnt_of k s es ≡ slice_index_or s.burnt k 0 + lengths_of (told_of k s es)
  adds [] s counted inside = grind (arith, after_none, told_none, gained_at, lengths_of-stretch_if)
  adds (c ∷ cs) s counted inside =
      let e = call_step s.device c in
      let d = e.device in
      let t = watched_on s e in
      let es = call_steps d cs in
      let kept : k < d.settings.lamp_count = rw (settings_stay s.device c) counted in
      let burnt : burnt_of k s (e ∷ es) ≡ burnt_of k t es =
      ap (λ (x : Watching). slice_index_or (burnt_by x) k 0) (after_more s e es) in
      let told = ap lengths_of (told_more k s e es) in
      let rest = adds cs t kept (longer (is_burning_in s.device && not (is_burning_in d))) in
      let here = now (is_burning_in s.device) (is_burning_in d) kept in
      let all = lengths_of-append
      (stretch_if (is_burning_in s.device && not (is_burning_in d) && is_marked_in d k && nat_lt t.from t.time)
      t.from t.time) (told_of k t es) in
      omega arith
    where
      d : Device
      d = after ours s.device c

      n : ℕ
      n = seconds_of_call c

      longer : (dark : Bool) → k < length (if dark
          then gained_by d (s.time + n - s.from) s.burnt else s.burnt)
      longer true =
          let same = length-changed_where (λ (b : ℕ). b + (s.time + n - s.from)) (marks_in d.settings d.own) s.burnt in
          omega arith
      longer false = inside

      now : (was is : Bool) → k < d.settings.lamp_count
          → let t = s.time + n in
          let from = if not was && is then t else s.from in
          slice_index_or (if was && not is then gained_by d (t - s.from) s.burnt else s.burnt) k 0
          ≡ slice_index_or s.burnt k 0 + lengths_of
          (stretch_if (was && not is && is_marked_in d k && nat_lt from t) from t)
      now true false kept =
          let t = s.time + n in
          gained_at d (t - s.from) s.burnt kept inside
          ∙ ap (λ (n : ℕ). slice_index_or s.burnt k 0 + n) (sym (lengths_of-stretch_if (is_marked_in d k) s.from t))
      now true true kept = omega arith
      now false is kept = omega arith

-- from a beginning
module _ (b : Beginning) (w : Wanted) (h : IsAccepted ours b w) (k : ℕ) (inside : k < length w.lamps)
    (cs : List Call) where
  abbrev begun : Device
  begun = (begun_by ours b w).device

  pub burnt_told : k < begun.settings.lamp_count → k < lamps_most
      → burnt_of k (watching_from begun) (call_steps begun cs)
      ≡ burning_seconds w (start_marks b w) k (history_of ours b w cs)
  burnt_told counted few =
      let es = call_steps begun cs in
      let none : ◌≡◌ {A = ℕ} (slice_index_or (replicate lamps_most 0) k 0) 0 = get_or-replicate lamps_most k 0 0 few in
      let long = length-replicate {A = ℕ} lamps_most 0 in
      let sum = adds k cs (watching_from begun) counted (omega arith) in
      sum ∙ ap (λ (n : ℕ). n + lengths_of (told_of k (watching_from begun) es)) none
      ∙ zero-add (lengths_of (told_of k (watching_from begun) es))
      ∙ (call_stretches_tell b w h k inside cs).adds_up
