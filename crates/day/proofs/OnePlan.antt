-- At most one answer of the planner holds of jobs and rigs: there is one greedy assignment, as far as it goes.
-- Assumes nothing.
use Rattle.std.proofs.lemmas.Grind.{common_steps}
use Rattle.std.proofs.Common.{ℕ, zero, suc, ◌<◌, ◌≤◌, ◌≡◌, List, [], ◌∷◌, ◌++◌, length, take, Ok, Err, Result}
use Rattle.std.proofs.Common.{refl, sym, ap, subst, ◌∙◌, arith, ⊎_elim, slice_index_or}
use Rattle.std.proofs.Math.Seq.{take-suc, take-length}
use Rattle.std.proofs.lemmas.List.{take_all}
use Rattle.std.proofs.lemmas.Option.{get_or_from_slice_get, slice_get_within}
use Rattle.text.proofs.Orders.{le_or_lt}
use Rattle.day.specs.Rules.{Keeps}
use Rattle.day.specs.Verdicts.{VerdictHolds}
use Rattle.day.specs.Plans.{jobs_of, on_rig, IsLowestRig, IsGreedy, FindsNoneAt, PlanHolds}
use Rattle.day.specs.declared.Job.{Job}
use Rattle.day.specs.declared.Rig.{Rig}
use Rattle.day.specs.declared.Placement.{Placement}
use Rattle.day.specs.declared.plan.PlanError.{PlanError}
use Rattle.day.specs.declared.plan.PlanError.TheVariants.{OutOfRange, NoRig}
use Rattle.day.proofs.Greedily.{nobody, length_front, job_at, all_in_range, greedy_kept}

module _ (jobs : List Job) (rigs : List Rig) where
  one_rig : {ps : List Placement} {job : Job} {j k : ℕ} → IsLowestRig rigs ps job j → IsLowestRig rigs ps job k → j ≡ k
  one_rig {j = j} {k = k} a b =
      ⊎_elim
      (λ (h : j ≤ k). ⊎_elim (λ (l : k ≤ j). omega arith) (λ (l : j < k). absurd (b.lowest j l a.keeps)) (le_or_lt k j))
      (λ (h : k < j). absurd (a.lowest k h b.keeps)) (le_or_lt j k)

  module _ (m n : ℕ) (ps qs : List Placement) (e : jobs_of ps ≡ take m jobs) (f : jobs_of qs ≡ take n jobs)
      (g : IsGreedy rigs ps) (h : IsGreedy rigs qs) where
    same_start : (k : ℕ) → k ≤ length ps → k ≤ length qs → take k ps ≡ take k qs
    same_start zero a b = refl
    same_start (suc k) a b =
        let before = same_start k (omega arith) (omega arith) in
        let p = slice_index_or ps k nobody in
        let q = slice_index_or qs k nobody in
        let job : p.job ≡ q.job =
        job_at jobs m ps e k nobody (omega arith) ∙ sym (job_at jobs n qs f k nobody (omega arith)) in
        let there : IsLowestRig rigs (take k qs) q.job p.rig =
        subst (λ (job : Job). IsLowestRig rigs (take k qs) job p.rig) job
        (subst (λ (s : List Placement). IsLowestRig rigs s p.job p.rig) before (g k nobody (omega arith))) in
        let rig : p.rig ≡ q.rig = one_rig there (h k nobody (omega arith)) in
        take-suc ps k nobody (omega arith) ∙ (λ t. before t ++ on_rig (job t) (rig t) ∷ [])
        ∙ sym (take-suc qs k nobody (omega arith))

  -- a greedy assignment goes no further than to the first job that finds no rig
  not_past : {j : ℕ} → FindsNoneAt jobs rigs j → (n : ℕ) (qs : List Placement) → jobs_of qs ≡ take n jobs
      → IsGreedy rigs qs → j < length qs → ⊥
  not_past {j} f n qs e g h =
      let there = slice_get_within jobs j f.job f.next in
      let long : length f.placed ≡ j = omega (arith, length_front jobs j f.placed f.before, there) in
      let q = slice_index_or qs j nobody in
      let start : take j qs ≡ f.placed =
      same_start n j qs f.placed e f.before g f.greedy j (omega arith) (omega arith)
      ∙ take_all j f.placed (omega arith) in
      let job : q.job ≡ f.job =
      job_at jobs n qs e j nobody h ∙ get_or_from_slice_get jobs j f.job nobody.job f.next in
      f.none q.rig
      (subst (λ (job : Job). Keeps rigs (f.placed ++ on_rig job q.rig ∷ [])) job
      (subst (λ (s : List Placement). Keeps rigs (s ++ q ∷ [])) start (g j nobody h).keeps))

  abbrev Answer : Type 0
  Answer = Result (List Placement) PlanError

  abbrev Holds : Answer → Type 0
  Holds = PlanHolds jobs rigs

  whole : (ps : List Placement) → jobs_of ps ≡ jobs → jobs_of ps ≡ take (length jobs) jobs
  whole ps e = e ∙ sym (take-length jobs)

  none_past : {j : ℕ} {ps : List Placement} → FindsNoneAt jobs rigs j → IsGreedy rigs ps → jobs_of ps ≡ jobs → ⊥
  none_past {j} {ps} f g e =
      let there = slice_get_within jobs j f.job f.next in
      not_past f (length jobs) ps (whole ps e) g (omega (arith, length_front jobs (length jobs) ps (whole ps e), there))

  none_above : {i j : ℕ} → FindsNoneAt jobs rigs i → FindsNoneAt jobs rigs j → i < j → ⊥
  none_above {i} {j} a b h =
      let there = slice_get_within jobs j b.job b.next in
      not_past a j b.placed b.before b.greedy (omega (arith, length_front jobs j b.placed b.before, there))

  pub one_plan : (p q : Answer) → Holds p → Holds q → p ≡ q
  one_plan (Ok ps) (Ok qs) a b =
      let n = length jobs in
      let long : length ps ≡ n = omega (arith, length_front jobs n ps (whole ps a.2)) in
      let same : length qs ≡ n = omega (arith, length_front jobs n qs (whole qs b.2)) in
      ap (λ (s : List Placement). Ok s)
      (sym (take_all n ps (omega arith))
      ∙ same_start n n ps qs (whole ps a.2) (whole qs b.2) a.1 b.1 n (omega arith) (omega arith)
      ∙ take_all n qs (omega arith))
  one_plan (Ok ps) (Err OutOfRange) a b = absurd (b a.0)
  one_plan (Ok ps) (Err (NoRig j)) a b = absurd (none_past b.1 a.1 a.2)
  one_plan (Err OutOfRange) (Ok qs) a b = absurd (a b.0)
  one_plan (Err OutOfRange) (Err OutOfRange) a b = refl
  one_plan (Err OutOfRange) (Err (NoRig j)) a b = absurd (a b.0)
  one_plan (Err (NoRig i)) (Ok qs) a b = absurd (none_past a.1 b.1 b.2)
  one_plan (Err (NoRig i)) (Err OutOfRange) a b = absurd (b a.0)
  one_plan (Err (NoRig i)) (Err (NoRig j)) a b =
      ap (λ (k : ℕ). Err (NoRig k))
      (⊎_elim
      (λ (h : i ≤ j). ⊎_elim (λ (l : j ≤ i). omega arith) (λ l. absurd (none_above a.1 b.1 l)) (le_or_lt j i))
      (λ h. absurd (none_above b.1 a.1 h)) (le_or_lt i j))

  -- what is planned keeps every rule
  pub planned_accepted : (ps : List Placement) → Holds (Ok ps) → VerdictHolds rigs ps (Ok tt)
  planned_accepted ps a = grind (arith, common_steps, whole, length_front, all_in_range, greedy_kept)
