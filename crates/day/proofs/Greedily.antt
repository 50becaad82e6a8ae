-- The loop that places one job after the other.
--   Going jobs rigs ps j      the first j jobs are placed, each on its lowest rig, and keep every rule
-- Assumes nothing.
use Rattle.std.proofs.Common.{ℕ, zero, suc, ◌+◌, ◌<◌, ◌≤◌, ◌≡◌, List, [], ◌∷◌, ◌++◌, length, take, min, sym, ap, subst}
use Rattle.std.proofs.Common.{◌∙◌, arith, length-append, ⊎_elim, slice_index_or, All}
use Rattle.std.proofs.Math.ListN.{get_or-append}
use Rattle.std.proofs.Math.Seq.{get_or-append_seam, take-suc, take-append_seam, take-append-le, take-length}
use Rattle.std.proofs.lemmas.List.{take_more, get_or-map, get_or-take, length-take, map-append, length-map}
use Rattle.text.proofs.Orders.{le_or_lt}
use Rattle.day.specs.Days.{IsJob}
use Rattle.day.specs.Rules.{Keeps}
use Rattle.day.specs.Plans.{jobs_of, on_rig, IsLowestRig, IsGreedy}
use Rattle.day.specs.declared.Job.{Job}
use Rattle.day.specs.declared.Rig.{Rig}
use Rattle.day.specs.declared.Placement.{Placement}

-- any placement, to read a place of a list by
abbrev pub nobody : Placement
nobody = record { job = record { start = 0; length = 0; allowed = 0 }; rig = 0 }

module _ (rigs : List Rig) where
  pub keeps_none : Keeps rigs []
  keeps_none = grind arith

  pub greedy_push : (ps : List Placement) (job : Job) (k : ℕ) → IsGreedy rigs ps → IsLowestRig rigs ps job k
      → IsGreedy rigs (ps ++ on_rig job k ∷ [])
  greedy_push ps job k g l j d h =
      let p = on_rig job k in
      let At : List Placement → Placement → Type 0 = λ s q. IsLowestRig rigs s q.job q.rig in
      ⊎_elim
      (λ (m : length ps ≤ j).
      let here : length ps ≡ j = omega (arith, length-append ps (p ∷ [])) in
      subst (λ (j : ℕ). At (take j (ps ++ p ∷ [])) (slice_index_or (ps ++ p ∷ []) j d)) here
      (subst (λ (s : List Placement). At s (slice_index_or (ps ++ p ∷ []) (length ps) d))
      (sym (take-append_seam ps (p ∷ [])))
      (subst (At ps) (sym (get_or-append_seam ps p [] d)) l)))
      (λ (m : j < length ps).
      subst (λ (s : List Placement). At s (slice_index_or (ps ++ p ∷ []) j d))
      (sym (take-append-le j ps (p ∷ []) (omega arith)))
      (subst (At (take j ps)) (sym (get_or-append ps (p ∷ []) d j m)) (g j d m)))
      (le_or_lt (length ps) j)

  -- each job placed keeps every rule with those before it, so all of them do
  pub greedy_keeps : (ps : List Placement) → IsGreedy rigs ps → (n : ℕ) → n ≤ length ps → Keeps rigs (take n ps)
  greedy_keeps ps g zero h = keeps_none
  greedy_keeps ps g (suc n) h =
      subst (Keeps rigs) (sym (take-suc ps n nobody (omega arith))) (g n nobody (omega arith)).keeps

  pub greedy_kept : (ps : List Placement) → IsGreedy rigs ps → Keeps rigs ps
  greedy_kept ps g = subst (Keeps rigs) (take-length ps) (greedy_keeps ps g (length ps) (omega arith))

-- the jobs of ps are the first m
module _ (jobs : List Job) (m : ℕ) (ps : List Placement) (e : jobs_of ps ≡ take m jobs) where
  pub length_front : length ps ≡ min m (length jobs)
  length_front = sym (length-map ps (λ (p : Placement). p.job)) ∙ ap length e ∙ length-take m jobs

  pub job_at : (i : ℕ) (d : Placement) → i < length ps → (slice_index_or ps i d).job ≡ slice_index_or jobs i d.job
  job_at i d h = grind (arith, get_or-map, get_or-take, length_front)

  pub all_in_range : All IsJob jobs → All (λ p. IsJob p.job) ps
  all_in_range h i d l = subst IsJob (sym (job_at i d l)) (h i d.job (omega (arith, length_front)))

pub record Going (jobs : List Job) (rigs : List Rig) (ps : List Placement) (j : ℕ) : Type 0 where
  pub before : jobs_of ps ≡ take j jobs
  pub inside : j ≤ length jobs
  pub greedy : IsGreedy rigs ps

module _ (jobs : List Job) (rigs : List Rig) where
  module _ {ps : List Placement} {j : ℕ} (g : Going jobs rigs ps j) where
    pub going_more : j < length jobs → (d : Job) {k : ℕ} → IsLowestRig rigs ps (slice_index_or jobs j d) k
        → Going jobs rigs (ps ++ on_rig (slice_index_or jobs j d) k ∷ []) (j + 1)
    going_more h d {k} l =
        record {
          before = map-append (λ p. p.job) ps (on_rig (slice_index_or jobs j d) k ∷ [])
              ∙ ap (λ (s : List Job). s ++ slice_index_or jobs j d ∷ []) g.before ∙ sym (take_more jobs j d h);
          inside = omega arith;
          greedy = greedy_push rigs ps (slice_index_or jobs j d) k g.greedy l;
        }
