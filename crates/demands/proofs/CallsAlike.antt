-- One call on two legal records (RULES, Places): time and the host's calls do the same to two that have the same device
-- part; and where two are the same but for place p, each call that is not at that place gives the same from both, and
-- leaves them so, an opening if they agree in that place's phase.
--   AlikeFrom p d e c     the call c gives the same from d and from e, and leaves them the same but for place p
-- Assumes nothing.
use Rattle.std.proofs.Common.{arith, ℕ, ◌≡◌, refl, sym, ◌∙◌, true, false, List, length, ◌==◌}
use Rattle.std.proofs.lemmas.Bool.{eqb-false}
use Rattle.text.specs.Words.{over}
use Rattle.record.specs.Legal.{is_legal}
use Rattle.record.specs.Places.{connection_at, lowest_closed}
use Rattle.record.specs.declared.types.Device.{Device}
use Rattle.record.proofs.LegalTold.{legal_places}
use Rattle.record.proofs.LowestClosed.{lowest_closed_same}
use Rattle.device.proofs.Cases.{takes}
use Rattle.ours.specs.Board.{ours}
use Rattle.demands.specs.Calls.{Call, after, Gave, gave_by}
use Rattle.demands.specs.KeepsRunning.{rows_of}
use Rattle.demands.specs.Outsider.{SameDevicePart, is_hosts}
use Rattle.demands.specs.Unheard.{SameElsewhere, phase_at, is_at_place, is_opening}
use Rattle.demands.proofs.CallsDo.{gives, own_then, connection_left, calls_by, connection_at-served, settings_stay}

module _ (d e : Device) (legal-d : is_legal d ≡ true) (legal-e : is_legal e ≡ true) where
  module _ (same : SameDevicePart ours d e) where
    host_rows : (c : Call) → is_hosts c ≡ true → rows_of d c ≡ rows_of e c
    host_rows c h = grind arith

    host_own : (c : Call) → is_hosts c ≡ true → own_then e c ≡ own_then d c
    host_own c h = grind arith

    pub host_alike : (c : Call) → is_hosts c ≡ true → SameDevicePart ours (after ours d c) (after ours e c)
    host_alike c h = record {
      settings = settings_stay e c ∙ same.settings ∙ sym (settings_stay d c);
      own = calls_by d e c (λ g x k y. y.own ≡ x.own) (host_rows c h) (λ n. same.own) (λ a b. host_own c h);
    }

  -- ---- the same but for a place

  pub record AlikeFrom (p : ℕ) (c : Call) : Type 0 where
    pub got : gave_by ours d c ≡ gave_by ours e c
    pub left : SameElsewhere ours p (after ours d c) (after ours e c)

  module _ (p : ℕ) (same : SameElsewhere ours p d e) where
    there_same : (q : ℕ) → (q == p) ≡ false → connection_at d q ≡ connection_at e q
    there_same q other = sym (same.others q (eqb-false q p other))

    takes_same : (q : ℕ) → (q == p) ≡ false → (bs : List ℕ) → takes d q bs ≡ takes e q bs
    takes_same q other bs = grind (arith, there_same)

    -- which place is the lowest closed one depends on the phases alone
    lowest_same : phase_at ours p d ≡ phase_at ours p e → lowest_closed d.connections ≡ lowest_closed e.connections
    lowest_same phase = grind (arith, lowest_closed_same, legal_places, there_same)

    abbrev IsElsewhere : Call → Type 0
    IsElsewhere c =
        (is_at_place p c ≡ false) × (is_opening c ≡ true → phase_at ours p d ≡ phase_at ours p e)

    rows_same : (c : Call) → IsElsewhere c → rows_of d c ≡ rows_of e c
    rows_same c h = grind (arith, host_rows, lowest_same, there_same)

    abbrev told : (place taken : ℕ) (reply m : List ℕ) → Gave
    told place taken reply m = record {
      number = 0;
      taken = taken;
      place = place;
      length = length reply;
      memory = over reply m;
    }

    gives_same : (c : Call) → IsElsewhere c → gives d c ≡ gives e c
    gives_same c h = grind (arith, lowest_same, takes_same)

    own_same : (c : Call) → IsElsewhere c → own_then e c ≡ own_then d c
    own_same c h = grind (arith, host_own, takes_same)

    others_same : (c : Call) → IsElsewhere c → (q : ℕ) → (q ≡ p → ⊥) → connection_left e c q ≡ connection_left d c q
    others_same c h q away = grind (arith, lowest_same, takes_same)

    pub alike_elsewhere : (c : Call) → is_at_place p c ≡ false
        → (is_opening c ≡ true → phase_at ours p d ≡ phase_at ours p e) → AlikeFrom p c
    alike_elsewhere c at phase =
        let both = calls_by d e c (λ g x h y. (g ≡ h) × SameElsewhere ours p x y) (rows_same c (at, phase))
        (λ n. (refl, same)) (λ a b. (
          gives_same c (at, phase),
          record {
            device = record { settings = same.device.settings; own = own_same c (at, phase) };
            others = λ q away. connection_at-served e c q b ∙ others_same c (at, phase) q away
                ∙ sym (connection_at-served d c q a);
          },
        )) in
        record { got = both.0; left = both.1 }
