-- The two shifts of a rotation have no bit in common, so that "or" is "+".
-- Assumes nothing.
use Rattle.std.proofs.Common.{◌≡◌, ℕ, ◌+◌, ◌-◌, ◌*◌, ◌/◌, ◌%◌, ◌^◌, ◌<◌, sym, ◌∙◌, subst, add-zero, arith, shr_lt}
use Rattle.std.proofs.Common.{bit_or}
use Rattle.std.proofs.lemmas.Nat.{or_shifted, mod-pow-add, shl-shr}
use Rattle.std.proofs.Math.Nat.{mul-mod_left}
use Rattle.digest.specs.Words.{◌<<<◌}

shifted_left : (x s t : ℕ) → t + s ≡ 32 → (x * 2 ^ s) % 2 ^ 32 ≡ (x % 2 ^ t) * 2 ^ s
shifted_left x s t e =
    subst (λ (n : ℕ). (x * 2 ^ s) % 2 ^ n ≡ (x % 2 ^ t) * 2 ^ s) e
    (mod-pow-add (x * 2 ^ s) t s ∙ rw (shl-shr, mul-mod_left, add-zero))

pub or_is_rotation : (x s : ℕ) → x < 2 ^ 32 → s < 32 → bit_or ((x * 2 ^ s) % 2 ^ 32) (x / 2 ^ (32 - s)) ≡ x <<< s
or_is_rotation x s hx hs =
    let e : (32 - s) + s ≡ 32 = omega arith in
    let e' : s + (32 - s) ≡ 32 = omega arith in
    let low : x / 2 ^ (32 - s) < 2 ^ s = shr_lt s (32 - s) (subst (λ (n : ℕ). x < 2 ^ n) (sym e') hx) in
    subst (λ (n : ℕ). bit_or n (x / 2 ^ (32 - s)) ≡ n + x / 2 ^ (32 - s)) (sym (shifted_left x s (32 - s) e))
    (or_shifted (x % 2 ^ (32 - s)) s (x / 2 ^ (32 - s)) low)
