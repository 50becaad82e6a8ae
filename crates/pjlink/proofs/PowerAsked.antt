-- Which requests set the power: POWR with 0 or 1, in any case of the body, and no other.
--   is_power_set r    the request r sets the power
-- Assumes nothing.
use Rattle.std.proofs.Common.{arith, ℕ, ◌≡◌, refl, ap, Bool, true, false, List, [], ◌∷◌, drop, find}
use Rattle.std.proofs.Common.{Option, Some, Ok, Err}
use Rattle.std.specs.List.{list_all}
use Rattle.std.specs.Option.{option_map}
use Rattle.text.proofs.Choices.{both_right}
use Rattle.words.specs.Codec.{◌>>=◌, value_at_end}
use Rattle.words.specs.Powers.{switch_read, switch_text}
use Rattle.pjlink.specs.Bodies.{row_of, body_rows, is_named, is_body}
use Rattle.pjlink.specs.declared.body.BodyRow.{BodyRow}
use Rattle.pjlink.specs.Requests.{name_query_of, set_of, Request, or_unlisted, asked_of, body_request, request_of}
use Rattle.words.specs.declared.class.ClassNumber.{ClassNumber}
use Rattle.pjlink.specs.declared.body.Body.{Body}
use Rattle.pjlink.specs.declared.body.Body.TheVariants.{Powr}
use Rattle.pjlink.specs.declared.body.Sets.{Sets}
use Rattle.pjlink.specs.declared.body.Sets.TheVariants.{SetsPower}
use Rattle.pjlink.specs.declared.command.Command.{Command}
use Rattle.pjlink.specs.declared.command.Command.TheVariants.{PowerSet, MuteSet, Query}
use Rattle.pjlink.specs.declared.command.Half.{Half}
use Rattle.pjlink.specs.declared.request.Unasked.TheVariants.{Unlisted}
use Rattle.pjlink.proofs.BodiesNamed.{body_is_named}

abbrev pub is_power_set : Request → Bool
is_power_set (Ok (PowerSet wanted)) = true
is_power_set r = false

abbrev No : Request → Type 0
No r = is_power_set r ≡ false

abbrev is_other : Sets → Bool
is_other SetsPower = false
is_other set = true

abbrev sets_other : Body → Bool
sets_other b = is_other (row_of b).set

-- a mute, by what is read of it
abbrev set_mute : Half → Bool × List ℕ → Option (Command × List ℕ)
set_mute half on = Some (MuteSet half on.0, on.1)

abbrev with_switch : Half × List ℕ → Option (Command × List ℕ)
with_switch h = switch_read h.1 >>= set_mute h.0

abbrev at_end : Command × List ℕ → Option Command
at_end r = value_at_end r.0 r.1

muted : (b : Body) (m : Option (Half × List ℕ)) → No (or_unlisted b (m >>= with_switch >>= at_end))
muted b m = grind arith

-- only POWR does
module _ (p : List ℕ) where
  set_none : (k : ClassNumber) (set : Sets) (b : Body) → is_other set ≡ true
      → No (or_unlisted b (set_of k set p))
  unfolding name_query_of
  set_none k set b h = grind arith

  named_none : (b : Body) → sets_other b ≡ true → No (asked_of b p)
  unfolding asked_of
  named_none b n = grind (arith, set_none)

  abbrev NoIn : Option BodyRow → Type 0
  NoIn m = No (body_request (option_map (λ (r : BodyRow). r.body) m) p)

  others_none : (rs : List BodyRow) (k : ℕ) (h : List ℕ) → list_all (λ (r : BodyRow). sets_other r.body) rs ≡ true
      → NoIn (find (is_named k h) rs)
  others_none [] k h e = refl
  others_none (r ∷ rs) k h e = grind (arith, named_none, others_none rs k h (both_right (sets_other r.body) _ e))

  pub not_powr : (k : ℕ) (h : List ℕ) → is_body k h Powr ≡ false → No (request_of k h p)
  unfolding request_of
  not_powr k h e = grind (arith, others_none (drop 1 body_rows) k h refl)

  pub powr_asked : (k : ℕ) (h : List ℕ) → is_body k h Powr ≡ true → request_of k h p ≡ asked_of Powr p
  unfolding request_of
  powr_asked k h e = ap (λ (m : Option Body). body_request m p) (body_is_named k h Powr e)

-- and POWR with 0 or 1 only
pub power_parameter : (p : List ℕ) (wanted : Bool) → asked_of Powr p ≡ Ok (PowerSet wanted) → p ≡ switch_text wanted
unfolding asked_of
power_parameter p wanted = grind arith

-- what POWR asks for, whatever its parameter
pub powr_by : (P : Request → Type 0) (p : List ℕ) → P (Ok (Query Powr))
    → ((wanted : Bool) → P (Ok (PowerSet wanted))) → P (Err (Unlisted Powr))
    → P (asked_of Powr p)
unfolding asked_of
powr_by P p queried set unlisted = grind arith
